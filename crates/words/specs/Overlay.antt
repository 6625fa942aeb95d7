-- What a buffer holds once a list of bytes is written over its start. Document 01, "What is sent back". Assumes nothing.
use Rattle.std.specs.Prelude.{List, ◌++◌, ℕ, length, drop}

-- "Reply bytes past the reply's length stay"
unfoldable pub overlay : List ℕ → List ℕ → List ℕ
overlay bytes buffer = bytes ++ drop (length bytes) buffer
