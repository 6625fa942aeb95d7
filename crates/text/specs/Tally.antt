-- Comparisons, counted. Assumes nothing.
use Rattle.std.specs.Prelude.{Bool, cond, ℕ, suc, ltb}
use Rattle.text.specs.declared.tally.Tally.{Tally}

abbrev tally : ℕ → ℕ → Tally
tally compared differ = record { compared = compared; differ = differ }

-- one more, up to the largest u64
unfoldable pub one_more : ℕ → ℕ
one_more n = cond (ltb n 0xFFFFFFFFFFFFFFFF) (suc n) n

unfoldable pub none_tallied : Tally
none_tallied = tally 0 0

-- one more was compared, and one more differs where they don't agree
unfoldable pub tallied : Tally → Bool → Tally
tallied t agrees = tally (one_more t.compared) (cond agrees t.differ (one_more t.differ))
