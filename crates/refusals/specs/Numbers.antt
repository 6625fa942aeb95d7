-- The numbers that a call gives. Documents 01 and 02, "What is sent back". Assumes nothing.
use Rattle.std.specs.Prelude.{ℕ, Result, Ok, Err, ⊤}
use Rattle.refusals.specs.declared.numbers.Refusal.{Refusal}
use Rattle.refusals.specs.declared.numbers.Refusal.TheVariants.{InvalidAddress, ShortVolume, ShortReply, Disagreement, NoSensor, RawNotFinite, ShortPage, BeyondSalvage, NoPort}

abbrev pub number_of : Refusal → ℕ
number_of InvalidAddress = 1
number_of ShortVolume = 2
number_of ShortReply = 3
number_of Disagreement = 4
number_of NoSensor = 5
number_of RawNotFinite = 6
number_of ShortPage = 7
number_of BeyondSalvage = 8
number_of NoPort = 9

-- 0 is success
abbrev pub given : Result ⊤ Refusal → ℕ
given (Ok x) = 0
given (Err refusal) = number_of refusal
