-- The bytes of the codes in an exception reply. Document 01, "What is sent back". Assumes nothing.
use Rattle.std.specs.Prelude.{ℕ, Option, Some, None}
use Rattle.refusals.specs.declared.codes.Code.{Code}
use Rattle.refusals.specs.declared.codes.Code.TheVariants.{IllegalFunction, IllegalDataValue, IllegalDataAddress, FieldMismatch, ReadOnly, SensorMode, WriteValue, InvalidCalibration, JournalFull}

abbrev pub byte_of : Code → ℕ
byte_of IllegalFunction = 1
byte_of IllegalDataValue = 3
byte_of IllegalDataAddress = 2
byte_of FieldMismatch = 0x80
byte_of ReadOnly = 0xC2
byte_of SensorMode = 0x92
byte_of WriteValue = 0x84
byte_of InvalidCalibration = 0x97
byte_of JournalFull = 0xC0

-- 0 is no refusal
abbrev pub byte_if : Option Code → ℕ
byte_if (Some code) = byte_of code
byte_if None = 0
