-- Document 01's starred cases, "Entries to test by", in its order, then cases of document 02's wishes, as statements about the definitions that the
-- contracts cite. Assumes nothing.
use Rattle.std.specs.Prelude.{◌≡◌, true, false, List, [], ◌∷◌, ◌++◌, ℕ, ◌-◌, get_or, take, drop, replicate, Float, Result, Ok, Err}
use Rattle.std.specs.Float.{binary32}
use Rattle.std.specs.Float.Ieee.{of_bits, to_bits}
use Rattle.rtu.specs.Crc.{crc_of}
use Rattle.rtu.specs.Frame.{framed}
use Rattle.floats.specs.Floats.{near, plus_zero}
use Rattle.methods.specs.Methods.{candidate_of, judged_of, code_of}
use Rattle.coefficients.specs.Coefficients.{coefficients_of}
use Rattle.coefficients.specs.declared.Coefficients.{Coefficients}
use Rattle.methods.specs.declared.Method.TheVariants.{Direct, OnePoint, TwoPoints}
use Rattle.methods.specs.declared.Undefined.{Undefined}
use Rattle.methods.specs.declared.Rejection.{Rejection}
use Rattle.state.specs.Sonde.{fresh_sonde, setup_at}
use Rattle.state.specs.declared.Sonde.{Sonde}
use Rattle.columns.specs.Text.{characters}
use Rattle.page.specs.Print.{Printed, print_of}
use Rattle.service.specs.Calls.{Begun, begin_of, power_up_of}
use Rattle.recovery.specs.Salvage.{Salvaged, salvage_of}
use Rattle.service.specs.Frame.{Outcome, arrival, outcome, refused_by, frame_of, cut_of}
use Rattle.service.specs.declared.Arrival.{Arrival}

-- the bits of coefficients
abbrev pub bits : Coefficients → List ℕ
bits c = to_bits binary32 c.coefficient1 ∷ to_bits binary32 c.coefficient2 ∷ to_bits binary32 c.coefficient3 ∷ []

-- a candidate as numbers: the bits of its coefficients, if there are any
unfoldable pub worked : Result Coefficients Undefined → List ℕ
worked (Ok c) = bits c
worked (Err cause) = []

-- a verdict as numbers: its code, and the bits of the coefficients that it accepts
unfoldable pub told : Result Coefficients Rejection → List ℕ
told (Ok c) = code_of (Ok c) ∷ bits c
told (Err rejection) = code_of (Err rejection) ∷ []

-- whole numbers as floats
abbrev pub integer : ℕ → Float
integer n = near n 1

-- a fresh sonde of address 1 begins a volume of so many words
unfoldable pub begun_with : ℕ → Begun
begun_with words = begin_of (fresh_sonde 1) (replicate words 0)

-- what a begin tells: its number, the capacity
unfoldable pub begin_told : Begun → List ℕ
begin_told b = b.number ∷ get_or b.volume 1 0 ∷ []

-- a frame at clock 7 on the serial port for a sonde and its volume, and one more for what it leaves
unfoldable pub asked : Sonde → List ℕ → List ℕ → Outcome
asked d volume frame = frame_of d frame (replicate 256 0) volume (arrival 7 false 1)

unfoldable pub next : Outcome → List ℕ → Outcome
next o frame = asked o.sonde o.volume frame

-- one that came otherwise, with a reply buffer of so many bytes
unfoldable pub next_by : Arrival → ℕ → Outcome → List ℕ → Outcome
next_by a room o frame = frame_of o.sonde frame (replicate room 0) o.volume a

-- at another clock
unfoldable pub next_at : ℕ → Outcome → List ℕ → Outcome
next_at clock = next_by (arrival clock false 1) 256

-- in ASCII
unfoldable pub next_ascii : Outcome → List ℕ → Outcome
next_ascii = next_by (arrival 7 true 1) 513

-- by radio, and by radio in ASCII
unfoldable pub next_radio : Outcome → List ℕ → Outcome
next_radio = next_by (arrival 7 false 2) 256

unfoldable pub next_radio_ascii : Outcome → List ℕ → Outcome
next_radio_ascii = next_by (arrival 7 true 2) 513

-- what a frame tells: its number, the entries in use, then the reply
unfoldable pub frame_told : Outcome → List ℕ
frame_told o = o.number ∷ get_or o.volume 2 0 ∷ take o.size o.reply

-- how many frames of a sonde were good, bad and refused by a code
unfoldable pub counts_told : Outcome → List ℕ
counts_told o = o.sonde.counters.good ∷ o.sonde.counters.bad ∷ o.sonde.counters.exceptions ∷ []

-- to register 105, the command of sensor 1: mode on, update, and the mask with A 0 and B 0xE001
abbrev pub mode_on : List ℕ
mode_on = 0x01 ∷ 0x06 ∷ 0x00 ∷ 0x69 ∷ 0xE0 ∷ 0x00 ∷ 0x10 ∷ 0x16 ∷ []

abbrev pub update : List ℕ
update = 0x01 ∷ 0x06 ∷ 0x00 ∷ 0x69 ∷ 0xE0 ∷ 0x01 ∷ 0xD1 ∷ 0xD6 ∷ []

abbrev pub masked : List ℕ
masked = 0x01 ∷ 0x16 ∷ 0x00 ∷ 0x69 ∷ 0x00 ∷ 0x00 ∷ 0xE0 ∷ 0x01 ∷ 0x22 ∷ 0x0F ∷ []

-- the update in ASCII, ":01060069E001AF" with CR LF, and with its last digit as a small letter; the exception 0xC0 to it, ":0186C0B9"
abbrev pub update_ascii : List ℕ
update_ascii = 0x3A ∷ 0x30 ∷ 0x31 ∷ 0x30 ∷ 0x36 ∷ 0x30 ∷ 0x30 ∷ 0x36 ∷ 0x39 ∷ 0x45 ∷ 0x30 ∷ 0x30 ∷ 0x31 ∷ 0x41 ∷ 0x46 ∷ 0x0D ∷ 0x0A ∷ []

abbrev pub update_small : List ℕ
update_small = 0x3A ∷ 0x30 ∷ 0x31 ∷ 0x30 ∷ 0x36 ∷ 0x30 ∷ 0x30 ∷ 0x36 ∷ 0x39 ∷ 0x45 ∷ 0x30 ∷ 0x30 ∷ 0x31 ∷ 0x41 ∷ 0x66 ∷ 0x0D ∷ 0x0A ∷ []

abbrev pub full_ascii : List ℕ
full_ascii = 0x3A ∷ 0x30 ∷ 0x31 ∷ 0x38 ∷ 0x36 ∷ 0x43 ∷ 0x30 ∷ 0x42 ∷ 0x39 ∷ 0x0D ∷ 0x0A ∷ []

-- to sensor 2: mode on; method 2, two points; x1 = 8; y1 = 10, and 9; x2 = 8, equal to x1; update; the read of coefficients 1 and 2
abbrev pub oxygen_mode : List ℕ
oxygen_mode = 0x01 ∷ 0x06 ∷ 0x00 ∷ 0xCD ∷ 0xE0 ∷ 0x00 ∷ 0x51 ∷ 0xF5 ∷ []

abbrev pub by_two_points : List ℕ
by_two_points = 0x01 ∷ 0x06 ∷ 0x00 ∷ 0xCE ∷ 0x00 ∷ 0x02 ∷ 0x69 ∷ 0xF4 ∷ []

abbrev pub eight_x1 : List ℕ
eight_x1 = 0x01 ∷ 0x10 ∷ 0x00 ∷ 0xD8 ∷ 0x00 ∷ 0x02 ∷ 0x04 ∷ 0x41 ∷ 0x00 ∷ 0x00 ∷ 0x00 ∷ 0xEB ∷ 0x69 ∷ []

abbrev pub ten_y1 : List ℕ
ten_y1 = 0x01 ∷ 0x10 ∷ 0x00 ∷ 0xDA ∷ 0x00 ∷ 0x02 ∷ 0x04 ∷ 0x41 ∷ 0x20 ∷ 0x00 ∷ 0x00 ∷ 0x6B ∷ 0x7A ∷ []

abbrev pub nine_y1 : List ℕ
nine_y1 = 0x01 ∷ 0x10 ∷ 0x00 ∷ 0xDA ∷ 0x00 ∷ 0x02 ∷ 0x04 ∷ 0x41 ∷ 0x10 ∷ 0x00 ∷ 0x00 ∷ 0x6B ∷ 0x75 ∷ []

abbrev pub eight_x2 : List ℕ
eight_x2 = 0x01 ∷ 0x10 ∷ 0x00 ∷ 0xDC ∷ 0x00 ∷ 0x02 ∷ 0x04 ∷ 0x41 ∷ 0x00 ∷ 0x00 ∷ 0x00 ∷ 0xEA ∷ 0x9A ∷ []

abbrev pub oxygen_update : List ℕ
oxygen_update = 0x01 ∷ 0x06 ∷ 0x00 ∷ 0xCD ∷ 0xE0 ∷ 0x01 ∷ 0x90 ∷ 0x35 ∷ []

abbrev pub oxygen_read : List ℕ
oxygen_read = 0x01 ∷ 0x03 ∷ 0x00 ∷ 0xD2 ∷ 0x00 ∷ 0x04 ∷ 0xE4 ∷ 0x30 ∷ []

-- the exception 0x97 to the update
abbrev pub outside_limits : List ℕ
outside_limits = 0x01 ∷ 0x86 ∷ 0x97 ∷ 0x03 ∷ 0xCE ∷ []

-- the sonde with the points (8, 10), (0, 0), and what its update leaves
unfoldable pub ten_at_eight : Outcome
ten_at_eight = next (next (next (asked (fresh_sonde 1) (begun_with 88).volume oxygen_mode) by_two_points) eight_x1) ten_y1

unfoldable pub failed : Outcome
failed = next ten_at_eight oxygen_update

-- the sonde in mode, with one entry spare
unfoldable pub in_mode : Outcome
in_mode = asked (fresh_sonde 1) (begun_with 88).volume mode_on

-- the salvage after an update of sensor 1 that was cut behind so many stores
unfoldable pub salvaged_at : ℕ → Salvaged
salvaged_at n = salvage_of (cut_of in_mode.sonde update (replicate 256 0) in_mode.volume (arrival 7 false 1) n)

-- what a salvage tells: its number, the words that it changed, then words 2..8: the entries in use, each chain's first, sensor 1's last
unfoldable pub salvage_told : Salvaged → List ℕ
salvage_told r = r.number ∷ r.changed ∷ take 7 (drop 2 r.words)

-- to register 9, the technician's number: 3; 7; 7 at address 0; 0x1234, and a mask over it with A 0xFF00 and B 0x56; the read of it
abbrev pub technician_three : List ℕ
technician_three = 0x01 ∷ 0x06 ∷ 0x00 ∷ 0x09 ∷ 0x00 ∷ 0x03 ∷ 0x19 ∷ 0xC9 ∷ []

abbrev pub technician_seven : List ℕ
technician_seven = 0x01 ∷ 0x06 ∷ 0x00 ∷ 0x09 ∷ 0x00 ∷ 0x07 ∷ 0x18 ∷ 0x0A ∷ []

abbrev pub technician_for_all : List ℕ
technician_for_all = 0x00 ∷ 0x06 ∷ 0x00 ∷ 0x09 ∷ 0x00 ∷ 0x07 ∷ 0x19 ∷ 0xDB ∷ []

abbrev pub technician_long : List ℕ
technician_long = 0x01 ∷ 0x06 ∷ 0x00 ∷ 0x09 ∷ 0x12 ∷ 0x34 ∷ 0x54 ∷ 0xBF ∷ []

abbrev pub technician_masked : List ℕ
technician_masked = 0x01 ∷ 0x16 ∷ 0x00 ∷ 0x09 ∷ 0xFF ∷ 0x00 ∷ 0x00 ∷ 0x56 ∷ 0x9A ∷ 0x2D ∷ []

abbrev pub technician_read : List ℕ
technician_read = 0x01 ∷ 0x03 ∷ 0x00 ∷ 0x09 ∷ 0x00 ∷ 0x01 ∷ 0x54 ∷ 0x08 ∷ []

-- two words, 0 and 7, from register 8 on, and from register 9 on
abbrev pub words_from_eight : List ℕ
words_from_eight = 0x01 ∷ 0x10 ∷ 0x00 ∷ 0x08 ∷ 0x00 ∷ 0x02 ∷ 0x04 ∷ 0x00 ∷ 0x00 ∷ 0x00 ∷ 0x07 ∷ 0xB3 ∷ 0xCB ∷ []

abbrev pub words_from_nine : List ℕ
words_from_nine = 0x01 ∷ 0x10 ∷ 0x00 ∷ 0x09 ∷ 0x00 ∷ 0x02 ∷ 0x04 ∷ 0x00 ∷ 0x00 ∷ 0x00 ∷ 0x07 ∷ 0x72 ∷ 0x07 ∷ []

-- technician 3 puts sensor 1 in mode, and technician 7 updates it
unfoldable pub calibrated : Outcome
calibrated = next (next (next (asked (fresh_sonde 1) (begun_with 88).volume technician_three) mode_on) technician_seven) update

-- to sensor 1: method 1, one point; x1 = 1000; y1 = 1250
abbrev pub by_one_point : List ℕ
by_one_point = 0x01 ∷ 0x06 ∷ 0x00 ∷ 0x6A ∷ 0x00 ∷ 0x01 ∷ 0x68 ∷ 0x16 ∷ []

abbrev pub thousand_x1 : List ℕ
thousand_x1 = 0x01 ∷ 0x10 ∷ 0x00 ∷ 0x74 ∷ 0x00 ∷ 0x02 ∷ 0x04 ∷ 0x44 ∷ 0x7A ∷ 0x00 ∷ 0x00 ∷ 0xC0 ∷ 0x51 ∷ []

abbrev pub larger_y1 : List ℕ
larger_y1 = 0x01 ∷ 0x10 ∷ 0x00 ∷ 0x76 ∷ 0x00 ∷ 0x02 ∷ 0x04 ∷ 0x44 ∷ 0x9C ∷ 0x40 ∷ 0x00 ∷ 0x91 ∷ 0xBF ∷ []

-- "A volume begun fresh, then one point (1000, 1250) by technician 7 at 1000"
unfoldable pub one_point : Outcome
one_point =
    next_at 1000 (next (next (next (next (asked (fresh_sonde 1) (begun_with 88).volume technician_seven) mode_on) by_one_point) thousand_x1) larger_y1) update

-- what a print tells: its number, its length, then the whole page that was lent
unfoldable pub print_told : Printed → List ℕ
print_told p = p.number ∷ p.length ∷ p.page

-- the page that the wish shows
unfoldable pub example_page : List ℕ
example_page =
    characters "   0 1 -     0          0 00000000 3F800000 00000000\n"
    ++ characters "   0 2 -     0          0 00000000 3F800000 00000000\n"
    ++ characters "   0 3 -     0          0 00000000 00000000 00000000\n"
    ++ characters "   0 4 -     0          0 00000000 3F800000 00000000\n"
    ++ characters "   1 1 1     7       1000 00000000 3FA00000 00000000\n"

-- the update by a port's number, with a reply buffer of so many bytes, and what its call leaves where a number turns it away: sonde, reply and volume as
-- they were
unfoldable pub updated_by : ℕ → ℕ → Outcome
updated_by port room = next_by (arrival 7 false port) room in_mode update

unfoldable pub turned_away : ℕ → ℕ → Outcome
turned_away number room = outcome (refused_by number in_mode.sonde) (replicate room 0) in_mode.volume

-- reads of absent registers, from 10 on: 30; 29; 30 at address 0; the exceptions 2 and 3 to them
abbrev pub absent_thirty : List ℕ
absent_thirty = 0x01 ∷ 0x03 ∷ 0x00 ∷ 0x0A ∷ 0x00 ∷ 0x1E ∷ 0xE5 ∷ 0xC0 ∷ []

abbrev pub absent_under_thirty : List ℕ
absent_under_thirty = 0x01 ∷ 0x03 ∷ 0x00 ∷ 0x0A ∷ 0x00 ∷ 0x1D ∷ 0xA5 ∷ 0xC1 ∷ []

abbrev pub absent_for_all : List ℕ
absent_for_all = 0x00 ∷ 0x03 ∷ 0x00 ∷ 0x0A ∷ 0x00 ∷ 0x1E ∷ 0xE4 ∷ 0x11 ∷ []

abbrev pub absent_read : List ℕ
absent_read = 0x01 ∷ 0x83 ∷ 0x02 ∷ 0xC0 ∷ 0xF1 ∷ []

abbrev pub too_many_read : List ℕ
too_many_read = 0x01 ∷ 0x83 ∷ 0x03 ∷ 0x01 ∷ 0x31 ∷ []

-- a frame of so many bytes, with its checksum, of function 8, which the sonde hasn't; the exception 1 to it
unfoldable pub frame_of_length : ℕ → List ℕ
frame_of_length n = framed (0x01 ∷ 0x08 ∷ replicate (n - 4) 0)

abbrev pub no_function : List ℕ
no_function = 0x01 ∷ 0x88 ∷ 0x01 ∷ 0x87 ∷ 0xC0 ∷ []

pub record Cases : Type 0 where
  -- "CRC of "123456789" is 0x4B37"
  pub crc_of_digits : crc_of (0x31 ∷ 0x32 ∷ 0x33 ∷ 0x34 ∷ 0x35 ∷ 0x36 ∷ 0x37 ∷ 0x38 ∷ 0x39 ∷ []) ≡ 0x4B37
  -- "Points (10, 21), (2, 5): 1 and 2"
  pub two_points_holds : worked (candidate_of (TwoPoints (integer 10) (integer 21) (integer 2) (integer 5))) ≡ 0x3F800000 ∷ 0x40000000 ∷ 0 ∷ []
  -- "(8, 9), (0, 0) on sensor 2: 0 and 1.125, accepted"
  pub slope_accepted : told (judged_of 2 (TwoPoints (integer 8) (integer 9) (integer 0) (integer 0))) ≡ 0 ∷ 0 ∷ 0x3F900000 ∷ 0 ∷ []
  -- "y1 10 instead: 1.25, 0x97"
  pub slope_worked : worked (candidate_of (TwoPoints (integer 8) (integer 10) (integer 0) (integer 0))) ≡ 0 ∷ 0x3FA00000 ∷ 0 ∷ []
  pub slope_refused : told (judged_of 2 (TwoPoints (integer 8) (integer 10) (integer 0) (integer 0))) ≡ 0x97 ∷ []
  -- "Sensor 2, direct, offset 0: slope bits 0x3F99999A accepted, 0x3F99999B 0x97"
  pub at_the_limit : told (judged_of 2 (Direct plus_zero (of_bits binary32 0x3F99999A) plus_zero)) ≡ 0 ∷ 0 ∷ 0x3F99999A ∷ 0 ∷ []
  pub past_the_limit : told (judged_of 2 (Direct plus_zero (of_bits binary32 0x3F99999B) plus_zero)) ≡ 0x97 ∷ []
  -- "One point (1000, 1250) on sensor 1: constant 0x3FA00000"
  pub one_point_holds : told (judged_of 1 (OnePoint (integer 1000) (integer 1250))) ≡ 0 ∷ 0 ∷ 0x3FA00000 ∷ 0 ∷ []
  -- "One point, x1 = -0.0: 0x97"
  pub minus_zero : told (judged_of 1 (OnePoint (of_bits binary32 0x80000000) (integer 1250))) ≡ 0x97 ∷ []
  -- "Mask on command, mode on, A 0, B 0xE001: an update"
  pub mask_updates : frame_told (next in_mode masked) ≡ 0 ∷ 1 ∷ masked
  -- "88 words: capacity 1; 87: number 2"
  pub one_entry_fits : begin_told (begun_with 88) ≡ 0 ∷ 1 ∷ []
  pub too_short : (begun_with 87).number ≡ 2
  -- "Update in mode with one entry spare, accepted; the next, 0xC0"
  pub last_entry : frame_told (next in_mode update) ≡ 0 ∷ 1 ∷ update
  pub journal_full : frame_told (next (next in_mode update) update) ≡ 0 ∷ 1 ∷ 0x01 ∷ 0x86 ∷ 0xC0 ∷ 0x42 ∷ 0x30 ∷ []
  -- document 02, wish 1: "An ASCII update is an accepted calibration like any other", answered "in the same framing"; then the journal is full for both
  pub ascii_updates : frame_told (next_ascii in_mode update_ascii) ≡ 0 ∷ 1 ∷ update_ascii
  pub ascii_full : frame_told (next_ascii (next in_mode update) update_ascii) ≡ 0 ∷ 1 ∷ full_ascii
  pub full_after_ascii : frame_told (next (next_ascii in_mode update_ascii) update) ≡ 0 ∷ 1 ∷ 0x01 ∷ 0x86 ∷ 0xC0 ∷ 0x42 ∷ 0x30 ∷ []
  -- "capital hexadecimal digits": small ones are bad, without reply
  pub small_digits : frame_told (next_ascii in_mode update_small) ≡ 0 ∷ 0 ∷ []
  pub small_counted : (next_ascii in_mode update_small).sonde.counters.bad ≡ 1
  -- document 02, wish 2: "an update that is refused for its limits alone puts the candidate in the trial figures": the slope 1.25 is read back,
  pub slope_failed : frame_told failed ≡ 0 ∷ 0 ∷ outside_limits
  pub slope_shown : frame_told (next failed oxygen_read) ≡ 0 ∷ 0 ∷ 0x01 ∷ 0x03 ∷ 0x08 ∷ 0x00 ∷ 0x00 ∷ 0x00 ∷ 0x00 ∷ 0x3F ∷ 0xA0 ∷ 0x00 ∷ 0x00 ∷ 0x99 ∷ 0xE1 ∷ []
  -- "In force and journal are as before"
  pub slope_kept : bits (setup_at failed.sonde 2).procedure.trial ++ bits (coefficients_of (setup_at failed.sonde 2).active.calibration)
      ≡ 0 ∷ 0x3FA00000 ∷ 0 ∷ 0 ∷ 0x3F800000 ∷ 0 ∷ []
  -- a corrected point is accepted, and equal points "still change nothing"
  pub slope_corrected : frame_told (next (next failed nine_y1) oxygen_update) ≡ 0 ∷ 1 ∷ oxygen_update
  pub equal_failed : frame_told (next (next failed eight_x2) oxygen_update) ≡ 0 ∷ 0 ∷ outside_limits
  pub equal_kept : bits (setup_at (next (next ten_at_eight eight_x2) oxygen_update).sonde 2).procedure.trial ≡ 0 ∷ 0x3F800000 ∷ 0 ∷ []
  -- document 02, wish 3: "Device register 9 becomes writable, a number 0..65535": it is read back, a mask goes over what a read shows, and it is
  -- written at address 0
  pub technician_written : frame_told (asked (fresh_sonde 1) (begun_with 88).volume technician_seven) ≡ 0 ∷ 0 ∷ technician_seven
  pub technician_masked_holds : frame_told (next (next (next in_mode technician_long) technician_masked) technician_read) ≡ 0 ∷ 0 ∷ 0x01 ∷ 0x03 ∷ 0x02 ∷ 0x12 ∷ 0x56 ∷ 0x34 ∷ 0xDA ∷ []
  pub technician_for_all_holds : frame_told (next (next in_mode technician_for_all) technician_read) ≡ 0 ∷ 0 ∷ 0x01 ∷ 0x03 ∷ 0x02 ∷ 0x00 ∷ 0x07 ∷ 0xF9 ∷ 0x86 ∷ []
  -- no whole field, and a register that is absent
  pub technician_mismatch : frame_told (next in_mode words_from_eight) ≡ 0 ∷ 0 ∷ 0x01 ∷ 0x90 ∷ 0x80 ∷ 0x4D ∷ 0xA0 ∷ []
  pub technician_gap : frame_told (next in_mode words_from_nine) ≡ 0 ∷ 0 ∷ 0x01 ∷ 0x90 ∷ 0x02 ∷ 0xCD ∷ 0xC1 ∷ []
  -- "every entry carries the number that stood when it was accepted", in its word 3; none was given at first
  pub technician_journalled : get_or calibrated.volume 67 0 ≡ 7
  pub technician_not_given : get_or (next in_mode update).volume 67 0 ≡ 0
  -- "A power-up sets the register to 0"; a begin leaves it
  pub technician_cleared : (power_up_of 1 calibrated.volume).sonde.technician ≡ 0
  pub technician_kept : (begin_of calibrated.sonde (replicate 88 0)).sonde.technician ≡ 7
  -- document 02, wish 4: the page of its example, where it just fits and on a longer one, whose other bytes stay
  pub page_printed : print_told (print_of one_point.volume (replicate 265 7)) ≡ 0 ∷ 265 ∷ example_page
  pub page_longer : print_told (print_of one_point.volume (replicate 267 7)) ≡ 0 ∷ 265 ∷ example_page ++ (7 ∷ 7 ∷ [])
  -- "7, a page buffer too short for all its lines, tried after 4"; nothing is written
  pub page_short : print_told (print_of one_point.volume (replicate 264 7)) ≡ 7 ∷ 0 ∷ replicate 264 7
  pub page_empty : print_told (print_of one_point.volume []) ≡ 7 ∷ 0 ∷ []
  pub page_unsound : print_told (print_of (replicate 88 0) []) ≡ 4 ∷ 0 ∷ []
  -- document 02, wish 6: "salvage gives the volume from before it if the count is old", here behind the entry's words, the link and the last,
  pub cut_at_words : salvage_told (salvaged_at 24) ≡ 0 ∷ 0 ∷ 0 ∷ 0 ∷ 0 ∷ 0 ∷ 0 ∷ 0 ∷ 0 ∷ []
  pub cut_at_link : salvage_told (salvaged_at 25) ≡ 0 ∷ 1 ∷ 0 ∷ 0 ∷ 0 ∷ 0 ∷ 0 ∷ 0 ∷ 0 ∷ []
  pub cut_at_last : salvage_told (salvaged_at 26) ≡ 0 ∷ 2 ∷ 0 ∷ 0 ∷ 0 ∷ 0 ∷ 0 ∷ 0 ∷ 0 ∷ []
  -- "and from after it if the count is new"
  pub cut_at_count : salvage_told (salvaged_at 27) ≡ 0 ∷ 0 ∷ 1 ∷ 0 ∷ 1 ∷ 0 ∷ 0 ∷ 0 ∷ 1 ∷ []
  -- "8, .. a fault that no choice of those words makes sound": 88 words of 0
  pub cut_beyond : salvage_told (salvage_of (replicate 88 0)) ≡ 8 ∷ 0 ∷ 0 ∷ 0 ∷ 0 ∷ 0 ∷ 0 ∷ 0 ∷ 0 ∷ []
  -- document 02, wish 7: "9, a port other than 1 or 2, tried before number 3"; sonde and volume stay as they were
  pub port_zero : updated_by 0 256 ≡ turned_away 9 256
  pub port_three : updated_by 3 256 ≡ turned_away 9 256
  pub port_three_short : updated_by 3 255 ≡ turned_away 9 255
  pub radio_short : updated_by 2 255 ≡ turned_away 3 255
  -- "a radio read of more than 29 registers is code 3", before the code 2 of absent ones, which a shorter one and a serial one get
  pub radio_thirty : frame_told (next_radio in_mode absent_thirty) ≡ 0 ∷ 0 ∷ too_many_read
  pub radio_under_thirty : frame_told (next_radio in_mode absent_under_thirty) ≡ 0 ∷ 0 ∷ absent_read
  pub serial_thirty : frame_told (next in_mode absent_thirty) ≡ 0 ∷ 0 ∷ absent_read
  -- a read at address 0 counts good and nothing else, whatever its length
  pub radio_for_all : frame_told (next_radio in_mode absent_for_all) ≡ 0 ∷ 0 ∷ []
  pub radio_for_all_counted : counts_told (next_radio in_mode absent_for_all) ≡ 2 ∷ 0 ∷ 0 ∷ []
  -- "For RTU frames books and figures don't depend on the port": an update by radio is accepted, with the sonde and the volume of a serial one
  pub radio_updates : frame_told (next_radio in_mode update) ≡ 0 ∷ 1 ∷ update
  pub radio_updates_alike : next_radio in_mode update ≡ next in_mode update
  -- "Radio frames are RTU of at most 64 bytes, longer ones and ASCII ones count bad without reply"
  pub radio_ascii : frame_told (next_radio_ascii in_mode update_ascii) ≡ 0 ∷ 0 ∷ []
  pub radio_ascii_counted : counts_told (next_radio_ascii in_mode update_ascii) ≡ 1 ∷ 1 ∷ 0 ∷ []
  pub radio_longest : frame_told (next_radio in_mode (frame_of_length 64)) ≡ 0 ∷ 0 ∷ no_function
  pub radio_longest_counted : counts_told (next_radio in_mode (frame_of_length 64)) ≡ 2 ∷ 0 ∷ 1 ∷ []
  pub radio_longer : frame_told (next_radio in_mode (frame_of_length 65)) ≡ 0 ∷ 0 ∷ []
  pub radio_longer_counted : counts_told (next_radio in_mode (frame_of_length 65)) ≡ 1 ∷ 1 ∷ 0 ∷ []
  -- "Serial keeps 256"
  pub serial_longer : frame_told (next in_mode (frame_of_length 65)) ≡ 0 ∷ 0 ∷ no_function
