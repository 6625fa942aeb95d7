-- Readings worked out by computation: a parameter worked from another, and a level. Assumes nothing.
use mathlib.Core.Path.{◌≡◌, refl}
use mathlib.Core.Bool.{true}
use mathlib.Core.List.{List, [], ◌∷◌}
use Prim.Native.Nat.{ℕ, zero, suc}
use lib.Ieee.{Float, add, sub, mul, div, round, of_bits, to_bits, le, eq}
use Rattle.floats.specs.Floats.{near, plus_zero, finite, high_word, low_word}
use Rattle.coefficients.specs.Coefficients.{coefficients, defaults_of}
use Rattle.parameters.specs.Parameters.{quantity_of, converted}
use Rattle.sensors.specs.Sensors.{parameter_of, fresh_parameter, fresh_parameters, fresh_setup, fresh_sample}
use Rattle.sensors.specs.Changes.{with_parameters, with_level, new_procedure, calibrated_at, raws_of, measured_of}
use Rattle.sensors.specs.declared.Setup.{Setup}
use Rattle.sensors.specs.declared.Sensor.{Sensor}
use Rattle.readings.specs.Readings.{calibrated_of, resistivity_of, height_of, level_of_id, pressure_of, level_of, conductivity_value, level_value, value_of, worked_from, graded_reading, reading_of}
use Rattle.registers.specs.Registers.{mode_of, shown_id, reading_register, parameter_register, head_register, sensor_register}

-- registers from offset o on, n of them
abbrev registers : ℕ → Sensor → ℕ → ℕ → List ℕ
registers sensor s o zero = []
registers sensor s o (suc n) = sensor_register sensor s o ∷ registers sensor s (suc o) n

abbrev measured : ℕ → Setup → Float → Float → Sensor
measured sensor s raw1 raw2 = record { setup = s; sample = measured_of fresh_sample sensor (raws_of true raw1 raw2) }

-- sensor 1 with cell offset 1.0 and constant 0.5
abbrev calibrated : Setup
calibrated = calibrated_at (fresh_setup 1) (coefficients (near 1 1) (near 1 2) plus_zero) 70000

-- sensor 3 with pressure offset 1.5, level reference 100, reference pressure 2, showing the drawdown
abbrev drawdown : Setup
drawdown =
    let s = calibrated_at (fresh_setup 3) (coefficients (near 3 2) (near 100 1) (near 2 1)) 1 in
    with_parameters s (with_level s.parameters 4)

pub record Worked : Type 0 where
  -- raw 4.0 at 25 °C: conductivity 1.0 + (0.5 × 4.0) is 3.0, resistivity 1000000 / 3.0
  pub resistivity : registers 1 (measured 1 calibrated (near 4 1) (near 25 1)) 46 5 ≡ 0x48A2 ∷ 0xC2AB ∷ 11 ∷ 81 ∷ 0 ∷ []
  -- a conductivity that isn't finite: quality 3 and the sentinel for the resistivity worked from it, though 1000000 / infinity is 0
  pub overflow : registers 1 (measured 1 (calibrated_at (fresh_setup 1) (coefficients plus_zero (near 4 1) plus_zero) 1) (near 340000000000000000000000000000000000000 1) plus_zero) 46 5
      ≡ 0 ∷ 0 ∷ 11 ∷ 81 ∷ 3 ∷ []
  -- 10 psi: 100 - L(8.5 - 2)
  pub level : registers 3 (measured 3 drawdown (near 10 1) plus_zero) 38 5 ≡ 0x42BE ∷ 0xDC2F ∷ 4 ∷ 35 ∷ 0 ∷ []

-- by computation
pub worked : Worked
unfolding sensor_register head_register mode_of shown_id parameter_register reading_register reading_of graded_reading worked_from value_of conductivity_value level_value calibrated_of resistivity_of height_of level_of_id pressure_of level_of parameter_of fresh_parameter fresh_parameters fresh_setup new_procedure calibrated_at measured_of quantity_of converted defaults_of near round of_bits to_bits finite high_word low_word add sub mul div le eq
worked = record { resistivity = refl; overflow = refl; level = refl }
