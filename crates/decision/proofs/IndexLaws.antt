-- What the tests of a slot number and of a measurement index tell: a number that passed is the one tested, and one that did not has no chain
-- and is no measurement's. Assumes nothing.
use Rattle.std.specs.Prelude.{Option, Some, None}
use mathlib.Core.Path.{◌≡◌, refl, ap}
use mathlib.Core.Bool.{Bool, true, false}
use Prim.Native.Nat.{ℕ}
use Rattle.std.proofs.lemmas.Bool.Decides.{nat_tests}
use lib.Dec.{ltb, eqb}
use Rattle.wire.specs.Pick.{pick}
use Rattle.image.specs.Limits.{index_limit}
use Rattle.image.specs.Index.{slot_number_of, measurement_index_of}
use Rattle.image.specs.declared.SlotNumber.{SlotNumber}
use Rattle.image.specs.declared.MeasurementIndex.{MeasurementIndex}
use Rattle.image.proofs.SlotLaws.{slot_in, no-chain}

-- a slot number that passed is the one tested
pub slot_is : (asked : ℕ) (n : SlotNumber) → slot_number_of asked ≡ Some n → n ≡ record { 0 = asked }
slot_is asked n e = ap (λ (k : ℕ). record { 0 = k }) (slot_in asked n e)

pub ruleset slots = (slot_is, no-chain, nat_tests)

-- the same of an index, by what its two comparisons said
module _ (asked : ℕ) where
  passed_by : (t u : Bool) (n : MeasurementIndex) → pick t None (pick u None (Some (record { 0 = asked }))) ≡ Some n
      → (n ≡ record { 0 = asked }) × ((t ≡ false) × (u ≡ false))
  unfolding pick
  passed_by true u n e = cc
  passed_by false true n e = cc
  passed_by false false n e = (cc, (refl, refl))

  missed_by : (t u v : Bool) → ◌≡◌ {A = Option MeasurementIndex} (pick t None (pick u None (Some (record { 0 = asked })))) None
      → pick t false (pick u false v) ≡ false
  unfolding pick
  missed_by true u v e = refl
  missed_by false true v e = refl
  missed_by false false v e = cc

  pub index_is : (n : MeasurementIndex) → measurement_index_of asked ≡ Some n → n ≡ record { 0 = asked }
  unfolding measurement_index_of
  index_is n e = (passed_by (eqb asked 0) (ltb index_limit asked) n e).0

  -- whether it is a measurement's is the last test
  pub index_passed : (n : MeasurementIndex) (v : Bool) → measurement_index_of asked ≡ Some n → pick (eqb asked 0) false (pick (ltb index_limit asked) false v) ≡ v
  unfolding measurement_index_of pick
  index_passed n v e = let passed = passed_by (eqb asked 0) (ltb index_limit asked) n e in rw (passed.1.0, passed.1.1)

  pub index_missed : (v : Bool) → measurement_index_of asked ≡ None → pick (eqb asked 0) false (pick (ltb index_limit asked) false v) ≡ false
  unfolding measurement_index_of
  index_missed v e = missed_by (eqb asked 0) (ltb index_limit asked) v e

pub ruleset indices = (index_is, index_passed, index_missed, nat_tests)
