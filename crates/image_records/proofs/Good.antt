-- What a record without a fault tells of itself and of those before it: that it comes in sequence, that there is room for it, and how long
-- its body is. Each is a test that it passed. Assumes nothing.
use mathlib.Core.Path.{◌≡◌}
use mathlib.Core.List.{List}
use Prim.Native.Nat.{ℕ, ◌+◌, ◌≤◌, ◌<◌}
use native.Mathlib.Omega.{arith}
use lib.ListN.{length, get_or}
use borrow.Author.Tests.{ltb-false, leb-false, eqb-true, eqb-false, eq-eqb, ne_eqb}
use Rattle.wire.proofs.Picks.{when_true, when_false, not_first, not-second}
use Rattle.image.specs.Limits.{identity_length, chain_kind, measurement_kind, chain_limit, chains_limit, measurements_limit, slot_limit}
use Rattle.image.specs.Reading.{identity_fault, chain_fault, measurement_fault, summary_fault, record_fault}
use Rattle.image.specs.declared.Seen.{Seen}

pub identity-length : (body : List ℕ) → identity_fault body ≡ 0 → length body ≡ identity_length
unfolding identity_fault
identity-length body f = eqb-true _ _ (not-second _ _ _ _ f (λ z. omega arith)).0

-- a chain comes before any measurement
pub record ChainFine (w : Seen) (body : List ℕ) : Type 0 where
  pub first : w.measurements ≤ 0
  pub room : w.chains < chains_limit
  pub most : length body ≤ 1 + w.size + chain_limit
  pub slot : get_or body 0 0 ≤ slot_limit

-- a measurement comes behind a chain and before the summary
pub record MeasurementFine (w : Seen) (body : List ℕ) : Type 0 where
  pub chained : 0 < w.chains
  pub first : w.summaries ≤ 0
  pub room : w.measurements < measurements_limit
  pub whole : length body ≡ 2 + w.size

-- the summary comes once
pub record SummaryFine (w : Seen) (body : List ℕ) : Type 0 where
  pub first : w.summaries ≤ 0
  pub whole : length body ≡ w.size + w.size

module _ (w : Seen) (kind : ℕ) (body : List ℕ) (f : record_fault w kind body ≡ 0) where
  pub chain-fine : kind ≡ chain_kind → ChainFine w body
  unfolding record_fault chain_fault
  chain-fine e =
      let a₁ = not_first _ _ _ _ (when_true _ _ _ _ f (eq-eqb kind chain_kind e)) (λ z. omega arith) in
      let a₂ = not_first _ _ _ _ a₁.1 (λ z. omega arith) in
      let a₃ = not_first _ _ _ _ a₂.1 (λ z. omega arith) in
      let a₄ = not_first _ _ _ _ a₃.1 (λ z. omega arith) in
      let a₅ = not_first _ _ _ _ a₄.1 (λ z. omega arith) in
      record { first = ltb-false _ _ a₁.0; room = leb-false _ _ a₂.0; most = ltb-false _ _ a₄.0; slot = ltb-false _ _ a₅.0 }

  pub measurement-fine : kind ≡ measurement_kind → MeasurementFine w body
  unfolding record_fault measurement_fault
  measurement-fine e =
      let n = ne_eqb kind chain_kind (λ z. omega arith) in
      let a₁ = not_first _ _ _ _ (when_true _ _ _ _ (when_false _ _ _ _ f n) (eq-eqb kind measurement_kind e)) (λ z. omega arith) in
      let a₂ = not_first _ _ _ _ a₁.1 (λ z. omega arith) in
      let a₃ = not_first _ _ _ _ a₂.1 (λ z. omega arith) in
      let a₄ = not-second _ _ _ _ a₃.1 (λ z. omega arith) in
      let z : w.chains ≡ 0 → ⊥ = eqb-false _ _ a₁.0 in
      record { chained = omega arith; first = ltb-false _ _ a₂.0; room = leb-false _ _ a₃.0; whole = eqb-true _ _ a₄.0 }

  -- what is neither is a summary
  pub summary-fine : (kind ≡ chain_kind → ⊥) → (kind ≡ measurement_kind → ⊥) → SummaryFine w body
  unfolding record_fault summary_fault
  summary-fine n m =
      let a₀ = when_false _ _ _ _ (when_false _ _ _ _ f (ne_eqb kind chain_kind n)) (ne_eqb kind measurement_kind m) in
      let a₁ = not_first _ _ _ _ (not-second _ _ _ _ a₀ (λ z. omega arith)).1 (λ z. omega arith) in
      let a₂ = not_first _ _ _ _ a₁.1 (λ z. omega arith) in
      let a₃ = not-second _ _ _ _ a₂.1 (λ z. omega arith) in
      record { first = ltb-false _ _ a₂.0; whole = eqb-true _ _ a₃.0 }
