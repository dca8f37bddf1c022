-- The code's facts are the contents': the lookups on an index give what the contents hold (image's Holds), and a measurement index outside
-- 1–239 is none of theirs, as their indices rise from 0 and none is above 239. Assumes nothing.
use mathlib.Core.Path.{◌≡◌, refl, ap, subst, sym, ◌∙◌}
use mathlib.Core.Bool.{Bool}
use mathlib.Core.List.{List, [], ◌∷◌}
use Prim.Native.Nat.{ℕ, ◌≤◌, ◌<◌}
use native.Mathlib.Omega.{arith}
use lib.ListN.{length}
use lib.Dec.{ltb, eqb}
use borrow.Author.Tests.{ltb-true, eqb-true, ne_eqb}
use Rattle.wire.specs.Bytes.{Bytes}
use Rattle.wire.proofs.Picks.{pick_no, pick_case}
use Rattle.image.specs.Limits.{index_limit}
use Rattle.image.specs.Contents.{Measurement, Contents, ValidMeasurement, Each, Rises, indices, Valid, image_bytes, measurement_body}
use Rattle.image.specs.Held.{measurement_for, measurement_of}
use Rattle.image.specs.Index.{index_of}
use Rattle.image.specs.Read.{ReadAs}
use Rattle.image.specs.declared.Index.{Index}
use Rattle.image.proofs.Given.{valid, image_is}
use Rattle.image.proofs.Holds.{Holds, holds}
use Rattle.rules.specs.Facts.{facts_of, facts_at}

-- no measurement's index is at or below the number from which they rise
none_below : (i last : ℕ) (ms : List Measurement) → Rises last (indices ms) → i ≤ last → [] ≡ measurement_for i ms
unfolding measurement_for
none_below i last [] e h = refl
none_below i last (m ∷ ms) e h =
    pick_no (eqb m.index i) [] (measurement_body m) (measurement_for i ms) (ne_eqb m.index i (λ q. omega (arith, e.0)))
    (none_below i m.index ms e.1 (omega (arith, e.0)))

-- nor above the limit
none_past : (h i : ℕ) (ms : List Measurement) → Each (ValidMeasurement h) ms → index_limit < i → [] ≡ measurement_for i ms
unfolding measurement_for
none_past h i [] e l = refl
none_past h i (m ∷ ms) e l =
    pick_no (eqb m.index i) [] (measurement_body m) (measurement_for i ms) (ne_eqb m.index i (λ q. omega (arith, e.0.index)))
    (none_past h i ms e.1 l)

module _ (b : List ℕ) (c : Contents) (v : Valid c) (e : b ≡ image_bytes c) where
  held : Holds b c
  held = subst (λ (l : List ℕ). Holds l c) (sym e) (holds c v)

  same-present : (i : ℕ) → (facts_at b (index_of c)).present i ≡ (facts_of c).present i
  same-present i =
      let there : List ℕ → Bool = λ (l : List ℕ). ltb 0 (length l) in
      let P : Bool → Type 0 = λ (x : Bool). x ≡ there (measurement_of c i) in
      pick_case P (eqb i 0) _ _ (λ t. ap there (none_below i 0 c.measurements v.indices (omega (arith, eqb-true i 0 t))))
      (λ _. pick_case P (ltb index_limit i) _ _ (λ t. ap there (none_past _ i c.measurements v.measurements (ltb-true _ _ t)))
      (λ _. ap there (held.by_index i)))

  pub same-facts : facts_at b (index_of c) ≡ facts_of c
  same-facts = λ j. record {
    identity = c.identity;
    chains = length c.chains;
    measurements = length c.measurements;
    chain_length = λ k. held.lengths k j;
    present = λ i. same-present i j;
  }

-- so, of an image that reads as contents, the facts taken off its index are those of the contents
pub facts : {b : List ℕ} {ix : Index} {c : Contents} → Bytes b → ReadAs b ix c → facts_at b ix ≡ facts_of c
facts y r = ap (facts_at _) r.indexed ∙ same-facts _ _ (valid y r) (image_is y r)
