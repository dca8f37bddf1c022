-- The promise of the writer, by what its draft answered: refused, nothing is written; else the first byte and the records behind it are the
-- image, and it fits. Assumes nothing.
use mathlib.Core.Path.{◌≡◌, refl, sym, ap, ◌∙◌, subst}
use mathlib.Core.List.{List, [], ◌∷◌}
use Prim.Native.Nat.{ℕ, ◌+◌, ◌≤◌}
use native.Mathlib.Omega.{arith}
use lib.ListN.{length}
use borrow.Author.Tests.{ltb-false}
use Rattle.std.specs.Prelude.{Ok, Err, Result as Answer}
use Rattle.std.specs.Result.{IsErrAnd}
use Rattle.wire.specs.Bytes.{splice}
use Rattle.wire.proofs.Picks.{not_first}
use Rattle.image.specs.Reading.{Result, number, found}
use Rattle.image.proofs.Growth.{number-found, found-same}
use Rattle.image_writer.specs.Writing.{Record, joined, image_of, writing, lent, answer_of, bytes_of, Wrote}
use Rattle.image_writer.specs.WriteError.{number_of, write_told}
use Rattle.image_writer.specs.declared.WriteError.{WriteError}
use Rattle.image_writer.specs.Draft.{opened_by, added_all, closed_all}
use Rattle.image_writer.specs.declared.drafting.Draft.{Draft}
use Rattle.image_writer.proofs.RoundTrip.{written_short}
use Rattle.image_writer.proofs.Drafts.{closing-by}

-- what an answer tells of what was to be written
refused : (w : Result (List ℕ)) (k : ℕ) → number k ≡ answer_of w → w ≡ number k
refused (number j) k e = cc
refused (found b) k e = let z : ◌≡◌ {A = ℕ} 0 1 = cc in absurd (omega arith)

accepted : (w : Result (List ℕ)) (n : ℕ) → found n ≡ answer_of w → (b : List ℕ) × (w ≡ found b)
accepted (number j) n e = let z : ◌≡◌ {A = ℕ} 0 1 = cc in absurd (omega arith)
accepted (found b) n e = (b, refl)

-- an image that is lent an output was to be written, and fits
lent_found : (room : ℕ) (w : Result (List ℕ)) (b : List ℕ) → lent room w ≡ found b → (w ≡ found b) × (length b ≤ room)
unfolding lent
lent_found room (number k) b e = absurd (number-found _ _ e)
lent_found room (found d) b e =
    let a = not_first _ _ _ _ e (number-found _ _) in
    let h : length d ≤ room = ltb-false _ _ a.0 in
    let s : d ≡ b = found-same d b a.1 in
    (a.1, subst (λ (x : List ℕ). length x ≤ room) s h)

module _ (out : List ℕ) (first : ℕ) (rs : List Record) where
  abbrev asked : Result (List ℕ)
  asked = lent (length out) (writing first rs)

  pub wrote_nothing : (k : ℕ) → number k ≡ answer_of asked → Wrote out out (number k) (writing first rs)
  unfolding splice
  wrote_nothing k e = record { answered = e; put = sym (ap (λ (w : Result (List ℕ)). splice out 0 (bytes_of w)) (refused asked k e)) }

  image_lent : (n : ℕ) → found n ≡ answer_of asked → (asked ≡ found (image_of first rs)) × (length (image_of first rs) ≤ length out)
  image_lent n e =
      let p = accepted asked n e in
      let w = lent_found (length out) (writing first rs) p.0 p.1 in
      let s = written_short first rs p.0 w.0 in
      (p.1 ∙ ap found (sym s.1), subst (λ (x : List ℕ). length x ≤ length out) (sym s.1) w.1)

  pub image-fits : (n : ℕ) → found n ≡ answer_of asked → 1 + length (joined rs) ≤ length out
  image-fits n e = omega (arith, (image_lent n e).1)

  pub wrote_image : (n : ℕ) (out' : List ℕ) → found n ≡ answer_of asked → out' ≡ splice (splice out 0 (first ∷ [])) 1 (joined rs)
      → Wrote out out' (found n) (writing first rs)
  unfolding splice
  wrote_image n out' e p = record { answered = e; put = p ∙ sym (ap (λ (w : Result (List ℕ)). splice out 0 (bytes_of w)) (image_lent n e).0) }

  -- the same, by the draft that the code has
  pub undrafted : (d : Result Draft) (k : ℕ) → d ≡ number k → d ≡ added_all (opened_by first) rs → Wrote out out (number k) (writing first rs)
  undrafted d k f e = wrote_nothing k (sym (ap (λ (d : Result Draft). closed_all d (length out)) f) ∙ closing-by first rs (length out) d e)

-- an error that is passed on
pub passed_on : (out : List ℕ) (w : Result (List ℕ)) (r : Answer ℕ WriteError) (x : WriteError) → IsErrAnd r (λ (e : WriteError). e ≡ x)
    → Wrote out out (number (number_of x)) w → Wrote out out (write_told r) w
passed_on out w (Ok n) x e h = absurd e
passed_on out w (Err y) x e h = subst (λ (z : WriteError). Wrote out out (number (number_of z)) w) (sym e) h
