-- A finishing keeps the box and the plain box alike: the buffer holds the awaited answer, the tests gave its length, and emptying a part
-- changes a count to 0 on one side and a list to none on the other. Assumes nothing.
use mathlib.Core.Path.{◌≡◌, refl, sym, ap, ◌∙◌}
use mathlib.Core.Bool.{Bool}
use mathlib.Core.List.{List, ◌++◌}
use Prim.Native.Nat.{ℕ, ◌+◌, ◌-◌, ◌≤◌}
use native.Mathlib.Omega.{arith}
use lib.ListN.{length, take, length-take}
use lib.Seq.{take-take}
use Rattle.wire.specs.Bytes.{splice}
use Rattle.wire.proofs.Laws.{front-splice}
use Rattle.image.specs.Contents.{Contents}
use Rattle.image.specs.Reading.{Result, number, found, reading}
use Rattle.rules.specs.Facts.{Facts, facts_of}
use Rattle.rules.specs.Parts.{kept_by_finishing}
use Rattle.rules.specs.Signing.{finish_of, finish_by, failed_bytes}
use Rattle.rules.specs.Plain.{plain_finished, emptied, said_finish, plain_finish, plain_said, plain_next}
use Rattle.rules.specs.Box.{lengths_of}
use Rattle.rules.specs.declared.Lengths.{Lengths}
use Rattle.rules.specs.Finish.{Finish}
use Rattle.rules.specs.Finish as finish
use Rattle.rules.proofs.Told.{FinishTold, finish-told}
use Rattle.theorems.specs.Runs.{sign, Held, lent_of, sign_finish, held_finished, box_next, said_finished, box_said, view, LendsAwaited}
use Rattle.theorems.proofs.Parts.{parts-kept, whole-kept}
use Rattle.theorems.proofs.Alike.{Good, Follows, plain_equal, said_equal, state-view, answer_back}

-- the end d, read by the box and by the plain box
record Ended (d : Finish) (h : Held) (answer signature : List ℕ) : Type 0 where
  pub said : said_finished d h.state answer signature ≡ said_finish d (view h) signature
  pub next : view (held_finished d h) ≡ plain_finished d (view h)
  pub good : Good (held_finished d h)

-- "B (or M) is emptied, nothing is awaited"
emptied-next : (h : Held) → view (held_finished finish.Signed h) ≡ emptied (view h)
emptied-next h = plain_equal (emptied (view h)) _ (parts-kept (kept_by_finishing h.state.awaited.whose) h.state.used h.transcript)

emptied-good : (h : Held) → Good h → Good (held_finished finish.Signed h)
emptied-good h g = record {
  whole = whole-kept (kept_by_finishing h.state.awaited.whose) h.state.used h.transcript g.whole;
  awaited = refl;
}

-- "the awaited answer, its last S bytes the signature", read from a buffer that held the awaited answer w
signed_back : (n : ℕ) (answer w signature : List ℕ) → take n answer ≡ w → length signature ≤ n → n ≤ length answer
    → take n (splice answer (n - length signature) signature) ≡ take (n - length signature) w ++ signature
signed_back n answer w signature e f b =
    let k : ℕ = n - length signature in
    let a : k + length signature ≡ n = omega arith in
    ap (λ (j : ℕ). take j (splice answer k signature)) (sym a)
    ∙ front-splice answer k signature (omega arith)
    ∙ ap (λ (l : List ℕ). l ++ signature) (sym (take-take k n answer (omega arith)) ∙ ap (λ (l : List ℕ). take k l) e)

module _ (h : Held) (image answer : List ℕ) (lent : ℕ) (ok : Bool) (signature : List ℕ) (g : Good h)
    (o : LendsAwaited h (sign image answer lent ok signature)) where
  abbrev lengths : Lengths
  lengths = lengths_of (lent_of h lent answer)

  by_end : (f : Facts) (d : Finish) → FinishTold f h.state lengths (length signature) d → Ended d h answer signature
  by_end f (finish.Number k) z = record { said = refl; next = refl; good = g }
  by_end f finish.Failed z = record {
    said = answer_back answer (failed_bytes h.state.negotiated) (omega (arith, z.buffer));
    next = emptied-next h;
    good = emptied-good h g;
  }
  by_end f finish.Signed z =
      let w : List ℕ = h.awaited in
      let a : length signature ≤ length w = omega (arith, g.awaited, z.1, z.0.awaited.least) in
      let b : length w ≤ length answer = omega (arith, g.awaited, z.0.awaited.most, z.0.buffer) in
      record {
        said = rw (← g.awaited) (said_equal (length w) (signed_back (length w) answer w signature (o z.0.buffer) a b));
        next = emptied-next h;
        good = emptied-good h g;
      }

  by-image : (i : Result Contents) → Ended (finish_by i h.state lengths ok (length signature)) h answer signature
  unfolding finish_by
  by-image (number k) = record { said = refl; next = refl; good = g }
  by-image (found c) =
      let f = facts_of c in
      by_end f (finish_of f h.state lengths ok (length signature)) (finish-told f h.state lengths ok (length signature))

  -- any finishing, from a good state, by a host that lends the awaited answer's buffer
  pub sign-follows : Follows h (view h) (length h.transcript) (sign image answer lent ok signature)
  unfolding box_next box_said plain_next plain_said
  sign-follows =
      let d : Finish = sign_finish h image answer lent ok signature in
      let z : Ended d h answer signature = by-image (reading image) in
      let e : plain_finish (view h) image lengths ok signature ≡ d = rw (state-view h g) in
      record {
        said = rw (← length-take lent h.transcript, e) z.said;
        next = rw (← length-take lent h.transcript, e) z.next;
        good = z.good;
        same = refl;
      }
