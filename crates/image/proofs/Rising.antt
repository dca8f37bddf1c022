-- What a list gains with one more element at its end: each of its rules holds of the longer list exactly if it holds of the shorter one and
-- the new element fits. By recursion over the list. Assumes nothing.
use mathlib.Core.Path.{◌≡◌}
use mathlib.Core.Bool.{false}
use mathlib.Core.Logic.{◌↔◌}
use mathlib.Core.List.{List, [], ◌∷◌, ◌++◌, map, append_assoc, append-nil}
use Prim.Native.Nat.{ℕ, suc, ◌≤◌, ◌<◌}
use native.Mathlib.Omega.{arith}
use lib.ListN.{length, length-append}
use lib.Dec.{leb}
use borrow.Author.Tests.{le-ltb, ltb-false, lt-leb, leb-false, ne_eqb}
use Rattle.wire.specs.Pick.{pick}
use Rattle.image.specs.Contents.{Chain, Each, Rises, SlotsRise, slots}
use Rattle.image.specs.Reading.{last_from, last_of, slot_wrong}

-- every list is reached from the empty one, one more element at a time
pub grows : {A : Type 0} (P : List A → Type 0) → P [] → ((xs : List A) (x : A) → P xs → P (xs ++ (x ∷ []))) → (xs : List A) → P xs
grows {A} P none more xs = from [] xs none
  where
    from : (front back : List A) → P front → P (front ++ back)
    from front [] p = rw append-nil p
    from front (x ∷ back) p = rw append_assoc at (from (front ++ (x ∷ [])) back (more front x p))

pub each_more : {A : Type 0} (P : A → Type 0) (xs : List A) (x : A) → Each P (xs ++ (x ∷ [])) ↔ (Each P xs × P x)
each_more P [] x = (λ e. (tt, e.0), λ e. (e.1, tt))
each_more P (y ∷ ys) x =
    let ih = each_more P ys x in
    (λ e. let q = ih.0 e.1 in ((e.0, q.0), q.1), λ e. (e.0.0, ih.1 (e.0.1, e.1)))

pub rises_more : {A : Type 0} (key : A → ℕ) (l : ℕ) (xs : List A) (x : A) → Rises l (map key (xs ++ (x ∷ []))) ↔ (Rises l (map key xs) × (last_from l (map key xs) < key x))
rises_more key l [] x = (λ e. (tt, e.0), λ e. (e.1, tt))
rises_more key l (y ∷ ys) x =
    let ih = rises_more key (key y) ys x in
    (λ e. let q = ih.0 e.1 in ((e.0, q.0), q.1), λ e. (e.0.0, ih.1 (e.0.1, e.1)))

-- past the first chain only the last slot counts
later : (n last slot : ℕ) → slot_wrong (suc n) last slot ≡ leb slot last
unfolding slot_wrong pick
later n last slot = rw (ne_eqb (suc n) 0 (λ z. omega arith))

pub slots-more : (xs : List Chain) (x : Chain) → SlotsRise (slots (xs ++ (x ∷ []))) ↔ (SlotsRise (slots xs) × (slot_wrong (length xs) (last_of (slots xs)) x.slot ≡ false))
unfolding slot_wrong pick
slots-more [] x = (λ e. (tt, le-ltb 0 x.slot (omega arith)), λ e. (let z = ltb-false 0 x.slot e.1 in omega arith, tt))
slots-more (y ∷ ys) x =
    let law = rises_more (λ (x : Chain). x.slot) 0 ys x in (
      λ e. let q = law.0 e.1 in ((e.0, q.0), rw (later, e.0) (lt-leb x.slot (last_from 0 (slots ys)) q.1)),
      λ e. (e.0.0, law.1 (e.0.1, leb-false x.slot (last_from 0 (slots ys)) (rw (later, e.0.0) at e.1))),
    )

-- a list whose elements are fine, at most so many, in order; and an element that may come behind it
pub record Good {A : Type 0} (Fine : A → Type 0) (most : ℕ) (Order : List A → Type 0) (xs : List A) : Type 0 where
  pub each : Each Fine xs
  pub few : length xs ≤ most
  pub order : Order xs

pub record Fits {A : Type 0} (Fine : A → Type 0) (most : ℕ) (Next : List A → A → Type 0) (xs : List A) (x : A) : Type 0 where
  pub fine : Fine x
  pub room : length xs < most
  pub next : Next xs x

pub good_more : {A : Type 0} (Fine : A → Type 0) (most : ℕ) (Order : List A → Type 0) (Next : List A → A → Type 0)
    → ((xs : List A) (x : A) → Order (xs ++ (x ∷ [])) ↔ (Order xs × Next xs x))
    → (xs : List A) (x : A) → Good Fine most Order (xs ++ (x ∷ [])) ↔ (Good Fine most Order xs × Fits Fine most Next xs x)
good_more Fine most Order Next law xs x =
    let l = length-append xs (x ∷ []) in (
      λ g. let e = (each_more Fine xs x).0 g.each in
          let o = (law xs x).0 g.order in
          (record { each = e.0; few = omega arith; order = o.0 }, record { fine = e.1; room = omega arith; next = o.1 }),
      λ p. record { each = (each_more Fine xs x).1 (p.0.each, p.1.fine); few = omega (arith, p.1.room); order = (law xs x).1 (p.0.order, p.1.next) },
    )
