-- The digests of the slots, one behind the other, are those of the chains: slots rise, so that each chain is met at its own slot, and a
-- slot between two chains adds nothing. Assumes nothing.
use mathlib.Core.Path.{◌≡◌, refl, ap, ◌∙◌}
use mathlib.Core.List.{List, [], ◌∷◌, ◌++◌}
use Prim.Native.Nat.{ℕ, zero, suc, ◌+◌, ◌-◌, ◌≤◌, ◌<◌}
use native.Mathlib.Omega.{arith}
use lib.ListN.{length}
use lib.Dec.{eqb}
use borrow.Author.Tests.{eqb-true, eqb-false, eq-eqb, ne_eqb}
use Rattle.wire.specs.Bytes.{splice}
use Rattle.wire.specs.Pick.{pick}
use Rattle.wire.proofs.Laws.{splice-append}
use Rattle.wire.proofs.Picks.{pick_case}
use Rattle.image.specs.Limits.{slot_limit, slot_count}
use Rattle.image.specs.Contents.{Chain, ValidChain, Each, Rises, SlotsRise, slots}
use Rattle.image.specs.Held.{chain_for}
use Rattle.rules.specs.Digests.{joined_digests}

-- f of n slots from k on, one behind the other
unfoldable pub joined_from : (ℕ → List ℕ) → ℕ → ℕ → List ℕ
joined_from f k zero = []
joined_from f k (suc n) = f k ++ joined_from f (k + 1) n

-- what is still to be written, with one slot more written, is what was to be written before
pub one_more : (f : ℕ → List ℕ) (l : List ℕ) (at k : ℕ) → k < slot_count
    → splice (splice l at (f k)) (at + length (f k)) (joined_from f (k + 1) (slot_count - (k + 1))) ≡ splice l at (joined_from f k (slot_count - k))
unfolding joined_from
one_more f l at k h =
    let e : slot_count - k ≡ suc (slot_count - (k + 1)) = omega arith in
    rw e (splice-append l at (f k) (joined_from f (k + 1) (slot_count - (k + 1))))

-- past the last slot nothing is to be written
pub no_more : (f : ℕ → List ℕ) (l : List ℕ) (at k : ℕ) → k ≡ slot_count → splice l at (joined_from f k (slot_count - k)) ≡ l
unfolding joined_from splice
no_more f l at k e = rw e

-- a slot's chain among some: the first, or one of the others
this : (k : ℕ) (x : Chain) (xs : List Chain) → x.slot ≡ k → chain_for k (x ∷ xs) ≡ x
unfolding chain_for pick
this k x xs e = rw (eq-eqb x.slot k e)

other : (k : ℕ) (x : Chain) (xs : List Chain) → (x.slot ≡ k → ⊥) → chain_for k (x ∷ xs) ≡ chain_for k xs
unfolding chain_for pick
other k x xs n = rw (ne_eqb x.slot k n)

-- what rises from above a number rises from above a lower one
rises_below : (k last : ℕ) (xs : List ℕ) → k ≤ last → Rises last xs → Rises k xs
rises_below k last [] h r = tt
rises_below k last (x ∷ xs) h r = (omega arith, r.1)

-- a slot below those of all chains has no digest
none_below : (k : ℕ) (xs : List Chain) → Rises k (slots xs) → (chain_for k xs).digest ≡ []
unfolding chain_for
none_below k [] r = refl
none_below k (x ∷ xs) r = rw (other k x xs (λ e. omega arith)) (none_below k xs (rises_below k x.slot (slots xs) (omega arith) r.1))

-- the digests from the slot behind last on, where all chains have such slots
joined-after : (h : ℕ) (f : ℕ → List ℕ) (n last : ℕ) (xs : List Chain) → Each (ValidChain h) xs → Rises last (slots xs) → slot_limit ≤ last + n
    → ((j : ℕ) → last < j → f j ≡ (chain_for j xs).digest) → joined_from f (last + 1) n ≡ joined_digests xs
unfolding joined_from joined_digests chain_for
joined-after h f zero last [] v r b s = refl
joined-after h f zero last (x ∷ xs) v r b s = absurd (omega (arith, v.0.slot))
joined-after h f (suc n) last [] v r b s = rw (s (last + 1) (omega arith)) (joined-after h f n (last + 1) [] tt tt (omega arith) (λ j i. s j (omega arith)))
joined-after h f (suc n) last (x ∷ xs) v r b s =
    let s' : (j : ℕ) → last + 1 < j → f j ≡ (chain_for j (x ∷ xs)).digest = λ j i. s j (omega arith) in
    rw (s (last + 1) (omega arith))
    (pick_case (λ (y : Chain). y.digest ++ joined_from f (last + 1 + 1) n ≡ x.digest ++ joined_digests xs) (eqb x.slot (last + 1)) x (chain_for (last + 1) xs)
    (λ t.
    let e : x.slot ≡ last + 1 = eqb-true x.slot (last + 1) t in
    ap (λ (l : List ℕ). x.digest ++ l)
    (joined-after h f n (last + 1) xs v.1 (rw e at r.1) (omega arith) (λ j i. s' j i ∙ ap (λ (y : Chain). y.digest) (other j x xs (λ z. omega arith)))))
    (λ t.
    let e : x.slot ≡ last + 1 → ⊥ = eqb-false x.slot (last + 1) t in
    let i : last + 1 < x.slot = omega (arith, r.0) in
    rw (none_below (last + 1) xs (rises_below (last + 1) x.slot (slots xs) (omega arith) r.1))
    (joined-after h f n (last + 1) (x ∷ xs) v (i, r.1) (omega arith) s')))

-- the digests of all slots are those of the chains
pub joined-all : (h : ℕ) (f : ℕ → List ℕ) (xs : List Chain) → Each (ValidChain h) xs → SlotsRise (slots xs)
    → ((j : ℕ) → f j ≡ (chain_for j xs).digest) → joined_from f 0 slot_count ≡ joined_digests xs
unfolding joined_from joined_digests chain_for
joined-all h f [] v r s = rw (s 0) (joined-after h f slot_limit 0 [] v tt (omega arith) (λ j i. s j))
joined-all h f (x ∷ xs) v r s =
    rw (s 0 ∙ ap (λ (y : Chain). y.digest) (this 0 x xs r.0))
    (ap (λ (l : List ℕ). x.digest ++ l)
    (joined-after h f slot_limit 0 xs v.1 r.1 (omega arith) (λ j i. s j ∙ ap (λ (y : Chain). y.digest) (other j x xs (λ z. omega arith)))))
