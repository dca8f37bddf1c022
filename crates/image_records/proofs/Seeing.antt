-- What is seen past a good record is read off the contents with that record added. Assumes nothing.
use mathlib.Core.Path.{◌≡◌, refl}
use mathlib.Core.List.{List, [], ◌∷◌, ◌++◌, map}
use Prim.Native.Nat.{ℕ}
use lib.ListN.{get_or, length-append}
use Rattle.wire.proofs.Picks.{pick-map}
use Rattle.image.specs.Contents.{Chain, Measurement, Contents}
use Rattle.image.specs.Reading.{last_from, seen, extended}
use Rattle.image_records.specs.Records.{seen_after}

-- the last key is that of the element added
last_more : {A : Type 0} (key : A → ℕ) (d : ℕ) (xs : List A) (x : A) → last_from d (map key (xs ++ (x ∷ []))) ≡ key x
last_more key d [] x = refl
last_more key d (y ∷ ys) x = last_more key (key y) ys x

pub seen-extended : (c : Contents) (kind : ℕ) (body : List ℕ) → seen (extended c kind body) ≡ seen_after (seen c) kind (get_or body 0 0)
unfolding extended
seen-extended c kind body =
    pick-map seen _ _ _ _ _
    (λ t. simp (length-append, last_more (λ (x : Chain). x.slot) 0))
    (λ t. pick-map seen _ _ _ _ _ (λ u. simp (length-append, last_more (λ (m : Measurement). m.index) 0)) (λ u. simp length-append))
