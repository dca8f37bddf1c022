-- The writer's number 1: no record's fault and no missing record has it, so it comes from the length alone, and only where the records pass
-- every other test. Since paper 02, 5 records can: four chains of 16,384 bytes are more than an image holds. Assumes nothing.
use mathlib.Core.Path.{◌≡◌, refl, sym, ap, ◌∙◌}
use mathlib.Core.Bool.{Bool, false}
use mathlib.Core.Logic.{◌↔◌}
use mathlib.Core.List.{List}
use Prim.Native.Nat.{ℕ, ◌<◌}
use lib.ListN.{length}
use lib.Dec.{eqb}
use borrow.Author.Tests.{ltb-true, lt-ltb, eqb-true, eqb-false, eq-eqb}
use Rattle.wire.specs.Pick.{pick}
use Rattle.wire.proofs.Picks.{pick_case, pick_yes, either, not-second}
use Rattle.image.specs.Limits.{image_limit, image_version, wrong_size, wrong_version, broken_record, wrong_kind}
use Rattle.image.specs.Contents.{Contents}
use Rattle.image.specs.Reading.{Result, number, found, Frames, ended, broken, frame, unless, seen, identity_in, identified, identity_fault}
use Rattle.image.specs.Reading.{chain_fault, measurement_fault, summary_fault, record_fault, end_fault, extended, read_on, read_all}
use Rattle.image.specs.declared.Seen.{Seen}
use Rattle.image.proofs.Growth.{number-found}
use Rattle.image_writer.specs.Writing.{Record, framed, image_of, sized, writing}

-- numbers other than 1: by `eqb`, and either branch of a `pick`
abbrev Other : ℕ → Type 0
Other k = k ≡ wrong_size → ⊥

other : (k : ℕ) → eqb k wrong_size ≡ false → Other k
other k t e = eqb-false k wrong_size t e

other-of : (b : Bool) (x y : ℕ) → Other x → Other y → Other (pick b x y)
other-of b x y p q = pick_case Other b x y (λ _. p) (λ _. q)

ruleset others = (other, other-of)

-- what is found of a record, and at the end
identity-other : (body : List ℕ) → Other (identity_fault body)
unfolding identity_fault
identity-other body = search others depth 12

record_other : (w : Seen) (kind : ℕ) (body : List ℕ) → Other (record_fault w kind body)
unfolding record_fault chain_fault measurement_fault summary_fault
record_other w kind body = search others depth 14

end-other : (w : Seen) → Other (end_fault w)
unfolding end_fault
end-other w = search others depth 8

number_same : {A : Type 0} (j k : ℕ) → ◌≡◌ {A = Result A} (number j) (number k) → j ≡ k
number_same j k e = cc

unless-other : {A : Type 0} (k : ℕ) (r : Result A) → Other k → (r ≡ number wrong_size → ⊥) → unless k r ≡ number wrong_size → ⊥
unfolding unless
unless-other k r p q e = either ⊥ _ _ _ _ e (λ _ a. q a) (λ _ a. p (number_same _ _ a))

-- and so of records read on, and of all
read-on-other : (c : Contents) (f : Frames) → read_on c f ≡ number wrong_size → ⊥
unfolding read_on
read-on-other c ended e = unless-other _ _ (end-other (seen c)) (λ a. number-found _ _ (sym a)) e
read-on-other c broken e = other broken_record refl (number_same _ _ e)
read-on-other c (frame kind body rest) e = unless-other _ _ (record_other (seen c) kind body) (read-on-other (extended c kind body) rest) e

read-all-other : (f : Frames) → read_all f ≡ number wrong_size → ⊥
unfolding read_all
read-all-other ended e = other wrong_kind refl (number_same _ _ e)
read-all-other broken e = other broken_record refl (number_same _ _ e)
read-all-other (frame kind body rest) e =
    either ⊥ _ _ _ _ e (λ _. unless-other _ _ (identity-other body) (read-on-other (identified (identity_in body)) rest))
    (λ _ a. other wrong_kind refl (number_same _ _ a))

-- what is too long by its length alone
by_length : (r : Result Contents) (b : List ℕ) → (r ≡ number wrong_size → ⊥) → sized r b ≡ number wrong_size
    → ((c : Contents) × (r ≡ found c)) × (image_limit < length b)
unfolding sized
by_length (number k) b n e = absurd (n (ap number (number_same _ _ e)))
by_length (found c) b n e = ((c, refl), ltb-true _ _ (not-second _ _ _ _ e (λ z. number-found _ _ (sym z))).0)

over : (c : Contents) (b : List ℕ) → image_limit < length b → sized (found c) b ≡ number wrong_size
unfolding sized
over c b h = sym (pick_yes _ _ _ _ (lt-ltb _ _ h) refl)

-- "then 1 when the result would be too long": the writer gives 1 exactly where the first byte is 1, the records pass every test of their
-- own, and the image of them has more bytes than the limit.
pub too_long : (first : ℕ) (rs : List Record) → (writing first rs ≡ number wrong_size)
    ↔ ((first ≡ image_version) × (((c : Contents) × (read_all (framed rs) ≡ found c)) × (image_limit < length (image_of first rs))))
unfolding writing
too_long first rs = (
  λ e.
      let a = not-second _ _ _ _ e (λ z. other wrong_version refl (number_same _ _ z)) in
      (eqb-true _ _ a.0, by_length (read_all (framed rs)) (image_of first rs) (read-all-other (framed rs)) a.1),
  λ p.
      let s : sized (read_all (framed rs)) (image_of first rs) ≡ number wrong_size
      = ap (λ (r : Result Contents). sized r (image_of first rs)) p.1.0.1 ∙ over p.1.0.0 (image_of first rs) p.1.1 in
      sym (pick_yes _ _ _ _ (eq-eqb _ _ p.0) (sym s)),
)
