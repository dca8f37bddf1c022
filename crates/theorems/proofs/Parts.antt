-- The parts of the transcript after a call. Emptying changes counts alone. An accepted request keeps or empties each part too, and then
-- its own part holds what is appended, and the others nothing new: the three parts lie apart, and what is appended fits its own. Assumes
-- nothing.
use mathlib.Core.Path.{◌≡◌, refl, sym, ap, ◌∙◌}
use mathlib.Core.Bool.{Bool, true, false}
use mathlib.Core.List.{List, [], ◌∷◌, ◌++◌, append-nil}
use Prim.Native.Nat.{ℕ, ◌+◌, ◌-◌, ◌≤◌}
use native.Mathlib.Nat.{add-zero, add_assoc}
use native.Mathlib.Omega.{arith}
use lib.ListN.{length, take, drop, set, length-set, length-append, length-drop, take-append-drop}
use lib.Seq.{drop-set-add, set-append_left}
use Rattle.wire.specs.Bytes.{part, splice}
use Rattle.wire.specs.Pick.{pick}
use Rattle.wire.proofs.Laws.{splice-length, take-splice, drop-splice, front-splice, part_length}
use Rattle.rules.specs.Limits.{transcript_length}
use Rattle.rules.specs.Parts.{start_of, limit_of, Kept, Entry, into, nowhere, same_part, goes_to, keeps, count_of, count_kept, kept_used, count_after, used_after, Parts, used_of, kept_parts, parts_after}
use Rattle.rules.specs.Box.{part_in, parts_in, entered_at}
use Rattle.rules.specs.declared.Part.{Part}
use Rattle.rules.specs.declared.Part.TheVariants.{A, B, M}
use Rattle.rules.specs.declared.Used.{Used}
use Rattle.rules.proofs.Tests.{Counted}
use Rattle.rules.proofs.Ready.{Enters}

-- stores that fit into a list's front leave what follows it
splice_front : (xs ys : List ℕ) (i : ℕ) (v : List ℕ) → i + length v ≤ length xs → splice (xs ++ ys) i v ≡ splice xs i v ++ ys
unfolding splice
splice_front xs ys i [] h = refl
splice_front xs ys i (x ∷ v) h =
    ap (λ (l : List ℕ). splice l (i + 1) v) (set-append_left xs ys i x (omega arith))
    ∙ splice_front (set xs i x) ys (i + 1) v (simp length-set (omega arith))

-- stores past a place are stores into what starts there
drop-splice-add : (o : ℕ) (t : List ℕ) (i : ℕ) (v : List ℕ) → drop o (splice t (o + i) v) ≡ splice (drop o t) i v
unfolding splice
drop-splice-add o t i [] = refl
drop-splice-add o t i (x ∷ v) =
    ap (λ (j : ℕ). drop o (splice (set t (o + i) x) j v)) (add_assoc o i 1)
    ∙ drop-splice-add o (set t (o + i) x) (i + 1) v
    ∙ ap (λ (l : List ℕ). splice l (i + 1) v) (drop-set-add o t i x)

-- a part that is appended to
appended : (o n : ℕ) (t v : List ℕ) → o + (n + length v) ≤ length t → part (splice t (o + n) v) o (n + length v) ≡ part t o n ++ v
appended o n t v h = rw (drop-splice-add o t n v) (front-splice (drop o t) n v (simp length-drop (omega arith)))

-- a part that stands as it stood is only kept or emptied
beside : (o n : ℕ) (keep : Bool) (t u : List ℕ) → part u o n ≡ part t o n → part u o (pick keep n 0 + 0) ≡ pick keep (part t o n) [] ++ []
unfolding pick
beside o n true t u e = rw (add-zero, append-nil) e
beside o n false t u e = refl

-- a store leaves alone a part that lies before it, and one that lies behind it
before_store : (o n i : ℕ) (t v : List ℕ) → o + n ≤ i → part (splice t i v) o n ≡ part t o n
before_store o n i t v h =
    let e : o + (i - o) ≡ i = omega arith in
    ap (λ (j : ℕ). part (splice t j v) o n) (sym e) ∙ rw (drop-splice-add o t (i - o) v) (take-splice n (drop o t) (i - o) v (omega arith))

behind_store : (o n i : ℕ) (t v : List ℕ) → i + length v ≤ o → part (splice t i v) o n ≡ part t o n
behind_store o n i t v h = rw (drop-splice o t i v h)

-- two parts are one, or lie apart
data Lie : Part → Part → Type 0 where
  same : {x : Part} → same_part x x ≡ true → Lie x x
  before : {x y : Part} → same_part y x ≡ false → start_of x + limit_of x ≤ start_of y → Lie x y
  behind : {x y : Part} → same_part y x ≡ false → start_of y + limit_of y ≤ start_of x → Lie x y

lie : (x y : Part) → Lie x y
lie A A = same refl
lie A B = before {x = A} {y = B} refl (omega arith)
lie A M = before {x = A} {y = M} refl (omega arith)
lie B A = behind {x = B} {y = A} refl (omega arith)
lie B B = same refl
lie B M = before {x = B} {y = M} refl (omega arith)
lie M A = behind {x = M} {y = A} refl (omega arith)
lie M B = behind {x = M} {y = B} refl (omega arith)
lie M M = same refl

-- every part lies within a transcript of full length
ends : (x : Part) → start_of x + limit_of x ≤ transcript_length
ends A = omega arith
ends B = omega arith
ends M = omega arith

-- a choice between something and nothing: what is taken so, and how long it is
take-pick : (b : Bool) (n : ℕ) (l : List ℕ) → take (pick b n 0) l ≡ pick b (take n l) []
unfolding pick
take-pick true n l = refl
take-pick false n l = refl

pick-length : (b : Bool) (l : List ℕ) → length (pick b l []) ≡ pick b (length l) 0
unfolding pick
pick-length true l = refl
pick-length false l = refl

-- each part stands whole in a transcript: the parts as they stand have the counts that are held
abbrev pub Whole : Used → List ℕ → Type 0
Whole u t = used_of (parts_in u t) ≡ u

-- equal by their fields
used_equal : (u : Used) (a b m : ℕ) → a ≡ u.a → b ≡ u.b → m ≡ u.m → ◌≡◌ {A = Used} (record { a = a; b = b; m = m }) u
used_equal u a b m e f g = rw (e, f, g)

parts_equal : (p : Parts) (a b m : List ℕ) → a ≡ p.a → b ≡ p.b → m ≡ p.m → ◌≡◌ {A = Parts} (record { a = a; b = b; m = m }) p
parts_equal p a b m e f g = rw (e, f, g)

-- so they do within their limits, where the transcript has full length
all_whole : (u : Used) (t : List ℕ) → Counted u → transcript_length ≤ length t → Whole u t
all_whole u t w l = used_equal u _ _ _ (one A) (one B) (one M)
  where
    one : (x : Part) → length (part_in x u t) ≡ count_of x u
    one x = part_length t (start_of x) (count_of x u) (omega (arith, ends x, w x))

-- lists and counts are kept alike, and appended to alike
used-kept : (kept : Kept) (p : Parts) → used_of (kept_parts kept p) ≡ kept_used kept (used_of p)
used-kept kept p = simp pick-length

used-after : (kept : Kept) (e : Entry) (v : List ℕ) (p : Parts) → used_of (parts_after kept e v p) ≡ used_after kept e (length v) (used_of p)
used-after kept e v p = simp (length-append, pick-length)

-- parts that are kept or emptied are what the plain box makes of them, and stand whole again
pub parts-kept : (kept : Kept) (u : Used) (t : List ℕ) → parts_in (kept_used kept u) t ≡ kept_parts kept (parts_in u t)
parts-kept kept u t = simp take-pick

pub whole-kept : (kept : Kept) (u : Used) (t : List ℕ) → Whole u t → Whole (kept_used kept u) t
whole-kept kept u t w = ap used_of (parts-kept kept u t) ∙ used-kept kept (parts_in u t) ∙ ap (kept_used kept) w

-- parts that are kept or emptied, and then appended to
module _ (kept : Kept) (u : Used) (v : List ℕ) (counted : Counted u) where
  -- the part x, where v goes to the part y
  part_at : {x y : Part} → Lie x y → count_kept y kept u + length v ≤ limit_of y → (t : List ℕ) → transcript_length ≤ length t
      → part (splice t (start_of y + count_kept y kept u) v) (start_of x) (count_kept x kept u + pick (same_part y x) (length v) 0)
      ≡ pick (keeps kept x) (part_in x u t) [] ++ pick (same_part y x) v []
  unfolding pick
  part_at {x} {y} (same e) room t long =
      rw e (appended (start_of x) (count_kept x kept u) t v (omega (arith, ends x))
      ∙ ap (λ (l : List ℕ). l ++ v) (take-pick (keeps kept x) (count_of x u) (drop (start_of x) t)))
  part_at {x} {y} (before e h) room t long =
      rw e (beside (start_of x) (count_of x u) (keeps kept x) t _
      (before_store (start_of x) (count_of x u) (start_of y + count_kept y kept u) t v (omega (arith, counted x))))
  part_at {x} {y} (behind e h) room t long =
      rw e (beside (start_of x) (count_of x u) (keeps kept x) t _
      (behind_store (start_of x) (count_of x u) (start_of y + count_kept y kept u) t v (omega arith)))

  part-after : (e : Entry) → Enters e kept u (length v) → (t : List ℕ) → transcript_length ≤ length t → (x : Part)
      → part (entered_at e kept u v t) (start_of x) (count_after x kept e (length v) u)
      ≡ pick (keeps kept x) (part_in x u t) [] ++ pick (goes_to e x) v []
  unfolding pick
  part-after (into y) room t long x = part_at (lie x y) room t long
  part-after nowhere room t long x = beside (start_of x) (count_of x u) (keeps kept x) t t refl

  -- after an accepted request the parts are what the plain box makes of them, and stand whole again
  module _ (e : Entry) (enters : Enters e kept u (length v)) (t : List ℕ) (long : transcript_length ≤ length t) where
    pub parts-after : parts_in (used_after kept e (length v) u) (entered_at e kept u v t) ≡ parts_after kept e v (parts_in u t)
    parts-after =
        let p = part-after e enters t long in
        parts_equal (parts_after kept e v (parts_in u t)) _ _ _ (p A) (p B) (p M)

    pub whole-after : Whole (used_after kept e (length v) u) (entered_at e kept u v t)
    whole-after =
        ap used_of parts-after ∙ used-after kept e v (parts_in u t) ∙ ap (used_after kept e (length v)) (all_whole u t counted long)

-- what enters the bytes that are lent enters the whole buffer
pub entered_lent : (e : Entry) (kept : Kept) (u : Used) (v : List ℕ) (k : ℕ) (t : List ℕ) → Enters e kept u (length v)
    → transcript_length ≤ length (take k t)
    → entered_at e kept u v (take k t) ++ drop k t ≡ entered_at e kept u v t
entered_lent (into x) kept u v k t room long =
    let i : ℕ = start_of x + count_kept x kept u in
    sym (splice_front (take k t) (drop k t) i v (omega (arith, ends x))) ∙ rw (take-append-drop k t)
entered_lent nowhere kept u v k t room long = take-append-drop k t

pub entered_length : (e : Entry) (kept : Kept) (u : Used) (v t : List ℕ) → length (entered_at e kept u v t) ≡ length t
entered_length (into x) kept u v t = splice-length t (start_of x + count_kept x kept u) v
entered_length nowhere kept u v t = refl
