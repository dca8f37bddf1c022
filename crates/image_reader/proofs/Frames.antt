-- The records from a place on: they are what the frame at that place says, then the records behind it. More bytes of fuel than there are
-- bytes change nothing. Assumes nothing.
use mathlib.Core.Path.{◌≡◌, refl, sym, ap, ◌∙◌, subst}
use mathlib.Core.Bool.{Bool, true, false}
use mathlib.Core.List.{List}
use Rattle.std.specs.Prelude.{Option, Some, None}
use Prim.Native.Nat.{ℕ, zero, suc, ◌+◌, ◌-◌, ◌≤◌, ◌<◌}
use native.Mathlib.Omega.{arith}
use native.Mathlib.Nat.{add-zero, add-sub_cancel_left}
use lib.ListN.{length, get_or, drop, length-drop}
use lib.Seq.{get_or-drop, drop-drop}
use lib.Dec.{eqb}
use borrow.Author.Tests.{ltb-true, ltb-false, leb-true, leb-false, eqb-false, eq-eqb, ne_eqb}
use Rattle.wire.specs.Bytes.{be_at, part}
use Rattle.wire.specs.Pick.{pick}
use Rattle.wire.proofs.Picks.{picks, pick_case}
use Rattle.image.specs.Limits.{head_length, broken_record}
use Rattle.image.specs.Reading.{Result, number, found, ended, broken, frame, frames_of}
use Rattle.image_reader.specs.Steps.{frames_at, frame_at, body_in}
use Rattle.image_reader.specs.declared.Frame.{Frame}

-- a whole record lies within the image, and those behind it follow
pub record Whole (b : List ℕ) (at : ℕ) (f : Frame) : Type 0 where
  pub start : f.start ≡ at + head_length
  pub ordered : f.start ≤ f.end
  pub inside : f.end ≤ length b
  pub read : frames_at b at ≡ frame f.kind (body_in b f) (frames_at b f.end)

pub record Broken (b : List ℕ) (at k : ℕ) : Type 0 where
  pub fault : k ≡ broken_record
  pub read : frames_at b at ≡ broken

-- what the answer of `frame_at` says of the records from that place on
abbrev pub Says : List ℕ → ℕ → Result (Option Frame) → Type 0
Says b at (number k) = Broken b at k
Says b at (found None) = frames_at b at ≡ ended
Says b at (found (Some f)) = Whole b at f

-- both branches alike, the second where the test failed
two_ways : {A : Type 0} (t : Bool) (x y z : A) → (t ≡ false → y ≡ z) → pick t x y ≡ pick t x z
unfolding pick
two_ways true x y z f = refl
two_ways false x y z f = f refl

-- more than enough fuel is as good as enough
fuel : (n m : ℕ) (b : List ℕ) → length b ≤ n → length b ≤ m → frames_of n b ≡ frames_of m b
unfolding frames_of
fuel zero zero b h k = refl
fuel zero (suc m) b h k = two_ways _ _ _ _ (λ t. absurd (eqb-false (length b) 0 t (omega arith)))
fuel (suc n) zero b h k = two_ways _ _ _ _ (λ t. absurd (eqb-false (length b) 0 t (omega arith)))
fuel (suc n) (suc m) b h k =
    two_ways _ _ _ _ (λ t₁. two_ways _ _ _ _ (λ t₂. two_ways _ _ _ _ (λ t₃.
    let p : 3 ≤ length b = ltb-false _ _ t₂ in
    let d = length-drop (head_length + be_at 2 b 0) b in
    ap (frame (get_or b 2 0) (part b head_length (be_at 2 b 0))) (fuel n m (drop (head_length + be_at 2 b 0) b) (omega arith) (omega arith)))))

-- the four cases of one step
ends : (n : ℕ) (b : List ℕ) → length b ≡ 0 → ended ≡ frames_of n b
unfolding frames_of
ends zero b e = let t : eqb (length b) 0 ≡ true = eq-eqb (length b) 0 e in search picks depth 6
ends (suc n) b e = let t : eqb (length b) 0 ≡ true = eq-eqb (length b) 0 e in search picks depth 6

short : (n : ℕ) (b : List ℕ) → 0 < length b → length b < head_length → broken ≡ frames_of n b
unfolding frames_of
short zero b p q = let t : eqb (length b) 0 ≡ false = ne_eqb (length b) 0 (λ z. omega arith) in search picks depth 6
short (suc n) b p q = let t : eqb (length b) 0 ≡ false = ne_eqb (length b) 0 (λ z. omega arith) in search picks depth 8

long : (n : ℕ) (b : List ℕ) → head_length ≤ length b → length b - head_length < be_at 2 b 0 → broken ≡ frames_of n b
unfolding frames_of
long zero b p q = let t : eqb (length b) 0 ≡ false = ne_eqb (length b) 0 (λ z. omega arith) in search picks depth 6
long (suc n) b p q = let t : eqb (length b) 0 ≡ false = ne_eqb (length b) 0 (λ z. omega arith) in search picks depth 10

whole : (n : ℕ) (b : List ℕ) → head_length ≤ length b → be_at 2 b 0 ≤ length b - head_length
    → frame (get_or b 2 0) (part b head_length (be_at 2 b 0)) (frames_of n (drop (head_length + be_at 2 b 0) b)) ≡ frames_of (suc n) b
unfolding frames_of
whole n b p q = let t : eqb (length b) 0 ≡ false = ne_eqb (length b) 0 (λ z. omega arith) in search picks depth 10

length_at : (b : List ℕ) (at : ℕ) → be_at 2 (drop at b) 0 ≡ be_at 2 b at
length_at b at = rw (get_or-drop at b 0 0, get_or-drop at b 1 0, add-zero at)

next : (b : List ℕ) (at : ℕ) → head_length ≤ length b - at → be_at 2 b at ≤ length b - at - head_length
    → frame (get_or b (at + 2) 0) (part b (at + head_length) (be_at 2 b at)) (frames_at b (at + head_length + be_at 2 b at)) ≡ frames_at b at
unfolding frames_at
next b at h k =
    let n = be_at 2 b at in
    let d = length-drop at b in
    let d₂ = length-drop (at + head_length + n) b in
    let e = length_at b at in
    let a : at + (head_length + n) ≡ at + head_length + n = omega arith in
    let o = whole (length b) (drop at b) (omega arith) (omega arith) in
    ap (frame (get_or b (at + 2) 0) (part b (at + head_length) n)) (fuel (length b - (at + head_length + n)) (length b) (drop (at + head_length + n) b) (omega arith) (omega arith))
    ∙ (rw (e, get_or-drop at b 2 0, drop-drop head_length at b, drop-drop (head_length + n) at b, a) at o)
    ∙ fuel (suc (length b)) (length b - at) (drop at b) (omega arith) (omega arith)

at-end : (b : List ℕ) (at : ℕ) → length b ≤ at → ended ≡ frames_at b at
unfolding frames_at
at-end b at h = let d = length-drop at b in ends (length b - at) (drop at b) (omega arith)

at-short : (b : List ℕ) (at : ℕ) → at < length b → length b - at < head_length → broken ≡ frames_at b at
unfolding frames_at
at-short b at h k = let d = length-drop at b in short (length b - at) (drop at b) (omega arith) (omega arith)

at_long : (b : List ℕ) (at : ℕ) → head_length ≤ length b - at → length b - at - head_length < be_at 2 b at → broken ≡ frames_at b at
unfolding frames_at
at_long b at h k =
    let d = length-drop at b in
    let e = length_at b at in
    long (length b - at) (drop at b) (omega arith) (omega arith)

-- what is said of a place holds there
pub frames_read : (b : List ℕ) (at : ℕ) → Says b at (frame_at b at)
unfolding frame_at
frames_read b at =
    pick_case (Says b at) _ _ _
    (λ t. sym (at-end b at (leb-true _ _ t)))
    (λ t₁. pick_case (Says b at) _ _ _
    (λ t. record { fault = refl; read = sym (at-short b at (leb-false _ _ t₁) (ltb-true _ _ t)) })
    (λ t₂. pick_case (Says b at) _ _ _
    (λ t. record { fault = refl; read = sym (at_long b at (ltb-false _ _ t₂) (ltb-true _ _ t)) })
    (λ t₃.
    let h₁ = leb-false _ _ t₁ in
    let h₂ = ltb-false _ _ t₂ in
    let h₃ = ltb-false _ _ t₃ in
    record { start = refl; ordered = omega arith; inside = omega arith; read = rw add-sub_cancel_left (sym (next b at h₂ h₃)) })))

pub said : (b : List ℕ) (at : ℕ) (g : Result (Option Frame)) → g ≡ frame_at b at → Says b at g
said b at g e = subst (Says b at) (sym e) (frames_read b at)

-- the records behind the version byte
pub frames_whole : (b : List ℕ) → frames_at b 1 ≡ frames_of (length b) (drop 1 b)
unfolding frames_at
frames_whole b = let d = length-drop 1 b in fuel (length b - 1) (length b) (drop 1 b) (omega arith) (omega arith)

-- a record of the image lies within it
pub within : (b : List ℕ) (at : ℕ) {g : Option Frame} {f : Frame} → g ≡ Some f → found g ≡ frame_at b at
    → (f.start ≤ f.end) × (f.end ≤ length b)
within b at {g} {f} e h = let w = said b at (found (Some f)) (rw e at h) in (w.ordered, w.inside)

-- what the readers of a record need of its frame
pub ruleset records = (picks, within)
