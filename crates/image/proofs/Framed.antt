-- Records and their bytes: joined records are taken apart into the same records, and bytes that come apart whole are those records joined,
-- since a record's head gives its body's length. Assumes nothing.
use mathlib.Core.Path.{◌≡◌, refl, sym, ap, ◌∙◌, subst}
use mathlib.Core.Bool.{false}
use mathlib.Core.List.{List, [], ◌∷◌, ◌++◌}
use Prim.Native.Nat.{ℕ, zero, suc, ◌+◌, ◌-◌, ◌/◌, ◌%◌, ◌≤◌, ◌<◌}
use native.Mathlib.Omega.{arith}
use lib.ListN.{length, get_or, take, drop, length-append, take-append-drop, length-drop}
use lib.Seq.{take_at, drop_at, length-take-le, get_or-drop, drop-drop, drop-cons}
use lib.Dec.{eqb}
use borrow.Author.Tests.{ltb-false, eqb-true, ne_eqb}
use Rattle.wire.specs.Bytes.{Bytes, be_at, be_bytes}
use Rattle.wire.proofs.Picks.{either, picks}
use Rattle.image.specs.Limits.{head_length}
use Rattle.image.specs.Contents.{record_bytes}
use Rattle.image.specs.Reading.{Frames, ended, broken, frame, frames_of}

-- the bytes that records stand for
unfoldable pub joined : Frames → List ℕ
joined ended = []
joined broken = []
joined (frame kind body rest) = record_bytes kind body ++ joined rest

-- nothing is broken off, and every body's length fits two bytes
abbrev pub Whole : Frames → Type 0
Whole ended = Unit {0}
Whole broken = ⊥
Whole (frame kind body rest) = (length body < 65536) × Whole rest

-- a record's bytes are its head and its body
pub record_length : (kind : ℕ) (body : List ℕ) → length (record_bytes kind body) ≡ head_length + length body
unfolding record_bytes
record_length kind body = omega arith

-- what is joined is taken apart again
pub apart : (n : ℕ) (f : Frames) → Whole f → length (joined f) ≤ n → f ≡ frames_of n (joined f)
unfolding joined frames_of record_bytes
apart zero ended w h = search picks depth 6
apart (suc n) ended w h = search picks depth 6
apart n broken w h = absurd w
apart zero (frame k b f) w h = absurd (omega arith)
apart (suc n) (frame k b f) w h =
    let s = joined (frame k b f) in
    let e : be_at 2 s 0 ≡ length b = omega arith in
    let l = length-append b (joined f) in
    let ih : f ≡ frames_of n (joined f) = apart n f w.1 (omega arith) in
    let t₁ : eqb (length s) 0 ≡ false = ne_eqb (length s) 0 (λ z. omega arith) in
    let t₂ : 3 ≤ length s = omega arith in
    let t₃ : length b ≤ length s - 3 = omega arith in
    rw (e, ← drop-drop (length b) 3 s, take_at b (joined f) (length b) refl, drop_at b (joined f) (length b) refl, ← ih) (search picks depth 12)

pub bytes_drop : (n : ℕ) (b : List ℕ) → Bytes b → Bytes (drop n b)
bytes_drop n b y i = rw get_or-drop (y (n + i))

pub empty : {A : Type 0} (l : List A) → length l ≡ 0 → l ≡ []
empty [] h = refl
empty (x ∷ l) h = absurd (omega arith)

-- the first three elements, and what follows them
pub heads : (b : List ℕ) → 3 ≤ length b → b ≡ get_or b 0 0 ∷ get_or b 1 0 ∷ get_or b 2 0 ∷ drop 3 b
heads b h = cc (drop-cons b 0 0 (omega arith), drop-cons b 1 0 (omega arith), drop-cons b 2 0 (omega arith))

-- a record's head, and what follows it
headed : (b : List ℕ) (n : ℕ) → 3 ≤ length b → Bytes b → n ≡ be_at 2 b 0 → b ≡ be_bytes 2 n ++ (get_or b 2 0 ∷ drop 3 b)
headed b n h y e =
    let u : get_or b 0 0 < 256 = y 0 in
    let v : get_or b 1 0 < 256 = y 1 in
    let s : n / 256 % 256 ≡ get_or b 0 0 = omega arith in
    let t : n % 256 ≡ get_or b 1 0 = omega arith in
    cc (heads b h)

-- what was taken apart is joined again
pub together : (n : ℕ) (b : List ℕ) (f : Frames) → Bytes b → frames_of n b ≡ f → Whole f → b ≡ joined f
unfolding frames_of joined record_bytes
together zero b f y e w =
    either (b ≡ joined f) _ _ _ _ e
    (λ t g. empty b (eqb-true _ _ t) ∙ ap joined g)
    (λ t g. absurd (subst Whole (sym g) w))
together (suc n) b f y e w =
    either (b ≡ joined f) _ _ _ _ e
    (λ t g. empty b (eqb-true _ _ t) ∙ ap joined g)
    (λ t₁ g₁. either (b ≡ joined f) _ _ _ _ g₁ (λ t g. absurd (subst Whole (sym g) w))
    (λ t₂ g₂. either (b ≡ joined f) _ _ _ _ g₂ (λ t g. absurd (subst Whole (sym g) w))
    (λ t₃ g₃.
    let m = be_at 2 b 0 in
    let d = drop 3 b in
    let r = drop (3 + m) b in
    let h₂ : 3 ≤ length b = ltb-false _ _ t₂ in
    let h₃ : m ≤ length b - 3 = ltb-false _ _ t₃ in
    let l = length-drop 3 b in
    let k : length (take m d) ≡ m = length-take-le m d (omega arith) in
    let ih : r ≡ joined (frames_of n r) = together n r (frames_of n r) (bytes_drop (3 + m) b y) refl (subst Whole (sym g₃) w).1 in
    headed b (length (take m d)) h₂ y k
    ∙ ap (λ (l : List ℕ). be_bytes 2 (length (take m d)) ++ (get_or b 2 0 ∷ l))
    (sym (take-append-drop m d) ∙ ap (λ (l : List ℕ). take m d ++ l) (drop-drop m 3 b ∙ ih))
    ∙ ap joined g₃)))
