-- What is kept of a line: its bytes, as many as the room holds, and none of a malformed line. Two digits make one byte, which is kept behind
-- those before it while there is room; a character that is no digit marks the line for good. Assumes nothing.
use mathlib.Core.Path.{◌≡◌, refl, sym, ap, ◌∙◌}
use mathlib.Core.Bool.{Bool, true, false}
use mathlib.Core.List.{List, [], ◌∷◌, ◌++◌, append-nil, append_assoc}
use Prim.Native.Nat.{ℕ, ◌+◌, ◌*◌, ◌≤◌, ◌<◌}
use native.Mathlib.Omega.{arith}
use native.Mathlib.Numerals.{add-one}
use Rattle.std.specs.Prelude.{Option, Some, None}
use lib.ListN.{length, take, set, length-set}
use lib.Seq.{length-take-le, take-nil, take_all, take-append-le, take-suc-set, set_out}
use lib.Dec.{ltb}
use borrow.Author.Tests.{ltb-true, ltb-false, lt-ltb}
use Rattle.wire.specs.Pick.{pick}
use Rattle.wire.proofs.Picks.{pick_case}
use Rattle.image_lines.specs.Lines.{digit_of, Decoded, malformed, bytes, decoded, before, bytes_of}
use Rattle.image_lines.specs.Taking.{no_line, high_in, line_by, line_after, room_by, room_after, line_bytes, begun}
use Rattle.image_lines.specs.declared.Line.{Line}

-- a line and its room past some characters
abbrev pub line_at : Line → List ℕ → List ℕ → Line
line_at l room [] = l
line_at l room (x ∷ cs) = line_at (line_after l (length room) x) (room_after l room x) cs

abbrev pub room_at : Line → List ℕ → List ℕ → List ℕ
room_at l room [] = room
room_at l room (x ∷ cs) = room_at (line_after l (length room) x) (room_after l room x) cs

-- one character more
pub line_more : (l : Line) (room cs : List ℕ) (x : ℕ) → line_at l room (cs ++ (x ∷ [])) ≡ line_after (line_at l room cs) (length (room_at l room cs)) x
line_more l room [] x = refl
line_more l room (y ∷ cs) x = line_more (line_after l (length room) y) (room_after l room y) cs x

pub room-more : (l : Line) (room cs : List ℕ) (x : ℕ) → room_at l room (cs ++ (x ∷ [])) ≡ room_after (line_at l room cs) (room_at l room cs) x
room-more l room [] x = refl
room-more l room (y ∷ cs) x = room-more (line_after l (length room) y) (room_after l room y) cs x

-- the room stays as long as it is
room-by-length : (l : Line) (room : List ℕ) (low high : Option ℕ) → length (room_by l room low high) ≡ length room
room-by-length l room None high = refl
room-by-length l room (Some low) None = refl
room-by-length l room (Some low) (Some high) = length-set room l.count (high * 16 + low)

room-after-length : (l : Line) (room : List ℕ) (x : ℕ) → length (room_after l room x) ≡ length room
room-after-length l room x = room-by-length l room (digit_of x) (high_in l.first)

pub room-length : (l : Line) (room cs : List ℕ) → length (room_at l room cs) ≡ length room
room-length l room [] = refl
room-length l room (x ∷ cs) = room-length (line_after l (length room) x) (room_after l room x) cs ∙ room-after-length l room x

-- a line that has begun: every character leaves a mark, a wrong one, a first digit or a byte
count-begun : (n room : ℕ) → 0 < room → ltb 0 (pick (ltb n room) (n + 1) n) ≡ true
count-begun n room h =
    pick_case (λ (k : ℕ). ltb 0 k ≡ true) (ltb n room) (n + 1) n
    (λ _. lt-ltb 0 (n + 1) (omega arith))
    (λ t. lt-ltb 0 n (omega (arith, ltb-false n room t)))

begun-after : (l : Line) (room x : ℕ) → 0 < room → begun (line_after l room x) ≡ true
unfolding pick
begun-after l room x h = by l.bad (digit_of x) (high_in l.first) refl
  where
    by : (bad : Bool) (low high : Option ℕ) → digit_of x ≡ low
        → begun (line_by (record { bad = bad; first = l.first; count = l.count }) room x low high) ≡ true
    by bad None high e = refl
    by true (Some low) None e = refl
    by false (Some low) None e = rw e
    by true (Some low) (Some high) e = refl
    by false (Some low) (Some high) e = count-begun l.count room h

pub line_begun : (l : Line) (room : List ℕ) (x : ℕ) (cs : List ℕ) → 0 < length room → begun (line_at l room (x ∷ cs)) ≡ true
line_begun l room x [] h = begun-after l (length room) x h
line_begun l room x (y ∷ cs) h =
    let e = room-after-length l room x in
    line_begun (line_after l (length room) x) (room_after l room x) y cs (omega arith)

-- a malformed line has no bytes, whatever follows
wrong_stays : (l : Line) (room x : ℕ) (low high : Option ℕ) → l.bad ≡ true → (line_by l room x low high).bad ≡ true
wrong_stays l room x None high h = refl
wrong_stays l room x (Some low) None h = h
wrong_stays l room x (Some low) (Some high) h = h

wrong_line : (l : Line) (room cs : List ℕ) → l.bad ≡ true → line_bytes (line_at l room cs) (room_at l room cs) ≡ []
unfolding pick
wrong_line l room [] h = rw h
wrong_line l room (x ∷ cs) h =
    wrong_line (line_after l (length room) x) (room_after l room x) cs (wrong_stays l (length room) x (digit_of x) (high_in l.first) h)

-- a line of n bytes, of which no digit is left over
abbrev whole : ℕ → Line
whole n = record { bad = false; first = None; count = n }

-- what is kept of bytes behind the first n of the room
kept : List ℕ → ℕ → Decoded → List ℕ
kept room n malformed = []
kept room n (bytes m) = take (length room) (take n room ++ m)

-- a line's bytes, past characters that follow those before them
abbrev line_from : Line → List ℕ → List ℕ → List ℕ
line_from l room cs = line_bytes (line_at l room cs) (room_at l room cs)

-- a digit alone is left over
single : (room : List ℕ) (n x : ℕ) (low : Option ℕ) → digit_of x ≡ low → line_from (whole n) room (x ∷ []) ≡ []
unfolding pick
single room n x None e = simp e
single room n x (Some low) e = simp e

-- the byte of two digits, then the characters behind it
module _ (room : List ℕ) (n x y : ℕ) (cs : List ℕ) (h : n ≤ length room)
    (rest : (room : List ℕ) (n : ℕ) → n ≤ length room → line_from (whole n) room cs ≡ kept room n (decoded cs)) where
  -- past the room a byte is lost
  room-full : (byte : ℕ) (d : Decoded) → length room ≤ n → kept room n d ≡ kept room n (before (Some byte) d)
  unfolding kept
  room-full byte malformed f = refl
  room-full byte (bytes m) f =
      let e : length room ≤ length (take n room) = omega (arith, ap length (take_all n room f)) in
      take-append-le (length room) (take n room) m e ∙ sym (take-append-le (length room) (take n room) (byte ∷ m) e)

  -- within it, it stands behind those before it
  room-left : (byte : ℕ) (d : Decoded) → n < length room → kept (set room n byte) (n + 1) d ≡ kept room n (before (Some byte) d)
  unfolding kept
  room-left byte malformed f = refl
  room-left byte (bytes m) f = rw (length-set room n byte, add-one n, take-suc-set room n byte f, append_assoc)

  pair : (high low : Option ℕ) (more : Bool) → digit_of x ≡ high → digit_of y ≡ low → ltb n (length room) ≡ more
      → line_from (whole n) room (x ∷ y ∷ cs) ≡ kept room n (decoded (x ∷ y ∷ cs))
  unfolding decoded kept pick
  pair None low more e f g = simp e (wrong_line (record { bad = true; first = None; count = n }) room (y ∷ cs) refl)
  pair (Some high) None more e f g = simp (e, f) (wrong_line (record { bad = true; first = Some x; count = n }) room cs refl)
  pair (Some high) (Some low) true e f g =
      let b : n < length room = ltb-true n (length room) g in
      simp (e, f, g) (rest (set room n (high * 16 + low)) (n + 1) (simp length-set (omega arith)) ∙ room-left (high * 16 + low) (decoded cs) b)
  pair (Some high) (Some low) false e f g =
      let b : length room ≤ n = ltb-false n (length room) g in
      simp (e, f, g, set_out room n (high * 16 + low) b) (rest room n h ∙ room-full (high * 16 + low) (decoded cs) b)

from-whole : (room : List ℕ) (n : ℕ) (cs : List ℕ) → n ≤ length room → line_from (whole n) room cs ≡ kept room n (decoded cs)
unfolding kept decoded pick
from-whole room n [] h = let e = length-take-le n room h in sym (rw append-nil (take_all (length room) (take n room) (omega arith)))
from-whole room n (x ∷ []) h = single room n x (digit_of x) refl
from-whole room n (x ∷ y ∷ cs) h =
    pair room n x y cs h (λ room n h. from-whole room n cs h) (digit_of x) (digit_of y) (ltb n (length room)) refl refl refl

at_start : (room : List ℕ) (d : Decoded) → kept room 0 d ≡ take (length room) (bytes_of d)
unfolding kept
at_start room malformed = sym (take-nil (length room))
at_start room (bytes m) = refl

-- a line that has ended has left its bytes, as many as there is room for
pub line_law : (room cs : List ℕ) → line_bytes (line_at no_line room cs) (room_at no_line room cs) ≡ take (length room) (bytes_of (decoded cs))
line_law room cs = from-whole room 0 cs (omega arith) ∙ at_start room (decoded cs)
