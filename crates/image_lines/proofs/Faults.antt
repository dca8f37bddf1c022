-- *faults* of the bench's text: texts with the image that each asks for, or its number, and what a refused line leaves, computed from the
-- definitions. Assumes nothing.
use mathlib.Core.Path.{◌≡◌, refl}
use mathlib.Core.List.{List, [], ◌∷◌, ◌++◌, map}
use Prim.Native.Nat.{ℕ, zero, suc}
use lib.ListN.{replicate}
use Rattle.std.specs.Prelude.{Option, Some, None}
use Rattle.wire.specs.Bytes.{splice}
use Rattle.wire.specs.Pick.{pick}
use Rattle.image.specs.Sizes.{digest_size}
use Rattle.image.specs.Contents.{record_bytes}
use Rattle.image.specs.Reading.{Result, number, found, unless, identity_fault, slot_wrong, chain_fault, measurement_fault, summary_fault}
use Rattle.image.specs.Reading.{record_fault, end_fault, extended, read_on, read_all}
use Rattle.image_writer.specs.Writing.{joined, sized, writing}
use Rattle.image_records.specs.Records.{held_of}
use Rattle.image_writer.specs.Draft.{opened_by, longer, first_held}
use Rattle.image_writer.specs.declared.drafting.Draft.{Draft}
use Rattle.image_lines.specs.Lines.{lines_from, digit_of, decoded, text_writing}
use Rattle.image_lines.specs.Taking.{line_room, taking_of, started, taken, taken_all}

-- n times the digits x and y
abbrev times : ℕ → ℕ → ℕ → List ℕ
times zero x y = []
times (suc n) x y = x ∷ y ∷ times n x y

-- "01", "010e0004" with e in either case, and the line of slot 0's chain of 37 bytes
abbrev first : List ℕ
first = 48 ∷ 49 ∷ []

abbrev identity : ℕ → List ℕ
identity e = 48 ∷ 49 ∷ 48 ∷ e ∷ 48 ∷ 48 ∷ 48 ∷ 52 ∷ []

abbrev chain : List ℕ
chain = 48 ∷ 50 ∷ 48 ∷ 48 ∷ (times 32 100 48 ++ (50 ∷ 53 ∷ 48 ∷ 48 ∷ times 35 67 48))

-- lines, each with its end
abbrev text : List (List ℕ) → List ℕ
text [] = []
text (l ∷ ls) = l ++ (10 ∷ text ls)

abbrev smallest : Result (List ℕ)
smallest =
    found (1 ∷ 0 ∷ 3 ∷ 1 ∷ 14 ∷ 0 ∷ 4 ∷ 0 ∷ 70 ∷ 2 ∷ 0 ∷ (replicate 32 0xD0 ++ (37 ∷ 0 ∷ replicate 35 0xC0)))

record Case : Type 0 where
  text : List ℕ
  told : Result (List ℕ)

abbrev by : List ℕ → Result (List ℕ) → Case
by t r = record { text = t; told = r }

-- "either case"; "its last line may lack its newline"; "a malformed first line gets 2", so does one that is not one byte; "another 4": a
-- space, a carriage return, a digit too few, no kind
abbrev cases : List Case
cases =
    by (text (first ∷ identity 101 ∷ chain ∷ [])) smallest ∷ by (text (first ∷ identity 69 ∷ []) ++ chain) smallest
    ∷ by [] (number 2) ∷ by (text ([] ∷ [])) (number 2) ∷ by (text ((48 ∷ []) ∷ identity 101 ∷ chain ∷ [])) (number 2)
    ∷ by (text ((48 ∷ 49 ∷ 48 ∷ 49 ∷ []) ∷ identity 101 ∷ chain ∷ [])) (number 2)
    ∷ by (text ((48 ∷ 49 ∷ 32 ∷ []) ∷ identity 101 ∷ chain ∷ [])) (number 2)
    ∷ by first (number 4) ∷ by (text (first ∷ [] ∷ identity 101 ∷ chain ∷ [])) (number 4)
    ∷ by (text (first ∷ (identity 101 ++ (32 ∷ [])) ∷ chain ∷ [])) (number 4)
    ∷ by (text (first ∷ (identity 101 ++ (13 ∷ [])) ∷ chain ∷ [])) (number 4)
    ∷ by (text (first ∷ (identity 101 ++ (48 ∷ [])) ∷ chain ∷ [])) (number 4)
    ∷ by (text (first ∷ identity 101 ∷ chain ∷ (48 ∷ []) ∷ [])) (number 4)
    ∷ by (text (first ∷ (identity 101 ++ (48 ∷ 48 ∷ [])) ∷ chain ∷ [])) (number 6)
    ∷ []

faults : map (λ (x : Case). text_writing x.text) cases ≡ map (λ (x : Case). x.told) cases
unfolding digest_size pick unless identity_fault slot_wrong chain_fault measurement_fault summary_fault record_fault end_fault extended
    read_on read_all record_bytes joined sized writing lines_from digit_of decoded
faults = refl

-- the first and last of 0 to 9, A to F, a to f, each with the characters beside them; room for a kind, 1+64+16,384 bytes and one more
digits :
    map digit_of (47 ∷ 48 ∷ 57 ∷ 58 ∷ 64 ∷ 65 ∷ 70 ∷ 71 ∷ 96 ∷ 97 ∷ 102 ∷ 103 ∷ [])
    ≡ None ∷ Some 0 ∷ Some 9 ∷ None ∷ None ∷ Some 10 ∷ Some 15 ∷ None ∷ None ∷ Some 10 ∷ Some 15 ∷ None ∷ []
unfolding digit_of pick
digits = refl

room : line_room ≡ 16451
room = refl

-- What lines have come to, the good part, and the buffer. A line refused for its kind, and the good one behind it, leave what was; so does a
-- malformed one, and a wrong first byte, which is put all the same, and counts.
record Left : Type 0 where
  come : Option (Result Draft)
  good : Draft
  image : List ℕ

abbrev left : List (List ℕ) → Left
left ls =
    let t = taken_all (taking_of started (replicate 8 0) (replicate 9 0)) (text ls) in
    record { come = t.draft; good = t.good; image = t.image }

-- the identity is seen, of SHA-256, and nothing behind it
abbrev identified : Draft
identified = record { seen = Some (record { size = 32; chains = 0; slot = 0; measurements = 0; index = 0; summaries = 0 }); length = 7 }

abbrev put : List ℕ
put = 1 ∷ 0 ∷ 3 ∷ 1 ∷ 14 ∷ 0 ∷ 4 ∷ 0 ∷ 0 ∷ []

good_part :
    map left ((first ∷ identity 101 ∷ (57 ∷ 57 ∷ []) ∷ identity 101 ∷ []) ∷ (first ∷ identity 101 ∷ (48 ∷ []) ∷ []) ∷ ((48 ∷ 50 ∷ []) ∷ identity 101 ∷ []) ∷ [])
    ≡ record { come = Some (number 4); good = identified; image = put }
    ∷ record { come = Some (number 4); good = identified; image = put }
    ∷ record { come = Some (number 2); good = record { seen = None; length = 1 }; image = 2 ∷ replicate 8 0 }
    ∷ []
unfolding digest_size pick unless identity_fault chain_fault measurement_fault summary_fault record_fault record_bytes splice held_of first_held
    opened_by longer digit_of taken
good_part = refl
