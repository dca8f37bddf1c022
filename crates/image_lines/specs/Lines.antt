-- The bench's text: "lines of hex (either case, two digits a byte, no spaces) .. the first byte, then a record's kind and body in each".
use Rattle.std.specs.Prelude.{List, [], ◌∷◌, ◌++◌, map, ℕ, ◌+◌, ◌*◌, ◌-◌, length, ltb, leb, eqb, Option, Some, None}
use Rattle.wire.specs.Pick.{pick}
use Rattle.image.specs.Reading.{Result}
use Rattle.image_writer.specs.Writing.{Record, writing}

abbrev pub line_end : ℕ
line_end = 10

-- the lines of a text, of which the characters `line` have come; its last line may lack its line end
unfoldable pub lines_from : List ℕ → List ℕ → List (List ℕ)
lines_from line [] = pick (eqb (length line) 0) [] (line ∷ [])
lines_from line (x ∷ text) = pick (eqb x line_end) (line ∷ lines_from [] text) (lines_from (line ++ (x ∷ [])) text)

abbrev pub lines_of : List ℕ → List (List ℕ)
lines_of text = lines_from [] text

-- the value of a hex digit: 0 to 9, A to F, a to f; any other character has none
unfoldable pub digit_of : ℕ → Option ℕ
digit_of x =
    pick (ltb x 48) None
    (pick (leb x 57) (Some (x - 48))
    (pick (ltb x 65) None
    (pick (leb x 70) (Some (x - 55))
    (pick (ltb x 97) None
    (pick (leb x 102) (Some (x - 87)) None)))))

-- the byte of two digits, the high half first
abbrev pub byte_by : Option ℕ → Option ℕ → Option ℕ
byte_by (Some h) (Some l) = Some (h * 16 + l)
byte_by (Some h) None = None
byte_by None l = None

abbrev pub byte_of : ℕ → ℕ → Option ℕ
byte_of x y = byte_by (digit_of x) (digit_of y)

-- a line decoded: malformed is "an odd number of digits, any character that is no hex digit"
pub data Decoded : Type 0 where
  malformed : Decoded
  bytes : List ℕ → Decoded

abbrev pub before : Option ℕ → Decoded → Decoded
before None d = malformed
before (Some b) malformed = malformed
before (Some b) (bytes l) = bytes (b ∷ l)

unfoldable pub decoded : List ℕ → Decoded
decoded [] = bytes []
decoded (x ∷ []) = malformed
decoded (x ∷ y ∷ line) = before (byte_of x y) (decoded line)

-- a malformed line counts as one without bytes: both get the same number
abbrev pub bytes_of : Decoded → List ℕ
bytes_of malformed = []
bytes_of (bytes l) = l

-- "a malformed first line gets 2", so does one that is not one byte: 0 is no version
abbrev pub no_version : ℕ
no_version = 0

abbrev pub first_in : List ℕ → ℕ
first_in [] = no_version
first_in (b ∷ []) = b
first_in (b ∷ c ∷ l) = no_version

-- "another 4", so does one with no kind: 0 is no kind
abbrev pub no_kind : ℕ
no_kind = 0

abbrev pub record_in : List ℕ → Record
record_in [] = record { kind = no_kind; body = [] }
record_in (k ∷ body) = record { kind = k; body = body }

-- what the lines of a text ask for; a text without a line has no first byte
abbrev pub first_of : List (List ℕ) → ℕ
first_of [] = no_version
first_of (l ∷ ls) = first_in (bytes_of (decoded l))

abbrev pub records_of : List (List ℕ) → List Record
records_of [] = []
records_of (l ∷ ls) = map (λ (l : List ℕ). record_in (bytes_of (decoded l))) ls

-- the image that a text asks for, or the number
abbrev pub text_writing : List ℕ → Result (List ℕ)
text_writing text = writing (first_of (lines_of text)) (records_of (lines_of text))
