-- A text taken character by character, in the room of one line and one image. Its law (proofs/TextWritten.antt): whatever parts a text comes
-- in, its end answers as `text_writing` says.
use Rattle.std.specs.Prelude.{Bool, true, false, List, [], ◌∷◌, ℕ, ◌+◌, ◌*◌, length, take, set, ltb, eqb, Option, Some, None, Result as Answer}
use Rattle.wire.specs.Bytes.{splice}
use Rattle.wire.specs.Pick.{pick}
use Rattle.image.specs.Limits.{chain_limit}
use Rattle.image.specs.Sizes.{digest_most}
use Rattle.image.specs.Contents.{record_bytes}
use Rattle.image.specs.Reading.{Result, number, found}
use Rattle.image.specs.Fault.{told}
use Rattle.image.specs.declared.Fault.{Fault}
use Rattle.image_writer.specs.Draft.{and_then, opened_by, added, closed_all}
use Rattle.image_writer.specs.declared.drafting.Draft.{Draft}
use Rattle.image_lines.specs.Lines.{line_end, digit_of, no_version, first_in, record_in}
use Rattle.image_lines.specs.declared.Line.{Line}
use Rattle.image_lines.specs.declared.Text.{Text}

-- a kind, the longest body that a record may have, and one byte more: the bytes of a longer line past these are not kept
abbrev pub line_room : ℕ
line_room = 1 + (1 + digest_most + chain_limit) + 1

-- a line of which nothing has come
abbrev pub no_line : Line
no_line = record { bad = false; first = None; count = 0 }

-- the value of a byte's first digit, which waits for the second; a character that is no digit is none
abbrev pub high_in : Option ℕ → Option ℕ
high_in None = None
high_in (Some first) = digit_of first

-- A line, and the room that its bytes are kept in, past one more character, by its value and that of the digit that waits for it. A character
-- that is no digit makes the line bad for good; the digits behind it go on making bytes.
abbrev pub line_by : Line → ℕ → ℕ → Option ℕ → Option ℕ → Line
line_by l room x None high = record { bad = true; first = l.first; count = l.count }
line_by l room x (Some low) None = record { bad = l.bad; first = Some x; count = l.count }
line_by l room x (Some low) (Some high) = record { bad = l.bad; first = None; count = pick (ltb l.count room) (l.count + 1) l.count }

abbrev pub line_after : Line → ℕ → ℕ → Line
line_after l room x = line_by l room x (digit_of x) (high_in l.first)

abbrev pub room_by : Line → List ℕ → Option ℕ → Option ℕ → List ℕ
room_by l room None high = room
room_by l room (Some low) None = room
room_by l room (Some low) (Some high) = set room l.count (high * 16 + low)

abbrev pub room_after : Line → List ℕ → ℕ → List ℕ
room_after l room x = room_by l room (digit_of x) (high_in l.first)

-- the bytes of a line that has ended: none of a malformed one
abbrev pub whole_bytes : Option ℕ → List ℕ → List ℕ
whole_bytes None b = b
whole_bytes (Some high) b = []

abbrev pub line_bytes : Line → List ℕ → List ℕ
line_bytes l room = pick l.bad [] (whole_bytes (high_in l.first) (take l.count room))

-- whether a character of the line has come
abbrev pub some_begun : Option ℕ → ℕ → Bool
some_begun None n = ltb 0 n
some_begun (Some high) n = true

abbrev pub begun : Line → Bool
begun l = pick l.bad true (some_begun (high_in l.first) l.count)

-- what the lines that have ended come to, nothing before the first has
abbrev pub drafted : Option (Answer Draft Fault) → Option (Result Draft)
drafted None = None
drafted (Some a) = Some (told a)

-- a text without a line has no first byte
abbrev pub draft_of : Option (Result Draft) → Result Draft
draft_of None = opened_by no_version
draft_of (Some d) = d

-- the draft past a line's bytes: the first line has the first byte, each other a record
abbrev pub draft_after : Option (Result Draft) → List ℕ → Result Draft
draft_after None b = opened_by (first_in b)
draft_after (Some d) b = and_then d (λ (d : Draft). added d (record_in b))

-- what the lines before the first fault come to, past one more: a refused line adds nothing
abbrev pub good_after : Result Draft → Draft → Draft
good_after (number k) good = good
good_after (found d) good = d

-- the image past a line's bytes: a good record is put behind those before it
abbrev pub if_good : Result Draft → List ℕ → List ℕ → List ℕ
if_good (number k) put image = image
if_good (found d) put image = put

abbrev pub image_after : Option (Result Draft) → List ℕ → List ℕ → List ℕ
image_after None b image = splice image 0 (first_in b ∷ [])
image_after (Some (number k)) b image = image
image_after (Some (found d)) b image =
    if_good (added d (record_in b)) (splice image d.length (record_bytes (record_in b).kind (record_in b).body)) image

-- the state, and the two buffers that are lent with it
pub record Taking : Type 0 where
  pub draft : Option (Result Draft)
  pub good : Draft
  pub line : Line
  pub room : List ℕ
  pub image : List ℕ

abbrev pub taking_of : Text → List ℕ → List ℕ → Taking
taking_of t room image = record { draft = drafted t.draft; good = t.good; line = t.line; room = room; image = image }

-- the first byte alone, a wrong one too
abbrev pub no_record : Draft
no_record = record { seen = None; length = 1 }

-- before the first character
abbrev pub started : Text
started = record { draft = None; good = no_record; line = no_line }

abbrev pub char_taken : Taking → ℕ → Taking
char_taken t x = record {
  draft = t.draft;
  good = t.good;
  line = line_after t.line (length t.room) x;
  room = room_after t.line t.room x;
  image = t.image;
}

abbrev pub line_taken : Taking → Taking
line_taken t = record {
  draft = Some (draft_after t.draft (line_bytes t.line t.room));
  good = good_after (draft_after t.draft (line_bytes t.line t.room)) t.good;
  line = no_line;
  room = t.room;
  image = image_after t.draft (line_bytes t.line t.room) t.image;
}

unfoldable pub taken : Taking → ℕ → Taking
taken t x = pick (eqb x line_end) (line_taken t) (char_taken t x)

abbrev pub taken_all : Taking → List ℕ → Taking
taken_all t [] = t
taken_all t (x ∷ text) = taken_all (taken t x) text

-- the text has ended: a last line may lack its line end
unfoldable pub ended : Taking → Taking
ended t = pick (begun t.line) (line_taken t) t

abbrev pub answered : Taking → Result ℕ
answered t = closed_all (draft_of (ended t).draft) (length t.image)
