-- What the reader's own pieces answer: one record at a place, and what is carried past a good one. The promises do not rest on this file.
use Rattle.std.specs.Prelude.{Option, Some, None, List, ℕ, ◌+◌, ◌-◌, length, get_or, set, drop, ltb, leb, eqb}
use Rattle.wire.specs.Bytes.{be_at, part}
use Rattle.wire.specs.Pick.{pick}
use Rattle.image.specs.Limits.{head_length, identity_end, broken_record, wrong_kind, identity_kind, chain_kind, measurement_kind}
use Rattle.image.specs.Contents.{Contents}
use Rattle.image.specs.Reading.{Result, number, found, unless, Frames, frames_of, read_on}
use Rattle.image.specs.Reading.{identity_fault, identity_in, identified, end_fault}
use Rattle.image.specs.declared.Identity.{Identity}
use Rattle.image.specs.declared.Seen.{Seen}
use Rattle.image.specs.declared.Index.{Index}
use Rattle.image_records.specs.Records.{held_of}
use Rattle.image_reader.specs.declared.Frame.{Frame}
use Rattle.image_reader.specs.declared.Record.{Record}

-- the records from a place on
unfoldable pub frames_at : List ℕ → ℕ → Frames
frames_at b at = frames_of (length b - at) (drop at b)

-- the record at a place, as its kind and where its body starts and ends
unfoldable pub frame_at : List ℕ → ℕ → Result (Option Frame)
frame_at b at =
    pick (leb (length b) at) (found None)
    (pick (ltb (length b - at) head_length) (number broken_record)
    (pick (ltb (length b - at - head_length) (be_at 2 b at)) (number broken_record)
    (found (Some (record { kind = get_or b (at + 2) 0; start = at + head_length; end = at + head_length + be_at 2 b at })))))

-- a record's body
abbrev pub body_in : List ℕ → Frame → List ℕ
body_in b f = part b f.start (f.end - f.start)

-- a record at a place, held against those before it
abbrev pub held_record : Frame → Result Seen → Result (Option Record)
held_record f (number k) = number k
held_record f (found next) = found (Some (record { frame = f; next = next }))

unfoldable pub record_of : List ℕ → Seen → Result (Option Frame) → Result (Option Record)
record_of b w (number k) = number k
record_of b w (found None) = unless (end_fault w) (found None)
record_of b w (found (Some f)) = held_record f (held_of w f.kind (body_in b f))

-- what the image reads as, by the frame behind the version byte
abbrev pub first_read : List ℕ → Result (Option Frame) → Result Contents
first_read b (number k) = number k
first_read b (found None) = number wrong_kind
first_read b (found (Some f)) =
    pick (eqb f.kind identity_kind)
    (unless (identity_fault (body_in b f)) (read_on (identified (identity_in (body_in b f))) (frames_at b identity_end)))
    (number wrong_kind)

-- where the records stand: each chain's body by its slot, and the first measurement's
pub record Places : Type 0 where
  pub bodies : List ℕ
  pub first : ℕ

-- past a good record: a chain by its slot, and a measurement if w has seen none before it
abbrev pub bodies_after : List ℕ → ℕ → ℕ → ℕ → List ℕ
bodies_after bodies kind slot start = pick (eqb kind chain_kind) (set bodies slot start) bodies

abbrev pub first_after : ℕ → Seen → ℕ → ℕ → ℕ
first_after first w kind start = pick (eqb kind measurement_kind) (pick (eqb w.measurements 0) start first) first

abbrev pub places_after : Places → Seen → ℕ → ℕ → ℕ → Places
places_after p w kind slot start = record { bodies = bodies_after p.bodies kind slot start; first = first_after p.first w kind start }

abbrev pub index_from : Identity → Seen → Places → Index
index_from i w p = record {
  identity = i;
  chains = w.chains;
  measurements = w.measurements;
  places = p.bodies;
  first = p.first;
}
