-- An image in the making: what its first byte and the records so far come to. Its law (proofs/Drafts.antt): closing what all records come to
-- answers as `writing` says.
use Rattle.std.specs.Prelude.{List, [], ◌∷◌, ℕ, ◌+◌, length, ltb, eqb, Option, Some, None}
use Rattle.wire.specs.Pick.{pick}
use Rattle.image.specs.Limits.{image_limit, image_version, head_length, identity_kind, wrong_size, wrong_version, wrong_kind}
use Rattle.image.specs.Reading.{Result, number, found, unless, identity_in, identity_fault, end_fault}
use Rattle.image.specs.declared.Seen.{Seen}
use Rattle.image_records.specs.Records.{seen_first, held_of}
use Rattle.image_writer.specs.Writing.{Record, short_output}
use Rattle.image_writer.specs.declared.drafting.Draft.{Draft}

-- the first fault stays
abbrev pub and_then : {A B : Type 0} → Result A → (A → Result B) → Result B
and_then (number k) f = number k
and_then (found x) f = f x

-- the first byte alone
unfoldable pub opened_by : ℕ → Result Draft
opened_by first = pick (eqb first image_version) (found (record { seen = None; length = 1 })) (number wrong_version)

-- the image's length with a record more; past the limit it is not counted on
unfoldable pub longer : ℕ → List ℕ → ℕ
longer n body = pick (ltb image_limit n) n (n + (head_length + length body))

abbrev pub grown_to : Draft → List ℕ → Seen → Draft
grown_to d body w = record { seen = Some w; length = longer d.length body }

-- the first record is the identity
unfoldable pub first_held : ℕ → List ℕ → Result Seen
first_held kind body =
    pick (eqb kind identity_kind) (unless (identity_fault body) (found (seen_first (identity_in body))))
    (number wrong_kind)

-- what is seen past a record, or its fault
abbrev pub seen_past : Option Seen → ℕ → List ℕ → Result Seen
seen_past None kind body = first_held kind body
seen_past (Some w) kind body = held_of w kind body

abbrev pub added : Draft → Record → Result Draft
added d r = and_then (seen_past d.seen r.kind r.body) (λ (w : Seen). found (grown_to d r.body w))

-- all records, one after the other
abbrev pub added_all : Result Draft → List Record → Result Draft
added_all d [] = d
added_all d (r ∷ rs) = added_all (and_then d (λ (d : Draft). added d r)) rs

-- "at the end, a needed record missing"
abbrev pub missing : Option Seen → ℕ
missing None = wrong_kind
missing (Some w) = end_fault w

-- no record follows, and the output has that room
unfoldable pub closed : Draft → ℕ → Result ℕ
closed d room =
    unless (missing d.seen)
    (pick (ltb image_limit d.length) (number wrong_size)
    (pick (ltb room d.length) (number short_output)
    (found d.length)))

-- so of a draft that may have a fault
abbrev pub closed_all : Result Draft → ℕ → Result ℕ
closed_all d room = and_then d (λ (d : Draft). closed d room)
