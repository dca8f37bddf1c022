-- What the reader says of an image: the number of its first fault, or what it holds.
use Rattle.std.specs.Prelude.{Bool, List, [], ◌∷◌, ◌++◌, ℕ, zero, suc, ◌+◌, ◌-◌, length, get_or, take, drop, ltb, leb, eqb}
use Rattle.wire.specs.Bytes.{le_at, be_at, part}
use Rattle.wire.specs.Pick.{pick}
use Rattle.image.specs.Limits.{image_limit, image_version, head_length, identity_kind, chain_kind, measurement_kind, summary_kind}
use Rattle.image.specs.Limits.{identity_length, exponent_limit, hash_limit, signature_limit, slot_length, slot_limit, chains_limit}
use Rattle.image.specs.Limits.{chain_least, chain_limit, index_limit, label_length, type_limit, measurements_limit, wrong_size}
use Rattle.image.specs.Limits.{wrong_version, broken_record, wrong_kind, too_many, wrong_length, wrong_field, wrong_own_length}
use Rattle.image.specs.Sizes.{digest_size}
use Rattle.image.specs.Contents.{Chain, Measurement, Summary, Contents, slots, indices}
use Rattle.image.specs.declared.Identity.{Identity}
use Rattle.image.specs.declared.Seen.{Seen}

-- a number that the host sees, or what was found
pub data Result (A : Type 0) : Type 0 where
  number : ℕ → Result A
  found : A → Result A

-- a fault's number, or, where there is none (0), what follows
unfoldable pub unless : {A : Type 0} → ℕ → Result A → Result A
unless k r = pick (eqb k 0) r (number k)

-- Bytes taken apart into records: "1 or 2 bytes left for a record head, or body runs past the end" breaks off, "0 bytes left is the end".
pub data Frames : Type 0 where
  ended : Frames
  broken : Frames
  frame : ℕ → List ℕ → Frames → Frames

-- n bounds the number of records: the number of bytes is always enough
unfoldable pub frames_of : ℕ → List ℕ → Frames
frames_of zero b = pick (eqb (length b) 0) ended broken
frames_of (suc n) b =
    pick (eqb (length b) 0) ended
    (pick (ltb (length b) head_length) broken
    (pick (ltb (length b - head_length) (be_at 2 b 0)) broken
    (frame (get_or b 2 0) (part b head_length (be_at 2 b 0)) (frames_of n (drop (head_length + be_at 2 b 0) b)))))

-- the last of some numbers, 0 of none
abbrev pub last_from : ℕ → List ℕ → ℕ
last_from d [] = d
last_from d (x ∷ xs) = last_from x xs

abbrev pub last_of : List ℕ → ℕ
last_of xs = last_from 0 xs

-- what the tests of a record need of the records before it
abbrev pub seen : Contents → Seen
seen c = record {
  size = digest_size c.identity.hash;
  chains = length c.chains;
  slot = last_of (slots c.chains);
  measurements = length c.measurements;
  index = last_of (indices c.measurements);
  summaries = length c.summaries;
}

-- the fields of an identity record's body
abbrev pub identity_in : List ℕ → Identity
identity_in body = record { exponent = get_or body 0 0; hash = get_or body 1 0; signature = get_or body 2 0 }

-- The faults of a record, in numeric order: the number of the first, 0 where there is none.

abbrev pub field_fault : Identity → ℕ
field_fault i =
    pick (ltb exponent_limit i.exponent) wrong_field
    (pick (ltb hash_limit i.hash) wrong_field
    (pick (ltb signature_limit i.signature) wrong_field 0))

unfoldable pub identity_fault : List ℕ → ℕ
identity_fault body = pick (eqb (length body) identity_length) (field_fault (identity_in body)) wrong_length

-- "slot or index not rising, first slot not 0"
unfoldable pub slot_wrong : ℕ → ℕ → ℕ → Bool
slot_wrong chains last slot = pick (eqb chains 0) (ltb 0 slot) (leb slot last)

unfoldable pub chain_fault : Seen → List ℕ → ℕ
chain_fault w body =
    pick (ltb 0 w.measurements) wrong_kind
    (pick (leb chains_limit w.chains) too_many
    (pick (ltb (length body) (slot_length + w.size + chain_least w.size)) wrong_length
    (pick (ltb (slot_length + w.size + chain_limit) (length body)) wrong_length
    (pick (ltb slot_limit (get_or body 0 0)) wrong_field
    (pick (slot_wrong w.chains w.slot (get_or body 0 0)) wrong_field
    (pick (eqb (le_at 2 body (slot_length + w.size)) (length body - (slot_length + w.size))) 0 wrong_own_length))))))

unfoldable pub measurement_fault : Seen → List ℕ → ℕ
measurement_fault w body =
    pick (eqb w.chains 0) wrong_kind
    (pick (ltb 0 w.summaries) wrong_kind
    (pick (leb measurements_limit w.measurements) too_many
    (pick (eqb (length body) (label_length + w.size))
    (pick (leb (get_or body 0 0) w.index) wrong_field
    (pick (ltb index_limit (get_or body 0 0)) wrong_field
    (pick (ltb type_limit (get_or body 1 0)) wrong_field 0)))
    wrong_length)))

unfoldable pub summary_fault : Seen → List ℕ → ℕ
summary_fault w body =
    pick (eqb w.measurements 0) wrong_kind
    (pick (ltb 0 w.summaries) wrong_kind
    (pick (eqb (length body) (w.size + w.size)) 0 wrong_length))

-- "kind unknown or out of sequence": a second identity record is out of sequence too
unfoldable pub record_fault : Seen → ℕ → List ℕ → ℕ
record_fault w kind body =
    pick (eqb kind chain_kind) (chain_fault w body)
    (pick (eqb kind measurement_kind) (measurement_fault w body)
    (pick (eqb kind summary_kind) (summary_fault w body)
    wrong_kind))

-- "at the end, a needed record missing"
unfoldable pub end_fault : Seen → ℕ
end_fault w =
    pick (eqb w.chains 0) wrong_kind
    (pick (eqb w.measurements 0) 0
    (pick (eqb w.summaries 0) wrong_kind 0))

-- what a good record adds to the contents

abbrev pub chain_in : ℕ → List ℕ → Chain
chain_in h body = record { slot = get_or body 0 0; digest = part body slot_length h; bytes = drop (slot_length + h) body }

abbrev pub measurement_in : List ℕ → Measurement
measurement_in body = record { index = get_or body 0 0; type = get_or body 1 0; digest = drop label_length body }

abbrev pub summary_in : ℕ → List ℕ → Summary
summary_in h body = record { tcb = take h body; all = drop h body }

-- contents of which only the identity was read
abbrev pub identified : Identity → Contents
identified i = record { identity = i; chains = []; measurements = []; summaries = [] }

abbrev pub add_chain : Contents → Chain → Contents
add_chain c x = record {
  identity = c.identity;
  chains = c.chains ++ (x ∷ []);
  measurements = c.measurements;
  summaries = c.summaries;
}

abbrev pub add_measurement : Contents → Measurement → Contents
add_measurement c m = record {
  identity = c.identity;
  chains = c.chains;
  measurements = c.measurements ++ (m ∷ []);
  summaries = c.summaries;
}

abbrev pub add_summary : Contents → Summary → Contents
add_summary c s = record {
  identity = c.identity;
  chains = c.chains;
  measurements = c.measurements;
  summaries = c.summaries ++ (s ∷ []);
}

unfoldable pub extended : Contents → ℕ → List ℕ → Contents
extended c kind body =
    pick (eqb kind chain_kind) (add_chain c (chain_in (digest_size c.identity.hash) body))
    (pick (eqb kind measurement_kind) (add_measurement c (measurement_in body))
    (add_summary c (summary_in (digest_size c.identity.hash) body)))

-- "The walk over records stops at the first fault": what is read of the records that follow those of c
unfoldable pub read_on : Contents → Frames → Result Contents
read_on c ended = unless (end_fault (seen c)) (found c)
read_on c broken = number broken_record
read_on c (frame kind body rest) = unless (record_fault (seen c) kind body) (read_on (extended c kind body) rest)

-- the first record is the identity
unfoldable pub read_all : Frames → Result Contents
read_all ended = number wrong_kind
read_all broken = number broken_record
read_all (frame kind body rest) =
    pick (eqb kind identity_kind) (unless (identity_fault body) (read_on (identified (identity_in body)) rest))
    (number wrong_kind)

unfoldable pub reading : List ℕ → Result Contents
reading b =
    pick (eqb (length b) 0) (number wrong_size)
    (pick (ltb image_limit (length b)) (number wrong_size)
    (pick (eqb (get_or b 0 0) image_version) (read_all (frames_of (length b) (drop 1 b)))
    (number wrong_version)))
