-- The index that the reader hands out, and what each lookup answers of an image and an index, whatever they are.
use Rattle.std.specs.Prelude.{Option, Some, None, List, [], ◌∷◌, ◌++◌, ℕ, zero, suc, ◌+◌, ◌*◌, length, get_or, set, replicate, ltb, eqb}
use Rattle.wire.specs.Bytes.{le_at, part}
use Rattle.wire.specs.Pick.{pick}
use Rattle.image.specs.Limits.{head_length, slot_length, label_length, slot_count, slot_limit, index_limit, chain_kind}
use Rattle.image.specs.Sizes.{digest_size}
use Rattle.image.specs.Contents.{Chain, Measurement, Contents, chain_body, records_bytes, identity_bytes}
use Rattle.image.specs.Reading.{Result, number, found}
use Rattle.image.specs.declared.Index.{Index}
use Rattle.image.specs.declared.SlotNumber.{SlotNumber}
use Rattle.image.specs.declared.MeasurementIndex.{MeasurementIndex}

-- a slot number is 0–7, a measurement index 1–239
unfoldable pub slot_number_of : ℕ → Option SlotNumber
slot_number_of b = pick (ltb slot_limit b) None (Some (record { 0 = b }))

unfoldable pub measurement_index_of : ℕ → Option MeasurementIndex
measurement_index_of b = pick (eqb b 0) None (pick (ltb index_limit b) None (Some (record { 0 = b })))

-- where the body of each slot's record starts, 0 of a slot that is not filled; the records start at a place
abbrev pub no_places : List ℕ
no_places = replicate slot_count 0

unfoldable pub places_of : ℕ → List Chain → List ℕ → List ℕ
places_of start [] t = t
places_of start (x ∷ xs) t = places_of (start + head_length + length (chain_body x)) xs (set t x.slot (start + head_length))

-- where the body of the first measurement starts, 0 where there is none
unfoldable pub first_of : ℕ → List Measurement → ℕ
first_of start [] = 0
first_of start (m ∷ ms) = start + head_length

-- where the chain records end
abbrev pub chains_end : Contents → ℕ
chains_end c = length (identity_bytes c ++ records_bytes chain_kind chain_body c.chains)

abbrev pub index_of : Contents → Index
index_of c = record {
  identity = c.identity;
  chains = length c.chains;
  measurements = length c.measurements;
  places = places_of (length (identity_bytes c)) c.chains no_places;
  first = first_of (chains_end c) c.measurements;
}

-- the reader's answer: the paper's number, or the index of what was found
unfoldable pub answer_of : Result Contents → Result Index
answer_of (number k) = number k
answer_of (found c) = found (index_of c)

-- lookups by slot

abbrev pub size_in : Index → ℕ
size_in ix = digest_size ix.identity.hash

unfoldable pub place_in : Index → ℕ → ℕ
place_in ix k = pick (ltb k slot_count) (get_or ix.places k 0) 0

unfoldable pub digest_at : List ℕ → Index → ℕ → List ℕ
digest_at b ix k = pick (eqb (place_in ix k) 0) [] (part b (place_in ix k + slot_length) (size_in ix))

unfoldable pub chain_length_at : List ℕ → Index → ℕ → ℕ
chain_length_at b ix k = pick (eqb (place_in ix k) 0) 0 (le_at 2 b (place_in ix k + (slot_length + size_in ix)))

unfoldable pub chain_part_at : List ℕ → Index → ℕ → ℕ → ℕ → List ℕ
chain_part_at b ix k offset len = part (part b (place_in ix k + (slot_length + size_in ix)) (chain_length_at b ix k)) offset len

-- the bits of the filled places, the first of them worth w
unfoldable pub mask_from : ℕ → List ℕ → ℕ
mask_from w [] = 0
mask_from w (p ∷ ps) = pick (eqb p 0) 0 w + mask_from (w + w) ps

abbrev pub mask_at : Index → ℕ
mask_at ix = mask_from 1 ix.places

-- lookups of measurements: they stand one behind the other, and the summary behind the last

abbrev pub body_length : Index → ℕ
body_length ix = label_length + size_in ix

unfoldable pub body_place : Index → ℕ → ℕ
body_place ix k = ix.first + k * (head_length + body_length ix)

unfoldable pub nth_at : List ℕ → Index → ℕ → List ℕ
nth_at b ix k = pick (ltb k ix.measurements) (part b (body_place ix k) (body_length ix)) []

-- the first of the n measurements from the k-th on whose index is i
unfoldable pub search_from : List ℕ → Index → ℕ → ℕ → ℕ → List ℕ
search_from b ix i k zero = []
search_from b ix i k (suc n) = pick (eqb (get_or (nth_at b ix k) 0 0) i) (nth_at b ix k) (search_from b ix i (k + 1) n)

abbrev pub measurement_at : List ℕ → Index → ℕ → List ℕ
measurement_at b ix i = search_from b ix i 0 ix.measurements

-- which: 0 the summary of the TCB, 1 of all
unfoldable pub summary_at : List ℕ → Index → ℕ → List ℕ
summary_at b ix which = pick (eqb ix.measurements 0) [] (part b (body_place ix ix.measurements + which * size_in ix) (size_in ix))
