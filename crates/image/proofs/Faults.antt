-- *faults*: small images, damaged in one way or in two, with the number of each; good images, with what is found in each and what every
-- lookup gives. All is computed from the definitions, on images that are laid out here, byte by byte. Where two faults meet in a record,
-- the number tells their order; "Faults are tested record by record": a later record's fault of a lower number does not count. Assumes
-- nothing.
use mathlib.Core.Path.{◌≡◌, refl}
use mathlib.Core.List.{List, [], ◌∷◌, ◌++◌, map}
use Prim.Native.Nat.{ℕ, zero, suc, ◌+◌, ◌-◌, ◌/◌, ◌%◌}
use lib.ListN.{length, replicate, take}
use Rattle.wire.specs.Pick.{pick}
use Rattle.image.specs.Limits.{identity_end}
use Rattle.image.specs.Sizes.{digest_size, signature_size, digest_most, signature_most}
use Rattle.image.specs.Contents.{Chain, Measurement, Summary, Contents, record_bytes, records_bytes, identity_bytes}
use Rattle.image.specs.Reading.{Result, number, found, unless, frames_of, identity_fault, slot_wrong, chain_fault, measurement_fault}
use Rattle.image.specs.Reading.{summary_fault, record_fault, end_fault, extended, identity_in, read_on, read_all, reading}
use Rattle.image.specs.Held.{chain_for, slot_digest, slot_chain, mask_of, slot_mask, nth_measurement, measurement_for, measurement_of}
use Rattle.image.specs.Held.{tcb_summary, full_summary}
use Rattle.image.specs.Index.{places_of, first_of, answer_of, place_in, digest_at, chain_length_at, chain_part_at, mask_from, mask_at}
use Rattle.image.specs.Index.{body_place, nth_at, search_from, measurement_at, summary_at}
use Rattle.image.specs.declared.Index.{Index}

-- "records, each: body length (2 bytes), kind (1), body"; "The image is big-endian"
abbrev laid : ℕ → List ℕ → List ℕ
laid kind body = length body / 256 ∷ length body % 256 ∷ kind ∷ body

abbrev identity : ℕ → ℕ → ℕ → List ℕ
identity e h s = laid 1 (e ∷ h ∷ s ∷ [])

-- a chain of n bytes that says it has `own`, behind its slot and a digest of 32 bytes
abbrev saying : ℕ → ℕ → ℕ → List ℕ
saying slot n own = laid 2 (slot ∷ (replicate 32 0xD0 ++ (own % 256 ∷ own / 256 ∷ replicate (n - 2) 0xCC)))

abbrev chain : ℕ → ℕ → List ℕ
chain slot n = saying slot n n

-- a measurement whose digest has n bytes; a summary of n bytes
abbrev measurement : ℕ → ℕ → ℕ → List ℕ
measurement i t n = laid 3 (i ∷ t ∷ replicate n 0xA0)

abbrev summary : ℕ → List ℕ
summary n = laid 4 (replicate n 0xFA)

-- n chains of the slots from k on; n measurements of the indices from k on
abbrev chains : ℕ → ℕ → List ℕ
chains k zero = []
chains k (suc n) = chain k 37 ++ chains (k + 1) n

abbrev measurements : ℕ → ℕ → List ℕ
measurements k zero = []
measurements k (suc n) = measurement k 1 32 ++ measurements (k + 1) n

-- an image that goes on behind the identity (CTExponent 14, SHA-256, P-256), behind slot 0's chain, behind a measurement, behind a summary
abbrev behind : List ℕ → List ℕ
behind b = 1 ∷ (identity 14 0 4 ++ b)

abbrev behind_chain : List ℕ → List ℕ
behind_chain b = behind (chain 0 37 ++ b)

abbrev behind_measurement : List ℕ → List ℕ
behind_measurement b = behind_chain (measurement 7 1 32 ++ b)

abbrev behind_summary : List ℕ → List ℕ
behind_summary b = behind_measurement (summary 64 ++ b)

abbrev none : List ℕ
none = []

-- "image empty or over" 61,440; 1 before 2
abbrev ones : List (List ℕ)
ones = none ∷ replicate 61441 0 ∷ replicate 61441 1 ∷ []

-- "byte 0 is not 1"; 2 before 3: a head is broken off too; an image of the limit is not too long
abbrev twos : List (List ℕ)
twos = (0 ∷ none) ∷ (2 ∷ (identity 14 0 4 ++ chain 0 37)) ∷ (255 ∷ none) ∷ (0 ∷ 1 ∷ none) ∷ replicate 61440 0 ∷ []

-- "1 or 2 bytes left for a record head, or body runs past the end"; 3 before 4: a kind unknown or out of sequence whose body does, a head
-- broken off where a summary is missing
abbrev threes : List (List ℕ)
threes =
    (1 ∷ 0 ∷ none) ∷ (1 ∷ 0 ∷ 3 ∷ none) ∷ (1 ∷ 0 ∷ 3 ∷ 1 ∷ 14 ∷ 0 ∷ none)
    ∷ (1 ∷ 1 ∷ 0 ∷ 1 ∷ 14 ∷ 0 ∷ 4 ∷ none) ∷ take 79 (behind_chain none) ∷ take 46 (behind (chain 0 37))
    ∷ behind_chain (0 ∷ none) ∷ behind_chain (0 ∷ 0 ∷ none)
    ∷ (1 ∷ 0 ∷ 1 ∷ 9 ∷ none) ∷ behind_chain (0 ∷ 1 ∷ 9 ∷ none) ∷ behind_chain (0 ∷ 64 ∷ 4 ∷ none)
    ∷ behind_measurement (0 ∷ none) ∷ []

-- "kind unknown or out of sequence": the first record, one behind the identity, behind a chain, behind a measurement, behind the summary
abbrev fours : List (List ℕ)
fours =
    (1 ∷ chain 0 37) ∷ (1 ∷ laid 0 (14 ∷ 0 ∷ 4 ∷ none)) ∷ (1 ∷ laid 9 none)
    ∷ behind (identity 14 0 4) ∷ behind (measurement 7 1 32) ∷ behind (summary 64) ∷ behind (laid 0 none) ∷ behind (laid 5 none)
    ∷ behind_chain (identity 14 0 4) ∷ behind_chain (summary 64) ∷ behind_chain (laid 5 none)
    ∷ behind_measurement (chain 1 37) ∷ behind_measurement (identity 14 0 4) ∷ behind_measurement (laid 255 none)
    ∷ behind_summary (summary 64) ∷ behind_summary (measurement 8 1 32) ∷ behind_summary (chain 1 37) ∷ behind_summary (laid 5 none)
    ∷ []

-- "or, at the end, a needed record missing"
abbrev missing : List (List ℕ)
missing = (1 ∷ none) ∷ behind none ∷ behind_measurement none ∷ behind_chain (measurements 1 32) ∷ []

-- 4 before 5: a 9th chain behind a measurement, a 33rd measurement behind the summary; 4 before 6, 7 and 8, and before a later 3
abbrev fours_first : List (List ℕ)
fours_first =
    behind (chains 0 8 ++ (measurement 1 1 32 ++ chain 7 37)) ∷ behind_chain (measurements 1 32 ++ (summary 64 ++ measurement 33 1 32))
    ∷ (1 ∷ laid 2 none) ∷ behind_chain (laid 1 none) ∷ behind_measurement (chain 1 36) ∷ behind (measurement 7 1 31)
    ∷ behind_summary (measurement 8 1 31) ∷ behind_chain (summary 63) ∷ behind_summary (summary 63)
    ∷ (1 ∷ laid 3 (32 ∷ 6 ∷ 9 ∷ none)) ∷ behind_chain (identity 32 6 9) ∷ behind_measurement (chain 0 37)
    ∷ behind (measurement 0 4 32) ∷ behind_summary (measurement 7 4 32) ∷ behind_measurement (saying 1 37 38)
    ∷ (1 ∷ (laid 9 none ++ (0 ∷ none))) ∷ behind_chain (laid 9 none ++ (0 ∷ none))
    ∷ []

-- "a 9th chain or 33rd measurement"; 5 before 6, 7 and 8, and before a later 3 or 4
abbrev fives : List (List ℕ)
fives =
    behind (chains 0 8 ++ chain 8 37) ∷ behind_chain (measurements 1 32 ++ measurement 33 1 32)
    ∷ behind (chains 0 8 ++ chain 8 36) ∷ behind (chains 0 8 ++ chain 8 16385) ∷ behind_chain (measurements 1 32 ++ measurement 33 1 31)
    ∷ behind (chains 0 8 ++ chain 0 37) ∷ behind_chain (measurements 1 32 ++ measurement 0 4 32)
    ∷ behind (chains 0 8 ++ saying 7 37 38) ∷ behind (chains 0 8 ++ (chain 8 37 ++ (0 ∷ none)))
    ∷ behind_chain (measurements 1 32 ++ (measurement 33 1 32 ++ chain 1 37))
    ∷ []

-- "body length wrong (chain length included)"
abbrev sixes : List (List ℕ)
sixes =
    (1 ∷ laid 1 none) ∷ (1 ∷ laid 1 (14 ∷ 0 ∷ none)) ∷ (1 ∷ laid 1 (14 ∷ 0 ∷ 4 ∷ 0 ∷ none))
    ∷ behind (laid 2 none) ∷ behind (laid 2 (0 ∷ none)) ∷ behind (chain 0 36) ∷ behind (chain 0 16385) ∷ behind_chain (chain 1 36)
    ∷ behind_chain (laid 3 none) ∷ behind_chain (measurement 7 1 31) ∷ behind_chain (measurement 7 1 33)
    ∷ behind_measurement (measurement 8 1 31) ∷ behind_measurement (laid 4 none) ∷ behind_measurement (summary 32)
    ∷ behind_measurement (summary 63) ∷ behind_measurement (summary 65)
    ∷ []

-- 6 before 7 and 8: a field is out of range, a slot or index does not rise, the first slot is not 0, or the chain's own length differs; and
-- before a later 3, 4 or 5
abbrev sixes_first : List (List ℕ)
sixes_first =
    (1 ∷ laid 1 (32 ∷ 0 ∷ none)) ∷ (1 ∷ laid 1 (14 ∷ 6 ∷ 4 ∷ 0 ∷ none)) ∷ (1 ∷ laid 1 (14 ∷ 0 ∷ 9 ∷ 0 ∷ none))
    ∷ behind (chain 9 36) ∷ behind (chain 9 16385) ∷ behind (chain 1 36) ∷ behind (chain 1 16385)
    ∷ behind_chain (chain 9 16385) ∷ behind_chain (chain 0 36) ∷ behind_chain (chain 0 16385)
    ∷ behind (saying 0 36 37) ∷ behind (saying 0 16385 16384)
    ∷ behind_chain (measurement 0 1 31) ∷ behind_chain (measurement 240 1 33) ∷ behind_chain (measurement 7 4 31)
    ∷ behind_measurement (measurement 7 1 33) ∷ (1 ∷ (laid 1 none ++ (0 ∷ none))) ∷ behind_measurement (summary 63 ++ chain 1 37)
    ∷ behind (chains 0 7 ++ (chain 7 36 ++ (chain 7 37 ++ chain 7 37)))
    ∷ []

-- "a field out of range, slot or index not rising, first slot not 0"
abbrev sevens : List (List ℕ)
sevens =
    (1 ∷ identity 32 0 4) ∷ (1 ∷ identity 255 0 4) ∷ (1 ∷ identity 14 6 4) ∷ (1 ∷ identity 14 255 4)
    ∷ (1 ∷ identity 14 0 9) ∷ (1 ∷ identity 14 0 255) ∷ behind (chain 8 37) ∷ behind_chain (chain 8 37)
    ∷ behind_chain (chain 255 37) ∷ behind_chain (chain 0 37) ∷ behind_chain (chain 2 37 ++ chain 1 37)
    ∷ behind_chain (chain 7 37 ++ chain 7 37) ∷ behind (chain 1 37) ∷ behind (chain 7 37)
    ∷ behind_chain (measurement 0 1 32) ∷ behind_chain (measurement 240 1 32) ∷ behind_chain (measurement 255 1 32)
    ∷ behind_measurement (measurement 7 1 32) ∷ behind_measurement (measurement 6 1 32) ∷ behind_measurement (measurement 240 1 32)
    ∷ behind_chain (measurement 7 4 32) ∷ behind_measurement (measurement 8 255 32)
    ∷ []

-- 7 before 8: the chain's own length differs too; and before a later 3, 4, 5 or 6
abbrev sevens_first : List (List ℕ)
sevens_first =
    behind (saying 8 37 38) ∷ behind (saying 1 37 38) ∷ behind_chain (saying 8 37 38) ∷ behind_chain (saying 0 37 38)
    ∷ (1 ∷ (identity 32 0 4 ++ (0 ∷ none))) ∷ (1 ∷ (identity 14 6 4 ++ laid 9 none)) ∷ behind (chain 1 37 ++ chain 2 36)
    ∷ behind_measurement (measurement 5 1 32 ++ chain 1 37) ∷ behind (chains 0 7 ++ (chain 6 37 ++ (chain 7 37 ++ chain 7 37)))
    ∷ []

-- "chain's own length field differs": less, more, in its high byte, big-endian; and before a later 3, 4, 6 or 7
abbrev eights : List (List ℕ)
eights =
    behind (saying 0 37 36) ∷ behind (saying 0 37 38) ∷ behind (saying 0 37 293) ∷ behind (saying 0 37 9472)
    ∷ behind (saying 0 300 44) ∷ behind (saying 0 16384 16383) ∷ behind_chain (saying 1 38 37)
    ∷ behind (saying 0 37 38 ++ (0 ∷ none)) ∷ behind (saying 0 37 38 ++ laid 9 none)
    ∷ behind (saying 0 37 38 ++ chain 1 36) ∷ behind (saying 0 37 38 ++ chain 0 37)
    ∷ []

-- an image, and what reading it gives
record Case : Type 0 where
  image : List ℕ
  read : Result Contents

abbrev refusing : ℕ → List (List ℕ) → List Case
refusing k bs = map (λ (b : List ℕ). record { image = b; read = number k }) bs

-- Good images: contents, and the image laid out of them. Each digest has bytes of its own.

abbrev a_chain : ℕ → ℕ → ℕ → Chain
a_chain h slot n = record {
  slot = slot;
  digest = replicate h (0xD0 + slot);
  bytes = n % 256 ∷ n / 256 ∷ replicate (n - 2) (0xC0 + slot);
}

abbrev a_measurement : ℕ → ℕ → ℕ → Measurement
a_measurement h i t = record { index = i; type = t; digest = replicate h (0xFF - i) }

abbrev a_summary : ℕ → Summary
a_summary h = record { tcb = replicate h 0x7C; all = replicate h 0xFA }

abbrev joined : {A : Type 0} → (A → List ℕ) → List A → List ℕ
joined f [] = []
joined f (x ∷ xs) = f x ++ joined f xs

abbrev image : Contents → List ℕ
image c =
    1 ∷ (identity c.identity.exponent c.identity.hash c.identity.signature
    ++ (joined (λ (x : Chain). laid 2 (x.slot ∷ (x.digest ++ x.bytes))) c.chains
    ++ (joined (λ (m : Measurement). laid 3 (m.index ∷ m.type ∷ m.digest)) c.measurements
    ++ joined (λ (s : Summary). laid 4 (s.tcb ++ s.all)) c.summaries)))

-- a box with nothing but a chain of 5+H bytes
abbrev least : ℕ → ℕ → ℕ → ℕ → Contents
least e hash h s = record {
  identity = record { exponent = e; hash = hash; signature = s };
  chains = a_chain h 0 (5 + h) ∷ [];
  measurements = [];
  summaries = [];
}

-- every hash number with its H, every signature number, CTExponent 0 and 31
abbrev leasts : List Contents
leasts =
    least 0 0 32 0 ∷ least 31 1 48 1 ∷ least 14 2 64 2 ∷ least 14 3 32 3 ∷ least 14 4 48 4 ∷ least 14 5 64 5
    ∷ least 1 0 32 6 ∷ least 30 1 48 7 ∷ least 14 2 64 8 ∷ []

-- some slots, some measurements
abbrev some : Contents
some = record {
  identity = record { exponent = 20; hash = 1; signature = 7 };
  chains = a_chain 48 0 53 ∷ a_chain 48 3 300 ∷ a_chain 48 7 54 ∷ [];
  measurements = a_measurement 48 1 0 ∷ a_measurement 48 9 3 ∷ a_measurement 48 239 2 ∷ [];
  summaries = a_summary 48 ∷ [];
}

-- all that an image can hold: 8 chains, one of 16,384 bytes, and 32 measurements
abbrev slots_from : ℕ → ℕ → List Chain
slots_from k zero = []
slots_from k (suc n) = a_chain 64 k 69 ∷ slots_from (k + 1) n

abbrev indices_from : ℕ → ℕ → List Measurement
indices_from i zero = []
indices_from i (suc n) = a_measurement 64 i (i % 4) ∷ indices_from (i + 1) n

abbrev full : Contents
full = record {
  identity = record { exponent = 14; hash = 2; signature = 8 };
  chains = a_chain 64 0 16384 ∷ slots_from 1 7;
  measurements = indices_from 208 32;
  summaries = a_summary 64 ∷ [];
}

-- "smallest SHA-256 image: 80 bytes", byte by byte
abbrev smallest : Case
smallest = record {
  image = 1 ∷ 0 ∷ 3 ∷ 1 ∷ 14 ∷ 0 ∷ 4 ∷ 0 ∷ 70 ∷ 2 ∷ 0 ∷ (replicate 32 0xD0 ++ (37 ∷ 0 ∷ replicate 35 0xC0));
  read = found (least 14 0 32 4);
}

abbrev finding : List Contents → List Case
finding cs = map (λ (c : Contents). record { image = image c; read = found c }) cs

abbrev cases : List Case
cases =
    refusing 1 ones ++ (refusing 2 twos ++ (refusing 3 threes ++ (refusing 4 fours ++ (refusing 4 missing ++ (refusing 4 fours_first
    ++ (refusing 5 fives ++ (refusing 6 sixes ++ (refusing 6 sixes_first ++ (refusing 7 sevens ++ (refusing 7 sevens_first
    ++ (refusing 8 eights
    ++ (smallest ∷ finding (leasts ++ (some ∷ full ∷ []))))))))))))))

faults : map (λ (x : Case). reading x.image) cases ≡ map (λ (x : Case). x.read) cases
unfolding digest_size pick unless frames_of identity_fault slot_wrong chain_fault measurement_fault summary_fault record_fault end_fault extended
    read_on read_all reading
faults = refl

-- What is looked up in an image by its index, and what its contents hold: the digests and chains of slots 0, 1, 3, 7 and 8, the mask, the
-- first four measurements, those with the indices 0, 1, 9, 10 and 239, the summaries of the TCB and of all.
record Lookups : Type 0 where
  digests : List (List ℕ)
  chains : List (List ℕ)
  lengths : List ℕ
  mask : ℕ
  nth : List (List ℕ)
  by_index : List (List ℕ)
  tcb : List ℕ
  all : List ℕ

abbrev slots : List ℕ
slots = 0 ∷ 1 ∷ 3 ∷ 7 ∷ 8 ∷ []

abbrev first_four : List ℕ
first_four = 0 ∷ 1 ∷ 2 ∷ 3 ∷ []

abbrev indices : List ℕ
indices = 0 ∷ 1 ∷ 9 ∷ 10 ∷ 239 ∷ []

abbrev held : Contents → Lookups
held c = record {
  digests = map (slot_digest c) slots;
  chains = map (slot_chain c) slots;
  lengths = map (λ (k : ℕ). length (slot_chain c k)) slots;
  mask = slot_mask c;
  nth = map (nth_measurement c) first_four;
  by_index = map (measurement_of c) indices;
  tcb = tcb_summary c;
  all = full_summary c;
}

abbrev looked_up : List ℕ → Index → Lookups
looked_up b ix = record {
  digests = map (digest_at b ix) slots;
  chains = map (λ (k : ℕ). chain_part_at b ix k 0 16384) slots;
  lengths = map (chain_length_at b ix) slots;
  mask = mask_at ix;
  nth = map (nth_at b ix) first_four;
  by_index = map (measurement_at b ix) indices;
  tcb = summary_at b ix 0;
  all = summary_at b ix 1;
}

-- the contents `some`: bit 0, 3 and 7 of the mask
abbrev in_some : Lookups
in_some = record {
  digests = replicate 48 0xD0 ∷ none ∷ replicate 48 0xD3 ∷ replicate 48 0xD7 ∷ none ∷ [];
  chains =
      (53 ∷ 0 ∷ replicate 51 0xC0) ∷ none ∷ (44 ∷ 1 ∷ replicate 298 0xC3) ∷ (54 ∷ 0 ∷ replicate 52 0xC7)
      ∷ none ∷ [];
  lengths = 53 ∷ 0 ∷ 300 ∷ 54 ∷ 0 ∷ [];
  mask = 0x89;
  nth = (1 ∷ 0 ∷ replicate 48 254) ∷ (9 ∷ 3 ∷ replicate 48 246) ∷ (239 ∷ 2 ∷ replicate 48 16) ∷ none ∷ [];
  by_index = none ∷ (1 ∷ 0 ∷ replicate 48 254) ∷ (9 ∷ 3 ∷ replicate 48 246) ∷ none ∷ (239 ∷ 2 ∷ replicate 48 16) ∷ [];
  tcb = replicate 48 0x7C;
  all = replicate 48 0xFA;
}

-- a box with nothing but slot 0's chain
abbrev in_least : Lookups
in_least = record {
  digests = replicate 32 0xD0 ∷ none ∷ none ∷ none ∷ none ∷ [];
  chains = (37 ∷ 0 ∷ replicate 35 0xC0) ∷ none ∷ none ∷ none ∷ none ∷ [];
  lengths = 37 ∷ 0 ∷ 0 ∷ 0 ∷ 0 ∷ [];
  mask = 1;
  nth = none ∷ none ∷ none ∷ none ∷ [];
  by_index = none ∷ none ∷ none ∷ none ∷ none ∷ [];
  tcb = none;
  all = none;
}

-- where the bodies stand: those of the slots' chains, 0 of a slot that is not filled, and that of the first measurement
abbrev some_index : Index
some_index = record {
  identity = some.identity;
  chains = 3;
  measurements = 3;
  places = 10 ∷ 0 ∷ 0 ∷ 115 ∷ 0 ∷ 0 ∷ 0 ∷ 467 ∷ [];
  first = 573;
}

abbrev full_index : Index
full_index = record {
  identity = full.identity;
  chains = 8;
  measurements = 32;
  places = 10 ∷ 16462 ∷ 16599 ∷ 16736 ∷ 16873 ∷ 17010 ∷ 17147 ∷ 17284 ∷ [];
  first = 17421;
}

abbrev least_index : Index
least_index = record {
  identity = record { exponent = 14; hash = 0; signature = 4 };
  chains = 1;
  measurements = 0;
  places = 10 ∷ 0 ∷ 0 ∷ 0 ∷ 0 ∷ 0 ∷ 0 ∷ 0 ∷ [];
  first = 0;
}

answers :
    map (λ (b : List ℕ). answer_of (reading b)) (image some ∷ image full ∷ smallest.image ∷ behind none ∷ [])
    ≡ found some_index ∷ found full_index ∷ found least_index ∷ number 4 ∷ []
unfolding digest_size pick unless frames_of identity_fault slot_wrong chain_fault measurement_fault summary_fault record_fault end_fault extended
    read_on read_all reading record_bytes records_bytes identity_bytes places_of first_of answer_of
answers = refl

lookups :
    held some ∷ looked_up (image some) some_index ∷ held (least 14 0 32 4) ∷ looked_up smallest.image least_index ∷ []
    ≡ in_some ∷ in_some ∷ in_least ∷ in_least ∷ []
unfolding digest_size pick chain_for mask_of measurement_for place_in digest_at chain_length_at chain_part_at mask_from body_place nth_at search_from
    summary_at
lookups = refl

-- "slots 0–7", all filled
filled : slot_mask full ∷ mask_at full_index ∷ [] ≡ 255 ∷ 255 ∷ []
unfolding mask_of mask_from pick
filled = refl

-- past the end of an identity's body a byte is 0
short : identity_in none ≡ record { exponent = 0; hash = 0; signature = 0 }
short = refl

-- "H = 32, 48, 64, 32, 48, 64", "S = 256, 256, 384, 384, 64, 512, 512, 96, 132", none past these; the largest of each; the identity's end
record Sizes : Type 0 where
  digests : List ℕ
  signatures : List ℕ
  most : List ℕ
  end : ℕ

abbrev defined : Sizes
defined = record {
  digests = map digest_size (0 ∷ 1 ∷ 2 ∷ 3 ∷ 4 ∷ 5 ∷ 6 ∷ []);
  signatures = map signature_size (0 ∷ 1 ∷ 2 ∷ 3 ∷ 4 ∷ 5 ∷ 6 ∷ 7 ∷ 8 ∷ 9 ∷ []);
  most = digest_most ∷ signature_most ∷ [];
  end = identity_end;
}

abbrev told : Sizes
told = record {
  digests = 32 ∷ 48 ∷ 64 ∷ 32 ∷ 48 ∷ 64 ∷ 0 ∷ [];
  signatures = 256 ∷ 256 ∷ 384 ∷ 384 ∷ 64 ∷ 512 ∷ 512 ∷ 96 ∷ 132 ∷ 0 ∷ [];
  most = 64 ∷ 512 ∷ [];
  end = 7;
}

sizes : defined ≡ told
unfolding digest_size signature_size
sizes = refl
