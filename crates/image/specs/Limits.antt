-- The provisioning image's limits, kinds and refusal numbers, as papers 01 and 02 give them.
use Rattle.std.specs.Prelude.{ℕ, ◌+◌}

-- paper 02, 5: "Raise .. the image limit to 61,440". "Byte 0 is version 1. Then records, each: body length (2 bytes), kind (1), body."
abbrev pub image_limit : ℕ
image_limit = 61440

abbrev pub image_version : ℕ
image_version = 1

abbrev pub head_length : ℕ
head_length = 3

-- the kinds of record, in their sequence
abbrev pub identity_kind : ℕ
identity_kind = 1

abbrev pub chain_kind : ℕ
chain_kind = 2

abbrev pub measurement_kind : ℕ
measurement_kind = 3

abbrev pub summary_kind : ℕ
summary_kind = 4

-- kind 1: "CTExponent 0–31, hash number 0–5, signature number 0–8"
abbrev pub identity_length : ℕ
identity_length = 3

-- the version byte, the head and the body end here
abbrev pub identity_end : ℕ
identity_end = 1 + head_length + identity_length

abbrev pub exponent_limit : ℕ
exponent_limit = 31

abbrev pub hash_limit : ℕ
hash_limit = 5

abbrev pub signature_limit : ℕ
signature_limit = 8

-- kind 2: "slot 0–7 .. 1–8"; "A chain has 5+H to" .. paper 02, 5: "Raise the chain limit from 4,096 to 16,384"
abbrev pub slot_limit : ℕ
slot_limit = 7

-- "slot 0–7, digest (H), chain": the bytes in front of the digest
abbrev pub slot_length : ℕ
slot_length = 1

abbrev pub slot_count : ℕ
slot_count = 8

abbrev pub chains_limit : ℕ
chains_limit = 8

abbrev pub chain_least : ℕ → ℕ
chain_least h = 5 + h

abbrev pub chain_limit : ℕ
chain_limit = 16384

-- kind 3: "index 1–239, type 0–3 .. 0–32"
abbrev pub index_limit : ℕ
index_limit = 239

-- index and type, in front of the digest
abbrev pub label_length : ℕ
label_length = 2

abbrev pub type_limit : ℕ
type_limit = 3

abbrev pub measurements_limit : ℕ
measurements_limit = 32

-- "image empty or over" the limit
abbrev pub wrong_size : ℕ
wrong_size = 1

-- "byte 0 is not 1"
abbrev pub wrong_version : ℕ
wrong_version = 2

-- "1 or 2 bytes left for a record head, or body runs past the end (0 bytes left is the end)"
abbrev pub broken_record : ℕ
broken_record = 3

-- "kind unknown or out of sequence, or, at the end, a needed record missing"
abbrev pub wrong_kind : ℕ
wrong_kind = 4

-- "a 9th chain or 33rd measurement"
abbrev pub too_many : ℕ
too_many = 5

-- "body length wrong (chain length included)"
abbrev pub wrong_length : ℕ
wrong_length = 6

-- "a field out of range, slot or index not rising, first slot not 0"
abbrev pub wrong_field : ℕ
wrong_field = 7

-- "chain's own length field differs"
abbrev pub wrong_own_length : ℕ
wrong_own_length = 8
