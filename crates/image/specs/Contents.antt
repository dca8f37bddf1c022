-- What a provisioning image is: what it holds, which contents are valid, and their bytes.
use Rattle.std.specs.Prelude.{◌≡◌, List, [], ◌∷◌, ◌++◌, map, ℕ, ◌≤◌, ◌<◌, length, eqb}
use Rattle.wire.specs.Bytes.{le_at, be_bytes}
use Rattle.wire.specs.Pick.{pick}
use Rattle.image.specs.Limits.{image_limit, image_version, identity_kind, chain_kind, measurement_kind, summary_kind, exponent_limit}
use Rattle.image.specs.Limits.{hash_limit, signature_limit, slot_limit, chains_limit, chain_least, chain_limit, index_limit, type_limit}
use Rattle.image.specs.Limits.{measurements_limit}
use Rattle.image.specs.Sizes.{digest_size}
use Rattle.image.specs.declared.Identity.{Identity}

-- a slot's certificate chain and its digest
pub record Chain : Type 0 where
  pub slot : ℕ
  pub digest : List ℕ
  pub bytes : List ℕ

pub record Measurement : Type 0 where
  pub index : ℕ
  pub type : ℕ
  pub digest : List ℕ

-- summary hash of the TCB, and of all measurements
pub record Summary : Type 0 where
  pub tcb : List ℕ
  pub all : List ℕ

pub record Contents : Type 0 where
  pub identity : Identity
  pub chains : List Chain
  pub measurements : List Measurement
  pub summaries : List Summary

-- the bodies of the four kinds of record
abbrev pub identity_body : Identity → List ℕ
identity_body i = i.exponent ∷ i.hash ∷ i.signature ∷ []

abbrev pub chain_body : Chain → List ℕ
chain_body x = x.slot ∷ (x.digest ++ x.bytes)

abbrev pub measurement_body : Measurement → List ℕ
measurement_body m = m.index ∷ m.type ∷ m.digest

abbrev pub summary_body : Summary → List ℕ
summary_body s = s.tcb ++ s.all

-- "records, each: body length (2 bytes), kind (1), body"; "the image is big-endian"
unfoldable pub record_bytes : ℕ → List ℕ → List ℕ
record_bytes kind body = be_bytes 2 (length body) ++ (kind ∷ body)

-- records of one kind, one behind the other
unfoldable pub records_bytes : {A : Type 0} → ℕ → (A → List ℕ) → List A → List ℕ
records_bytes kind body [] = []
records_bytes kind body (x ∷ xs) = record_bytes kind (body x) ++ records_bytes kind body xs

-- the version byte and the identity record; then the other kinds, in their sequence
unfoldable pub identity_bytes : Contents → List ℕ
identity_bytes c = image_version ∷ record_bytes identity_kind (identity_body c.identity)

unfoldable pub image_bytes : Contents → List ℕ
image_bytes c =
    identity_bytes c
    ++ (records_bytes chain_kind chain_body c.chains
    ++ (records_bytes measurement_kind measurement_body c.measurements
    ++ records_bytes summary_kind summary_body c.summaries))

pub record ValidIdentity (i : Identity) : Type 0 where
  pub exponent : i.exponent ≤ exponent_limit
  pub hash : i.hash ≤ hash_limit
  pub signature : i.signature ≤ signature_limit

-- a chain of a digest of h bytes; its first two bytes give its whole length
pub record ValidChain (h : ℕ) (x : Chain) : Type 0 where
  pub slot : x.slot ≤ slot_limit
  pub digest : length x.digest ≡ h
  pub least : chain_least h ≤ length x.bytes
  pub most : length x.bytes ≤ chain_limit
  pub own : le_at 2 x.bytes 0 ≡ length x.bytes

pub record ValidMeasurement (h : ℕ) (m : Measurement) : Type 0 where
  pub index : m.index ≤ index_limit
  pub type : m.type ≤ type_limit
  pub digest : length m.digest ≡ h

pub record ValidSummary (h : ℕ) (s : Summary) : Type 0 where
  pub tcb : length s.tcb ≡ h
  pub all : length s.all ≡ h

abbrev pub Each : {A : Type 0} → (A → Type 0) → List A → Type 0
Each P [] = Unit {0}
Each P (x ∷ xs) = P x × Each P xs

-- strictly rising, the first above last
abbrev pub Rises : ℕ → List ℕ → Type 0
Rises last [] = Unit {0}
Rises last (x ∷ xs) = (last < x) × Rises x xs

-- "slots rising, slot 0 first"
abbrev pub SlotsRise : List ℕ → Type 0
SlotsRise [] = Unit {0}
SlotsRise (x ∷ xs) = (x ≡ 0) × Rises 0 xs

abbrev pub slots : List Chain → List ℕ
slots xs = map (λ (x : Chain). x.slot) xs

abbrev pub indices : List Measurement → List ℕ
indices ms = map (λ (m : Measurement). m.index) ms

-- the paper's table: one identity, 1–8 chains, 0–32 measurements (indices from 1), and one summary if any measurement, else none
pub record Valid (c : Contents) : Type 0 where
  pub identity : ValidIdentity c.identity
  pub chains : Each (ValidChain (digest_size c.identity.hash)) c.chains
  pub some_chain : 1 ≤ length c.chains
  pub few_chains : length c.chains ≤ chains_limit
  pub slots : SlotsRise (slots c.chains)
  pub measurements : Each (ValidMeasurement (digest_size c.identity.hash)) c.measurements
  pub few_measurements : length c.measurements ≤ measurements_limit
  pub indices : Rises 0 (indices c.measurements)
  pub summaries : Each (ValidSummary (digest_size c.identity.hash)) c.summaries
  pub summed : length c.summaries ≡ pick (eqb (length c.measurements) 0) 0 1
  pub size : length (image_bytes c) ≤ image_limit
