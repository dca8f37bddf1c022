-- What the decisions need of an image's contents: the code's index gives the same.
use Rattle.std.specs.Prelude.{Bool, false, List, ℕ, length, ltb, eqb}
use Rattle.wire.specs.Pick.{pick}
use Rattle.image.specs.Limits.{index_limit}
use Rattle.image.specs.Sizes.{digest_size, signature_size}
use Rattle.image.specs.Contents.{Contents}
use Rattle.image.specs.Held.{slot_chain, measurement_of}
use Rattle.image.specs.Index.{chain_length_at, measurement_at}
use Rattle.image.specs.declared.Identity.{Identity}
use Rattle.image.specs.declared.Index.{Index}

-- chain_length: the bytes of a slot's chain, 0 where the slot is not filled; present: a measurement has that index
pub record Facts : Type 0 where
  pub identity : Identity
  pub chains : ℕ
  pub measurements : ℕ
  pub chain_length : ℕ → ℕ
  pub present : ℕ → Bool

abbrev pub facts_of : Contents → Facts
facts_of c = record {
  identity = c.identity;
  chains = length c.chains;
  measurements = length c.measurements;
  chain_length = λ k. length (slot_chain c k);
  present = λ i. ltb 0 (length (measurement_of c i));
}

-- the same of an image and an index into it; a measurement index is 1–239
abbrev pub facts_at : List ℕ → Index → Facts
facts_at b ix = record {
  identity = ix.identity;
  chains = ix.chains;
  measurements = ix.measurements;
  chain_length = λ k. chain_length_at b ix k;
  present = λ i. pick (eqb i 0) false (pick (ltb index_limit i) false (ltb 0 (length (measurement_at b ix i))));
}

-- H and S
abbrev pub hash_size : Facts → ℕ
hash_size f = digest_size f.identity.hash

abbrev pub sig_size : Facts → ℕ
sig_size f = signature_size f.identity.signature
