-- How long a slot's chain is, and what GET_DIGESTS takes of B: the reader takes only valid contents, and those bound each chain, each
-- digest and the number of chains. Assumes nothing.
use mathlib.Core.List.{List, [], ◌∷◌}
use Prim.Native.Nat.{ℕ, ◌+◌, ◌*◌, ◌≤◌}
use native.Mathlib.Omega.{arith}
use native.Mathlib.Nat.{mul-le-mul}
use lib.ListN.{length}
use lib.Dec.{eqb}
use Rattle.wire.proofs.Picks.{pick_case}
use Rattle.image.specs.Limits.{chain_limit, chains_limit}
use Rattle.image.specs.Sizes.{digest_size, digest_most}
use Rattle.image.specs.Contents.{Chain, Contents, ValidChain, Each, Valid}
use Rattle.image.specs.Held.{chain_for, slot_chain}
use Rattle.image.proofs.Sizes.{digest-most}
use Rattle.rules.specs.Limits.{header_length}
use Rattle.rules.specs.Facts.{facts_of}
use Rattle.rules.specs.Steps.{added_length}
use Rattle.rules.specs.Digests.{digests_exchange}

-- the chain found for a slot is one of the chains, or none
each-short : (n k : ℕ) (xs : List Chain) → Each (ValidChain n) xs → length (chain_for k xs).bytes ≤ chain_limit
unfolding chain_for
each-short n k [] e = omega arith
each-short n k (x ∷ xs) e =
    pick_case (λ (y : Chain). length y.bytes ≤ chain_limit) (eqb x.slot k) x (chain_for k xs) (λ _. e.0.most)
    (λ _. each-short n k xs e.1)

-- "A chain has 5+H to" 16,384 "bytes"
pub chain-short : (c : Contents) → Valid c → (k : ℕ) → length (slot_chain c k) ≤ chain_limit
chain-short c v k = each-short (digest_size c.identity.hash) k c.chains v.chains

-- what GET_DIGESTS and DIGESTS take at most: eight digests of 64 bytes
abbrev pub digests_most : ℕ
digests_most = header_length + (header_length + digest_most * chains_limit)

pub digests-short : (c : Contents) → Valid c → added_length (digests_exchange (facts_of c)) ≤ digests_most
digests-short c v = omega (arith, mul-le-mul v.few_chains (digest-most c.identity.hash))
