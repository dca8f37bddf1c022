-- A portion of a chain: how large it is, how it is read out of a CERTIFICATE, and that B has room for all portions of a chain. A portion
-- that leaves bytes is one of at least 34, so there are at most L/34 of them, rounded up; the sums are times 34, so that they stay linear.
-- Assumes nothing.
use mathlib.Core.Path.{◌≡◌, refl, ap, ◌∙◌}
use mathlib.Core.List.{List}
use Prim.Native.Nat.{ℕ, ◌+◌, ◌-◌, ◌*◌, ◌/◌, ◌%◌, ◌≤◌, ◌<◌}
use native.Mathlib.Omega.{arith}
use lib.ListN.{length, take}
use lib.Seq.{take_all}
use Rattle.wire.specs.Bytes.{le_at, part}
use Rattle.image.specs.Limits.{chain_limit}
use Rattle.image.specs.Contents.{Contents}
use Rattle.image.specs.Held.{slot_chain}
use Rattle.rules.specs.Limits.{b_limit, peer_least, certificate_layout, certificate_head, portion_limit, certificate_code}
use Rattle.rules.specs.Header.{code_byte}
use Rattle.rules.specs.Certificate.{portion_of, certificate_bytes}
use Rattle.rules.specs.declared.Negotiated.{Negotiated}
use Rattle.theorems.specs.Reads.{asked_least, reads_most, portion_in}
use Rattle.theorems.proofs.Holdings.{digests_most}

-- a portion of x bytes that are left
pub record Portion (x peer q : ℕ) : Type 0 where
  pub all : q ≤ x
  pub big : q < x → asked_least ≤ q
  pub fits : certificate_head + q ≤ peer
  pub small : q ≤ portion_limit

-- the least of four numbers, where at least 34 bytes are asked and the peer's size is at least 42
pub portion : (asked x peer : ℕ) → asked_least ≤ asked → peer_least ≤ peer → Portion x peer (portion_of asked x peer)
unfolding portion_of
portion asked x peer a p = record { all = omega arith; big = λ e. omega arith; fits = omega arith; small = omega arith }

-- a CERTIFICATE as the panel reads it: its code, its portion and the remainder; and its length
pub record ReadsBack (bytes : List ℕ) (rest : ℕ) (out : List ℕ) : Type 0 where
  pub code : code_byte out ≡ certificate_code
  pub taken : portion_in out ≡ bytes
  pub left : le_at 2 out 6 ≡ rest
  pub long : length out ≡ certificate_head + length bytes

two_bytes : (v : ℕ) → v < 65536 → v % 256 + (v / 256 % 256 + 0 * 256) * 256 ≡ v
two_bytes v h = omega arith

pub reads-back : (c : Contents) (n : Negotiated) (k offset q rest : ℕ) → q < 65536 → rest < 65536
    → length (part (slot_chain c k) offset q) ≡ q
    → ReadsBack (part (slot_chain c k) offset q) rest (certificate_bytes c n k offset q rest)
unfolding certificate_bytes
reads-back c n k offset q rest a b e =
    let bytes : List ℕ = part (slot_chain c k) offset q in
    record {
      code = refl;
      taken = ap (λ (n : ℕ). take n bytes) (two_bytes q a) ∙ take_all q bytes (omega arith);
      left = two_bytes rest b;
      long = omega arith;
    }

-- what a read takes of B besides its portion: the request's layout and the answer's head
abbrev read_cost : ℕ
read_cost = certificate_layout + certificate_head

-- B, of which b bytes are used, has room for the reads of x bytes: one costs 16 for each 34 bytes, and the last one costs 16 for what is
-- left
abbrev pub Room : (b x : ℕ) → Type 0
Room b x = asked_least * b + (asked_least + read_cost) * x + asked_least * read_cost ≤ asked_least * b_limit

-- "L/34 .., rounded up", of the longest chain; and what its reads and GET_DIGESTS take of B: 520 + 16·482 + 16,384
longest-chain : ((chain_limit + (asked_least - 1)) / asked_least ≡ reads_most)
    × ((digests_most + read_cost * reads_most + chain_limit ≡ 24616) × (digests_most + read_cost * reads_most + chain_limit ≤ b_limit))
longest-chain = (refl, (refl, omega arith))

-- after GET_DIGESTS there is room for the longest chain
pub capacity : (b L : ℕ) → b ≤ digests_most → L ≤ chain_limit → Room b (L - 0)
capacity b L u s = omega arith

-- so there is for the next portion, and after one that leaves bytes for what is left
pub room_now : (L h q b : ℕ) → q ≤ L - h → Room b (L - h) → b + (certificate_layout + (certificate_head + q)) ≤ b_limit
room_now L h q b a r = omega arith

pub room_next : (L h q b : ℕ) → asked_least ≤ q → h + q < L → Room b (L - h)
    → Room (b + (certificate_layout + (certificate_head + q))) (L - (h + q))
room_next L h q b a l r = omega arith
