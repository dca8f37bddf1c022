-- What *reads_whole* asks of a requester can be met: one of either edition on a fresh box, computed. Its GET_VERSION lends another image than
-- the calls that follow. Under 1.2 the peer's size is 42, so it reads the bench's chain of 100 bytes at 0, 34 and 68; under 1.1 one read is
-- enough. Assumes nothing.
use mathlib.Core.Path.{◌≡◌, refl}
use mathlib.Core.Bool.{Bool, true, false, ◌&&◌}
use mathlib.Core.List.{List, [], ◌∷◌}
use Prim.Native.Nat.{ℕ, zero, suc}
use lib.ListN.{replicate}
use lib.Dec.{T, ltb, ltb→lt, leb→le}
use Rattle.wire.specs.Bytes.{Bytes, splice}
use Rattle.wire.specs.Pick.{pick}
use Rattle.image.specs.Sizes.{digest_size, signature_size}
use Rattle.image.specs.Contents.{Contents, record_bytes, records_bytes, identity_bytes, image_bytes}
use Rattle.image.specs.Reading.{unless, frames_of, identity_fault, slot_wrong, chain_fault, measurement_fault, summary_fault, record_fault}
use Rattle.image.specs.Reading.{end_fault, extended, read_on, read_all, reading}
use Rattle.image.specs.Held.{chain_for, mask_of, measurement_for}
use Rattle.rules.specs.State.{fresh, holds_only, phase_fits, selection_fits, awaited_fits, edition_fits, own_bounds, selection_held}
use Rattle.rules.specs.State.{awaited_long, in_bounds}
use Rattle.rules.specs.Header.{version_of, refused_bytes}
use Rattle.rules.specs.Steps.{kind_of, must_wait, serves, carries, version_fits, in_phase, kind_steps, asked_steps, first_steps, size_steps}
use Rattle.rules.specs.Version.{version_bytes}
use Rattle.rules.specs.Capabilities.{sizes_fit, capabilities_decision, capabilities_bytes}
use Rattle.rules.specs.Algorithms.{structures_fit, algorithms_decision, algorithms_bytes}
use Rattle.rules.specs.Digests.{digests_decision, joined_digests, digests_bytes}
use Rattle.rules.specs.Certificate.{offset_asked, portion_of, portion_decision, certificate_decision, certificate_bytes}
use Rattle.rules.specs.Messages.{message_bytes}
use Rattle.rules.specs.Decisions.{last_steps, request_decision, decision_of}
use Rattle.rules.specs.Effects.{effect_of, effect_by}
use Rattle.rules.specs.declared.Negotiated.{Negotiated}
use Rattle.rules.proofs.Flows.{nonce, bench, get_version, get_capabilities, negotiate, get_digests, get_portion, eleven, get_capabilities11}
use Rattle.rules.proofs.OtherImages.{second}
use Rattle.theorems.specs.Runs.{Call, ask, Held, box_next, box_said, box_run}
use Rattle.theorems.specs.Reads.{Calls, box_after, seen, IsRead, OnlyReads, Requester}

-- a list of bytes, by a test of each

abbrev small : List ℕ → Bool
small [] = true
small (x ∷ xs) = ltb x 256 && small xs

first : (a b : Bool) → T (a && b) → T a
first true b t = tt
first false b t = t

rest : (a b : Bool) → T (a && b) → T b
rest true b t = t
rest false b t = absurd t

are_bytes : (b : List ℕ) → T (small b) → Bytes b
are_bytes [] t i = ltb→lt 0 256 tt
are_bytes (x ∷ xs) t zero = ltb→lt x 256 (first (ltb x 256) (small xs) t)
are_bytes (x ∷ xs) t (suc i) = are_bytes xs (rest (ltb x 256) (small xs) t) i

-- buffers of just the length that is needed, a fresh box
abbrev pub lending : Contents → List ℕ → Call
lending c r = ask (image_bytes c) (replicate 4608 0) 36864 r nonce

abbrev pub fresh_box : Held
fresh_box = record { state = fresh; transcript = replicate 36864 0; awaited = [] }

abbrev pub reader : Calls
reader = record {
  version = lending second get_version;
  early = lending bench (get_capabilities 42) ∷ [];
  algorithms = lending bench negotiate;
  digests = lending bench get_digests ∷ [];
  reads = lending bench (get_portion 0) ∷ lending bench (get_portion 34) ∷ lending bench (get_portion 68) ∷ [];
}

abbrev pub reader11 : Calls
reader11 = record {
  version = lending second get_version;
  early = lending bench get_capabilities11 ∷ [];
  algorithms = lending bench (eleven negotiate);
  digests = lending bench (eleven get_digests) ∷ [];
  reads = lending bench (eleven (get_portion 0)) ∷ [];
}

-- what each has negotiated
abbrev agreed12 : Negotiated
agreed12 = record { edition = 0x12; phase = 3; peer = 42; selection = 1 }

abbrev agreed11 : Negotiated
agreed11 = record { edition = 0x11; phase = 3; peer = 4608; selection = 1 }

-- GET_CERTIFICATE for all that is left, with a version byte
abbrev all_from : ℕ → ℕ → List ℕ
all_from version offset = version ∷ 0x82 ∷ 0 ∷ 0 ∷ offset ∷ 0 ∷ 0xFF ∷ 0xFF ∷ []

-- each of the reads is one, at its own offset
read_at : (n : Negotiated) (version offset : ℕ) → version ≡ version_of n → offset_asked (all_from version offset) ≡ offset
    → IsRead n 0 offset (all_from version offset)
read_at n version offset v e = record {
  whole = leb→le 8 8 tt;
  most = leb→le 8 4608 tt;
  version = v;
  code = refl;
  slot = refl;
  from = e;
  asks = leb→le 34 0xFFFF tt;
}

pub met : Requester fresh_box (image_bytes bench) bench 0 reader × Requester fresh_box (image_bytes bench) bench 0 reader11
unfolding splice pick unless frames_of identity_fault slot_wrong chain_fault measurement_fault summary_fault record_fault end_fault extended
    read_on read_all reading digest_size signature_size record_bytes records_bytes identity_bytes image_bytes chain_for mask_of measurement_for
    holds_only phase_fits selection_fits awaited_fits edition_fits own_bounds selection_held awaited_long in_bounds version_of refused_bytes kind_of must_wait
    serves carries version_fits in_phase kind_steps asked_steps first_steps size_steps version_bytes sizes_fit capabilities_decision capabilities_bytes
    structures_fit algorithms_decision algorithms_bytes digests_decision joined_digests digests_bytes portion_of portion_decision
    certificate_decision certificate_bytes message_bytes last_steps request_decision decision_of effect_of effect_by box_next box_said box_run
    box_after seen OnlyReads
met = (
  record {
    restarted = record { code = refl; accepted = tt };
    images = (refl, (refl, (refl, (refl, (refl, (refl, tt))))));
    octets = are_bytes (image_bytes bench) tt;
    holds = refl;
    numbers = (tt, (tt, (tt, (tt, (tt, (tt, tt))))));
    algorithms = refl;
    negotiated = tt;
    digests = (refl, tt);
    once = leb→le 1 1 tt;
    filled = ltb→lt 0 100 tt;
    reads = (
      ltb→lt 0 1 tt,
      (read_at agreed12 0x12 0 refl refl, (ltb→lt 0 66 tt, (read_at agreed12 0x12 34 refl refl, (ltb→lt 0 32 tt, (read_at agreed12 0x12 68 refl refl, tt))))),
    );
  },
  record {
    restarted = record { code = refl; accepted = tt };
    images = (refl, (refl, (refl, (refl, tt))));
    octets = are_bytes (image_bytes bench) tt;
    holds = refl;
    numbers = (tt, (tt, (tt, (tt, tt))));
    algorithms = refl;
    negotiated = tt;
    digests = (refl, tt);
    once = leb→le 1 1 tt;
    filled = ltb→lt 0 100 tt;
    reads = (ltb→lt 0 1 tt, (read_at agreed11 0x11 0 refl refl, tt));
  },
)
