-- GET_CERTIFICATE and CERTIFICATE.
use Rattle.std.specs.Prelude.{List, ◌++◌, ℕ, ◌+◌, ◌-◌, ◌%◌, min, length, ltb, leb, eqb}
use Rattle.wire.specs.Bytes.{le_at, le_bytes, part}
use Rattle.wire.specs.Pick.{pick}
use Rattle.image.specs.Contents.{Contents}
use Rattle.image.specs.Held.{slot_chain}
use Rattle.rules.specs.Limits.{certificate_layout, certificate_head, portion_limit, certificate_code}
use Rattle.rules.specs.Facts.{Facts}
use Rattle.rules.specs.Header.{param1, header}
use Rattle.rules.specs.Steps.{invalid, size_steps}
use Rattle.rules.specs.Exchanges.{complete}
use Rattle.rules.specs.declared.Negotiated.{Negotiated}
use Rattle.rules.specs.declared.State.{State}
use Rattle.rules.specs.declared.Kind.TheVariants as kind
use Rattle.rules.specs.declared.Message.TheVariants as message
use Rattle.rules.specs.declared.Exchange.{Exchange}
use Rattle.rules.specs.Decision.{Decision}

-- "slot in the low half of Param1, offset at 4, length at 6"
abbrev pub slot_asked : List ℕ → ℕ
slot_asked r = param1 r % 16

abbrev pub offset_asked : List ℕ → ℕ
offset_asked r = le_at 2 r 4

abbrev pub length_asked : List ℕ → ℕ
length_asked r = le_at 2 r 6

-- "the least of length, L − offset, peer's size − 8, and 1,024"
unfoldable pub portion_of : ℕ → ℕ → ℕ → ℕ
portion_of asked left peer = min (min asked left) (min (peer - certificate_head) portion_limit)

abbrev pub certificate_exchange : ℕ → Exchange
certificate_exchange portion = complete kind.Certificate certificate_layout (certificate_head + portion)

-- a portion of what is left of a chain from an offset on
unfoldable pub portion_decision : State → ℕ → ℕ → ℕ → ℕ → Decision
portion_decision s slot offset left portion =
    size_steps s (message.Certificate (record { 0 = slot }) offset portion (left - portion)) (certificate_exchange portion)

-- "Slot filled, offset below L, length not 0."
unfoldable pub certificate_decision : Facts → State → List ℕ → Decision
certificate_decision f s r =
    let long = f.chain_length (slot_asked r) in
    let left = long - offset_asked r in
    pick (ltb (length r) certificate_layout) invalid
    (pick (eqb long 0) invalid
    (pick (leb long (offset_asked r)) invalid
    (pick (eqb (length_asked r) 0) invalid
    (portion_decision s (slot_asked r) (offset_asked r) left (portion_of (length_asked r) left s.negotiated.peer)))))

-- "CERTIFICATE 0x02: slot, portion at 4, remainder at 6, data"
unfoldable pub certificate_bytes : Contents → Negotiated → ℕ → ℕ → ℕ → ℕ → List ℕ
certificate_bytes c n slot offset portion remainder =
    header n certificate_code slot 0 ++ (le_bytes 2 portion ++ (le_bytes 2 remainder ++ part (slot_chain c slot) offset portion))
