-- GET_CAPABILITIES and CAPABILITIES.
use Rattle.std.specs.Prelude.{Bool, true, false, List, [], ◌∷◌, ◌++◌, ℕ, length, ltb, leb, eqb}
use Rattle.wire.specs.Bytes.{le_at, le_bytes}
use Rattle.wire.specs.Pick.{pick}
use Rattle.image.specs.Contents.{Contents}
use Rattle.rules.specs.Limits.{message_limit, capabilities_phase, capabilities_layout11, capabilities_layout12, peer_least, peer11}
use Rattle.rules.specs.Limits.{capabilities_code, plain_flags, measuring_flags}
use Rattle.rules.specs.State.{agreed_at}
use Rattle.rules.specs.Header.{version_byte, by_edition, version_of, header}
use Rattle.rules.specs.Steps.{invalid}
use Rattle.rules.specs.Exchanges.{complete}
use Rattle.rules.specs.declared.Negotiated.{Negotiated}
use Rattle.rules.specs.declared.Kind.TheVariants as kind
use Rattle.rules.specs.declared.Message.TheVariants as message
use Rattle.rules.specs.declared.Exchange.{Exchange}
use Rattle.rules.specs.Decision.{Decision, Accepted}

-- "DataTransferSize at 12, MaxSPDMmsgSize at 16"
abbrev pub transfer_size : List ℕ → ℕ
transfer_size r = le_at 4 r 12

abbrev pub message_size : List ℕ → ℕ
message_size r = le_at 4 r 16

-- "GET_CAPABILITIES, 20 bytes"; paper 02, 4: "For 1.1 its layout has 12 bytes with no sizes"
abbrev pub capabilities_layout : ℕ → ℕ
capabilities_layout version = by_edition version capabilities_layout11 capabilities_layout12

-- "DataTransferSize (the peer's size)"; under 1.1 "the peer's size counts as 4,608"
abbrev pub peer_asked : List ℕ → ℕ
peer_asked r = by_edition (version_byte r) peer11 (transfer_size r)

-- "DataTransferSize (the peer's size) at least 42, MaxSPDMmsgSize no less"; under 1.1 there are no sizes
unfoldable pub sizes_fit : List ℕ → Bool
sizes_fit r = by_edition (version_byte r) true (pick (ltb (transfer_size r) peer_least) false (leb (transfer_size r) (message_size r)))

-- "GET_CAPABILITIES only in 1, to 2"; paper 02, 4: "GET_CAPABILITIES picks by its version byte"
abbrev pub capabilities_next : List ℕ → Negotiated
capabilities_next r = agreed_at capabilities_phase (version_byte r) (peer_asked r)

abbrev pub capabilities_exchange : ℕ → Exchange
capabilities_exchange version = complete kind.Capabilities (capabilities_layout version) (capabilities_layout version)

unfoldable pub capabilities_decision : List ℕ → Decision
capabilities_decision r =
    pick (ltb (length r) (capabilities_layout (version_byte r))) invalid
    (pick (sizes_fit r)
    (Accepted message.Capabilities (capabilities_next r) (capabilities_exchange (version_byte r)))
    invalid)

-- "flags at 8 = 0x06, or 0x16 with measurements"
abbrev pub flags_of : ℕ → ℕ
flags_of measurements = pick (eqb measurements 0) plain_flags measuring_flags

-- "CAPABILITIES 0x61, same layout: CTExponent at 5, flags at 8"
abbrev pub capabilities_head : Contents → Negotiated → List ℕ
capabilities_head c n =
    header n capabilities_code 0 0
    ++ (0 ∷ c.identity.exponent ∷ 0 ∷ 0 ∷ flags_of (length c.measurements) ∷ 0 ∷ 0 ∷ 0 ∷ [])

-- ".. both sizes 4,608", which 1.1 does not have
unfoldable pub capabilities_bytes : Contents → Negotiated → List ℕ
capabilities_bytes c n = capabilities_head c n ++ by_edition (version_of n) [] (le_bytes 4 message_limit ++ le_bytes 4 message_limit)
