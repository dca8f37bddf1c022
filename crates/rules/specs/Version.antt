-- GET_VERSION and VERSION.
use Rattle.std.specs.Prelude.{List, [], ◌∷◌, ◌++◌, ℕ}
use Rattle.wire.specs.Bytes.{le_bytes}
use Rattle.rules.specs.Limits.{version_phase, header_length, version_length, version_code, version_count, version_entry11}
use Rattle.rules.specs.Limits.{version_entry12}
use Rattle.rules.specs.State.{cleared_at}
use Rattle.rules.specs.Header.{header}
use Rattle.rules.specs.Exchanges.{complete}
use Rattle.rules.specs.declared.Negotiated.{Negotiated}
use Rattle.rules.specs.declared.Kind.TheVariants as kind
use Rattle.rules.specs.declared.Message.TheVariants as message
use Rattle.rules.specs.declared.Exchange.{Exchange}
use Rattle.rules.specs.Decision.{Decision, Accepted}

-- GET_VERSION: "leading to 1 with all else cleared"
abbrev pub version_exchange : Exchange
version_exchange = complete kind.Version header_length version_length

abbrev pub version_decision : Decision
version_decision = Accepted message.Version (cleared_at version_phase) version_exchange

-- "VERSION 0x04: header, 0, count .., entry .."; paper 02, 4: "VERSION lists 1.1 and 1.2, rising"
unfoldable pub version_bytes : Negotiated → List ℕ
version_bytes n = header n version_code 0 0 ++ ((0 ∷ version_count ∷ []) ++ (le_bytes 2 version_entry11 ++ le_bytes 2 version_entry12))
