-- All messages side by side: the kind of request that each answers, what is appended of that request, what is done beside the answer, and
-- the answer's bytes.
use Rattle.std.specs.Prelude.{List, ℕ}
use Rattle.image.specs.Contents.{Contents}
use Rattle.rules.specs.Limits.{header_length, certificate_layout, challenge_layout}
use Rattle.rules.specs.Facts.{Facts}
use Rattle.rules.specs.Header.{version_byte, version_of}
use Rattle.rules.specs.Version.{version_exchange, version_bytes}
use Rattle.rules.specs.Capabilities.{capabilities_layout, capabilities_exchange, capabilities_bytes}
use Rattle.rules.specs.Algorithms.{length_field, algorithms_exchange, algorithms_bytes}
use Rattle.rules.specs.Digests.{digests_exchange, digests_bytes}
use Rattle.rules.specs.Certificate.{certificate_exchange, certificate_bytes}
use Rattle.rules.specs.Challenge.{challenge_exchange, challenge_bytes}
use Rattle.rules.specs.Measurements.{signer_of, layout_of, measurements_exchange, measurements_bytes}
use Rattle.rules.specs.declared.Negotiated.{Negotiated}
use Rattle.rules.specs.declared.Kind.{Kind}
use Rattle.rules.specs.declared.Kind.TheVariants as kind
use Rattle.rules.specs.declared.Message.{Message}
use Rattle.rules.specs.declared.Message.TheVariants as message
use Rattle.rules.specs.declared.Exchange.{Exchange}

abbrev pub kind_for : Message → Kind
kind_for message.Version = kind.Version
kind_for message.Capabilities = kind.Capabilities
kind_for message.Algorithms = kind.Algorithms
kind_for message.Digests = kind.Digests
kind_for (message.Certificate slot offset portion remainder) = kind.Certificate
kind_for (message.Challenge slot summary) = kind.Challenge
kind_for (message.Measurements operation signer) = kind.Measurements

-- "Bytes after a request's layout are ignored and enter no transcript": the layout's length, read from the request
abbrev pub request_layout : Kind → List ℕ → ℕ
request_layout kind.Version r = header_length
request_layout kind.Capabilities r = capabilities_layout (version_byte r)
request_layout kind.Algorithms r = length_field r
request_layout kind.Digests r = header_length
request_layout kind.Certificate r = certificate_layout
request_layout kind.Challenge r = challenge_layout
request_layout kind.Measurements r = layout_of (signer_of r)

-- what an accepted request does beside its answer, by what is negotiated once that is sent
abbrev pub exchange_for : Facts → Negotiated → List ℕ → Message → Exchange
exchange_for f n r message.Version = version_exchange
exchange_for f n r message.Capabilities = capabilities_exchange (version_of n)
exchange_for f n r message.Algorithms = algorithms_exchange r
exchange_for f n r message.Digests = digests_exchange f
exchange_for f n r (message.Certificate slot offset portion remainder) = certificate_exchange portion
exchange_for f n r (message.Challenge slot summary) = challenge_exchange f summary
exchange_for f n r (message.Measurements operation signer) = measurements_exchange f operation signer

-- the answer without its signature, by what is negotiated once it is sent
unfoldable pub message_bytes : Contents → List ℕ → Negotiated → Message → List ℕ
message_bytes c nonce n message.Version = version_bytes n
message_bytes c nonce n message.Capabilities = capabilities_bytes c n
message_bytes c nonce n message.Algorithms = algorithms_bytes c n
message_bytes c nonce n message.Digests = digests_bytes c n
message_bytes c nonce n (message.Certificate slot offset portion remainder) = certificate_bytes c n slot.0 offset portion remainder
message_bytes c nonce n (message.Challenge slot summary) = challenge_bytes c nonce n slot.0 summary
message_bytes c nonce n (message.Measurements operation signer) = measurements_bytes c nonce n operation signer
