-- What a request comes to: the host's numbers in their order, then the nine steps.
use Rattle.std.specs.Prelude.{List, ℕ, ltb, eqb}
use Rattle.wire.specs.Pick.{pick}
use Rattle.rules.specs.Limits.{message_limit, transcript_length, nonce_length, short_answer, short_transcript, wrong_nonce, wrong_state}
use Rattle.rules.specs.Facts.{Facts}
use Rattle.rules.specs.State.{in_bounds}
use Rattle.rules.specs.Steps.{first_steps}
use Rattle.rules.specs.Version.{version_decision}
use Rattle.rules.specs.Capabilities.{capabilities_decision}
use Rattle.rules.specs.Algorithms.{algorithms_decision}
use Rattle.rules.specs.Digests.{digests_decision}
use Rattle.rules.specs.Certificate.{certificate_decision}
use Rattle.rules.specs.Challenge.{challenge_decision}
use Rattle.rules.specs.Measurements.{measurements_decision}
use Rattle.rules.specs.declared.State.{State}
use Rattle.rules.specs.declared.Lengths.{Lengths}
use Rattle.rules.specs.declared.Kind.{Kind}
use Rattle.rules.specs.declared.Kind.TheVariants as kind
use Rattle.rules.specs.Decision.{Decision}
use Rattle.rules.specs.Decision as decision

-- steps 7–9, by the kind of request; steps 8 and 9 "are not applied in phases 0–2 nor to GET_VERSION"
unfoldable pub last_steps : Facts → State → List ℕ → Kind → Decision
last_steps f s r kind.Version = version_decision
last_steps f s r kind.Capabilities = capabilities_decision r
last_steps f s r kind.Algorithms = algorithms_decision f s.negotiated r
last_steps f s r kind.Digests = digests_decision f s
last_steps f s r kind.Certificate = certificate_decision f s r
last_steps f s r kind.Challenge = challenge_decision f s r
last_steps f s r kind.Measurements = measurements_decision f s r

-- the nine steps
unfoldable pub request_decision : Facts → State → List ℕ → Decision
request_decision f s r = first_steps f s r (λ k. last_steps f s r k)

-- "Calls test 1–8, then 11, 12, then 13 (requests only), then 14"; 1–8 are the image's
unfoldable pub decision_of : Facts → State → Lengths → ℕ → List ℕ → Decision
decision_of f s lent nonce r =
    pick (ltb lent.answer message_limit) (decision.Number short_answer)
    (pick (ltb lent.transcript transcript_length) (decision.Number short_transcript)
    (pick (eqb nonce nonce_length)
    (pick (in_bounds f s) (request_decision f s r)
    (decision.Number wrong_state))
    (decision.Number wrong_nonce)))
