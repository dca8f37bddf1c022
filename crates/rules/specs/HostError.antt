-- The numbers that the host is told in place of an answer.
use Rattle.std.specs.Prelude.{ℕ}
use Rattle.image.specs.Fault.{number_of}
use Rattle.rules.specs.Limits.{short_answer, short_transcript, wrong_nonce, wrong_state, nothing_awaited, wrong_signature}
use Rattle.rules.specs.declared.HostError.{HostError}
use Rattle.rules.specs.declared.HostError.TheVariants as hostError

-- 1–8 are the image's
abbrev pub host_number : HostError → ℕ
host_number (hostError.Image f) = number_of f
host_number hostError.ShortAnswer = short_answer
host_number hostError.ShortTranscript = short_transcript
host_number hostError.WrongNonce = wrong_nonce
host_number hostError.WrongState = wrong_state
host_number hostError.NothingAwaited = nothing_awaited
host_number hostError.WrongSignature = wrong_signature
