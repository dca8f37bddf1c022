-- What a request comes to before any byte is written: a number for the host, an ERROR of the step that refuses (step, code, data, and the
-- answer's size, which step 8 tells), or an accepted request with all that follows from it.
use Rattle.std.specs.Prelude.{ℕ, Ok, Err, Result as Answer}
use Rattle.rules.specs.HostError.{host_number}
use Rattle.rules.specs.declared.Negotiated.{Negotiated}
use Rattle.rules.specs.declared.Message.{Message}
use Rattle.rules.specs.declared.Exchange.{Exchange}
use Rattle.rules.specs.declared.Accepted.{Accepted as AcceptedRequest}
use Rattle.rules.specs.declared.Refusal.{Refusal}
use Rattle.rules.specs.declared.Refusal.TheVariants as refusal

pub data Decision : Type 0 where
  Number : ℕ → Decision
  Refused : ℕ → ℕ → ℕ → ℕ → Decision
  Accepted : Message → Negotiated → Exchange → Decision

-- the code's decision by these names: it only renames, and no two of the code's have the same
abbrev pub decided : Answer AcceptedRequest Refusal → Decision
decided (Ok a) = Accepted a.message a.negotiated a.exchange
decided (Err (refusal.Host e)) = Number (host_number e)
decided (Err (refusal.Request r)) = Refused r.step r.code r.extra r.size
