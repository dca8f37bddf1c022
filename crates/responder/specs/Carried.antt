-- What carrying out an accepted request comes to, for the pieces that do it. The promises of the public functions do not rest on this file.
use Rattle.std.specs.Prelude.{◌≡◌, List, ◌++◌, ℕ, ◌+◌, ◌≤◌, take, replicate, eqb}
use Rattle.wire.specs.Bytes.{splice}
use Rattle.wire.specs.Pick.{pick}
use Rattle.image.specs.Sizes.{signature_most}
use Rattle.rules.specs.Limits.{message_limit, awaits_nothing}
use Rattle.rules.specs.Parts.{same_part, kept_by, kept_used}
use Rattle.rules.specs.State.{awaiting}
use Rattle.rules.specs.Steps.{whole_length, added_length}
use Rattle.rules.specs.Messages.{kind_for}
use Rattle.rules.specs.Box.{Lent, place_for}
use Rattle.rules.specs.declared.Part.{Part}
use Rattle.rules.specs.declared.Part.TheVariants.{A, B, M}
use Rattle.rules.specs.declared.Used.{Used}
use Rattle.rules.specs.declared.Awaited.{Awaited}
use Rattle.rules.specs.declared.Negotiated.{Negotiated}
use Rattle.rules.specs.declared.State.{State}
use Rattle.rules.specs.declared.Message.{Message}
use Rattle.rules.specs.declared.Exchange.{Exchange}
use Rattle.rules.specs.declared.Outcome.{Outcome}
use Rattle.rules.specs.declared.Accepted.{Accepted}
use Rattle.rules.specs.Reply as reply
use Rattle.rules.specs.Reply.{replied}

-- an exchange whose answer fits a message
pub record Measured (x : Exchange) : Type 0 where
  pub signature : x.signature ≤ signature_most
  pub whole : whole_length x ≤ message_limit

-- so many bytes more in one part
abbrev pub added_to : Part → ℕ → Used → Used
added_to p n u = record { a = u.a + pick (same_part p A) n 0; b = u.b + pick (same_part p B) n 0; m = u.m + pick (same_part p M) n 0 }

abbrev pub awaited_by : Exchange → Awaited
awaited_by x = awaiting x.whose (pick (eqb x.whose awaits_nothing) 0 (whole_length x))

abbrev pub next_state : State → Message → Negotiated → Exchange → State
next_state s m n x = record {
  negotiated = n;
  used = added_to x.part (added_length x) (kept_used (kept_by (kind_for m)) s.used);
  awaited = awaited_by x;
}

-- the answer, which stands in its buffer already, gets its zeros; request and answer are appended
pub record Carried (s : State) (a : Accepted) (r : List ℕ) (before after : Lent) (o : Outcome) : Type 0 where
  pub reply : replied o.reply ≡ reply.Answer (whole_length a.exchange)
  pub state : o.state ≡ next_state s a.message a.negotiated a.exchange
  pub answer : after.answer ≡ splice before.answer a.exchange.length (replicate a.exchange.signature 0)
  pub transcript : after.transcript
      ≡ splice before.transcript (place_for a.exchange.part (kept_by (kind_for a.message)) s.used)
      (take a.exchange.layout r ++ take a.exchange.length after.answer)
