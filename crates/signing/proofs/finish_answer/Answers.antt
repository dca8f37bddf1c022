-- A signed answer is at least as long as its signature, as the state is within its bounds; each arm does what its decision says.
-- Assumes nothing.
use Rattle.std.proofs.Common.{Ok, ◌≡◌, ◌≤◌, ◌∙◌, ℕ, Bool, [], sym, ap, subst, arith}
use Rattle.rules.specs.Facts.{Facts, facts_at}
use Rattle.rules.specs.Signing.{finish_of}
use Rattle.rules.specs.declared.State.{State}
use Rattle.rules.specs.declared.Lengths.{Lengths}
use Rattle.rules.specs.Finish as finish
use Rattle.rules.proofs.Told.{FinishTold, finish-told}
use Rattle.signing.specs.Told.{finish_told}
use Rattle.signing.proofs.finish_answer.Goals as goal

-- an answer that gets signed has room for its signature
signed_fits : (f : Facts) (s : State) (lent : Lengths) (ok : Bool) (size : ℕ) → finish_of f s lent ok size ≡ finish.Signed → size ≤ s.awaited.length
signed_fits f s lent ok size e =
    let t = subst (FinishTold f s lent size) e (finish-told f s lent ok size) in
    omega (arith, t.0.awaited.least, t.1)

pub overflow_sub-length : goal.overflow_sub-length
overflow_sub-length c =
    signed_fits (facts_at [] c.args.ix) c.args.s _ _ _ (sym (c.decide_finish.ensures []) ∙ ap finish_told (c.in-Ok-Signed.is ∙ ap Ok c.in-Ok-Signed.field-0-is))
