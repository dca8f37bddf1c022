-- A refused image says its number. The index of an accepted one is that of its contents, so the decision on the index is the decision on
-- the contents. Assumes nothing.
use Rattle.std.proofs.Common.{refl}
use Rattle.rules.specs.Signing.{finish_by}
use Rattle.rules.proofs.SameFacts.{facts}
use Rattle.image.proofs.Verdicts.{known, number_read}
use Rattle.signing.proofs.finish.Goals as goal

pub returns-in-Err : goal.returns-in-Err
unfolding finish_by
returns-in-Err c =
    rw (number_read c.args.image.now c.read_image.ensures _ c.in-Err.is, c.into.ensures)
    (record { reply = refl; state = refl; answer = refl })

pub returns-in-Ok : goal.returns-in-Ok
unfolding finish_by
returns-in-Ok c =
    let b = c.args.image.now in
    let k = known b c.read_image.ensures _ c.in-Ok.is in
    let f = facts {b = b} (λ i. (c.type_inv.image i).fits) k.same in
    rw k.same.read (rw f at (c.finish_answer.ensures b))
