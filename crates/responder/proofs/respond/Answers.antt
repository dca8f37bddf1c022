-- A refused image says its number. The index of an accepted one is that of its contents, and the request is answered by their rules.
-- Assumes nothing.
use Rattle.std.proofs.Common.{refl, rules}
use Rattle.rules.specs.Effects.{effect_by}
use Rattle.responder.proofs.Carries.{no_answer}
use Rattle.image.proofs.Verdicts.{known, number_read}
use Rattle.responder.proofs.respond.Goals as goal

pub answer_request-requires : goal.answer_request-requires
answer_request-requires c = known _ c.read_image.ensures _ c.in-Ok.is

pub returns-in-Err : goal.returns-in-Err
unfolding effect_by
returns-in-Err c =
    rw (number_read c.args.image.now c.read_image.ensures _ c.in-Err.is)
    (record { reply = search rules; state = refl; answer = no_answer _; transcript = refl })

pub returns-in-Ok : goal.returns-in-Ok
unfolding effect_by
returns-in-Ok c =
    let k = known c.args.image.now c.read_image.ensures _ c.in-Ok.is in
    rw k.same.read (c.answer_request.ensures k.held k.same)
