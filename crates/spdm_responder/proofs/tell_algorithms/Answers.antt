-- A refused image says its number, and the index of an accepted one says what its contents do. Assumes nothing.
use Rattle.std.proofs.Common.{◌≡◌, List, ℕ, refl, ap, ◌∙◌}
use Rattle.wire.specs.Bytes.{Bytes, splice}
use Rattle.image.specs.Contents.{Contents}
use Rattle.image.specs.Read.{ReadAs}
use Rattle.image.specs.declared.Index.{Index}
use Rattle.image.proofs.Found.{mask_is}
use Rattle.image.proofs.Verdicts.{known}
use Rattle.rules.specs.Reply.{Reply}
use Rattle.rules.specs.Reply as reply
use Rattle.spdm_responder.specs.ImageAlgorithms.{told_by, told_in}
use Rattle.spdm_responder.proofs.Replies.{refused-reads, refused-says}
use Rattle.spdm_responder.proofs.tell_algorithms.Goals as goal

by_index : {b : List ℕ} → Bytes b → {ix : Index} {c : Contents} → ReadAs b ix c → (y : Reply) → told_in y ix ≡ told_by y c
by_index y r (reply.Number n) = refl
by_index y r (reply.Answer n) = rw (mask_is y r, r.indexed)

pub returns-in_err-read_image : goal.returns-in_err-read_image
unfolding splice
returns-in_err-read_image c =
    let f = c.in_err-read_image in
    rw (refused-reads _ _ f.ensures) (record { reply = refused-says _ _ f.ensures _ c.from_residual.ensures.1; words = refl })

pub returns : goal.returns
returns c =
    let k = known c.args.image.now c.read_image.ensures _ c.in_ok-read_image.was in
    let e = by_index (λ i. (c.type_inv.image i).fits) k.same in
    let w = c.write_algorithms.ensures in
    rw k.same.read (record { reply = w.reply; words = w.words ∙ ap (splice _ 0) (e _ ∙ ap (λ y. told_by y k.held) w.reply) })
