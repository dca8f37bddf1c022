-- The draft of all records, closed, answers as the definition says (`closing-by`); only where it answers an image is the buffer written, with that
-- image. Assumes nothing.
use Rattle.std.proofs.Common.{ℕ, List, [], ◌∷◌, ◌+◌, ◌≤◌, length, refl, ap, ◌∙◌, arith}
use Rattle.wire.specs.Bytes.{splice}
use Rattle.wire.proofs.Laws.{splice-length}
use Rattle.image_writer.specs.Writing.{joined}
use Rattle.image_writer.specs.Remaining.{left}
use Rattle.image_writer.proofs.Promise.{wrote_nothing, undrafted, passed_on, image-fits, wrote_image}
use Rattle.image_writer.proofs.Drafts.{closing-by}
use Rattle.image_writer.proofs.write.Goals as goal

pub returns-in_err-draft_of : goal.returns-in_err-draft_of
returns-in_err-draft_of c =
    let none = undrafted _ _ _ _ _ refl c.in_err-draft_of.ensures in
    passed_on _ _ _ _ c.from_residual.ensures.1 none

pub returns-in_err-length : goal.returns-in_err-length
returns-in_err-length c =
    let answers = c.in_err-length.ensures ∙ closing-by _ _ (length c.args.out.now) _ c.in_ok-draft_of.ensures in
    passed_on _ _ _ _ c.from_residual-in_err-length.ensures.1 (wrote_nothing _ _ _ _ answers)

pub put_all-requires : goal.put_all-requires
put_all-requires c =
    let a = c.args in
    let answers = c.in_ok-length.ensures ∙ closing-by _ _ (length a.out.now) _ c.in_ok-draft_of.ensures in
    let h : 1 + length (joined (left a.records)) ≤ length a.out.now = image-fits _ _ _ _ answers in
    omega (arith, ap length c.copy_into.ensures, splice-length a.out.now 0 (a.first ∷ []))

pub returns : goal.returns
returns c =
    let a = c.args in
    let answers = c.in_ok-length.ensures ∙ closing-by _ _ (length a.out.now) _ c.in_ok-draft_of.ensures in
    let p = c.put_all.ensures ∙ ap (λ (o : List ℕ). splice o 1 (joined (left a.records))) c.copy_into.ensures in
    wrote_image _ _ _ _ _ answers p
