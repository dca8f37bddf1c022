-- Two of the tests are the definition's one on the slot: a first chain's and a later one's. Assumes nothing.
use Rattle.std.proofs.Common.{◌≡◌, false, get_or, arith}
use Rattle.wire.proofs.Picks.{picks}
use Rattle.image.specs.Reading.{slot_wrong, chain_fault}
use Rattle.image_records.proofs.Slots.{first_wrong, first_fine, later_wrong, later-fine}
use Rattle.image_records.proofs.check_chain.Goals as goal
use Rattle.image_records.proofs.check_chain.Goals.{then-w-eq0+else-slot-gt0, else-w-eq0+else-slot-w}

pub returns-then-slot-gt0 : goal.returns-then-slot-gt0
unfolding chain_fault
returns-then-slot-gt0 c =
    let t = first_wrong c.args.w.chains c.args.w.slot (get_or c.args.body.now 0 0) c.if-w-eq0.true (omega arith) in
    rw (← c.from-size.ensures) (search picks depth 18)

pub returns-then-slot-w : goal.returns-then-slot-w
unfolding chain_fault
returns-then-slot-w c =
    let t = later_wrong _ _ _ c.if-w-eq0.false c.if-slot-w.true in
    rw (← c.from-size.ensures) (search picks depth 18)

pub returns-then-own-body : goal.returns-then-own-body
unfolding chain_fault
returns-then-own-body c =
    let t : slot_wrong c.args.w.chains c.args.w.slot (get_or c.args.body.now 0 0) ≡ false =
    elim c.if-w-eq0.branch [ then-w-eq0+else-slot-gt0 w ↦ first_fine _ _ _ w.if-w-eq0.true (omega arith) | else-w-eq0+else-slot-w w ↦ later-fine _ _ _ w.if-w-eq0.false w.if-slot-w.false ] in
    rw (← c.from-size.ensures, ← c.get_u16le.ensures, ← c.from-own.ensures) (search picks depth 18)

pub returns : goal.returns
unfolding chain_fault
returns c =
    let t : slot_wrong c.args.w.chains c.args.w.slot (get_or c.args.body.now 0 0) ≡ false =
    elim c.if-w-eq0.branch [ then-w-eq0+else-slot-gt0 v ↦ first_fine _ _ _ v.if-w-eq0.true (omega arith) | else-w-eq0+else-slot-w v ↦ later-fine _ _ _ v.if-w-eq0.false v.if-slot-w.false ] in
    rw (← c.from-size.ensures, ← c.get_u16le.ensures, ← c.from-own.ensures) (search picks depth 18)
