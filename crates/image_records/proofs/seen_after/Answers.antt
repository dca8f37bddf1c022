-- A record without a fault leaves room to count it. Assumes nothing.
use Rattle.std.proofs.Common.{arith}
use Rattle.image_records.proofs.Good.{chain-fine, measurement-fine, summary-fine}
use Rattle.image_records.proofs.seen_after.Goals as goal

pub overflow_add-result : goal.overflow_add-result
overflow_add-result c = omega (arith, (chain-fine _ _ _ c.requires c.in-2.is).room)

pub overflow_add-result-in-3 : goal.overflow_add-result-in-3
overflow_add-result-in-3 c = omega (arith, (measurement-fine _ _ _ c.requires c.in-3.is).room)

pub overflow_add-result-in_default : goal.overflow_add-result-in_default
overflow_add-result-in_default c = omega (arith, (summary-fine _ _ _ c.requires (λ e. omega arith) (λ e. omega arith)).first)
