-- What is left of the structures fits as the whole does, and the place is at most 32 + 8 · 255.
use Rattle.std.proofs.Common.{◌≡◌, ◌-◌, ◌≤◌}
use Rattle.rules.specs.Limits.{type_least}
use Rattle.rules.specs.Header.{param1}
use Rattle.rules.specs.Algorithms.{structures_start, structures_fit}
use Rattle.decision.proofs.algorithms.structures_fit.Given as goal

abbrev pub invariant-loop : goal.invariant-loop
invariant-loop l =
    (structures_fit l.r (param1 l.r) (type_least - 1) (structures_start l.r) ≡ structures_fit l.r (l.end - l.counter) l.last l.at) × (l.at ≤ 2072)
