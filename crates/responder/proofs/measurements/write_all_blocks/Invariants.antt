-- The first k blocks stand one behind the other.
use Rattle.std.proofs.Common.{take}
use Rattle.image.specs.Sizes.{digest_size}
use Rattle.rules.specs.Measurements.{blocks_of}
use Rattle.responder.specs.Written.{Written}
use Rattle.responder.proofs.measurements.write_all_blocks.Given as goal

abbrev pub invariant-loop-k : goal.invariant-loop-k
invariant-loop-k l =
    Written l.source l.initial.answer l.answer 8 (λ d. blocks_of (digest_size d.identity.hash) (take l.k d.measurements))
