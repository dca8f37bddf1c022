-- What is written, with the digests of the slots that are left behind it, is the head with those of all slots; each slot adds at most 64 bytes.
use Rattle.std.proofs.Common.{◌≡◌, ◌+◌, ◌*◌, ◌-◌, ◌≤◌}
use Rattle.wire.specs.Bytes.{splice}
use Rattle.image.specs.Index.{digest_at}
use Rattle.image.specs.Limits.{slot_count}
use Rattle.image.specs.Sizes.{digest_most}
use Rattle.rules.specs.Limits.{header_length}
use Rattle.responder.proofs.DigestLaws.{joined_from}
use Rattle.responder.proofs.digests.write_digests.Given as goal

abbrev pub invariant-loop-slot : goal.invariant-loop-slot
invariant-loop-slot l =
    (l.at ≤ header_length + digest_most * l.slot)
    × (splice l.answer l.at (joined_from (digest_at l.source.image.bytes.now l.source.image.index) l.slot (slot_count - l.slot))
    ≡ splice l.initial.answer header_length (joined_from (digest_at l.source.image.bytes.now l.source.image.index) 0 slot_count))
