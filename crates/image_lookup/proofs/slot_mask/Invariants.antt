-- The mask so far has bits below the k-th only, and with those of the places left it is the whole.
use Rattle.std.proofs.Common.{◌≡◌, ◌+◌, ◌<◌, ◌^◌, drop}
use Rattle.image.specs.Index.{mask_from, mask_at}
use Rattle.image_lookup.proofs.slot_mask.Given as goal

abbrev pub invariant-loop-k : goal.invariant-loop-k
invariant-loop-k l = (l.mask < 2 ^ l.k) × (l.mask + mask_from (2 ^ l.k) (drop l.k l.place-items) ≡ mask_at l.fn.ix)
