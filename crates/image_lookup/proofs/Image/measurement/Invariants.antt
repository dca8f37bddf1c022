-- What the search from the k-th measurement on gives is what the whole search gives.
use Rattle.std.proofs.Common.{◌-◌, ◌≡◌}
use Rattle.image.specs.Index.{search_from, measurement_at}
use Rattle.image_lookup.proofs.Image.measurement.Given as goal

abbrev pub invariant-loop-k : goal.invariant-loop-k
invariant-loop-k l =
    search_from l.self.bytes.now l.self.index l.wanted l.k (l.self.index.measurements - l.k)
    ≡ measurement_at l.self.bytes.now l.self.index l.wanted
