-- A record behind the identity, held against those before it: the number of its fault, or what is seen past it.
use Rattle.std.specs.Prelude.{List, ℕ, ◌+◌, get_or, eqb}
use Rattle.wire.specs.Pick.{pick}
use Rattle.image.specs.Limits.{chain_kind, measurement_kind}
use Rattle.image.specs.Sizes.{digest_size}
use Rattle.image.specs.Reading.{Result, found, unless, record_fault}
use Rattle.image.specs.declared.Identity.{Identity}
use Rattle.image.specs.declared.Seen.{Seen}

-- right behind the identity
abbrev pub seen_first : Identity → Seen
seen_first i = record { size = digest_size i.hash; chains = 0; slot = 0; measurements = 0; index = 0; summaries = 0 }

-- past a good record, whose key is its body's first byte: the slot of a chain, the index of a measurement
abbrev pub seen_after : Seen → ℕ → ℕ → Seen
seen_after w kind key =
    pick (eqb kind chain_kind)
    (record { size = w.size; chains = w.chains + 1; slot = key; measurements = w.measurements; index = w.index; summaries = w.summaries })
    (pick (eqb kind measurement_kind)
    (record { size = w.size; chains = w.chains; slot = w.slot; measurements = w.measurements + 1; index = key; summaries = w.summaries })
    (record { size = w.size; chains = w.chains; slot = w.slot; measurements = w.measurements; index = w.index; summaries = w.summaries + 1 }))

unfoldable pub held_of : Seen → ℕ → List ℕ → Result Seen
held_of w kind body = unless (record_fault w kind body) (found (seen_after w kind (get_or body 0 0)))
