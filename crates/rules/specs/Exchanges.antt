-- What an accepted request does beside its answer, in the two forms that there are.
use Rattle.std.specs.Prelude.{ℕ}
use Rattle.rules.specs.Limits.{awaits_nothing}
use Rattle.rules.specs.Facts.{Facts, sig_size}
use Rattle.rules.specs.Parts.{part_for}
use Rattle.rules.specs.declared.Kind.{Kind}
use Rattle.rules.specs.declared.Exchange.{Exchange}

-- so many bytes of a request of that kind, and an answer of so many
abbrev pub complete : Kind → ℕ → ℕ → Exchange
complete k layout length = record { part = part_for k; layout = layout; length = length; signature = 0; whose = awaits_nothing }

-- the same, and the answer then ends in a signature of S bytes
abbrev pub signable : Facts → Kind → ℕ → ℕ → ℕ → Exchange
signable f k layout length whose = record { part = part_for k; layout = layout; length = length; signature = sig_size f; whose = whose }
