-- "all else is as for 1.2": the same state, decision and bytes under an edition. What *as_for_12* claims; no rule rests on it.
use Rattle.std.specs.Prelude.{List, [], ◌∷◌, ℕ}
use Rattle.rules.specs.declared.Negotiated.{Negotiated}
use Rattle.rules.specs.declared.State.{State}
use Rattle.rules.specs.Decision.{Decision}
use Rattle.rules.specs.Decision as decision

-- what was negotiated, had this edition been chosen
abbrev pub agreed_under : ℕ → Negotiated → Negotiated
agreed_under edition n = record { phase = n.phase; peer = n.peer; selection = n.selection; edition = edition }

abbrev pub state_under : ℕ → State → State
state_under edition s = record { negotiated = agreed_under edition s.negotiated; used = s.used; awaited = s.awaited }

abbrev pub decision_under : ℕ → Decision → Decision
decision_under edition (decision.Number k) = decision.Number k
decision_under edition (decision.Refused step code extra size) = decision.Refused step code extra size
decision_under edition (decision.Accepted m n x) = decision.Accepted m (agreed_under edition n) x

-- a message with this version byte
abbrev pub bytes_under : ℕ → List ℕ → List ℕ
bytes_under version [] = []
bytes_under version (x ∷ xs) = version ∷ xs
