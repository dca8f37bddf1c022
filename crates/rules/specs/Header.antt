-- What every message begins with, which edition of SPDM it speaks, and ERROR.
use Rattle.std.specs.Prelude.{Bool, true, List, [], ◌∷◌, ◌++◌, ℕ, get_or, ltb, eqb}
use Rattle.wire.specs.Bytes.{le_bytes}
use Rattle.wire.specs.Pick.{pick}
use Rattle.rules.specs.Limits.{capabilities_phase, version10, version11, version12, error_code, size_step}
use Rattle.rules.specs.declared.Negotiated.{Negotiated}

-- the request's bytes that every step looks at
abbrev pub version_byte : List ℕ → ℕ
version_byte r = get_or r 0 0

abbrev pub code_byte : List ℕ → ℕ
code_byte r = get_or r 1 0

abbrev pub param1 : List ℕ → ℕ
param1 r = get_or r 2 0

abbrev pub param2 : List ℕ → ℕ
param2 r = get_or r 3 0

-- the two editions, as version bytes say them: what is one thing under 1.1 is another under 1.2; before a choice it is as under 1.2
abbrev pub by_edition : {A : Type 0} → ℕ → A → A → A
by_edition version eleven twelve = pick (eqb version version11) eleven twelve

abbrev pub is_edition : ℕ → Bool
is_edition version = pick (eqb version version11) true (eqb version version12)

-- "Version is 0x10 in phases 0 and 1", and paper 02, 4: "answers and ERROR messages carry" the chosen byte: an answer's version byte, by
-- what is negotiated with it. (In a state out of its bounds a number that is no edition counts as 1.2: its calls come to 14.)
unfoldable pub version_of : Negotiated → ℕ
version_of n = pick (ltb n.phase capabilities_phase) version10 (by_edition n.edition version11 version12)

abbrev pub header : Negotiated → ℕ → ℕ → ℕ → List ℕ
header n code first second = version_of n ∷ code ∷ first ∷ second ∷ []

-- "A refusal writes an ERROR: version, 0x7F, code, data"
abbrev pub error_bytes : Negotiated → ℕ → ℕ → List ℕ
error_bytes n code extra = header n error_code code extra

-- step 8's has "then the answer's size in 4 bytes"
unfoldable pub refused_bytes : Negotiated → ℕ → ℕ → ℕ → ℕ → List ℕ
refused_bytes n step code extra size = error_bytes n code extra ++ pick (eqb step size_step) (le_bytes 4 size) []
