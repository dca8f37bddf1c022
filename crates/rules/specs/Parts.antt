-- The transcript's parts: where they stand, what goes to which, and what is kept of them.
use Rattle.std.specs.Prelude.{Bool, true, false, not, ◌&&◌, List, [], ◌++◌, ℕ, ◌+◌, length, leb, eqb}
use Rattle.wire.specs.Pick.{pick}
use Rattle.rules.specs.Limits.{a_start, b_start, m_start, a_limit, b_limit, m_limit, get_measurements, fields_step, room_step, awaits_challenge}
use Rattle.rules.specs.declared.Kind.{Kind}
use Rattle.rules.specs.declared.Kind.TheVariants as kind
use Rattle.rules.specs.declared.Part.{Part}
use Rattle.rules.specs.declared.Part.TheVariants.{A, B, M}
use Rattle.rules.specs.declared.Used.{Used}

-- "Transcript buffer: A in bytes 0–511, B from 512, M from" 29,184 (paper 02, 5)
abbrev pub start_of : Part → ℕ
start_of A = a_start
start_of B = b_start
start_of M = m_start

-- "A, B, M use at most 512," 28,672 (paper 02, 5), "7,680"
abbrev pub limit_of : Part → ℕ
limit_of A = a_limit
limit_of B = b_limit
limit_of M = m_limit

-- "the first three kinds to A, GET_DIGESTS, GET_CERTIFICATE and CHALLENGE to B, GET_MEASUREMENTS to M"
abbrev pub part_for : Kind → Part
part_for kind.Version = A
part_for kind.Capabilities = A
part_for kind.Algorithms = A
part_for kind.Digests = B
part_for kind.Certificate = B
part_for kind.Challenge = B
part_for kind.Measurements = M

-- which parts are kept; the others are emptied
pub record Kept : Type 0 where
  pub a : Bool
  pub b : Bool
  pub m : Bool

-- "B is emptied by an accepted GET_MEASUREMENTS, M by any other accepted request, all by GET_VERSION, before it is appended itself"
abbrev pub kept_by : Kind → Kept
kept_by kind.Version = record { a = false; b = false; m = false }
kept_by kind.Capabilities = record { a = true; b = true; m = false }
kept_by kind.Algorithms = record { a = true; b = true; m = false }
kept_by kind.Digests = record { a = true; b = true; m = false }
kept_by kind.Certificate = record { a = true; b = true; m = false }
kept_by kind.Challenge = record { a = true; b = true; m = false }
kept_by kind.Measurements = record { a = true; b = false; m = true }

-- Paper 02, 3: "a GET_MEASUREMENTS refused at step 7, 8 or 9 empties M"
abbrev pub empties_m : ℕ → ℕ → Bool
empties_m step asked = eqb asked get_measurements && leb fields_step step && leb step room_step

-- what a refusal leaves, by its step and the request's byte 1
abbrev pub kept_by_refusal : ℕ → ℕ → Kept
kept_by_refusal step asked = record { a = true; b = true; m = not (empties_m step asked) }

-- what a finishing leaves, by whose signature it was: "Either way B (or M) is emptied"
abbrev pub kept_by_finishing : ℕ → Kept
kept_by_finishing whose = record { a = true; b = not (eqb whose awaits_challenge); m = eqb whose awaits_challenge }

-- where an accepted request is appended, with its answer
pub data Entry : Type 0 where
  into : Part → Entry
  nowhere : Entry

abbrev pub same_part : Part → Part → Bool
same_part A A = true
same_part A B = false
same_part A M = false
same_part B A = false
same_part B B = true
same_part B M = false
same_part M A = false
same_part M B = false
same_part M M = true

abbrev pub goes_to : Entry → Part → Bool
goes_to (into x) y = same_part x y
goes_to nowhere y = false

abbrev pub keeps : Kept → Part → Bool
keeps kept A = kept.a
keeps kept B = kept.b
keeps kept M = kept.m

-- In the box a part is a count: "Emptying changes a count, no bytes"

abbrev pub count_of : Part → Used → ℕ
count_of A u = u.a
count_of B u = u.b
count_of M u = u.m

abbrev pub count_kept : Part → Kept → Used → ℕ
count_kept x kept u = pick (keeps kept x) (count_of x u) 0

abbrev pub kept_used : Kept → Used → Used
kept_used kept u = record { a = count_kept A kept u; b = count_kept B kept u; m = count_kept M kept u }

abbrev pub count_after : Part → Kept → Entry → ℕ → Used → ℕ
count_after x kept e n u = count_kept x kept u + pick (goes_to e x) n 0

abbrev pub used_after : Kept → Entry → ℕ → Used → Used
used_after kept e n u = record { a = count_after A kept e n u; b = count_after B kept e n u; m = count_after M kept e n u }

-- In the plain box a part is a list

pub record Parts : Type 0 where
  pub a : List ℕ
  pub b : List ℕ
  pub m : List ℕ

abbrev pub no_parts : Parts
no_parts = record { a = []; b = []; m = [] }

abbrev pub used_of : Parts → Used
used_of p = record { a = length p.a; b = length p.b; m = length p.m }

abbrev pub list_of : Part → Parts → List ℕ
list_of A p = p.a
list_of B p = p.b
list_of M p = p.m

abbrev pub list_kept : Part → Kept → Parts → List ℕ
list_kept x kept p = pick (keeps kept x) (list_of x p) []

abbrev pub kept_parts : Kept → Parts → Parts
kept_parts kept p = record { a = list_kept A kept p; b = list_kept B kept p; m = list_kept M kept p }

-- kept or emptied, then appended to
abbrev pub list_after : Part → Kept → Entry → List ℕ → Parts → List ℕ
list_after x kept e bytes p = list_kept x kept p ++ pick (goes_to e x) bytes []

abbrev pub parts_after : Kept → Entry → List ℕ → Parts → Parts
parts_after kept e bytes p = record { a = list_after A kept e bytes p; b = list_after B kept e bytes p; m = list_after M kept e bytes p }
