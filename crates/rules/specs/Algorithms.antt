-- NEGOTIATE_ALGORITHMS and ALGORITHMS.
use Rattle.std.specs.Prelude.{Bool, false, List, [], ◌∷◌, ◌++◌, ℕ, zero, suc, ◌+◌, ◌*◌, ◌/◌, ◌%◌, ◌^◌, ◌-◌, length, get_or, replicate, ltb, leb, eqb}
use Rattle.wire.specs.Bytes.{le_at, le_bytes}
use Rattle.wire.specs.Pick.{pick}
use Rattle.image.specs.Contents.{Contents}
use Rattle.rules.specs.Limits.{algorithms_phase, algorithms_least, algorithms_most, algorithms_length, type_least, type_most}
use Rattle.rules.specs.Limits.{algorithms_code}
use Rattle.rules.specs.Facts.{Facts}
use Rattle.rules.specs.Header.{param1, header}
use Rattle.rules.specs.Steps.{invalid}
use Rattle.rules.specs.Exchanges.{complete}
use Rattle.rules.specs.declared.Negotiated.{Negotiated}
use Rattle.rules.specs.declared.Kind.TheVariants as kind
use Rattle.rules.specs.declared.Message.TheVariants as message
use Rattle.rules.specs.declared.Exchange.{Exchange}
use Rattle.rules.specs.Decision.{Decision, Accepted}

-- bit n of a number
abbrev pub bit_set : ℕ → ℕ → Bool
bit_set v n = eqb (v / 2 ^ n % 2) 1

-- "Length at 4, .. extended counts E1, E2 at 28, 29. After 32 bytes, 4·E1+4·E2 bytes, then the structures"
abbrev pub length_field : List ℕ → ℕ
length_field r = le_at 2 r 4

abbrev pub structures_start : List ℕ → ℕ
structures_start r = algorithms_least + 4 * get_or r 28 0 + 4 * get_or r 29 0

-- "type 2–5 strictly rising, a byte whose high half is 2 and low half a count n, 2 bytes, then 4n. They end exactly at Length":
-- so many structures from a place on, each of a type above the last
unfoldable pub structures_fit : List ℕ → ℕ → ℕ → ℕ → Bool
structures_fit r zero last at = eqb at (length_field r)
structures_fit r (suc n) last at =
    pick (ltb (length_field r) (at + 4)) false
    (pick (leb (get_or r at 0) last) false
    (pick (ltb type_most (get_or r at 0)) false
    (pick (eqb (get_or r (at + 1) 0 / 16) 2)
    (structures_fit r n (get_or r at 0) (at + 4 + 4 * (get_or r (at + 1) 0 % 16)))
    false)))

-- "selection at 6 (1 if measurements exist and the peer set bit 0, else 0)"
abbrev pub selection_for : Facts → List ℕ → ℕ
selection_for f r = pick (eqb f.measurements 0) 0 (get_or r 6 0 % 2)

-- "NEGOTIATE_ALGORITHMS only in 2, to 3"
abbrev pub algorithms_next : Facts → Negotiated → List ℕ → Negotiated
algorithms_next f n r = record { phase = algorithms_phase; peer = n.peer; selection = selection_for f r; edition = n.edition }

abbrev pub algorithms_exchange : List ℕ → Exchange
algorithms_exchange r = complete kind.Algorithms (length_field r) algorithms_length

-- "Param1 is the count of structures .. Length, 32–128. Our two bits must be set."
unfoldable pub algorithms_decision : Facts → Negotiated → List ℕ → Decision
algorithms_decision f n r =
    pick (ltb (length r) algorithms_least) invalid
    (pick (ltb (length_field r) algorithms_least) invalid
    (pick (ltb algorithms_most (length_field r)) invalid
    (pick (ltb (length r) (length_field r)) invalid
    (pick (structures_fit r (param1 r) (type_least - 1) (structures_start r))
    (pick (bit_set (le_at 4 r 8) f.identity.signature)
    (pick (bit_set (le_at 4 r 12) f.identity.hash)
    (Accepted message.Algorithms (algorithms_next f n r) (algorithms_exchange r))
    invalid)
    invalid)
    invalid))))

-- "MeasurementHashAlgo at 8 (bit hash number + 1 if selected, else 0)"
abbrev pub measurement_hash : Contents → ℕ → ℕ
measurement_hash c selection = selection * 2 ^ (c.identity.hash + 1)

-- "ALGORITHMS 0x63, 36 bytes: Length, selection at 6 .., MeasurementHashAlgo at 8 .., our two bits at 12 and 16, rest 0"
unfoldable pub algorithms_bytes : Contents → Negotiated → List ℕ
algorithms_bytes c n =
    header n algorithms_code 0 0
    ++ (le_bytes 2 algorithms_length
    ++ ((n.selection ∷ 0 ∷ [])
    ++ (le_bytes 4 (measurement_hash c n.selection)
    ++ (le_bytes 4 (2 ^ c.identity.signature)
    ++ (le_bytes 4 (2 ^ c.identity.hash)
    ++ replicate 16 0)))))
