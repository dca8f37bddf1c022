-- The fresh state, and "State bounds", which number 14 tests: lists of tests, all of which must hold.
use Rattle.std.specs.Prelude.{Bool, true, false, List, [], ◌∷◌, ℕ, ◌+◌, ltb, leb, eqb}
use Rattle.wire.specs.Pick.{pick}
use Rattle.rules.specs.Limits.{message_limit, a_limit, b_limit, m_limit, peer_least, peer11, fresh_phase, version_phase, capabilities_phase}
use Rattle.rules.specs.Limits.{algorithms_phase, version_used, capabilities_used11, capabilities_used12, version10, version11, version12}
use Rattle.rules.specs.Limits.{no_edition}
use Rattle.rules.specs.Limits.{header_length, awaits_nothing, awaits_measurements}
use Rattle.rules.specs.Facts.{Facts, sig_size}
use Rattle.rules.specs.Header.{by_edition, version_of}
use Rattle.rules.specs.declared.Negotiated.{Negotiated}
use Rattle.rules.specs.declared.Used.{Used}
use Rattle.rules.specs.declared.Awaited.{Awaited}
use Rattle.rules.specs.declared.State.{State}

-- a phase, an edition and the peer's size, with nothing else agreed on
abbrev pub agreed_at : ℕ → ℕ → ℕ → Negotiated
agreed_at phase edition peer = record { phase = phase; peer = peer; selection = 0; edition = edition }

abbrev pub cleared_at : ℕ → Negotiated
cleared_at phase = agreed_at phase no_edition 0

abbrev pub nothing_used : Used
nothing_used = record { a = 0; b = 0; m = 0 }

-- whose signature is awaited, for an answer of so many bytes
abbrev pub awaiting : ℕ → ℕ → Awaited
awaiting whose length = record { whose = whose; length = length }

abbrev pub none_awaited : Awaited
none_awaited = awaiting awaits_nothing 0

-- all zero
abbrev pub fresh : State
fresh = record { negotiated = cleared_at fresh_phase; used = nothing_used; awaited = none_awaited }

abbrev pub all_of : List Bool → Bool
all_of [] = true
all_of (b ∷ bs) = pick b (all_of bs) false

-- A holds exactly n bytes, B and M none
unfoldable pub holds_only : Used → ℕ → Bool
holds_only u n = all_of (eqb u.a n ∷ eqb u.b 0 ∷ eqb u.m 0 ∷ [])

-- "A holds 14 in phase 1, then 38 (1.1) or 54 (1.2) in phase 2"
abbrev pub capabilities_used : ℕ → ℕ
capabilities_used version = by_edition version capabilities_used11 capabilities_used12

-- "phase 2 or 3 has peer size at least 42 .. in phases 0, 1, 2 A holds exactly" 0 and these "and B and M 0"
unfoldable pub phase_fits : Negotiated → Used → Bool
phase_fits n u =
    pick (eqb n.phase fresh_phase) (holds_only u 0)
    (pick (eqb n.phase version_phase) (holds_only u version_used)
    (pick (ltb n.peer peer_least) false
    (pick (eqb n.phase capabilities_phase) (holds_only u (capabilities_used (version_of n))) true)))

-- "a measurement specification selected only in phase 3 .."; a selection is 0 or 1
unfoldable pub selection_fits : Negotiated → Bool
selection_fits n =
    pick (eqb n.selection 0) true
    (pick (eqb n.selection 1) (eqb n.phase algorithms_phase) false)

-- paper 02, 4: "none in phases 0 and 1, one after, 1.1 with a peer's size of 4,608"; an edition is 1.1 or 1.2, and before one is chosen 0x10
-- is said
unfoldable pub edition_fits : Negotiated → Bool
edition_fits n =
    pick (eqb (version_of n) version10) (eqb n.edition no_edition)
    (pick (eqb n.edition version11) (eqb n.peer peer11)
    (eqb n.edition version12))

-- "an awaited signature only in phase 3, with answer length .. to 4,608"; what is awaited is 0, 1 or 2
unfoldable pub awaited_fits : Negotiated → Awaited → Bool
awaited_fits n w =
    pick (eqb w.whose awaits_nothing) true
    (pick (ltb awaits_measurements w.whose) false
    (pick (eqb n.phase algorithms_phase) (leb w.length message_limit) false))

-- the bounds that need no image
abbrev pub own_tests : State → List Bool
own_tests s =
    leb s.negotiated.phase algorithms_phase
    ∷ leb s.used.a a_limit
    ∷ leb s.used.b b_limit
    ∷ leb s.used.m m_limit
    ∷ phase_fits s.negotiated s.used
    ∷ selection_fits s.negotiated
    ∷ awaited_fits s.negotiated s.awaited
    ∷ edition_fits s.negotiated
    ∷ []

unfoldable pub own_bounds : State → Bool
own_bounds s = all_of (own_tests s)

-- ".. and only if the image has a kind 3"
unfoldable pub selection_held : Facts → Negotiated → Bool
selection_held f n = pick (eqb n.selection 0) true (ltb 0 f.measurements)

-- "with answer length 4+S .."
unfoldable pub awaited_long : Facts → Awaited → Bool
awaited_long f w = pick (eqb w.whose awaits_nothing) true (leb (header_length + sig_size f) w.length)

unfoldable pub in_bounds : Facts → State → Bool
in_bounds f s = all_of (own_bounds s ∷ selection_held f s.negotiated ∷ awaited_long f s.awaited ∷ [])
