-- What a state within its bounds tells: each of the tests passed, as all did. Assumes nothing.
use mathlib.Core.Path.{◌≡◌, refl}
use mathlib.Core.Bool.{Bool, true, false}
use mathlib.Core.List.{List, [], ◌∷◌}
use Prim.Native.Nat.{ℕ, zero, suc, ◌+◌, ◌≤◌, ◌<◌}
use native.Mathlib.Omega.{arith}
use lib.ListN.{get_or}
use lib.Dec.{ltb, eqb}
use borrow.Author.Tests.{ltb-true, ltb-false, leb-true, eqb-true, eqb-false, ne_eqb}
use Rattle.wire.specs.Pick.{pick}
use Rattle.wire.proofs.Picks.{pick_case, when_false, not_first, not-second}
use Rattle.rules.specs.Limits.{message_limit, peer_least, fresh_phase, version_phase, capabilities_phase, algorithms_phase, version_used, capabilities_used12, header_length, awaits_nothing, awaits_measurements}
use Rattle.rules.specs.Facts.{Facts, sig_size}
use Rattle.rules.specs.Parts.{limit_of, count_of}
use Rattle.rules.specs.Header.{version_of}
use Rattle.rules.specs.State.{all_of, holds_only, capabilities_used, phase_fits, awaited_fits, own_tests, own_bounds, selection_held, awaited_long, in_bounds}
use Rattle.rules.specs.declared.Part.{Part}
use Rattle.rules.specs.declared.Part.TheVariants.{A, B, M}
use Rattle.rules.specs.declared.Used.{Used}
use Rattle.rules.specs.declared.State.{State}

pub false_true : false ≡ true → ⊥
false_true e = let z : ◌≡◌ {A = ℕ} 0 1 = cc in omega arith

pub not-zero : (n : ℕ) → eqb n 0 ≡ false → 0 < n
not-zero n e = let z : n ≡ 0 → ⊥ = eqb-false n 0 e in omega arith

-- where all hold, so does the i-th
pub all-at : (l : List Bool) (i : ℕ) → all_of l ≡ true → get_or l i true ≡ true
unfolding pick
all-at [] i h = refl
all-at (true ∷ bs) zero h = refl
all-at (true ∷ bs) (suc i) h = all-at bs i h
all-at (false ∷ bs) i h = absurd (false_true h)

-- every part within its limit
abbrev pub Counted : Used → Type 0
Counted u = (x : Part) → count_of x u ≤ limit_of x

holds_at : (u : Used) (n i : ℕ) → holds_only u n ≡ true → get_or (eqb u.a n ∷ eqb u.b 0 ∷ eqb u.m 0 ∷ []) i true ≡ true
unfolding holds_only
holds_at u n i e = all-at (eqb u.a n ∷ eqb u.b 0 ∷ eqb u.m 0 ∷ []) i e

-- the bounds that need no image
module _ (s : State) (h : own_bounds s ≡ true) where
  passed : (i : ℕ) → get_or (own_tests s) i true ≡ true
  unfolding own_bounds
  passed i = all-at (own_tests s) i h

  pub counted : Counted s.used
  counted A = leb-true _ _ (passed 1)
  counted B = leb-true _ _ (passed 2)
  counted M = leb-true _ _ (passed 3)

  -- A in phases 1 and 2, B in phase 2, and the peer's size in phases 2 and 3
  pub used_in_1 : s.negotiated.phase ≡ version_phase → s.used.a ≡ version_used
  unfolding phase_fits pick
  used_in_1 p = eqb-true _ _ (holds_at s.used version_used 0 (rw p at (passed 4)))

  in_2 : s.negotiated.phase ≡ capabilities_phase → (ltb s.negotiated.peer peer_least ≡ false) × (holds_only s.used (capabilities_used (version_of s.negotiated)) ≡ true)
  unfolding phase_fits pick
  in_2 p =
      let a : eqb s.negotiated.phase fresh_phase ≡ false = rw p in
      let b : eqb s.negotiated.phase version_phase ≡ false = rw p in
      let c : eqb s.negotiated.phase capabilities_phase ≡ true = rw p in
      not_first (ltb s.negotiated.peer peer_least) _ _ _ (rw (a, b, c) at (passed 4)) false_true

  -- the longer of the two editions' A
  pub used_in_2 : s.negotiated.phase ≡ capabilities_phase → s.used.a ≤ capabilities_used12
  used_in_2 p =
      let e : s.used.a ≡ capabilities_used (version_of s.negotiated) = eqb-true _ _ (holds_at s.used _ 0 (in_2 p).1) in
      rw e (pick_case (λ (n : ℕ). n ≤ capabilities_used12) _ _ _ (λ _. omega arith) (λ _. omega arith))

  pub empty_in_2 : s.negotiated.phase ≡ capabilities_phase → s.used.b ≡ 0
  empty_in_2 p = eqb-true _ _ (holds_at s.used _ 1 (in_2 p).1)

  pub peer_in_2 : s.negotiated.phase ≡ capabilities_phase → peer_least ≤ s.negotiated.peer
  peer_in_2 p = ltb-false _ _ (in_2 p).0

  pub peer_in_3 : s.negotiated.phase ≡ algorithms_phase → peer_least ≤ s.negotiated.peer
  unfolding phase_fits pick
  peer_in_3 p = ltb-false _ _ (not_first _ _ _ _ (rw p at (passed 4)) false_true).0

  -- a signature is awaited: whose, when, and the most that its answer has
  pub record OwnAwaited : Type 0 where
    pub known : s.awaited.whose ≤ awaits_measurements
    pub phase : s.negotiated.phase ≡ algorithms_phase
    pub most : s.awaited.length ≤ message_limit

  pub own-awaited : (s.awaited.whose ≡ awaits_nothing → ⊥) → OwnAwaited
  unfolding awaited_fits
  own-awaited n =
      let a = when_false _ _ _ _ (passed 6) (ne_eqb _ _ n) in
      let b = not_first _ _ _ _ a false_true in
      let c = not-second _ _ _ _ b.1 false_true in
      record { known = ltb-false _ _ b.0; phase = eqb-true _ _ c.0; most = leb-true _ _ c.1 }

-- a signature is awaited, and its answer has room for it
pub record SignatureAwaited (f : Facts) (s : State) : Type 0 where
  pub known : s.awaited.whose ≤ awaits_measurements
  pub phase : s.negotiated.phase ≡ algorithms_phase
  pub least : header_length + sig_size f ≤ s.awaited.length
  pub most : s.awaited.length ≤ message_limit

-- all bounds
module _ (f : Facts) (s : State) (h : in_bounds f s ≡ true) where
  held : (i : ℕ) → get_or (own_bounds s ∷ selection_held f s.negotiated ∷ awaited_long f s.awaited ∷ []) i true ≡ true
  unfolding in_bounds
  held i = all-at (own_bounds s ∷ selection_held f s.negotiated ∷ awaited_long f s.awaited ∷ []) i h

  pub own : own_bounds s ≡ true
  own = held 0

  -- a specification was selected: there are measurements
  pub measured : (s.negotiated.selection ≡ 0 → ⊥) → 0 < f.measurements
  unfolding selection_held
  measured n = ltb-true _ _ (when_false _ _ _ _ (held 1) (ne_eqb _ _ n))

  pub awaited-told : (s.awaited.whose ≡ awaits_nothing → ⊥) → SignatureAwaited f s
  unfolding awaited_long
  awaited-told n =
      let w = own-awaited s own n in
      record { known = w.known; phase = w.phase; least = leb-true _ _ (when_false _ _ _ _ (held 2) (ne_eqb _ _ n)); most = w.most }
