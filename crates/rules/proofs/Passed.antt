-- The one walk over the tests of a request. Where no number came, the host's tests passed; where a request was accepted, steps 1–6 passed too,
-- and the decision is that of its kind's own steps. Assumes nothing.
use Rattle.std.specs.Prelude.{Option, Some, None}
use mathlib.Core.Path.{◌≡◌, refl, sym, subst}
use mathlib.Core.Bool.{true, false}
use mathlib.Core.List.{List}
use Prim.Native.Nat.{ℕ, ◌≤◌}
use lib.ListN.{length}
use borrow.Author.Tests.{ltb-false, eqb-true}
use Rattle.wire.proofs.Picks.{not_first, not-second}
use Rattle.rules.specs.Limits.{message_limit, transcript_length, nonce_length, header_length, short_answer, short_transcript, wrong_nonce, wrong_state}
use Rattle.rules.specs.Facts.{Facts}
use Rattle.rules.specs.State.{in_bounds}
use Rattle.rules.specs.Header.{version_byte, code_byte}
use Rattle.rules.specs.Steps.{kind_of, must_wait, serves, version_fits, in_phase, kind_steps, asked_steps, first_steps}
use Rattle.rules.specs.Decisions.{last_steps, request_decision, decision_of}
use Rattle.rules.specs.declared.State.{State}
use Rattle.rules.specs.declared.Lengths.{Lengths}
use Rattle.rules.specs.declared.Kind.{Kind}
use Rattle.rules.specs.Decision.{Decision}
use Rattle.rules.specs.Decision as decision

abbrev pub Unnumbered : Decision → Type 0
Unnumbered (decision.Number k) = ⊥
Unnumbered (decision.Refused step code extra size) = Unit {0}
Unnumbered (decision.Accepted m n x) = Unit {0}

abbrev pub IsAccepted : Decision → Type 0
IsAccepted (decision.Number k) = ⊥
IsAccepted (decision.Refused step code extra size) = ⊥
IsAccepted (decision.Accepted m n x) = Unit {0}

pub accepted_unnumbered : (d : Decision) → IsAccepted d → Unnumbered d
accepted_unnumbered (decision.Number k) a = a
accepted_unnumbered (decision.Refused step code extra size) a = absurd a
accepted_unnumbered (decision.Accepted m n x) a = tt

-- the host's tests passed
pub record Called (f : Facts) (s : State) (lent : Lengths) (nonce : ℕ) : Type 0 where
  pub buffer : message_limit ≤ lent.answer
  pub room : transcript_length ≤ lent.transcript
  pub drawn : nonce ≡ nonce_length
  pub bounds : in_bounds f s ≡ true

-- steps 1–6 passed: the kind, and that d is what its own steps decide
pub record Passed (f : Facts) (s : State) (r : List ℕ) (d : Decision) : Type 0 where
  pub least : header_length ≤ length r
  pub most : length r ≤ message_limit
  pub free : must_wait s.awaited (code_byte r) ≡ false
  pub kind : Kind
  pub asked : kind_of (code_byte r) ≡ Some kind
  pub served : serves f kind ≡ true
  pub version : version_fits s.negotiated (version_byte r) kind ≡ true
  pub phase : in_phase s.negotiated kind ≡ true
  pub decided : last_steps f s r kind ≡ d

module _ (f : Facts) (s : State) (r : List ℕ) (d : Decision) where
  -- where no number came, the request came to its nine steps
  pub called : (lent : Lengths) (nonce : ℕ) → decision_of f s lent nonce r ≡ d → Unnumbered d → Called f s lent nonce × (request_decision f s r ≡ d)
  unfolding decision_of
  called lent nonce e u =
      let no : (k : ℕ) → decision.Number k ≡ d → ⊥ = λ k q. subst Unnumbered (sym q) u in
      let a = not_first _ _ _ _ e (no short_answer) in
      let b = not_first _ _ _ _ a.1 (no short_transcript) in
      let c = not-second _ _ _ _ b.1 (no wrong_nonce) in
      let z = not-second _ _ _ _ c.1 (no wrong_state) in
      (record { buffer = ltb-false _ _ a.0; room = ltb-false _ _ b.0; drawn = eqb-true _ _ c.0; bounds = z.0 }, z.1)

  -- where it was accepted, the first six passed
  module _ (u : IsAccepted d) where
    no : (step code extra size : ℕ) → decision.Refused step code extra size ≡ d → ⊥
    no step code extra size q = subst IsAccepted (sym q) u

    -- steps 4–6, by what the code asks for
    by_code : header_length ≤ length r → length r ≤ message_limit → must_wait s.awaited (code_byte r) ≡ false
        → (x : Option Kind) → kind_of (code_byte r) ≡ x → asked_steps f s r (λ (k : Kind). last_steps f s r k) x ≡ d → Passed f s r d
    unfolding asked_steps kind_steps
    by_code l m w (Some k) x g =
        let a = not-second _ _ _ _ g (no _ _ _ _) in
        let b = not-second _ _ _ _ a.1 (no _ _ _ _) in
        let c = not-second _ _ _ _ b.1 (no _ _ _ _) in
        record { least = l; most = m; free = w; kind = k; asked = x; served = a.0; version = b.0; phase = c.0; decided = c.1 }
    by_code l m w None x g = absurd (no _ _ _ _ g)

    pub passed : request_decision f s r ≡ d → Passed f s r d
    unfolding request_decision first_steps
    passed e =
        let a = not_first _ _ _ _ e (no _ _ _ _) in
        let b = not_first _ _ _ _ a.1 (no _ _ _ _) in
        let c = not_first _ _ _ _ b.1 (no _ _ _ _) in
        by_code (ltb-false _ _ a.0) (ltb-false _ _ b.0) c.0 (kind_of (code_byte r)) refl c.1
