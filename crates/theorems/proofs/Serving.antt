-- The states in which reads are served, and how a panel comes to one. An accepted NEGOTIATE_ALGORITHMS was made in phase 2 and within the
-- state's bounds, so B is empty then and the peer's size at least 42; a GET_DIGESTS adds its own bytes to B, or nothing. Assumes nothing.
use mathlib.Core.Path.{◌≡◌, refl, sym, subst}
use mathlib.Core.List.{List}
use Prim.Native.Nat.{ℕ, ◌≤◌}
use native.Mathlib.Omega.{arith}
use lib.ListN.{length}
use borrow.Author.Tests.{eqb-true}
use Rattle.wire.specs.Pick.{pick}
use Rattle.wire.proofs.Picks.{not_first, not-second}
use Rattle.image.specs.Contents.{Contents, Valid}
use Rattle.image.specs.Reading.{found}
use Rattle.rules.specs.Limits.{peer_least, capabilities_phase, algorithms_phase, negotiate_algorithms, get_digests, awaits_nothing}
use Rattle.rules.specs.Facts.{Facts, facts_of}
use Rattle.rules.specs.Header.{code_byte}
use Rattle.rules.specs.Steps.{kind_of, in_phase, size_steps}
use Rattle.rules.specs.Algorithms.{algorithms_next, algorithms_exchange, algorithms_decision}
use Rattle.rules.specs.Digests.{digests_exchange, digests_decision}
use Rattle.rules.specs.Messages.{message_bytes}
use Rattle.rules.specs.Decisions.{last_steps, decision_of}
use Rattle.rules.specs.Effects.{effect_of, effect_by}
use Rattle.rules.specs.Box.{state_after}
use Rattle.rules.specs.declared.Negotiated.{Negotiated}
use Rattle.rules.specs.declared.Awaited.{Awaited}
use Rattle.rules.specs.declared.State.{State}
use Rattle.rules.specs.declared.Lengths.{Lengths}
use Rattle.rules.specs.declared.Kind.TheVariants as kind
use Rattle.rules.specs.declared.Message.TheVariants as message
use Rattle.rules.specs.Decision.{Decision}
use Rattle.rules.specs.Decision as decision
use Rattle.rules.proofs.Tests.{own, peer_in_2, empty_in_2}
use Rattle.rules.proofs.Passed.{IsAccepted}
use Rattle.rules.proofs.AnswerLengths.{message_length}
use Rattle.rules.proofs.Ready.{added-length}
use Rattle.theorems.specs.Runs.{IsAccept}
use Rattle.theorems.proofs.Passes.{was_accepted, passed_as}
use Rattle.theorems.proofs.Holdings.{digests_most, digests-short}

-- the numbers that let a read pass, B's room aside
pub record Serves (n : Negotiated) (w : Awaited) : Type 0 where
  pub phase : n.phase ≡ algorithms_phase
  pub peer : peer_least ≤ n.peer
  pub idle : w.whose ≡ awaits_nothing

-- with at most so many bytes in B
pub record ServesWith (most : ℕ) (s : State) : Type 0 where
  pub serves : Serves s.negotiated s.awaited
  pub used : s.used.b ≤ most

-- where such a request was accepted, it came to this

no-refusal : (d : Decision) → IsAccepted d → (step code extra size : ℕ) → decision.Refused step code extra size ≡ d → ⊥
no-refusal d u step code extra size e = subst IsAccepted (sym e) u

algorithms_so : (f : Facts) (n : Negotiated) (r : List ℕ) (d : Decision) → IsAccepted d → algorithms_decision f n r ≡ d
    → decision.Accepted message.Algorithms (algorithms_next f n r) (algorithms_exchange r) ≡ d
unfolding algorithms_decision
algorithms_so f n r d u e =
    let no = no-refusal d u in
    let a = not_first _ _ _ _ e (no _ _ _ _) in
    let b = not_first _ _ _ _ a.1 (no _ _ _ _) in
    let c = not_first _ _ _ _ b.1 (no _ _ _ _) in
    let g = not_first _ _ _ _ c.1 (no _ _ _ _) in
    let h = not-second _ _ _ _ g.1 (no _ _ _ _) in
    let i = not-second _ _ _ _ h.1 (no _ _ _ _) in
    (not-second _ _ _ _ i.1 (no _ _ _ _)).1

digests_so : (f : Facts) (s : State) (d : Decision) → IsAccepted d → digests_decision f s ≡ d
    → decision.Accepted message.Digests s.negotiated (digests_exchange f) ≡ d
unfolding digests_decision size_steps
digests_so f s d u e =
    let no = no-refusal d u in
    (not_first _ _ _ _ (not_first _ _ _ _ e (no _ _ _ _)).1 (no _ _ _ _)).1

module _ (c : Contents) (s : State) (lent : Lengths) (r nonce : List ℕ) where
  abbrev decided : Decision
  decided = decision_of (facts_of c) s lent (length nonce) r

  -- an accepted NEGOTIATE_ALGORITHMS
  pub negotiated : code_byte r ≡ negotiate_algorithms → IsAccept (effect_by (found c) s lent r nonce)
      → ServesWith 0 (state_after (effect_by (found c) s lent r nonce) s)
  unfolding effect_by effect_of kind_of in_phase last_steps pick
  negotiated code a =
      let f = facts_of c in
      let u : IsAccepted decided = was_accepted c s r nonce decided a in
      let z = passed_as f s lent (length nonce) r decided kind.Algorithms (rw code) refl u in
      let two : s.negotiated.phase ≡ capabilities_phase = eqb-true _ _ (rw z.kind at z.passed.phase) in
      let peer = peer_in_2 s (own f s z.called.bounds) two in
      let empty = empty_in_2 s (own f s z.called.bounds) two in
      let so = algorithms_so f s.negotiated r decided u z.decided in
      subst (λ (d : Decision). ServesWith 0 (state_after (effect_of d c s nonce r) s)) so
      (record { serves = record { phase = refl; peer = peer; idle = refl }; used = omega arith })

  -- a GET_DIGESTS, accepted or refused: a refusal leaves B
  module _ (valid : Valid c) (code : code_byte r ≡ get_digests) (before : ServesWith 0 s) where
    by-decision : (d : Decision) → decided ≡ d → ServesWith digests_most (state_after (effect_of d c s nonce r) s)
    unfolding effect_of kind_of last_steps pick
    by-decision (decision.Number k) e = record { serves = before.serves; used = omega (arith, before.used) }
    by-decision (decision.Refused step errs extra size) e = record { serves = before.serves; used = omega (arith, before.used) }
    by-decision (decision.Accepted m n x) e =
        let f = facts_of c in
        let g : Negotiated = s.negotiated in
        let d : Decision = decision.Accepted m n x in
        let z = passed_as f s lent (length nonce) r d kind.Digests (rw code) e tt in
        let answer = message_length c valid r g nonce message.Digests z.called.drawn tt in
        let grown = added-length (message_bytes c nonce g message.Digests) r (digests_exchange f) answer z.passed.least in
        subst (λ (y : Decision). ServesWith digests_most (state_after (effect_of y c s nonce r) s)) (digests_so f s d tt z.decided)
        (record {
          serves = record { phase = before.serves.phase; peer = before.serves.peer; idle = refl };
          used = omega (arith, before.used, grown, digests-short c valid);
        })

    pub digested : ServesWith digests_most (state_after (effect_by (found c) s lent r nonce) s)
    unfolding effect_by
    digested = by-decision decided refl
