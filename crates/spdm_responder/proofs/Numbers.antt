-- The numbers that a request and an image come to are those of the table: no branch of the rules has another. Assumes nothing.
use Rattle.std.specs.Prelude.{Option, Some, None}
use mathlib.Core.Path.{◌≡◌}
use mathlib.Core.Bool.{Bool, true}
use mathlib.Core.List.{List}
use Prim.Native.Nat.{ℕ, ◌≤◌}
use native.Mathlib.Omega.{arith}
use lib.Dec.{leb}
use borrow.Author.Tests.{leb-true}
use Rattle.wire.specs.Pick.{pick}
use Rattle.wire.proofs.Picks.{pick_case}
use Rattle.image.specs.Limits.{wrong_own_length}
use Rattle.image.specs.Contents.{Contents}
use Rattle.image.specs.Reading.{Result, number, found, unless, Frames, ended, broken, frame, identity_fault, chain_fault, measurement_fault, summary_fault, record_fault, end_fault, seen, extended, read_on, read_all, reading}
use Rattle.rules.specs.Limits.{wrong_signature}
use Rattle.rules.specs.Facts.{Facts}
use Rattle.rules.specs.Steps.{kind_steps, asked_steps, first_steps, size_steps}
use Rattle.rules.specs.Capabilities.{capabilities_decision}
use Rattle.rules.specs.Algorithms.{algorithms_decision}
use Rattle.rules.specs.Digests.{digests_decision}
use Rattle.rules.specs.Certificate.{portion_decision, certificate_decision}
use Rattle.rules.specs.Challenge.{challenge_decision}
use Rattle.rules.specs.Measurements.{operation_step, measurements_by, measurements_decision}
use Rattle.rules.specs.Decisions.{last_steps, request_decision, decision_of}
use Rattle.rules.specs.declared.State.{State}
use Rattle.rules.specs.declared.Kind.{Kind}
use Rattle.rules.specs.declared.Kind.TheVariants as kind
use Rattle.rules.specs.declared.Lengths.{Lengths}
use Rattle.rules.specs.declared.Negotiated.{Negotiated}
use Rattle.rules.specs.declared.Message.{Message}
use Rattle.rules.specs.declared.Exchange.{Exchange}
use Rattle.rules.specs.Decision.{Decision}
use Rattle.rules.specs.Decision as decision

-- a number of the table, or no number
pub data Few : Decision → Type 0 where
  few-number : (k : ℕ) → k ≤ wrong_signature → Few (decision.Number k)
  few-refused : (step code extra size : ℕ) → Few (decision.Refused step code extra size)
  few-accepted : (m : Message) (n : Negotiated) (x : Exchange) → Few (decision.Accepted m n x)

few-pick : (b : Bool) (x y : Decision) → Few x → Few y → Few (pick b x y)
few-pick b x y p q = pick_case Few b x y (λ _. p) (λ _. q)

ruleset fews = (few-pick, few-refused, few-accepted)

few-last : (f : Facts) (s : State) (r : List ℕ) (k : Kind) → Few (last_steps f s r k)
unfolding last_steps capabilities_decision algorithms_decision digests_decision certificate_decision portion_decision challenge_decision measurements_decision measurements_by operation_step size_steps
few-last f s r kind.Version = search fews depth 16
few-last f s r kind.Capabilities = search fews depth 16
few-last f s r kind.Algorithms = search fews depth 16
few-last f s r kind.Digests = search fews depth 16
few-last f s r kind.Certificate = search fews depth 16
few-last f s r kind.Challenge = search fews depth 16
few-last f s r kind.Measurements = search fews depth 16

few-asked : (f : Facts) (s : State) (r : List ℕ) (x : Option Kind) → Few (asked_steps f s r (λ (k : Kind). last_steps f s r k) x)
unfolding asked_steps kind_steps
few-asked f s r (Some k) = search (fews, few-last) depth 16
few-asked f s r None = search fews depth 16

few-request : (f : Facts) (s : State) (r : List ℕ) → Few (request_decision f s r)
unfolding request_decision first_steps
few-request f s r = search (fews, few-asked) depth 16

pub few : (f : Facts) (s : State) (lent : Lengths) (nonce : ℕ) (r : List ℕ) → Few (decision_of f s lent nonce r)
unfolding decision_of
few f s lent nonce r =
    few-pick _ _ _ (few-number _ (omega arith)) (few-pick _ _ _ (few-number _ (omega arith))
    (few-pick _ _ _ (few-pick _ _ _ (few-request f s r) (few-number _ (omega arith))) (few-number _ (omega arith))))

-- the faults of an image are 1–8
abbrev Low : ℕ → Type 0
Low n = leb n wrong_own_length ≡ true

low-pick : (b : Bool) (x y : ℕ) → Low x → Low y → Low (pick b x y)
low-pick b x y p q = pick_case (λ (n : ℕ). Low n) b x y (λ _. p) (λ _. q)

low-identity : (body : List ℕ) → Low (identity_fault body)
unfolding identity_fault
low-identity body = search low-pick depth 12

low_end : (c : Contents) → Low (end_fault (seen c))
unfolding end_fault
low_end c = search low-pick depth 12

low_record : (c : Contents) (kind : ℕ) (body : List ℕ) → Low (record_fault (seen c) kind body)
unfolding record_fault chain_fault measurement_fault summary_fault
low_record c kind body = search low-pick depth 16

abbrev pub FewRead : Result Contents → Type 0
FewRead (number k) = k ≤ wrong_own_length
FewRead (found c) = Unit {0}

few-unless : (k : ℕ) (r : Result Contents) → Low k → FewRead r → FewRead (unless k r)
unfolding unless
few-unless k r p q = pick_case FewRead _ _ _ (λ _. q) (λ _. leb-true _ _ p)

few_on : (c : Contents) (x : Frames) → FewRead (read_on c x)
unfolding read_on
few_on c ended = few-unless _ _ (low_end c) tt
few_on c broken = omega arith
few_on c (frame kind body rest) = few-unless _ _ (low_record c kind body) (few_on (extended c kind body) rest)

few-all : (x : Frames) → FewRead (read_all x)
unfolding read_all
few-all ended = omega arith
few-all broken = omega arith
few-all (frame kind body rest) = pick_case FewRead _ _ _ (λ _. few-unless _ _ (low-identity body) (few_on _ rest)) (λ _. omega arith)

pub few-read : (b : List ℕ) → FewRead (reading b)
unfolding reading
few-read b =
    pick_case FewRead _ _ _ (λ _. omega arith) (λ _. pick_case FewRead _ _ _ (λ _. omega arith)
    (λ _. pick_case FewRead _ _ _ (λ _. few-all _) (λ _. omega arith)))
