-- Which refusals empty M, told by what a requester has in hand: its request and the ERROR's code. Of the nine steps only 1, 7 and, under
-- 1.1, 2 share a code; only step 1 refuses a request that is shorter than a header, and only step 2 one that is longer than a message; so
-- length and code tell the step. By a walk over the steps in their order. Assumes nothing.
use Rattle.std.specs.Prelude.{Some}
use mathlib.Core.Path.{◌≡◌, refl}
use mathlib.Core.Bool.{Bool, true, false, and-false}
use mathlib.Core.List.{List, [], ◌∷◌, map}
use Prim.Native.Nat.{ℕ}
use lib.ListN.{length, replicate}
use lib.Dec.{ltb, eqb}
use borrow.Author.Tests.{eqb-true}
use Rattle.wire.specs.Pick.{pick}
use Rattle.wire.proofs.Picks.{pick_case}
use Rattle.image.specs.Contents.{Contents}
use Rattle.image.specs.Reading.{Result, number, found}
use Rattle.rules.specs.Limits.{message_limit, header_length, get_measurements}
use Rattle.rules.specs.Facts.{Facts, facts_of}
use Rattle.rules.specs.Parts.{empties_m}
use Rattle.rules.specs.Header.{code_byte, refused_bytes}
use Rattle.rules.specs.Steps.{kind_of, kind_steps, asked_steps, first_steps, size_steps}
use Rattle.rules.specs.Measurements.{operation_step, measurements_by, measurements_decision}
use Rattle.rules.specs.Decisions.{last_steps, request_decision, decision_of}
use Rattle.rules.specs.Effects.{effect_of, effect_by}
use Rattle.rules.specs.Refusals.{late_code, seen_emptied, LeavesAsSeen}
use Rattle.rules.specs.declared.State.{State}
use Rattle.rules.specs.declared.Lengths.{Lengths}
use Rattle.rules.specs.declared.Kind.TheVariants as kind
use Rattle.rules.specs.Decision.{Decision}
use Rattle.rules.specs.Decision as decision

-- of GET_MEASUREMENTS that get 0x01 those of 4 to 4,608 bytes are seen to empty M: shorter ones step 1 refuses, longer ones, under 1.1, step 2
edges : map (λ (n : ℕ). seen_emptied (0x11 ∷ 0xE0 ∷ replicate n 0) 0x01) (1 ∷ 2 ∷ 4606 ∷ 4607 ∷ []) ≡ false ∷ true ∷ true ∷ false ∷ []
edges = refl

module _ (f : Facts) (c : Contents) (s : State) (r nonce : List ℕ) where
  abbrev P : Decision → Type 0
  P d = LeavesAsSeen r (effect_of d c s nonce r)

  -- no refusal of another request empties M
  other : eqb (code_byte r) get_measurements ≡ false → (d : Decision) → P d
  unfolding effect_of
  other e (decision.Number k) = tt
  other e (decision.Refused step code extra size) = rw e
  other e (decision.Accepted m n x) = tt

  module _ (e : code_byte r ≡ get_measurements) where
    -- step 1, for what is shorter than a header
    short : (step code extra size : ℕ) → empties_m step get_measurements ≡ false → ltb (length r) header_length ≡ true → P (decision.Refused step code extra size)
    unfolding effect_of refused_bytes
    short step code extra size k l = rw (e, k, l)

    -- step 2, for what is longer than a message
    long : (step code extra size : ℕ) → empties_m step get_measurements ≡ false → ltb message_limit (length r) ≡ true → P (decision.Refused step code extra size)
    unfolding effect_of refused_bytes
    long step code extra size k l = rw (e, k, l, and-false)

    -- steps 3 to 6 have codes of their own
    early : (step code extra size : ℕ) → empties_m step get_measurements ≡ false → late_code code ≡ false → P (decision.Refused step code extra size)
    unfolding effect_of refused_bytes
    early step code extra size k n = rw (e, k, n, and-false)

    module _ (l : ltb (length r) header_length ≡ false) (o : ltb message_limit (length r) ≡ false) where
      -- steps 7 to 9, with the codes that tell them
      late : (step code extra size : ℕ) → empties_m step get_measurements ≡ true → late_code code ≡ true → P (decision.Refused step code extra size)
      unfolding effect_of refused_bytes
      late step code extra size k n = rw (e, k, l, o, n)

      -- steps 7 to 9 of GET_MEASUREMENTS
      last : P (measurements_decision f s r)
      unfolding measurements_decision measurements_by operation_step size_steps effect_of
      last =
          pick_case P _ _ _ (λ _. late _ _ _ _ refl refl) (λ _.
          pick_case P _ _ _ (λ _.
          pick_case P _ _ _ (λ _.
          pick_case P _ _ _ (λ _. late _ _ _ _ refl refl) (λ _.
          pick_case P _ _ _ (λ _. late _ _ _ _ refl refl) (λ _. tt)))
          (λ _. late _ _ _ _ refl refl)) (λ _. late _ _ _ _ refl refl))

    is_measurements : kind_of (code_byte r) ≡ Some kind.Measurements
    unfolding kind_of pick
    is_measurements = rw e

    steps : P (request_decision f s r)
    unfolding request_decision first_steps asked_steps kind_steps last_steps
    steps =
        pick_case P _ _ _ (λ l. short _ _ _ _ refl l) (λ l.
        pick_case P _ _ _ (λ o. long _ _ _ _ refl o) (λ o.
        pick_case P _ _ _ (λ _. early _ _ _ _ refl refl) (λ _.
        rw is_measurements (pick_case P _ _ _ (λ _.
        pick_case P _ _ _ (λ _.
        pick_case P _ _ _ (λ _. last l o)
        (λ _. early _ _ _ _ refl refl)) (λ _. early _ _ _ _ refl refl)) (λ _. early _ _ _ _ refl refl)))))

  -- the nine steps, of any request
  nine_steps : P (request_decision f s r)
  nine_steps = by_code (eqb (code_byte r) get_measurements) refl
    where
      by_code : (b : Bool) → eqb (code_byte r) get_measurements ≡ b → P (request_decision f s r)
      by_code true e = steps (eqb-true _ _ e)
      by_code false e = other e _

  -- the host's numbers come first, and are no refusals
  numbered : (k : ℕ) → P (decision.Number k)
  unfolding effect_of
  numbered k = tt

  called : (lent : Lengths) → P (decision_of f s lent (length nonce) r)
  unfolding decision_of
  called lent =
      pick_case P _ _ _ (λ _. numbered _) (λ _.
      pick_case P _ _ _ (λ _. numbered _) (λ _.
      pick_case P _ _ _ (λ _.
      pick_case P _ _ _ (λ _. nine_steps)
      (λ _. numbered _)) (λ _. numbered _)))

-- "Which requests this concerns", of every call: where it is refused, A and B stay, and M is emptied exactly when byte 1 is 0xE0, the request has
-- a header and at most 4,608 bytes, and the ERROR's code is 0x01, 0x0D or 0x05
pub emptied_as_seen : (x : Result Contents) (s : State) (lent : Lengths) (r nonce : List ℕ) → LeavesAsSeen r (effect_by x s lent r nonce)
unfolding effect_by
emptied_as_seen (number k) s lent r nonce = tt
emptied_as_seen (found c) s lent r nonce = called (facts_of c) c s r nonce lent
