-- What spdm_to_sign shows agrees with the rules: the parts that its four words name in the transcript are the parts that get signed, and a
-- state within its bounds for some image is shown. Assumes nothing.
use mathlib.Core.Path.{◌≡◌, refl}
use mathlib.Core.Bool.{Bool, true, false}
use mathlib.Core.List.{List, [], ◌∷◌, ◌++◌}
use Prim.Native.Nat.{ℕ, zero, suc, ◌+◌, ◌≤◌}
use native.Mathlib.Omega.{arith}
use lib.ListN.{length, get_or}
use lib.Dec.{eqb}
use Rattle.wire.specs.Bytes.{part}
use Rattle.wire.specs.Pick.{pick}
use Rattle.wire.proofs.Picks.{picks, pick_case, pick-map}
use Rattle.rules.specs.Limits.{version11, transcript_length, a_limit, b_limit, m_limit, a_start, b_start, m_start, awaits_nothing, awaits_challenge, awaits_measurements}
use Rattle.rules.specs.Facts.{Facts}
use Rattle.rules.specs.Header.{by_edition, version_of}
use Rattle.rules.specs.State.{own_bounds, in_bounds}
use Rattle.rules.specs.Signing.{prefix_of, before_m, to_hash}
use Rattle.rules.specs.Box.{parts_in, signed_first, signed_second}
use Rattle.rules.specs.declared.Part.TheVariants.{A, B, M}
use Rattle.rules.specs.declared.Negotiated.{Negotiated}
use Rattle.rules.specs.declared.State.{State}
use Rattle.rules.proofs.Tests.{own, counted, own-awaited}
use Rattle.rules.proofs.Hashed.{hashed}
use Rattle.spdm_responder.specs.ToSign.{prefix_length, part_words, parts_of}

-- the part of the transcript that the k-th and the next word of four name
abbrev pub named_by : List ℕ → ℕ → List ℕ → List ℕ
named_by q k t = part t (get_or q k 0) (get_or q (1 + k) 0)

-- by whether the signature is CHALLENGE_AUTH's, or MEASUREMENTS', and whether the edition is 1.1
abbrev four_words : (x y z : Bool) (a b m : ℕ) → List ℕ
four_words x y z a b m = pick x (a_start ∷ a ∷ b_start ∷ b ∷ []) (pick y (a_start ∷ pick z 0 a ∷ m_start ∷ m ∷ []) [])

by-awaited : (x y z : Bool) (a b m : ℕ) (t : List ℕ)
    → (named_by (four_words x y z a b m) 0 t ≡ pick x (part t a_start a) (pick y (pick z [] (part t a_start a)) []))
    × (named_by (four_words x y z a b m) 2 t ≡ pick x (part t b_start b) (pick y (part t m_start m) []))
unfolding pick
by-awaited true y z a b m t = (refl, refl)
by-awaited false true true a b m t = (refl, refl)
by-awaited false true false a b m t = (refl, refl)
by-awaited false false z a b m t = (refl, refl)

-- offset and length name exactly the parts that get signed
pub first_named : (s : State) (t : List ℕ) → named_by (parts_of s) 0 t ≡ signed_first s t
unfolding parts_of signed_first
first_named s t =
    (by-awaited (eqb s.awaited.whose awaits_challenge) (eqb s.awaited.whose awaits_measurements) (eqb (version_of s.negotiated) version11)
    s.used.a s.used.b s.used.m t).0

pub second_named : (s : State) (t : List ℕ) → named_by (parts_of s) 2 t ≡ signed_second s t
unfolding parts_of signed_second
second_named s t =
    (by-awaited (eqb s.awaited.whose awaits_challenge) (eqb s.awaited.whose awaits_measurements) (eqb (version_of s.negotiated) version11)
    s.used.a s.used.b s.used.m t).1

-- one behind the other, they are the bytes to hash
pub named_hashed : (s : State) (t : List ℕ) → named_by (parts_of s) 0 t ++ named_by (parts_of s) 2 t ≡ to_hash s.negotiated s.awaited.whose (parts_in s.used t)
named_hashed s t = rw (first_named s t, second_named s t) (hashed s t)

-- a state that is within its bounds for some image is not refused
pub bounded_shown : (f : Facts) (s : State) → in_bounds f s ≡ true → own_bounds s ≡ true
bounded_shown f s h = own f s h

-- both prefixes have 100 bytes; under 1.1, and where no signature is awaited, there is none
pub prefix-long : (n : Negotiated) (whose : ℕ)
    → length (prefix_of n whose)
    ≡ by_edition (version_of n) 0 (pick (eqb whose awaits_challenge) prefix_length (pick (eqb whose awaits_measurements) prefix_length 0))
unfolding prefix_of
prefix-long n whose =
    pick-map (λ (l : List ℕ). length l) _ _ _ _ _ (λ _. refl) (λ _.
    pick-map (λ (l : List ℕ). length l) _ _ _ _ _ (λ _. refl) (λ _.
    pick-map (λ (l : List ℕ). length l) _ _ _ _ _ (λ _. refl) (λ _. refl)))

-- the prefix's length by the tests of the definition
pub ruleset prefixes = (prefix-long, picks)

-- a state that is shown names parts within the transcript that calls ask for
module _ (s : State) (h : own_bounds s ≡ true) where
  pub shown-within : (get_or (parts_of s) 0 0 + get_or (parts_of s) 1 0 ≤ transcript_length) × (get_or (parts_of s) 2 0 + get_or (parts_of s) 3 0 ≤ transcript_length)
  unfolding parts_of
  shown-within =
      let a : s.used.a ≤ a_limit = counted s h A in
      let b : s.used.b ≤ b_limit = counted s h B in
      let m : s.used.m ≤ m_limit = counted s h M in
      let k : before_m s.negotiated 0 s.used.a ≤ a_limit = pick_case (λ (n : ℕ). n ≤ a_limit) _ _ _ (λ _. omega arith) (λ _. a) in
      let P : List ℕ → Type 0 = λ q. (get_or q 0 0 + get_or q 1 0 ≤ transcript_length) × (get_or q 2 0 + get_or q 3 0 ≤ transcript_length) in
      pick_case P _ _ _ (λ _. (omega arith, omega arith)) (λ _. pick_case P _ _ _ (λ _. (omega arith, omega arith)) (λ _. (omega arith, omega arith)))

  -- where a signature is awaited, a whole prefix, which 1.1 has none of, and four words are shown
  pub shown-whole : (s.awaited.whose ≡ awaits_nothing → ⊥)
      → (length (prefix_of s.negotiated s.awaited.whose) ≡ by_edition (version_of s.negotiated) 0 prefix_length)
      × (length (parts_of s) ≡ part_words)
  unfolding parts_of pick
  shown-whole n = by s.awaited.whose refl (own-awaited s h n).known n
    where
      by : (k : ℕ) → s.awaited.whose ≡ k → k ≤ awaits_measurements → (k ≡ 0 → ⊥)
          → (length (prefix_of s.negotiated k) ≡ by_edition (version_of s.negotiated) 0 prefix_length) × (length (parts_of s) ≡ part_words)
      by zero e l n = absurd (n refl)
      by (suc zero) e l n = (prefix-long s.negotiated 1, rw e)
      by (suc (suc zero)) e l n = (prefix-long s.negotiated 2, rw e)
      by (suc (suc (suc k))) e l n = absurd (omega arith)
