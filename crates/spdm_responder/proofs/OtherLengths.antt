-- A state of another number of words than nine: the call comes to a number, the first that holds of 1–8, 11, 12, 13 and 14 (a finishing has
-- no 13), and the words stay. Assumes nothing.
use mathlib.Core.Path.{◌≡◌, refl}
use mathlib.Core.Bool.{Bool, true, false}
use mathlib.Core.List.{List}
use Prim.Native.Nat.{ℕ}
use lib.ListN.{length}
use lib.Dec.{ltb, eqb}
use borrow.Author.Tests.{ne_eqb}
use Rattle.wire.specs.Pick.{pick}
use Rattle.image.specs.Contents.{Contents}
use Rattle.image.specs.Reading.{Result, number, found}
use Rattle.rules.specs.Limits.{message_limit, transcript_length, nonce_length, short_answer, short_transcript, wrong_nonce, wrong_state}
use Rattle.rules.specs.Facts.{Facts, facts_of}
use Rattle.rules.specs.State.{own_bounds, in_bounds}
use Rattle.rules.specs.Decisions.{decision_of}
use Rattle.rules.specs.Effects.{host, effect_of, effect_by}
use Rattle.rules.specs.Signing.{finish_of, finish_by}
use Rattle.rules.specs.declared.State.{State}
use Rattle.rules.specs.declared.Lengths.{Lengths}
use Rattle.rules.specs.Decision as decision
use Rattle.rules.specs.Finish as finish
use Rattle.spdm_responder.specs.Words.{state_words, no_state, state_in, words_after}

-- the number of a request, and of a finishing, on such a state
abbrev pub asked_number : Result Contents → Lengths → ℕ → ℕ
asked_number (number k) lent nonce = k
asked_number (found c) lent nonce =
    pick (ltb lent.answer message_limit) short_answer (pick (ltb lent.transcript transcript_length) short_transcript (pick (eqb nonce nonce_length) wrong_state wrong_nonce))

abbrev pub signed_number : Result Contents → Lengths → ℕ
signed_number (number k) lent = k
signed_number (found c) lent = pick (ltb lent.answer message_limit) short_answer (pick (ltb lent.transcript transcript_length) short_transcript wrong_state)

-- phase 4 is out of bounds for every image
outside : (f : Facts) → in_bounds f no_state ≡ false
unfolding own_bounds in_bounds pick
outside f = refl

decided : (f : Facts) (lent : Lengths) (nonce : ℕ) (r : List ℕ) (a b c : Bool) → ltb lent.answer message_limit ≡ a → ltb lent.transcript transcript_length ≡ b → eqb nonce nonce_length ≡ c
    → decision_of f no_state lent nonce r ≡ decision.Number (pick a short_answer (pick b short_transcript (pick c wrong_state wrong_nonce)))
unfolding decision_of pick
decided f lent nonce r true b c p q g = rw p
decided f lent nonce r false true c p q g = rw (p, q)
decided f lent nonce r false false true p q g = rw (p, q, g, outside f)
decided f lent nonce r false false false p q g = rw (p, q, g)

finished : (f : Facts) (lent : Lengths) (ok : Bool) (size : ℕ) (a b : Bool) → ltb lent.answer message_limit ≡ a → ltb lent.transcript transcript_length ≡ b
    → finish_of f no_state lent ok size ≡ finish.Number (pick a short_answer (pick b short_transcript wrong_state))
unfolding finish_of pick
finished f lent ok size true b p q = rw p
finished f lent ok size false true p q = rw (p, q)
finished f lent ok size false false p q = rw (p, q, outside f)

module _ (w : List ℕ) (n : length w ≡ state_words → ⊥) where
  no-state : state_in w ≡ no_state
  unfolding state_in pick
  no-state = rw (ne_eqb (length w) state_words n)

  pub words_stay : (s : State) → words_after w s ≡ w
  unfolding words_after pick
  words_stay s = rw (ne_eqb (length w) state_words n)

  pub asked-number : (x : Result Contents) (lent : Lengths) (r nonce : List ℕ)
      → effect_by x (state_in w) lent r nonce ≡ host (asked_number x lent (length nonce))
  unfolding effect_by effect_of
  asked-number (number k) lent r nonce = refl
  asked-number (found c) lent r nonce = rw (no-state, decided (facts_of c) lent (length nonce) r _ _ _ refl refl refl)

  pub signed_number_lem : (x : Result Contents) (lent : Lengths) (ok : Bool) (size : ℕ)
      → finish_by x (state_in w) lent ok size ≡ finish.Number (signed_number x lent)
  unfolding finish_by
  signed_number_lem (number k) lent ok size = refl
  signed_number_lem (found c) lent ok size = rw (no-state) (finished (facts_of c) lent ok size _ _ refl refl)
