-- What the host is shown to hash and sign for the state that it holds: the prefix, which 1.1 has none of, and where A, then B or M, stand
-- in the transcript; under 1.1 M is hashed alone.
use Rattle.std.specs.Prelude.{◌≡◌, List, [], ◌∷◌, ℕ, length, ltb, eqb}
use Rattle.wire.specs.Bytes.{splice}
use Rattle.wire.specs.Pick.{pick}
use Rattle.rules.specs.Limits.{a_start, b_start, m_start, awaits_nothing, awaits_challenge, awaits_measurements, short_answer, wrong_state}
use Rattle.rules.specs.Limits.{nothing_awaited}
use Rattle.rules.specs.State.{own_bounds}
use Rattle.rules.specs.Signing.{prefix_of, before_m}
use Rattle.rules.specs.declared.State.{State}
use Rattle.rules.specs.Reply.{Reply}
use Rattle.rules.specs.Reply as reply
use Rattle.spdm_responder.specs.Words.{result_of}

-- what a buffer for the prefix must hold, under either edition
abbrev pub prefix_length : ℕ
prefix_length = 100

-- offset and length of two parts
abbrev pub part_words : ℕ
part_words = 4

-- 11, then 14 by the bounds that need no image, then 15; else the prefix's length, which is 0 where there is none
unfoldable pub show_reply : State → ℕ → ℕ → Reply
show_reply s prefix parts =
    pick (ltb prefix prefix_length) (reply.Number short_answer)
    (pick (ltb parts part_words) (reply.Number short_answer)
    (pick (own_bounds s)
    (pick (eqb s.awaited.whose awaits_nothing) (reply.Number nothing_awaited)
    (reply.Answer (length (prefix_of s.negotiated s.awaited.whose))))
    (reply.Number wrong_state)))

-- offset and length of A, then of B or M, before which under 1.1 nothing of A stands; nothing where no signature is awaited
unfoldable pub parts_of : State → List ℕ
parts_of s =
    pick (eqb s.awaited.whose awaits_challenge) (a_start ∷ s.used.a ∷ b_start ∷ s.used.b ∷ [])
    (pick (eqb s.awaited.whose awaits_measurements) (a_start ∷ before_m s.negotiated 0 s.used.a ∷ m_start ∷ s.used.m ∷ [])
    [])

-- what is written: nothing with a number
abbrev pub shown_prefix : Reply → State → List ℕ
shown_prefix (reply.Number n) s = []
shown_prefix (reply.Answer n) s = prefix_of s.negotiated s.awaited.whose

abbrev pub shown_parts : Reply → State → List ℕ
shown_parts (reply.Number n) s = []
shown_parts (reply.Answer n) s = parts_of s

-- l and out are the two buffers as they were lent, l' and out' as they are returned
pub record Shown (y : Reply) (s : State) (l l' out out' : List ℕ) (r : ℕ) : Type 0 where
  pub result : r ≡ result_of y
  pub prefix : l' ≡ splice l 0 (shown_prefix y s)
  pub parts : out' ≡ splice out 0 (shown_parts y s)
