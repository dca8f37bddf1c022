-- What a request and a finishing from C promise: what they return, and what the words and the buffers hold later.
use Rattle.std.specs.Prelude.{◌≡◌, List, ℕ}
use Rattle.rules.specs.Effects.{Effect, reply_of}
use Rattle.rules.specs.Signing.{finish_reply}
use Rattle.rules.specs.Box.{Lent, state_after, transcript_after, answer_after, finished_state, finished_answer}
use Rattle.rules.specs.Finish.{Finish}
use Rattle.spdm_responder.specs.Words.{state_in, words_after, result_of}

-- w and x are the words as they were lent and as they are returned
pub record Asked (e : Effect) (w x : List ℕ) (before after : Lent) (r : ℕ) : Type 0 where
  pub result : r ≡ result_of (reply_of e)
  pub words : x ≡ words_after w (state_after e (state_in w))
  pub transcript : after.transcript ≡ transcript_after e (state_in w) before.transcript
  pub answer : after.answer ≡ answer_after e before.answer

-- a finishing gets the transcript to read only
pub record Signed (d : Finish) (w x before after signature : List ℕ) (r : ℕ) : Type 0 where
  pub result : r ≡ result_of (finish_reply d (state_in w).awaited.length)
  pub words : x ≡ words_after w (finished_state d (state_in w))
  pub answer : after ≡ finished_answer d (state_in w) before signature
