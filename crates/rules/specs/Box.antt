-- The box: a state and lent buffers. It interprets the same effects as the plain box; the promises of the calls are here.
use Rattle.std.specs.Prelude.{◌≡◌, List, [], ℕ, ◌+◌, ◌-◌, length, eqb}
use Rattle.wire.specs.Bytes.{part, splice}
use Rattle.wire.specs.Pick.{pick}
use Rattle.rules.specs.Limits.{awaits_challenge, awaits_measurements}
use Rattle.rules.specs.Parts.{start_of, count_of, Kept, kept_by_finishing, count_kept, kept_used, Entry, into, nowhere, used_after, Parts}
use Rattle.rules.specs.State.{awaiting, none_awaited}
use Rattle.rules.specs.Effects.{Change, added, Effect, host, refuse, accept, reply_of, bytes_of}
use Rattle.rules.specs.Signing.{before_m, finish_reply, failed_bytes}
use Rattle.rules.specs.declared.Part.{Part}
use Rattle.rules.specs.declared.Part.TheVariants.{A, B, M}
use Rattle.rules.specs.declared.Used.{Used}
use Rattle.rules.specs.declared.State.{State}
use Rattle.rules.specs.declared.Lengths.{Lengths}
use Rattle.rules.specs.declared.Outcome.{Outcome}
use Rattle.rules.specs.Reply.{replied}
use Rattle.rules.specs.Finish.{Finish}
use Rattle.rules.specs.Finish as finish

-- the buffers that a call is lent
pub record Lent : Type 0 where
  pub transcript : List ℕ
  pub answer : List ℕ

abbrev pub lengths_of : Lent → Lengths
lengths_of l = record { transcript = length l.transcript; answer = length l.answer }

-- a part as it stands in the transcript
abbrev pub part_in : Part → Used → List ℕ → List ℕ
part_in x u t = part t (start_of x) (count_of x u)

abbrev pub parts_in : Used → List ℕ → Parts
parts_in u t = record { a = part_in A u t; b = part_in B u t; m = part_in M u t }

-- "It hashes A then B (or A then M), each shown as a part of the lent buffer"; nothing where no signature is awaited
unfoldable pub signed_first : State → List ℕ → List ℕ
signed_first s t =
    pick (eqb s.awaited.whose awaits_challenge) (part_in A s.used t)
    (pick (eqb s.awaited.whose awaits_measurements) (before_m s.negotiated [] (part_in A s.used t)) [])

unfoldable pub signed_second : State → List ℕ → List ℕ
signed_second s t =
    pick (eqb s.awaited.whose awaits_challenge) (part_in B s.used t)
    (pick (eqb s.awaited.whose awaits_measurements) (part_in M s.used t) [])

abbrev pub changed_state : Change → State → State
changed_state c s = record {
  negotiated = c.negotiated;
  used = used_after c.kept c.entry (length (added c)) s.used;
  awaited = awaiting c.whose (length c.answer);
}

-- a refusal keeps or empties each part, and leaves all else; "Emptying changes a count, no bytes"
abbrev pub refused_state : Kept → State → State
refused_state kept s = record { negotiated = s.negotiated; used = kept_used kept s.used; awaited = s.awaited }

abbrev pub state_after : Effect → State → State
state_after (host n) s = s
state_after (refuse bytes kept) s = refused_state kept s
state_after (accept bytes change) s = changed_state change s

-- behind what is kept of a part
abbrev pub place_for : Part → Kept → Used → ℕ
place_for x kept u = start_of x + count_kept x kept u

-- "every transcript byte but those appended stays"
abbrev pub entered_at : Entry → Kept → Used → List ℕ → List ℕ → List ℕ
entered_at (into x) kept u bytes t = splice t (place_for x kept u) bytes
entered_at nowhere kept u bytes t = t

abbrev pub transcript_after : Effect → State → List ℕ → List ℕ
transcript_after (host n) s t = t
transcript_after (refuse bytes kept) s t = t
transcript_after (accept bytes change) s t = entered_at change.entry change.kept s.used (added change) t

-- the answer stands at the start of its buffer, and "Bytes past the answer are untouched"
abbrev pub answer_after : Effect → List ℕ → List ℕ
answer_after e answer = splice answer 0 (bytes_of e)

-- a request: what it returns, and what the buffers hold later
pub record Responded (e : Effect) (s : State) (before after : Lent) (o : Outcome) : Type 0 where
  pub reply : replied o.reply ≡ reply_of e
  pub state : o.state ≡ state_after e s
  pub transcript : after.transcript ≡ transcript_after e s before.transcript
  pub answer : after.answer ≡ answer_after e before.answer

-- "B (or M) is emptied", nothing is awaited
abbrev pub emptied_state : State → State
emptied_state s = record {
  negotiated = s.negotiated;
  used = kept_used (kept_by_finishing s.awaited.whose) s.used;
  awaited = none_awaited;
}

abbrev pub finished_state : Finish → State → State
finished_state (finish.Number k) s = s
finished_state finish.Signed s = emptied_state s
finished_state finish.Failed s = emptied_state s

-- "Finishing writes the S bytes at the end of the answer, or, if the chip failed, only 12 7F 05 00", 11 7F 05 00 under 1.1, "at its start .."
abbrev pub finished_answer : Finish → State → List ℕ → List ℕ → List ℕ
finished_answer (finish.Number k) s answer signature = answer
finished_answer finish.Signed s answer signature = splice answer (s.awaited.length - length signature) signature
finished_answer finish.Failed s answer signature = splice answer 0 (failed_bytes s.negotiated)

-- a finishing: "no other byte of any buffer"; it is lent the transcript to read only
pub record Finished (d : Finish) (s : State) (before after signature : List ℕ) (o : Outcome) : Type 0 where
  pub reply : replied o.reply ≡ finish_reply d s.awaited.length
  pub state : o.state ≡ finished_state d s
  pub answer : after ≡ finished_answer d s before signature
