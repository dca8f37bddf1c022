-- Every reply has room in a word: its number is one of the table's, and its answer is no longer than a message. And what the reader's
-- answer makes of the replies on an image. Assumes nothing.
use Rattle.std.specs.Prelude.{Ok, Err, IsErrAnd, Result as Answer}
use Rattle.std.proofs.lemmas.Result.{err_from_is_err_and}
use mathlib.Core.Path.{◌≡◌, refl}
use mathlib.Core.Bool.{Bool, true, false, not}
use Rattle.wire.specs.Pick.{pick}
use mathlib.Core.List.{List}
use Prim.Native.Nat.{ℕ, ◌≤◌}
use native.Mathlib.Omega.{arith}
use lib.ListN.{length}
use Rattle.wire.specs.Bytes.{Bytes}
use Rattle.wire.proofs.Picks.{pick_case}
use Rattle.image.specs.Contents.{Contents}
use Rattle.image.specs.Reading.{Result, number, found, reading}
use Rattle.image.specs.Fault.{number_of, told}
use Rattle.image.specs.Index.{answer_of}
use Rattle.image.specs.declared.Fault.{Fault}
use Rattle.image.specs.declared.Index.{Index}
use Rattle.image.proofs.Verdicts.{known, number_read}
use Rattle.rules.specs.declared.HostError.{HostError}
use Rattle.rules.specs.declared.HostError.TheVariants.{Image}
use Rattle.rules.specs.Limits.{message_limit, wrong_signature}
use Rattle.rules.specs.Facts.{Facts, facts_of}
use Rattle.rules.specs.Effects.{Effect, host, refuse, accept, effect_of, effect_by, reply_of}
use Rattle.rules.specs.Signing.{prefix_of, finish_of, finish_by, finish_reply}
use Rattle.rules.specs.declared.State.{State}
use Rattle.rules.specs.declared.Lengths.{Lengths}
use Rattle.rules.specs.Decision.{Decision}
use Rattle.rules.specs.Finish.{Finish}
use Rattle.rules.specs.Finish as finish
use Rattle.rules.specs.Reply.{Reply, replied}
use Rattle.rules.specs.Reply as reply
use Rattle.rules.proofs.Told.{FinishTold, finish-told}
use Rattle.rules.proofs.Ready.{Ready, ready-image}
use Rattle.spdm_responder.specs.Words.{Fits, read_reply}
use Rattle.spdm_responder.specs.ToSign.{show_reply}
use Rattle.spdm_responder.specs.ImageAlgorithms.{room_reply, algorithms_reply}
use Rattle.spdm_responder.proofs.ShownLaws.{prefix-long}
use Rattle.spdm_responder.proofs.Numbers.{Few, few-number, few-refused, few-accepted, few, FewRead, few-read}

abbrev Numbered : Effect → Type 0
Numbered (host n) = n ≤ wrong_signature
Numbered (refuse bytes kept) = Unit {0}
Numbered (accept bytes change) = Unit {0}

by-decision : (c : Contents) (s : State) (nonce r : List ℕ) (d : Decision) → Few d → Numbered (effect_of d c s nonce r)
unfolding effect_of
by-decision c s nonce r _ (few-number k h) = h
by-decision c s nonce r _ (few-refused step code extra size) = tt
by-decision c s nonce r _ (few-accepted m n x) = tt

module _ (s : State) (lent : Lengths) (r nonce : List ℕ) where
  by_result : (x : Result Contents) → FewRead x → Numbered (effect_by x s lent r nonce)
  unfolding effect_by
  by_result (number k) h = omega arith
  by_result (found c) h = by-decision c s nonce r _ (few (facts_of c) s lent (length nonce) r)

  by_effect : (e : Effect) → Numbered e → Ready s lent e → Fits (reply_of e)
  by_effect (host n) h w = h
  by_effect (refuse bytes kept) h w = omega (arith, w.1)
  by_effect (accept bytes change) h w = w.short

  pub asked-fits : (b : List ℕ) → Bytes b → Fits (reply_of (effect_by (reading b) s lent r nonce))
  asked-fits b y = by_effect (effect_by (reading b) s lent r nonce) (by_result (reading b) (few-read b)) (ready-image b y s lent r nonce)

-- finishing
abbrev FewFinish : Finish → Type 0
FewFinish (finish.Number k) = k ≤ wrong_signature
FewFinish finish.Signed = Unit {0}
FewFinish finish.Failed = Unit {0}

module _ (s : State) (lent : Lengths) (ok : Bool) (size : ℕ) where
  few-finish : (f : Facts) → FewFinish (finish_of f s lent ok size)
  unfolding finish_of
  few-finish f =
      pick_case FewFinish _ _ _ (λ _. omega arith) (λ _. pick_case FewFinish _ _ _ (λ _. omega arith)
      (λ _. pick_case FewFinish _ _ _ (λ _. pick_case FewFinish _ _ _ (λ _. omega arith)
      (λ _. pick_case FewFinish _ _ _ (λ _. pick_case FewFinish _ _ _ (λ _. tt) (λ _. omega arith)) (λ _. tt))) (λ _. omega arith)))

  finish-fits : (f : Facts) (d : Finish) → FewFinish d → FinishTold f s lent size d → Fits (finish_reply d s.awaited.length)
  finish-fits f (finish.Number k) h z = h
  finish-fits f finish.Signed h z = z.0.awaited.most
  finish-fits f finish.Failed h z = omega arith

  pub signed_fits : (x : Result Contents) → FewRead x → Fits (finish_reply (finish_by x s lent ok size) s.awaited.length)
  unfolding finish_by
  signed_fits (number k) h = omega arith
  signed_fits (found c) h = finish-fits (facts_of c) (finish_of (facts_of c) s lent ok size) (few-finish (facts_of c)) (finish-told (facts_of c) s lent ok size)

-- the reader's own number
pub read_fits : (b : List ℕ) → Fits (read_reply (reading b))
read_fits b = by (reading b) (few-read b)
  where
    by : (x : Result Contents) → FewRead x → Fits (read_reply x)
    by (number k) h = omega arith
    by (found c) h = omega arith

-- what is shown to sign: the prefix, or none
prefix-fits : (s : State) → length (prefix_of s.negotiated s.awaited.whose) ≤ message_limit
prefix-fits s =
    let P : ℕ → Type 0 = λ n. n ≤ message_limit in
    rw (prefix-long s.negotiated s.awaited.whose)
    (pick_case P _ _ _ (λ _. omega arith) (λ _. pick_case P _ _ _ (λ _. omega arith) (λ _. pick_case P _ _ _ (λ _. omega arith) (λ _. omega arith))))

pub shown-fits : (s : State) (prefix parts : ℕ) → Fits (show_reply s prefix parts)
unfolding show_reply
shown-fits s prefix parts =
    pick_case Fits _ _ _ (λ _. omega arith) (λ _. pick_case Fits _ _ _ (λ _. omega arith)
    (λ _. pick_case Fits _ _ _ (λ _. pick_case Fits _ _ _ (λ _. omega arith) (λ _. prefix-fits s)) (λ _. omega arith)))

-- what is told of an image: the reader's number, 11, or no number
pub algorithms_fits : (b : List ℕ) (room : ℕ) → Fits (algorithms_reply (reading b) room)
unfolding room_reply
algorithms_fits b room = by (reading b) (few-read b)
  where
    by : (x : Result Contents) → FewRead x → Fits (algorithms_reply x room)
    by (number k) h = omega arith
    by (found c) h = pick_case Fits _ _ _ (λ _. omega arith) (λ _. omega arith)

-- the chip's word as the code tests it
pub chip-tested : (failed : Bool) → not failed ≡ pick failed false true
unfolding pick
chip-tested true = refl
chip-tested false = refl

-- for the exports
pub ruleset fits = (asked-fits, signed_fits, few-read, read_fits, shown-fits, algorithms_fits, chip-tested)

-- a refused image reads as its number, and the reply that ? makes of the fault says it
module _ (b : List ℕ) (f : Fault) (e : told {A = Index} (Err f) ≡ answer_of (reading b)) where
  pub refused-reads : reading b ≡ number (number_of f)
  refused-reads = number_read b e f refl

  pub refused-says : (r : Answer ℕ HostError) → IsErrAnd r (λ x. x ≡ Image f) → replied r ≡ reply.Number (number_of f)
  refused-says r i = let w = err_from_is_err_and r i in rw (w.1, w.2)

  pub refused-reply : (r : Answer ℕ HostError) → IsErrAnd r (λ x. x ≡ Image f) → replied r ≡ read_reply (reading b)
  refused-reply r i = rw (refused-reads, refused-says r i)

-- an accepted one has no number
pub accepted-reply : (b : List ℕ) (ix : Index) → told {A = Index} (Ok ix) ≡ answer_of (reading b) → reply.Answer 0 ≡ read_reply (reading b)
accepted-reply b ix e = rw (known b e ix refl).same.read

pub ruleset reads = (refused-reply, accepted-reply)
