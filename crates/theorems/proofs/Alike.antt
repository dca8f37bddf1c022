-- What it is for the box and the plain box to be alike, before a call and over it. In a good state every number that a test looks at is the
-- same for both, so they decide alike. Assumes nothing.
use mathlib.Core.Path.{◌≡◌, refl}
use mathlib.Core.List.{List, []}
use Prim.Native.Nat.{ℕ, ◌≤◌}
use native.Mathlib.Omega.{arith}
use lib.ListN.{length}
use Rattle.wire.specs.Bytes.{splice}
use Rattle.wire.proofs.Laws.{part-splice}
use Rattle.rules.specs.Parts.{Parts}
use Rattle.rules.specs.State.{fresh}
use Rattle.rules.specs.Plain.{Plain, state_of, Said, plain_said, plain_next}
use Rattle.rules.specs.declared.Used.{Used}
use Rattle.rules.specs.declared.State.{State}
use Rattle.rules.specs.Reply as reply
use Rattle.theorems.specs.Runs.{Call, Held, box_next, read_back, box_said, view, feed_of}
use Rattle.theorems.proofs.Parts.{Whole}

-- what every call since a restart leaves: each part whole in the transcript, and an awaited answer as long as the state says
pub record Good (h : Held) : Type 0 where
  pub whole : Whole h.state.used h.transcript
  pub awaited : length h.awaited ≡ h.state.awaited.length

-- a fresh state is good with any transcript
abbrev pub fresh_with : List ℕ → Held
fresh_with t = record { state = fresh; transcript = t; awaited = [] }

pub good-fresh : (t : List ℕ) → Good (fresh_with t)
good-fresh t = record { whole = refl; awaited = refl }

-- over the call c the box says what the plain box p says, and holds later what p holds; the transcript, of n bytes, keeps its length
pub record Follows (h : Held) (p : Plain) (n : ℕ) (c : Call) : Type 0 where
  pub said : box_said h c ≡ plain_said p (feed_of n c)
  pub next : view (box_next h c) ≡ plain_next p (feed_of n c)
  pub good : Good (box_next h c)
  pub same : length (box_next h c).transcript ≡ length h.transcript

-- equal by their fields
state_equal : (s : State) (u : Used) (n : ℕ) → u ≡ s.used → n ≡ s.awaited.length
    → ◌≡◌ {A = State} (record { negotiated = s.negotiated; used = u; awaited = record { whose = s.awaited.whose; length = n } }) s
state_equal s u n e f = rw (e, f)

pub plain_equal : (p : Plain) (x : Parts) → x ≡ p.parts
    → ◌≡◌ {A = Plain} (record { negotiated = p.negotiated; parts = x; whose = p.whose; answer = p.answer }) p
plain_equal p x e = rw e

pub said_equal : (n : ℕ) {bytes out : List ℕ} → bytes ≡ out
    → ◌≡◌ {A = Said} (record { reply = reply.Answer n; bytes = bytes }) (record { reply = reply.Answer n; bytes = out })
said_equal n e = rw e

-- "14 and step 9 tested on what it holds": the plain box's numbers are the state's
pub state-view : (h : Held) → Good h → state_of (view h) ≡ h.state
state-view h g = state_equal h.state _ _ g.whole g.awaited

-- an answer that has room in the buffer is read back from it
pub answer_back : (answer bytes : List ℕ) → length bytes ≤ length answer
    → read_back (reply.Answer (length bytes)) (splice answer 0 bytes) ≡ record { reply = reply.Answer (length bytes); bytes = bytes }
answer_back answer bytes h = said_equal (length bytes) (part-splice answer 0 bytes (omega arith))
