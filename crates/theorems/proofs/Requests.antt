-- A request keeps the box and the plain box alike: both read one effect, and the tests that led to it gave room for all that is written.
-- Assumes nothing.
use mathlib.Core.Path.{◌≡◌, refl, ap, ◌∙◌}
use mathlib.Core.List.{List, ◌++◌}
use Prim.Native.Nat.{ℕ, ◌≤◌}
use native.Mathlib.Omega.{arith}
use lib.ListN.{length, take, drop, length-take, take-append-drop}
use Rattle.wire.specs.Bytes.{Bytes}
use Rattle.rules.specs.Limits.{transcript_length}
use Rattle.rules.specs.Parts.{Kept}
use Rattle.rules.specs.Effects.{Change, added, Effect, host, refuse, accept}
use Rattle.rules.specs.Plain.{Plain, changed, refused, plain_after, said, plain_effect, plain_said, plain_next}
use Rattle.rules.specs.Box.{lengths_of, entered_at}
use Rattle.rules.proofs.Ready.{Room, Ready, ready-image}
use Rattle.theorems.specs.Runs.{ask, Held, lent_of, ask_effect, held_after, box_next, said_in, box_said, view}
use Rattle.theorems.proofs.Parts.{parts-kept, whole-kept, parts-after, whole-after, entered_lent, entered_length}
use Rattle.theorems.proofs.Alike.{Good, Follows, plain_equal, state-view, answer_back}

-- the effect e, read by the box and by the plain box
record Stepped (e : Effect) (h : Held) (answer : List ℕ) (lent : ℕ) : Type 0 where
  pub said : said_in e answer ≡ said e
  pub next : view (held_after e h lent) ≡ plain_after e (view h)
  pub good : Good (held_after e h lent)
  pub same : length (held_after e h lent).transcript ≡ length h.transcript

-- an accepted request asks nothing of what went before: its tests gave the bounds
accepted : (bytes : List ℕ) (change : Change) (h : Held) (answer : List ℕ) (lent : ℕ)
    → Room h.state (lengths_of (lent_of h lent answer)) bytes change → Stepped (accept bytes change) h answer lent
accepted bytes change h answer lent z =
    let u = h.state.used in
    let t = h.transcript in
    let v = added change in
    let x = change.entry in
    let k = change.kept in
    let l : transcript_length ≤ length t = omega (arith, z.whole, length-take lent t) in
    let e : entered_at x k u v (take lent t) ++ drop lent t ≡ entered_at x k u v t = entered_lent x k u v lent t z.enters z.whole in
    record {
      said = answer_back answer bytes (omega (arith, z.buffer, z.short));
      next = rw e (plain_equal (changed change (view h)) _ (parts-after k u v z.counted x z.enters t l));
      good = rw e (record { whole = whole-after k u v z.counted x z.enters t l; awaited = refl });
      same = rw e (entered_length x k u v t);
    }

-- a number changes nothing
unchanged : (n : ℕ) (h : Held) (lent : ℕ) → held_after (host n) h lent ≡ h
unchanged n h lent = rw (take-append-drop lent h.transcript)

-- an ERROR changes no byte
refusal : (bytes : List ℕ) (kept : Kept) (h : Held) (answer : List ℕ) (lent : ℕ) → Good h → length bytes ≤ length answer
    → Stepped (refuse bytes kept) h answer lent
refusal bytes kept h answer lent g short =
    let u = h.state.used in
    let t = h.transcript in
    let e : take lent t ++ drop lent t ≡ t = take-append-drop lent t in
    record {
      said = answer_back answer bytes short;
      next = rw e (plain_equal (refused kept (view h)) _ (parts-kept kept u t));
      good = rw e (record { whole = whole-kept kept u t g.whole; awaited = g.awaited });
      same = ap (λ (l : List ℕ). length l) e;
    }

step : (e : Effect) (h : Held) (answer : List ℕ) (lent : ℕ) → Good h → Ready h.state (lengths_of (lent_of h lent answer)) e
    → Stepped e h answer lent
step (host n) h answer lent g z = record {
  said = refl;
  next = ap view (unchanged n h lent);
  good = rw (unchanged n h lent) g;
  same = ap (λ (x : Held). length x.transcript) (unchanged n h lent);
}
step (refuse bytes kept) h answer lent g z = refusal bytes kept h answer lent g (omega (arith, z.0, z.1))
step (accept bytes change) h answer lent g z = accepted bytes change h answer lent z

-- a plain box that comes to the same effect, and holds the same after it, is followed
stepped : (h : Held) (p : Plain) (image answer : List ℕ) (lent : ℕ) (r nonce : List ℕ) (e : Effect)
    → ask_effect h image answer lent r nonce ≡ e
    → plain_effect p image (lengths_of (lent_of h lent answer)) r nonce ≡ e
    → plain_after e (view h) ≡ plain_after e p
    → Stepped e h answer lent → Follows h p (length h.transcript) (ask image answer lent r nonce)
unfolding box_next box_said plain_next plain_said
stepped h p image answer lent r nonce e b q i z = record {
  said = rw (← length-take lent h.transcript, b, q) z.said;
  next = rw (← length-take lent h.transcript, b, q) (z.next ∙ i);
  good = rw b z.good;
  same = rw b z.same;
}

-- any request, from a good state
pub ask-follows : (h : Held) (image answer : List ℕ) (lent : ℕ) (r nonce : List ℕ) → Good h → Bytes image
    → Follows h (view h) (length h.transcript) (ask image answer lent r nonce)
ask-follows h image answer lent r nonce g b =
    let e = ask_effect h image answer lent r nonce in
    stepped h (view h) image answer lent r nonce e refl (rw (state-view h g)) refl
    (step e h answer lent g (ready-image image b h.state (lengths_of (lent_of h lent answer)) r nonce))

-- an accepted request, from any state
pub accept-follows : (bytes : List ℕ) (change : Change) (h : Held) (p : Plain) (image answer : List ℕ) (lent : ℕ) (r nonce : List ℕ)
    → Bytes image
    → ask_effect h image answer lent r nonce ≡ accept bytes change
    → plain_effect p image (lengths_of (lent_of h lent answer)) r nonce ≡ accept bytes change
    → changed change (view h) ≡ changed change p
    → Follows h p (length h.transcript) (ask image answer lent r nonce)
accept-follows bytes change h p image answer lent r nonce b e q i =
    let z : Room h.state (lengths_of (lent_of h lent answer)) bytes change =
    rw e at (ready-image image b h.state (lengths_of (lent_of h lent answer)) r nonce) in
    stepped h p image answer lent r nonce (accept bytes change) e q i (accepted bytes change h answer lent z)
