-- The first half of demand 3. Over any list of calls the box and the plain box stay alike, because each call keeps them alike; and an
-- accepted GET_VERSION, from any state, leaves the box as it leaves a fresh plain box, because it keeps no part of the transcript and no
-- number.
use mathlib.Core.Path.{◌≡◌, refl, ap, ◌∙◌}
use mathlib.Core.List.{List, [], ◌∷◌, map}
use Prim.Native.Nat.{ℕ}
use lib.ListN.{length}
use Rattle.wire.specs.Bytes.{Bytes}
use Rattle.wire.specs.Pick.{pick}
use Rattle.image.specs.Reading.{reading}
use Rattle.rules.specs.Plain.{Plain, fresh_plain, plain_after, plain_next, Said, Shown, shows}
use Rattle.rules.specs.Box.{lengths_of}
use Rattle.theorems.specs.Runs.{Call, ask, sign, image_of, Held, lent_of, box_next, box_said, view, box_shows, box_run, feed_of, plain_run, Restarts, Octets, LendsAwaited, Hosted}
use Rattle.theorems.proofs.Alike.{Good, fresh_with, good-fresh, Follows}
use Rattle.theorems.proofs.Requests.{ask-follows, accept-follows}
use Rattle.theorems.proofs.Finishings.{sign-follows}
use Rattle.theorems.proofs.GetVersion.{version_effect, version_effect_lem}

-- the awaited answer is as long as the state says, so the two boxes show the same
shown : (said : Said) (h : Held) → Good h → box_shows said h ≡ shows said (view h)
shown said h g = rw g.awaited

-- a call that keeps them alike, and then a list of calls that does
then : (h : Held) (p : Plain) (n : ℕ) (c : Call) (cs : List Call) → Follows h p n c
    → box_run (box_next h c) cs ≡ plain_run (view (box_next h c)) (map (feed_of n) cs) → box_run h (c ∷ cs) ≡ plain_run p (map (feed_of n) (c ∷ cs))
unfolding box_run plain_run
then h p n c cs z rest =
    ap (λ (l : List Shown). box_shows (box_said h c) (box_next h c) ∷ l) rest
    ∙ ap (λ (x : Shown). x ∷ plain_run (view (box_next h c)) (map (feed_of n) cs)) (shown (box_said h c) (box_next h c) z.good)
    ∙ ap (λ (q : Plain). shows (box_said h c) q ∷ plain_run q (map (feed_of n) cs)) z.next
    ∙ ap (λ (x : Said). shows x (plain_next p (feed_of n c)) ∷ plain_run (plain_next p (feed_of n c)) (map (feed_of n) cs)) z.said

-- any call, from a good state
follows : (h : Held) (c : Call) → Good h → Bytes (image_of c) → LendsAwaited h c → Follows h (view h) (length h.transcript) c
follows h (ask image answer lent r nonce) g b o = ask-follows h image answer lent r nonce g b
follows h (sign image answer lent ok signature) g b o = sign-follows h image answer lent ok signature g o

-- any list of calls, from a good state on
pub alike : (h : Held) (n : ℕ) (cs : List Call) → length h.transcript ≡ n → Good h → Octets cs → Hosted h cs
    → box_run h cs ≡ plain_run (view h) (map (feed_of n) cs)
unfolding box_run plain_run Hosted
alike h n [] l g b o = refl
alike h n (c ∷ cs) l g b o =
    let z : Follows h (view h) n c = rw l at (follows h c g b.0 o.0) in
    then h (view h) n c cs z (alike (box_next h c) n cs (z.same ∙ l) z.good b.1 o.1)

-- so from a fresh state, "just out of the carton", with a transcript buffer of any length
pub alike-fresh : (t : List ℕ) (cs : List Call) → Octets cs → Hosted (fresh_with t) cs
    → box_run (fresh_with t) cs ≡ plain_run fresh_plain (map (feed_of (length t)) cs)
alike-fresh t cs = alike (fresh_with t) (length t) cs refl (good-fresh t)

-- GET_VERSION keeps nothing
cleared : (r : List ℕ) (p : Plain) → plain_after (version_effect r) p ≡ plain_after (version_effect r) fresh_plain
unfolding pick
cleared r p = refl

-- an accepted GET_VERSION, from any state
restarts : (h : Held) (c : Call) → Restarts h c → Bytes (image_of c) → Follows h fresh_plain (length h.transcript) c
restarts h (ask image answer lent r nonce) a b =
    let v = version_effect_lem (reading image) h.state (lengths_of (lent_of h lent answer)) r nonce a.code a.accepted in
    accept-follows _ _ h fresh_plain image answer lent r nonce b v.0 v.1 (cleared r (view h))
restarts h (sign image answer lent ok signature) a b = absurd a.accepted

-- The first half of demand 3, "a single claim about the list". What it assumes, and the sentence that each part is:
-- h: "Whatever went before, and whatever state it is handed"; its transcript is "one buffer, any bytes at first", of any length
-- c, a: "an accepted GET_VERSION": a request whose code is 0x84, of which came an answer and a change; its image, buffers and nonce are its
--   own, and the transcript is "lent from its start at any length"
-- cs: "For every list of later requests and finishings, refused ones included, whatever images, buffer sizes, nonces and chip results come
--   with them": each call of the list has its own
-- b: an image is lent as a slice of bytes, so each of its elements is a byte
-- o: "with .. unsigned answer handed back untouched": "The host lends finishing the buffer that holds this answer, unchanged"; state and
--   transcript are handed back untouched in box_run itself, where "each call gets it and the state as the last one left them"
-- The claim: "every answer, host number, next state and byte to be signed is exactly what document 01's plain box gives, fresh and fed that
-- GET_VERSION and that list". The two lists hold what is "alike in box and plain box after each call, that GET_VERSION included". The plain
-- box is fed the lengths of the buffers: of the transcript as many bytes as the call is lent, which are at most those that there are.
pub restart : (h : Held) (c : Call) (cs : List Call)
    → Restarts h c
    → Octets (c ∷ cs)
    → Hosted h (c ∷ cs)
    → box_run h (c ∷ cs) ≡ plain_run fresh_plain (map (feed_of (length h.transcript)) (c ∷ cs))
unfolding Hosted
restart h c cs a b o =
    let n = length h.transcript in
    let z : Follows h fresh_plain n c = restarts h c a b.0 in
    then h fresh_plain n c cs z (alike (box_next h c) n cs z.same z.good b.1 o.1)
