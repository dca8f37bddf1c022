-- The second half of demand 3. The accepted negotiation found the state within its bounds, so B is empty after it (Serving) and has room
-- for all portions of a chain (Portions); hence every read is served (Served), and its portion is the next one of the chain, by recursion
-- over the reads. Nothing is used of the calls before the negotiation.
use mathlib.Core.Path.{◌≡◌, refl, sym, ap, subst, ◌∙◌}
use mathlib.Core.List.{List, [], ◌∷◌, ◌++◌, append-nil}
use Prim.Native.Nat.{ℕ, zero, suc, ◌+◌, ◌-◌, ◌*◌, ◌≤◌, ◌<◌}
use native.Mathlib.Omega.{arith}
use native.Mathlib.Nat.{add-zero, zero-add}
use lib.ListN.{length, take, drop, length-append, length-drop}
use lib.Seq.{take-add, take_all, length-take-le}
use Rattle.wire.specs.Bytes.{part}
use Rattle.wire.specs.Pick.{pick}
use Rattle.wire.proofs.Laws.{part-splice}
use Rattle.image.specs.Limits.{chain_limit}
use Rattle.image.specs.Contents.{Contents, Each, Valid}
use Rattle.image.specs.Reading.{Result, reading, found}
use Rattle.image.specs.Held.{slot_chain}
use Rattle.image.proofs.Exactly.{image-read}
use Rattle.rules.specs.Limits.{certificate_layout, certificate_head, negotiate_algorithms, get_digests, certificate_code}
use Rattle.rules.specs.Header.{code_byte}
use Rattle.rules.specs.Certificate.{length_asked, portion_of, certificate_exchange, certificate_bytes}
use Rattle.rules.specs.Effects.{Change, Effect, accept, effect_by, reply_of}
use Rattle.rules.specs.Plain.{Shown}
use Rattle.rules.specs.Box.{lengths_of, changed_state, state_after}
use Rattle.rules.specs.declared.Negotiated.{Negotiated}
use Rattle.rules.specs.declared.State.{State}
use Rattle.rules.specs.declared.Lengths.{Lengths}
use Rattle.rules.proofs.Ready.{added-length}
use Rattle.theorems.specs.Runs.{Call, ask, sign, image_of, request_in, Held, lent_of, box_next, box_said, box_run, IsAccept, Accepts}
use Rattle.theorems.specs.Reads.{Calls, since_restart, box_after, at_restart, at_algorithms, at_reads, Seen, seen, reads_seen, View, nothing, portion_in, look_at, looked, asked_least, IsRead, OnlyReads, NoNumber, Requester, ReadOn, ReadsMost}
use Rattle.theorems.proofs.Holdings.{chain-short, digests_most}
use Rattle.theorems.proofs.Portions.{Portion, portion, ReadsBack, reads-back, Room, capacity, room_now, room_next}
use Rattle.theorems.proofs.Serving.{Serves, ServesWith, negotiated, digested}
use Rattle.theorems.proofs.Served.{served}

-- what a panel has of a chain after n reads
record Got (chain : List ℕ) (n : ℕ) (v : View) : Type 0 where
  first : v.held ≡ take (length v.held) chain
  more : 0 < v.left → length v.held < length chain
  done : v.left ≡ 0 → length v.held ≡ length chain
  paid : length v.held < length chain → asked_least * n ≤ length v.held
  few : asked_least * n < length chain + asked_least

-- and the box, which still holds what was negotiated, will serve its next read, with room for the rest of the chain
record Going (agreed : Negotiated) (chain : List ℕ) (n : ℕ) (v : View) (s : State) : Type 0 where
  holds : s.negotiated ≡ agreed
  got : Got chain n v
  serves : Serves s.negotiated s.awaited
  room : length v.held < length chain → Room s.used.b (length chain - length v.held)

-- sums of a read of q bytes at h, of a chain of L bytes
behind : (L h q : ℕ) → 0 < L - h - q → h + q < L
behind L h q y = omega arith

at-end : (L h q : ℕ) → q ≤ L - h → h < L → L - h - q ≡ 0 → h + q ≡ L
at-end L h q a l y = omega arith

ahead : (L h q : ℕ) → h + q < L → q < L - h
ahead L h q y = omega arith

-- with a portion of q bytes more
abbrev next_view : List ℕ → View → ℕ → View
next_view chain v q = record { held = v.held ++ part chain (length v.held) q; left = length chain - length v.held - q }

module _ (agreed : Negotiated) (chain : List ℕ) (n : ℕ) (v : View) (s : State) (g : Going agreed chain n v s) (lt : length v.held < length chain) (q : ℕ)
    (p : Portion (length chain - length v.held) s.negotiated.peer q) where
  abbrev h : ℕ
  h = length v.held

  portion-long : length (part chain h q) ≡ q
  portion-long = length-take-le q (drop h chain) (simp length-drop p.all)

  held-long : length (next_view chain v q).held ≡ h + q
  held-long = length-append v.held (part chain h q) ∙ ap (λ (x : ℕ). h + x) portion-long

  big : h + q < length chain → asked_least ≤ q
  big l = p.big (ahead (length chain) h q l)

  -- the panel holds more of the chain
  got-more : Got chain (suc n) (next_view chain v q)
  got-more = record {
    first =
        ap (λ (x : List ℕ). x ++ part chain h q) g.got.first ∙ sym (take-add h q chain) ∙ ap (λ (x : ℕ). take x chain) (sym held-long);
    more = λ y. rw held-long (behind (length chain) h q y);
    done = λ y. held-long ∙ at-end (length chain) h q p.all lt y;
    paid = λ y. let b = big (rw held-long at y) in let m = g.got.paid lt in rw held-long (omega arith);
    few = let m = g.got.paid lt in omega arith;
  }

  -- and the box goes on in a state t that serves reads and holds the read in B
  goes_on : (t : State) → t.negotiated ≡ s.negotiated → Serves t.negotiated t.awaited → t.used.b ≡ s.used.b + (certificate_layout + (certificate_head + q))
      → Going agreed chain (suc n) (next_view chain v q) t
  goes_on t kept serves used = record {
    holds = kept ∙ g.holds;
    got = got-more;
    serves = serves;
    room = λ y.
        let l : h + q < length chain = rw held-long at y in
        rw (used, held-long) (room_next (length chain) h q s.used.b (big l) l (g.room lt));
  }

-- a request's effect, by what its image reads as
abbrev effect_in : Held → List ℕ → ℕ → List ℕ → List ℕ → Result Contents → Effect
effect_in b answer lent r nonce x = effect_by x b.state (lengths_of (lent_of b lent answer)) r nonce

-- what an accepted request leaves in the answer buffer and in the state, where its answer fits the buffer
told : (b : Held) (image answer : List ℕ) (lent : ℕ) (r nonce out : List ℕ) (change : Change)
    → effect_in b answer lent r nonce (reading image) ≡ accept out change → length out ≤ length answer
    → ((box_said b (ask image answer lent r nonce)).bytes ≡ out)
    × ((box_next b (ask image answer lent r nonce)).state ≡ changed_state change b.state)
unfolding box_said box_next
told b image answer lent r nonce out change e fits = (rw e (part-splice answer 0 out (omega arith)), rw e)

module _ (agreed : Negotiated) (c : Contents) (k : ℕ) (short : length (slot_chain c k) ≤ chain_limit) where
  abbrev chain : List ℕ
  chain = slot_chain c k

  -- the call x is answered by a CERTIFICATE with the next portion
  abbrev Answers : ℕ → View → Held → Call → Type 0
  Answers n v b x =
      (code_byte (box_said b x).bytes ≡ certificate_code) × Going agreed chain (suc n) (look_at v (box_said b x).bytes) (box_next b x).state

  -- so is every read that draws no number; a finishing is no read
  answers : (n : ℕ) (v : View) (b : Held) (x : Call) → reading (image_of x) ≡ found c → Going agreed chain n v b.state → 0 < v.left
      → IsRead agreed k (length v.held) (request_in x) → NoNumber (box_said b x).reply → Answers n v b x
  unfolding box_said pick
  answers n v b (ask image answer lent r nonce) holds g l i u =
      let x : Call = ask image answer lent r nonce in
      let lengths : Lengths = lengths_of (lent_of b lent answer) in
      let s : State = b.state in
      let h : ℕ = length v.held in
      let L : ℕ = length chain in
      let q : ℕ = portion_of (length_asked r) (L - h) s.negotiated.peer in
      let out : List ℕ = certificate_bytes c s.negotiated k h q (L - h - q) in
      let lt : h < L = g.got.more l in
      let p : Portion (L - h) s.negotiated.peer q = portion (length_asked r) (L - h) s.negotiated.peer i.asks g.serves.peer in
      let m : length (part chain h q) ≡ q = portion-long agreed chain n v s g lt q p in
      let back : ReadsBack (part chain h q) (L - h - q) out =
      reads-back c s.negotiated k h q (L - h - q) (omega (arith, p.small)) (omega arith) m in
      let read : IsRead s.negotiated k h r = subst (λ (y : Negotiated). IsRead y k h r) (sym g.holds) i in
      let e = served c s r k h L q read refl refl g.serves lt p.fits (room_now L h q s.used.b p.all (g.room lt)) lengths nonce
      (subst (λ (y : Result Contents). NoNumber (reply_of (effect_in b answer lent r nonce y))) holds u) in
      let z : out ++ [] ≡ out = append-nil out in
      let long : length out ≡ certificate_head + q = omega (arith, back.long, m) in
      let t = told b image answer lent r nonce (out ++ []) _ (ap (effect_in b answer lent r nonce) holds ∙ e.1)
      (rw z (omega (arith, p.small, e.0))) in
      let grown = added-length out r (certificate_exchange q) long i.whole in
      let said : (box_said b x).bytes ≡ out = t.0 ∙ z in
      let sees : next_view chain v q ≡ look_at v out = cc (back.taken, back.left) in
      let after : State = (box_next b x).state in
      let serves : Serves after.negotiated after.awaited =
      rw t.1 (record { phase = g.serves.phase; peer = g.serves.peer; idle = refl }) in
      let goes : Going agreed chain (suc n) (next_view chain v q) after =
      goes_on agreed chain n v s g lt q p after (ap (λ (y : State). y.negotiated) t.1) serves (ap (λ (y : State). y.used.b) t.1 ∙ ap (λ (y : ℕ). s.used.b + y) grown) in
      (ap code_byte said ∙ back.code, subst (λ (y : View). Going agreed chain (suc n) y after) (sees ∙ ap (look_at v) (sym said)) goes)
  answers n v b (sign image answer lent ok signature) holds g l i u = absurd (omega (arith, i.whole))

  -- a list of reads and answers behind n reads
  record Answered (n : ℕ) (v : View) (xs : List Seen) : Type 0 where
    certificates : Each (λ (x : Seen). code_byte x.answer ≡ certificate_code) xs
    got : Got chain (n + length xs) (looked v xs)

  all-answered : (n : ℕ) (v : View) (b : Held) (reads : List Call) → Each (λ (x : Call). reading (image_of x) ≡ found c) reads
      → Going agreed chain n v b.state → Each (λ (x : Shown). NoNumber x.said.reply) (box_run b reads) → OnlyReads agreed k v (seen b reads)
      → Answered n v (seen b reads)
  unfolding box_run OnlyReads seen looked
  all-answered n v b [] hs g us os = record { certificates = tt; got = subst (λ (m : ℕ). Got chain m v) (sym (add-zero n)) g.got }
  all-answered n v b (x ∷ more) hs g us os =
      let t : Answers n v b x = answers n v b x hs.0 g os.0 os.1.0 us.0 in
      let w : View = look_at v (box_said b x).bytes in
      let xs : List Seen = seen (box_next b x) more in
      let z : Answered (suc n) w xs = all-answered (suc n) w (box_next b x) more hs.1 t.1 us.1 os.1.1 in
      let e : suc n + length xs ≡ n + suc (length xs) = omega arith in
      record { certificates = (t.0, z.certificates); got = subst (λ (m : ℕ). Got chain m (looked w xs)) e z.got }

-- what holds of every call of a list holds of its last ones, and, as they are made on what the first ones left, so does what they show
each_back : {A : Type 0} (P : A → Type 0) (xs ys : List A) → Each P (xs ++ ys) → Each P ys
each_back P [] ys e = e
each_back P (x ∷ xs) ys e = each_back P xs ys e.1

run-back : (P : Shown → Type 0) (h : Held) (xs ys : List Call) → Each P (box_run h (xs ++ ys)) → Each P (box_run (box_after h xs) ys)
unfolding box_run box_after
run-back P h [] ys e = e
run-back P h (x ∷ xs) ys e = run-back P (box_next h x) xs ys e.1

-- calls that lend one image lend what it holds
each_holds : (image : List ℕ) (c : Contents) → reading image ≡ found c → (xs : List Call) → Each (λ (x : Call). image_of x ≡ image) xs
    → Each (λ (x : Call). reading (image_of x) ≡ found c) xs
each_holds image c holds [] e = tt
each_holds image c holds (x ∷ xs) e = (ap reading e.0 ∙ holds, each_holds image c holds xs e.1)

module _ (c : Contents) where
  after_negotiation : (b : Held) (x : Call) → reading (image_of x) ≡ found c → code_byte (request_in x) ≡ negotiate_algorithms → Accepts b x
      → ServesWith 0 (box_next b x).state
  unfolding box_next
  after_negotiation b (ask image answer lent r nonce) holds e a =
      let effect : Result Contents → Effect = effect_in b answer lent r nonce in
      subst (λ (y : Result Contents). IsAccept (effect y) → ServesWith 0 (state_after (effect y) b.state)) (sym holds)
      (negotiated c b.state (lengths_of (lent_of b lent answer)) r nonce e) a
  after_negotiation b (sign image answer lent ok signature) holds e a = absurd a

  after_one : Valid c → (b : Held) (x : Call) → reading (image_of x) ≡ found c → code_byte (request_in x) ≡ get_digests
      → ServesWith 0 b.state → ServesWith digests_most (box_next b x).state
  unfolding box_next
  after_one valid b (ask image answer lent r nonce) holds e s =
      subst (λ (y : Result Contents). ServesWith digests_most (state_after (effect_in b answer lent r nonce y) b.state)) (sym holds)
      (digested c b.state (lengths_of (lent_of b lent answer)) r nonce valid e s)
  after_one valid b (sign image answer lent ok signature) holds e s = absurd (omega (arith, e))

  after-digests : Valid c → (b : Held) (xs more : List Call) → Each (λ (x : Call). reading (image_of x) ≡ found c) (xs ++ more)
      → Each (λ (x : Call). code_byte (request_in x) ≡ get_digests) xs → length xs ≤ 1 → ServesWith 0 b.state
      → ServesWith digests_most (box_after b xs).state
  unfolding box_after
  after-digests valid b [] more hs e once s = record { serves = s.serves; used = omega (arith, s.used) }
  after-digests valid b (x ∷ []) more hs e once s = after_one valid b x hs.0 e.0 s
  after-digests valid b (x ∷ (y ∷ ys)) more hs e once s = absurd (omega arith)

-- before the first read
sets_out : (chain : List ℕ) (s : State) → length chain ≤ chain_limit → 0 < length chain → ServesWith digests_most s → Going s.negotiated chain 0 nothing s
sets_out chain s short some r = record {
  holds = refl;
  got = record { first = refl; more = λ _. some; done = λ e. absurd (omega arith); paid = λ _. omega arith; few = omega arith };
  serves = r.serves;
  room = λ _. capacity s.used.b (length chain) r.used short;
}

-- after L/34 reads, rounded up, no byte remains
none_left : (left h L n : ℕ) → (0 < left → h < L) → (h < L → asked_least * n ≤ h) → L ≤ asked_least * n → left ≡ 0
none_left zero h L n more paid e = refl
none_left (suc left) h L n more paid e = let a = more (omega arith) in let b = paid a in absurd (omega arith)

-- The second half of demand 3. What it assumes are the fields of `Requester`, and what it claims those of `ReadOn`, each with its sentence.
-- h: "Whatever went before, and whatever state it is handed"
-- image, c, k: the "one image" that all calls since the restart lend, what it holds, and the "one filled slot"
-- s: the panel's calls, the restarting GET_VERSION and those since
pub reads_whole : (h : Held) (image : List ℕ) (c : Contents) (k : ℕ) (s : Calls) → Requester h image c k s
    → ReadOn (slot_chain c k) (reads_seen h s)
unfolding box_run
reads_whole h image c k s p =
    let chain : List ℕ = slot_chain c k in
    let valid : Valid c = (image-read image c p.octets p.holds).1 in
    let short : length chain ≤ chain_limit = chain-short c valid k in
    let NoneTold : Shown → Type 0 = λ (x : Shown). NoNumber x.said.reply in
    let Holds : Call → Type 0 = λ (x : Call). reading (image_of x) ≡ found c in
    let later : List Call = s.algorithms ∷ (s.digests ++ s.reads) in
    let hs : Each Holds later = each_back Holds s.early later (each_holds image c p.holds (since_restart s) p.images) in
    let us : Each NoneTold (box_run (at_algorithms h s) later) = run-back NoneTold (at_restart h s) s.early later p.numbers in
    let b : Held = box_next (at_algorithms h s) s.algorithms in
    let begins : ServesWith 0 b.state = after_negotiation c (at_algorithms h s) s.algorithms hs.0 p.algorithms p.negotiated in
    let serves : ServesWith digests_most (at_reads h s).state =
    after-digests c valid b s.digests s.reads hs.1 p.digests p.once begins in
    let z = all-answered (at_reads h s).state.negotiated c k short 0 nothing (at_reads h s) s.reads (each_back Holds s.digests s.reads hs.1)
    (sets_out chain (at_reads h s).state short p.filled serves) (run-back NoneTold b s.digests s.reads us.1) p.reads in
    let n : ℕ = length (reads_seen h s) in
    let v : View = looked nothing (reads_seen h s) in
    let g : Got chain n v = subst (λ (m : ℕ). Got chain m v) (zero-add n) z.got in
    record {
      unrefused = z.certificates;
      most = g.few;
      enough = none_left v.left (length v.held) (length chain) n g.more g.paid;
      first = g.first;
      joined = λ e. g.first ∙ take_all (length v.held) chain (omega (arith, g.done e));
    }

-- n portions of at most 34 bytes are at most 34·n bytes
held-most : (v : View) (xs : List Seen) → Each (λ (x : Seen). length (portion_in x.answer) ≤ asked_least) xs
    → length (looked v xs).held ≤ length v.held + asked_least * length xs
unfolding looked
held-most v [] e = omega arith
held-most v (x ∷ xs) e =
    omega (arith, e.0, held-most (look_at v x.answer) xs e.1, length-append v.held (portion_in x.answer))

-- "Demand 3's reading promise must still hold at the longest chain: 482 requests at 34 bytes". What it assumes is what *reads_whole* does.
pub reads-longest : (h : Held) (image : List ℕ) (c : Contents) (k : ℕ) (s : Calls) → Requester h image c k s
    → ReadsMost (slot_chain c k) (reads_seen h s)
reads-longest h image c k s p =
    let whole = reads_whole h image c k s p in
    let short : length (slot_chain c k) ≤ chain_limit = chain-short c (image-read image c p.octets p.holds).1 k in
    record {
      most = omega (arith, whole.most);
      enough = λ e. whole.enough (omega arith);
      needed = λ l e z. omega (arith, whole.most, held-most nothing (reads_seen h s) e, ap length (whole.joined z));
    }
