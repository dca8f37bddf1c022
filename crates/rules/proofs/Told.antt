-- What an accepted request tells, alike for every message: its exchange is the message's own, the request is long enough and its part has
-- room; and what its fields are. It holds of every branch of its kind's tests, so of what they choose. Assumes nothing.
use Rattle.std.specs.Prelude.{Option, Some, None}
use mathlib.Core.Path.{◌≡◌, refl, ap, sym, subst}
use mathlib.Core.Bool.{Bool, true, false}
use mathlib.Core.List.{List}
use Prim.Native.Nat.{ℕ, ◌+◌, ◌-◌, ◌%◌, ◌≤◌, ◌<◌}
use native.Mathlib.Omega.{arith}
use lib.ListN.{length, get_or}
use lib.Dec.{ltb, leb, eqb}
use borrow.Author.Tests.{ltb-false, leb-false, eqb-true, eqb-false}
use Rattle.wire.specs.Bytes.{le_at}
use Rattle.wire.specs.Pick.{pick}
use Rattle.wire.proofs.Picks.{pick_case, not_first, when_false}
use Rattle.rules.specs.Limits.{message_limit, transcript_length, peer_least, peer11, algorithms_phase, header_length, version11, version12, capabilities_layout11, capabilities_layout12, algorithms_least, algorithms_most, certificate_layout, challenge_layout, type_least, portion_limit, awaits_nothing}
use Rattle.rules.specs.Facts.{Facts, sig_size}
use Rattle.rules.specs.Parts.{limit_of, count_of, kept_by, count_kept}
use Rattle.rules.specs.State.{in_bounds}
use Rattle.rules.specs.Header.{version_byte, param1, param2, by_edition, version_of}
use Rattle.rules.specs.Steps.{in_phase, added_length, whole_length, size_steps}
use Rattle.rules.specs.Capabilities.{transfer_size, message_size, capabilities_layout, peer_asked, sizes_fit, capabilities_next, capabilities_decision}
use Rattle.rules.specs.Algorithms.{bit_set, length_field, structures_start, structures_fit, selection_for, algorithms_decision}
use Rattle.rules.specs.Digests.{digests_exchange, digests_decision}
use Rattle.rules.specs.Certificate.{slot_asked, offset_asked, length_asked, portion_of, certificate_exchange, portion_decision, certificate_decision}
use Rattle.rules.specs.Challenge.{summary_fits, challenge_exchange, challenge_decision}
use Rattle.rules.specs.Measurements.{layout_of, signer_of, signer_fits, operation_of, operation_fits, measurements_exchange, operation_step, measurements_by, measurements_decision}
use Rattle.rules.specs.Exchanges.{complete}
use Rattle.rules.specs.Messages.{kind_for, request_layout, exchange_for}
use Rattle.rules.specs.Decisions.{last_steps, decision_of}
use Rattle.rules.specs.Signing.{finish_of}
use Rattle.rules.specs.declared.Negotiated.{Negotiated}
use Rattle.rules.specs.declared.State.{State}
use Rattle.rules.specs.declared.Lengths.{Lengths}
use Rattle.rules.specs.declared.Kind.{Kind}
use Rattle.rules.specs.declared.Kind.TheVariants as kind
use Rattle.rules.specs.declared.Operation.{Operation}
use Rattle.image.specs.declared.SlotNumber.{SlotNumber}
use Rattle.rules.specs.declared.Message.{Message}
use Rattle.rules.specs.declared.Message.TheVariants as message
use Rattle.rules.specs.declared.Exchange.{Exchange}
use Rattle.rules.specs.Decision.{Decision}
use Rattle.rules.specs.Decision as decision
use Rattle.rules.specs.Finish.{Finish}
use Rattle.rules.specs.Finish as finish
use Rattle.rules.proofs.Tests.{own, used_in_1, used_in_2, peer_in_3, measured, false_true, not-zero, SignatureAwaited, awaited-told}
use Rattle.rules.proofs.Passed.{Called, Passed, called, passed}

-- the messages' own fields

pub record CertificateFields (f : Facts) (slot offset portion remainder : ℕ) : Type 0 where
  pub some : 0 < portion
  pub few : portion ≤ portion_limit
  pub whole : offset + portion + remainder ≡ f.chain_length slot

pub record ChallengeFields (f : Facts) (slot summary : ℕ) : Type 0 where
  pub filled : 0 < f.chain_length slot
  pub measured : eqb summary 0 ≡ false → 0 < f.measurements

pub record MeasurementsFields (f : Facts) (o : Operation) (g : Option SlotNumber) : Type 0 where
  pub fits : operation_fits f o ≡ true
  pub filled : signer_fits f g ≡ true

abbrev pub Fields : Facts → Negotiated → Message → Type 0
Fields f n message.Version = Unit {0}
Fields f n message.Capabilities = peer_least ≤ n.peer
Fields f n message.Algorithms = n.selection ≤ 1
Fields f n message.Digests = Unit {0}
Fields f n (message.Certificate slot offset portion remainder) = CertificateFields f slot.0 offset portion remainder
Fields f n (message.Challenge slot summary) = ChallengeFields f slot.0 summary
Fields f n (message.Measurements operation signer) = MeasurementsFields f operation signer

-- and which of them the request says
abbrev pub AsAsked : List ℕ → Message → Type 0
AsAsked r message.Version = Unit {0}
AsAsked r message.Capabilities = Unit {0}
AsAsked r message.Algorithms = Unit {0}
AsAsked r message.Digests = Unit {0}
AsAsked r (message.Certificate slot offset portion remainder) = (slot.0 ≡ slot_asked r) × (offset ≡ offset_asked r)
AsAsked r (message.Challenge slot summary) = (slot.0 ≡ param1 r) × (summary ≡ param2 r)
AsAsked r (message.Measurements operation signer) = (operation ≡ operation_of (param2 r)) × (signer ≡ signer_of r)

-- what `accept` asks of an exchange: its bytes are there, and fit behind what is kept of its part
pub record Fitting (s : State) (r : List ℕ) (m : Message) (x : Exchange) : Type 0 where
  pub long : x.layout ≤ length r
  pub room : count_kept x.part (kept_by (kind_for m)) s.used + added_length x ≤ limit_of x.part

pub record Told (f : Facts) (s : State) (r : List ℕ) (m : Message) (n : Negotiated) (x : Exchange) : Type 0 where
  pub exchange : x ≡ exchange_for f n r m
  pub layout : x.layout ≡ request_layout (kind_for m) r
  pub fitting : Fitting s r m x
  pub fields : Fields f n m
  pub asked : AsAsked r m

-- a portion is some of what is left of a chain
portion-some : (asked left peer : ℕ) → (asked ≡ 0 → ⊥) → 0 < left → peer_least ≤ peer → 0 < portion_of asked left peer
unfolding portion_of
portion-some asked left peer a l p = omega arith

portion-whole : (asked long offset peer : ℕ) → offset < long
    → offset + portion_of asked (long - offset) peer + (long - offset - portion_of asked (long - offset) peer) ≡ long
unfolding portion_of
portion-whole asked long offset peer h = omega arith

portion-few : (asked left peer : ℕ) → portion_of asked left peer ≤ portion_limit
unfolding portion_of
portion-few asked left peer = omega arith

-- a selection is 0 or 1
selection_few : (f : Facts) (r : List ℕ) → selection_for f r ≤ 1
selection_few f r = pick_case (λ (n : ℕ). n ≤ 1) (eqb f.measurements 0) 0 (get_or r 6 0 % 2) (λ _. omega arith) (λ _. omega arith)

-- the edition that GET_CAPABILITIES chooses is the one that its answer carries
chosen : {A : Type 0} (r : List ℕ) (x y : A) → by_edition (version_byte r) x y ≡ by_edition (version_of (capabilities_next r)) x y
unfolding version_of pick
chosen {A} r x y = by (eqb (version_byte r) version11)
  where
    by : (b : Bool) → pick b x y ≡ by_edition (pick b version11 version12) x y
    by true = refl
    by false = refl

-- a layout has at most 20 bytes
pub layout-few : (version : ℕ) → capabilities_layout version ≤ capabilities_layout12
layout-few version = pick_case (λ (n : ℕ). n ≤ capabilities_layout12) _ _ _ (λ _. omega arith) (λ _. omega arith)

-- its peer's size is one that may be
peer-fits : (r : List ℕ) → sizes_fit r ≡ true → peer_least ≤ peer_asked r
unfolding sizes_fit pick
peer-fits r h = by (eqb (version_byte r) version11) h
  where
    by : (b : Bool) → pick b true (pick (ltb (transfer_size r) peer_least) false (leb (transfer_size r) (message_size r))) ≡ true
        → peer_least ≤ pick b peer11 (transfer_size r)
    by true h = omega arith
    by false h = ltb-false _ _ (not_first _ _ _ _ h false_true).0

module _ (f : Facts) (s : State) (r : List ℕ) (z : in_bounds f s ≡ true) where
  -- where it is accepted: the kind's own message, and what is told of it
  abbrev P : Kind → Decision → Type 0
  P k (decision.Number n) = Unit {0}
  P k (decision.Refused step code extra size) = Unit {0}
  P k (decision.Accepted m n x) = (kind_for m ≡ k) × Told f s r m n x

  -- steps 8 and 9
  sized : (k : Kind) (m : Message) (x : Exchange) → count_kept x.part (kept_by (kind_for m)) s.used ≡ count_of x.part s.used
      → (Fitting s r m x → P k (decision.Accepted m s.negotiated x)) → x.layout ≤ length r → P k (size_steps s m x)
  unfolding size_steps
  sized k m x kept g h =
      pick_case (P k) (ltb s.negotiated.peer (whole_length x)) _ _ (λ _. tt)
      (λ _. pick_case (P k) (ltb (limit_of x.part) (count_of x.part s.used + added_length x)) _ _ (λ _. tt)
      (λ b. g record { long = h; room = rw kept (ltb-false _ _ b) }))

  capabilities : in_phase s.negotiated kind.Capabilities ≡ true → P kind.Capabilities (capabilities_decision r)
  unfolding capabilities_decision in_phase pick
  capabilities p =
      pick_case (P kind.Capabilities) (ltb (length r) (capabilities_layout (version_byte r))) _ _ (λ _. tt)
      (λ a. pick_case (P kind.Capabilities) (sizes_fit r) _ _
      (λ b. (
        refl,
        record {
          exchange = ap (λ (n : ℕ). complete kind.Capabilities n n) (chosen r capabilities_layout11 capabilities_layout12);
          layout = refl;
          fitting = record { long = ltb-false _ _ a; room = omega (arith, used_in_1 s (own f s z) (eqb-true _ _ p), layout-few (version_byte r)) };
          fields = peer-fits r b;
          asked = tt;
        },
      ))
      (λ _. tt))

  algorithms : in_phase s.negotiated kind.Algorithms ≡ true → P kind.Algorithms (algorithms_decision f s.negotiated r)
  unfolding algorithms_decision in_phase pick
  algorithms p =
      let Q = P kind.Algorithms in
      pick_case Q (ltb (length r) algorithms_least) _ _ (λ _. tt)
      (λ _. pick_case Q (ltb (length_field r) algorithms_least) _ _ (λ _. tt)
      (λ a. pick_case Q (ltb algorithms_most (length_field r)) _ _ (λ _. tt)
      (λ b. pick_case Q (ltb (length r) (length_field r)) _ _ (λ _. tt)
      (λ c. pick_case Q (structures_fit r (param1 r) (type_least - 1) (structures_start r)) _ _
      (λ _. pick_case Q (bit_set (le_at 4 r 8) f.identity.signature) _ _
      (λ _. pick_case Q (bit_set (le_at 4 r 12) f.identity.hash) _ _
      (λ _. let most : length_field r ≤ algorithms_most = ltb-false _ _ b in (
        refl,
        record {
          exchange = refl;
          layout = refl;
          fitting = record { long = ltb-false _ _ c; room = omega (arith, used_in_2 s (own f s z) (eqb-true _ _ p)) };
          fields = selection_few f r;
          asked = tt;
        },
      ))
      (λ _. tt))
      (λ _. tt))
      (λ _. tt)))))

  digests : header_length ≤ length r → P kind.Digests (digests_decision f s)
  unfolding digests_decision pick
  digests h = sized kind.Digests message.Digests (digests_exchange f) refl (λ q. (refl, record { exchange = refl; layout = refl; fitting = q; fields = tt; asked = tt })) h

  certificate : s.negotiated.phase ≡ algorithms_phase → P kind.Certificate (certificate_decision f s r)
  unfolding certificate_decision portion_decision pick
  certificate p =
      let Q = P kind.Certificate in
      let long : ℕ = f.chain_length (slot_asked r) in
      let portion : ℕ = portion_of (length_asked r) (long - offset_asked r) s.negotiated.peer in
      pick_case Q (ltb (length r) certificate_layout) _ _ (λ _. tt)
      (λ a. pick_case Q (eqb long 0) _ _ (λ _. tt)
      (λ b. pick_case Q (leb long (offset_asked r)) _ _ (λ _. tt)
      (λ c. pick_case Q (eqb (length_asked r) 0) _ _ (λ _. tt)
      (λ d. sized kind.Certificate _ (certificate_exchange portion) refl
      (λ q. let h : offset_asked r < long = leb-false _ _ c in (
        refl,
        record {
          exchange = refl;
          layout = refl;
          fitting = q;
          fields = record {
            some = portion-some _ _ _ (eqb-false _ _ d) (omega arith) (peer_in_3 s (own f s z) p);
            few = portion-few _ _ _;
            whole = portion-whole _ _ _ _ h;
          };
          asked = (refl, refl);
        },
      ))
      (ltb-false _ _ a)))))

  -- a summary is asked only where a specification was selected
  summary-measured : (x : ℕ) → summary_fits s.negotiated x ≡ true → eqb x 0 ≡ false → 0 < f.measurements
  unfolding summary_fits
  summary-measured x h e = measured f s z (eqb-false _ _ (not_first _ _ _ _ (when_false _ _ _ _ h e) false_true).0)

  challenge : P kind.Challenge (challenge_decision f s r)
  unfolding challenge_decision pick
  challenge =
      let Q = P kind.Challenge in
      pick_case Q (ltb (length r) challenge_layout) _ _ (λ _. tt)
      (λ a. pick_case Q (eqb (f.chain_length (param1 r)) 0) _ _ (λ _. tt)
      (λ b. pick_case Q (summary_fits s.negotiated (param2 r)) _ _
      (λ c. sized kind.Challenge _ (challenge_exchange f (param2 r)) refl
      (λ q. (
        refl,
        record {
          exchange = refl;
          layout = refl;
          fitting = q;
          fields = record { filled = not-zero _ b; measured = summary-measured (param2 r) c };
          asked = (refl, refl);
        },
      ))
      (ltb-false _ _ a))
      (λ _. tt)))

  -- by what is signed, as the exchange is
  measured-by : (g : Option SlotNumber) (o : Operation) → g ≡ signer_of r → o ≡ operation_of (param2 r) → layout_of g ≤ length r → signer_fits f g ≡ true
      → operation_fits f o ≡ true → P kind.Measurements (size_steps s (message.Measurements o g) (measurements_exchange f o g))
  unfolding pick
  measured-by None o e i h t u =
      sized kind.Measurements _ (measurements_exchange f o None) refl
      (λ q. (refl, record { exchange = refl; layout = rw (sym e); fitting = q; fields = record { fits = u; filled = t }; asked = (i, e) })) h
  measured-by (Some k) o e i h t u =
      sized kind.Measurements _ (measurements_exchange f o (Some k)) refl
      (λ q. (refl, record { exchange = refl; layout = rw (sym e); fitting = q; fields = record { fits = u; filled = t }; asked = (i, e) })) h

  measurements : P kind.Measurements (measurements_decision f s r)
  unfolding measurements_decision measurements_by operation_step
  measurements =
      let Q = P kind.Measurements in
      pick_case Q (ltb (length r) (layout_of (signer_of r))) _ _ (λ _. tt)
      (λ a. pick_case Q (signer_fits f (signer_of r)) _ _
      (λ b. pick_case Q (operation_fits f (operation_of (param2 r))) _ _
      (λ c. measured-by (signer_of r) (operation_of (param2 r)) refl refl (ltb-false _ _ a) b c)
      (λ _. tt))
      (λ _. tt))

  -- steps 7–9 of a kind that passed steps 4–6
  last : (k : Kind) → header_length ≤ length r → in_phase s.negotiated k ≡ true → P k (last_steps f s r k)
  unfolding last_steps in_phase pick
  last kind.Version h u = (refl, record { exchange = refl; layout = refl; fitting = record { long = h; room = omega arith }; fields = tt; asked = tt })
  last kind.Capabilities h u = capabilities u
  last kind.Algorithms h u = algorithms u
  last kind.Digests h u = digests h
  last kind.Certificate h u = certificate (eqb-true _ _ u)
  last kind.Challenge h u = challenge
  last kind.Measurements h u = measurements

-- an accepted request: the host's tests passed, its code is that of the message's kind, and what is told of the message
pub record Accepted (f : Facts) (s : State) (lent : Lengths) (nonce : ℕ) (r : List ℕ) (m : Message) (n : Negotiated) (x : Exchange) : Type 0 where
  pub called : Called f s lent nonce
  pub passed : Passed f s r (decision.Accepted m n x)
  pub kind : kind_for m ≡ passed.kind
  pub told : Told f s r m n x

pub accepted : (f : Facts) (s : State) (lent : Lengths) (nonce : ℕ) (r : List ℕ) (m : Message) (n : Negotiated) (x : Exchange)
    → decision_of f s lent nonce r ≡ decision.Accepted m n x → Accepted f s lent nonce r m n x
accepted f s lent nonce r m n x e =
    let d : Decision = decision.Accepted m n x in
    let a = called f s r d lent nonce e tt in
    let b : Passed f s r d = passed f s r d tt a.1 in
    let c : P f s r a.0.bounds b.kind d = subst (P f s r a.0.bounds b.kind) b.decided (last f s r a.0.bounds b.kind b.least b.phase) in
    record { called = a.0; passed = b; kind = c.0; told = c.1 }

-- a finishing that the host's tests let through
pub record Finishing (f : Facts) (s : State) (lent : Lengths) : Type 0 where
  pub buffer : message_limit ≤ lent.answer
  pub room : transcript_length ≤ lent.transcript
  pub bounds : in_bounds f s ≡ true
  pub some : s.awaited.whose ≡ awaits_nothing → ⊥
  pub awaited : SignatureAwaited f s

abbrev pub FinishTold : Facts → State → Lengths → ℕ → Finish → Type 0
FinishTold f s lent size (finish.Number k) = Unit {0}
FinishTold f s lent size finish.Signed = Finishing f s lent × (size ≡ sig_size f)
FinishTold f s lent size finish.Failed = Finishing f s lent

pub finish-told : (f : Facts) (s : State) (lent : Lengths) (ok : Bool) (size : ℕ) → FinishTold f s lent size (finish_of f s lent ok size)
unfolding finish_of
finish-told f s lent ok size =
    let Q : Finish → Type 0 = FinishTold f s lent size in
    pick_case Q (ltb lent.answer message_limit) _ _ (λ _. tt)
    (λ a. pick_case Q (ltb lent.transcript transcript_length) _ _ (λ _. tt)
    (λ b. pick_case Q (in_bounds f s) _ _
    (λ c. pick_case Q (eqb s.awaited.whose awaits_nothing) _ _ (λ _. tt)
    (λ d.
    let w : s.awaited.whose ≡ awaits_nothing → ⊥ = eqb-false _ _ d in
    let z : Finishing f s lent = record { buffer = ltb-false _ _ a; room = ltb-false _ _ b; bounds = c; some = w; awaited = awaited-told f s c w } in
    pick_case Q ok _ _ (λ _. pick_case Q (eqb size (sig_size f)) _ _ (λ e. (z, eqb-true _ _ e)) (λ _. tt)) (λ _. z)))
    (λ _. tt)))
