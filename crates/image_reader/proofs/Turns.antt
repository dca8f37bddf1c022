-- The walk's turns. At each turn the image reads as what was read so far with the records from here on; a good record moves that on by one, a run
-- by as many as it has, and what the walk carries is read off the contents so far. Assumes nothing.
use mathlib.Core.Path.{◌≡◌, refl, sym, ap, ◌∙◌, subst}
use mathlib.Core.List.{List, [], ◌∷◌, ◌++◌, append-nil}
use Rattle.std.specs.Prelude.{Option, Some, None}
use Prim.Native.Nat.{ℕ, suc, ◌+◌, ◌-◌, ◌≤◌, ◌<◌}
use native.Mathlib.Omega.{arith}
use native.Mathlib.Nat.{add-zero}
use lib.ListN.{length, get_or, set, length-append}
use lib.Dec.{eqb}
use borrow.Author.Tests.{eqb-true, eq-eqb, ne_eqb}
use Rattle.wire.specs.Pick.{pick}
use Rattle.wire.proofs.Laws.{part_length}
use Rattle.wire.proofs.Picks.{pick-map, pick_case, pick_yes, pick_no, either}
use Rattle.image.specs.Sizes.{digest_size}
use Rattle.image.specs.Limits.{head_length, identity_end, chain_kind, measurement_kind, slot_limit}
use Rattle.image.specs.Contents.{Chain, Measurement, Contents, identity_body, chain_body, record_bytes, records_bytes, identity_bytes, image_bytes}
use Rattle.image.specs.Reading.{Result, number, found, unless, seen, identity_fault, record_fault, identified, chain_in, measurement_in, summary_in, add_chain, add_measurement, add_summary, extended, read_on}
use Rattle.image.specs.Index.{no_places, places_of, first_of, chains_end, index_of, answer_of}
use Rattle.image_reader.specs.Steps.{Places, frames_at, frame_at, body_in, held_record, record_of, bodies_after, first_after, places_after, index_from}
use Rattle.image_reader.specs.Runs.{Measuring, measured, Run, none, more}
use Rattle.image.specs.declared.Identity.{Identity}
use Rattle.image.specs.declared.Seen.{Seen}
use Rattle.image_records.specs.Records.{seen_first, seen_after, held_of}
use Rattle.image_records.proofs.Good.{chain-fine, measurement-fine}
use Rattle.image_records.proofs.Seeing.{seen-extended}
use Rattle.image_reader.specs.declared.Frame.{Frame}
use Rattle.image_reader.specs.declared.Record.{Record}
use Rattle.image_reader.proofs.Frames.{Says, said, frames_read}
use Rattle.image_reader.proofs.Runs.{measurement-seen}
use Rattle.image.proofs.Framed.{record_length, empty}
use Rattle.image.proofs.Sound.{Sound}
use Rattle.image.proofs.Growth.{grown, identity-grown}

-- what the reading comes to, by the record that was read
unfoldable pub concluded : List ℕ → Contents → Result (Option Record) → Result Contents
concluded b c (number k) = number k
concluded b c (found None) = found c
concluded b c (found (Some r)) = read_on (extended c r.frame.kind (body_in b r.frame)) (frames_at b r.frame.end)

framed : (b : List ℕ) (c : Contents) (at : ℕ) (g : Result (Option Frame)) → Says b at g
    → concluded b c (record_of b (seen c) g) ≡ read_on c (frames_at b at)
unfolding record_of held_of read_on concluded unless
framed b c at (number k) p = rw (p.fault, p.read)
framed b c at (found None) p = rw p (pick-map (concluded b c) _ _ _ _ _ (λ t. refl) (λ t. refl))
framed b c at (found (Some f)) p =
    rw p.read (pick-map (λ (h : Result Seen). concluded b c (held_record f h)) _ _ _ _ _ (λ t. refl) (λ t. refl))

pub turn_read : (b : List ℕ) (c : Contents) (at : ℕ) → concluded b c (record_of b (seen c) (frame_at b at)) ≡ read_on c (frames_at b at)
turn_read b c at = framed b c at (frame_at b at) (frames_read b at)

-- a good record is a whole frame without a fault, and it carries what is seen past it
pub record Taken (b : List ℕ) (w : Seen) (g : Result (Option Frame)) (r : Record) : Type 0 where
  pub read : found (Some r) ≡ record_of b w g
  pub whole : found (Some r.frame) ≡ g
  pub fine : record_fault w r.frame.kind (body_in b r.frame) ≡ 0
  pub seeing : r.next ≡ seen_after w r.frame.kind (get_or (body_in b r.frame) 0 0)

pub taken : (b : List ℕ) (w : Seen) (g : Result (Option Frame)) (r : Record) → record_of b w g ≡ found (Some r) → Taken b w g r
unfolding record_of held_of unless
taken b w (number k) r e = cc
taken b w (found None) r e = either (Taken b w (found None) r) _ _ _ _ e (λ t g. cc) (λ t g. cc)
taken b w (found (Some f)) r e =
    pick_case (λ (h : Result Seen). held_record f h ≡ found (Some r) → Taken b w (found (Some f)) r) _ _ _
    (λ t g.
    let k : r.frame ≡ f = cc in
    let v : seen_after w f.kind (get_or (body_in b f) 0 0) ≡ r.next = cc in
    let z : record_fault w f.kind (body_in b f) ≡ 0 = eqb-true _ 0 t in
    record { read = sym e; whole = cc; fine = rw k z; seeing = rw k (sym v) })
    (λ t g. cc)
    e

-- what a good record tells
module _ (b : List ℕ) (w : Seen) (at : ℕ) {g : Option Record} {x : Record} (e : g ≡ Some x) (f : found g ≡ record_of b w (frame_at b at)) where
  good : Taken b w (frame_at b at) x
  good = taken b w (frame_at b at) x (sym (rw e at f))

  pub good-within : (x.frame.start ≡ at + head_length) × ((x.frame.start ≤ x.frame.end) × (x.frame.end ≤ length b))
  good-within = let h = said b at (found (Some x.frame)) good.whole in (h.start, (h.ordered, h.inside))

  pub good-slot : x.frame.kind ≡ chain_kind → x.next.slot ≤ slot_limit
  good-slot k =
      let n = ap (λ (v : Seen). v.slot) (good.seeing ∙ sym (pick_yes _ _ _ _ (eq-eqb x.frame.kind chain_kind k) refl)) in
      let h = (chain-fine w x.frame.kind (body_in b x.frame) good.fine k).slot in
      omega arith

  -- behind a good measurement more may follow
  pub good-measuring : x.frame.kind ≡ measurement_kind → (Measuring x.next) × (0 < x.next.measurements)
  good-measuring k =
      let h = measurement-fine w x.frame.kind (body_in b x.frame) good.fine k in
      let n : x.next ≡ measured w (w.measurements + 1) (get_or (body_in b x.frame) 0 0) = good.seeing ∙ measurement-seen w x.frame.kind _ k in
      subst (λ (v : Seen). (Measuring v) × (0 < v.measurements)) (sym n) (record { chained = h.chained; few = omega arith; unsummed = h.first }, omega arith)

-- a run leads on
pub run-onward : {b : List ℕ} {from : ℕ} {w : Seen} {at : ℕ} {v : Seen} → Run b from w at v → from ≤ at
run-onward none = omega arith
run-onward {b} (more {at} {v} run x k e) =
    let i = good-within b v at {x = x} refl (sym e) in
    let o = run-onward run in
    omega arith

-- places are alike where both fields are
both : {l l' : List ℕ} {n n' : ℕ} → l ≡ l' → n ≡ n' → ◌≡◌ {A = Places} (record { bodies = l; first = n }) (record { bodies = l'; first = n' })
both p q = cc

-- where the records of contents stand
abbrev pub placed : Contents → Places
placed c = record { bodies = places_of (length (identity_bytes c)) c.chains no_places; first = first_of (chains_end c) c.measurements }

-- one more chain is stored at its slot, behind the chains before it
places-more : (start : ℕ) (xs : List Chain) (x : Chain) (t : List ℕ)
    → places_of start (xs ++ (x ∷ [])) t ≡ set (places_of start xs t) x.slot (start + length (records_bytes chain_kind chain_body xs) + head_length)
unfolding places_of records_bytes
places-more start [] x t = ap (λ (n : ℕ). set t x.slot (n + head_length)) (sym (add-zero start))
places-more start (y ∷ ys) x t =
    let l = length-append (record_bytes chain_kind (chain_body y)) (records_bytes chain_kind chain_body ys) in
    let r = record_length chain_kind (chain_body y) in
    let e : start + head_length + length (chain_body y) + length (records_bytes chain_kind chain_body ys) + head_length ≡ start + length (record_bytes chain_kind (chain_body y) ++ records_bytes chain_kind chain_body ys) + head_length = omega arith in
    places-more (start + head_length + length (chain_body y)) ys x (set t y.slot (start + head_length))
    ∙ ap (λ (n : ℕ). set (places_of (start + head_length + length (chain_body y)) ys (set t y.slot (start + head_length))) x.slot n) e

-- the image so far, where no measurement and no summary has come
chains-length : (c : Contents) → c.measurements ≡ [] → c.summaries ≡ [] → length (image_bytes c) ≡ length (identity_bytes c) + length (records_bytes chain_kind chain_body c.chains)
unfolding image_bytes records_bytes
chains-length c p q = simp (p, q, append-nil, length-append)

measurements_start : (c : Contents) → c.measurements ≡ [] → c.summaries ≡ [] → length (image_bytes c) ≡ chains_end c
measurements_start c p q = chains-length c p q ∙ sym (length-append (identity_bytes c) (records_bytes chain_kind chain_body c.chains))

first-none : (n m : ℕ) (ms : List Measurement) → ms ≡ [] → first_of n ms ≡ first_of m ms
unfolding first_of
first-none n m ms e = rw e

bodies_chain : (c : Contents) (x : Chain) (start : ℕ) → c.measurements ≡ [] → c.summaries ≡ [] → start ≡ length (image_bytes c) + head_length
    → (placed (add_chain c x)).bodies ≡ set (placed c).bodies x.slot start
unfolding identity_bytes
bodies_chain c x start p q e =
    let l = chains-length c p q in
    let n = length (identity_bytes c) in
    let s : n + length (records_bytes chain_kind chain_body c.chains) + head_length ≡ start = omega arith in
    places-more n c.chains x no_places ∙ ap (set (places_of n c.chains no_places) x.slot) s

first_more : (n : ℕ) (ms : List Measurement) (m : Measurement) (start : ℕ) → (ms ≡ [] → start ≡ n + head_length) → first_of n (ms ++ (m ∷ [])) ≡ pick (eqb (length ms) 0) start (first_of n ms)
unfolding first_of
first_more n [] m start e = pick_yes _ _ _ _ refl (sym (e refl))
first_more n (x ∷ ms) m start e = pick_no _ _ _ _ (ne_eqb (suc (length ms)) 0 (λ z. omega arith)) refl

module _ (c : Contents) (kind : ℕ) (body : List ℕ) (start : ℕ) (s : Sound c) (f : record_fault (seen c) kind body ≡ 0) (e : start ≡ length (image_bytes c) + head_length) where
  -- before a chain there is no measurement
  unmeasured : kind ≡ chain_kind → c.measurements ≡ []
  unmeasured k = empty c.measurements (omega (arith, (chain-fine (seen c) kind body f k).first))

  -- one more record leaves the chains' places as bodies_after says
  bodies_extended : (placed (extended c kind body)).bodies ≡ bodies_after (placed c).bodies kind (get_or body 0 0) start
  unfolding extended identity_bytes
  bodies_extended =
      pick-map (λ (d : Contents). (placed d).bodies) _ _ _ _ _
      (λ t.
      let m = unmeasured (eqb-true kind chain_kind t) in
      bodies_chain c (chain_in (digest_size c.identity.hash) body) start m (empty c.summaries (omega (arith, s.behind, ap length m))) e)
      (λ t. pick_case (λ (d : Contents). (placed d).bodies ≡ (placed c).bodies) _ _ _ (λ u. refl) (λ u. refl))

  -- and the first measurement's place as first_after says
  first-extended : (placed (extended c kind body)).first ≡ first_after (placed c).first (seen c) kind start
  unfolding extended identity_bytes
  first-extended =
      pick_case (λ (d : Contents). (placed d).first ≡ first_after (placed c).first (seen c) kind start) _ _ _
      (λ t.
      let k = eqb-true kind chain_kind t in
      first-none _ _ c.measurements (unmeasured k) ∙ pick_no _ _ _ _ (ne_eqb kind measurement_kind (λ z. omega arith)) refl)
      (λ t. pick-map (λ (d : Contents). (placed d).first) _ (add_measurement c (measurement_in body)) (add_summary c (summary_in (digest_size c.identity.hash) body)) _ _
      (λ u.
      let q = empty c.summaries (omega (arith, (measurement-fine (seen c) kind body f (eqb-true kind measurement_kind u)).first)) in
      first_more (chains_end c) c.measurements (measurement_in body) start (λ p. let l = measurements_start c p q in omega arith))
      (λ u. refl))

  pub places-extended : placed (extended c kind body) ≡ places_after (placed c) (seen c) kind (get_or body 0 0) start
  places-extended = both bodies_extended first-extended

-- the slot that is seen past a chain is the chain's, and that of any other record is not asked for
slot_seen : (p : Places) (w : Seen) (kind key start : ℕ) → places_after p w kind key start ≡ places_after p w kind (seen_after w kind key).slot start
slot_seen p w kind key start =
    ap (λ (l : List ℕ). record { bodies = l; first = first_after p.first w kind start })
    (pick-map (λ (l : List ℕ). l) _ _ _ _ _ (λ t. ap (λ (n : ℕ). set p.bodies n start) (ap (λ (v : Seen). v.slot) (pick_yes _ _ _ _ t refl))) (λ t. refl))

-- a turn of the walk: what was read so far, and that all else follows from it
pub record Reached (b : List ℕ) (c₀ : Contents) (at : ℕ) (w : Seen) (p : Places) : Type 0 where
  pub held : Contents
  pub same : read_on c₀ (frames_at b identity_end) ≡ read_on held (frames_at b at)
  pub sound : Sound held
  pub seeing : w ≡ seen held
  pub places : p ≡ placed held
  pub place : at ≡ length (image_bytes held)
  pub identity : held.identity ≡ c₀.identity

-- before the first turn
pub reached-first : (b : List ℕ) (i : Identity) → identity_fault (identity_body i) ≡ 0
    → Reached b (identified i) identity_end (seen_first i) (record { bodies = no_places; first = 0 })
unfolding places_of first_of record_bytes
reached-first b i f =
    let g = identity-grown (identity_body i) f in
    record {
      held = identified i;
      same = refl;
      sound = g.sound;
      seeing = refl;
      places = refl;
      place = sym (ap length g.bytes);
      identity = refl;
    }

-- the identity stays
extended-identity : (c : Contents) (kind : ℕ) (body : List ℕ) → (extended c kind body).identity ≡ c.identity
unfolding extended
extended-identity c kind body =
    let Same : Contents → Type 0 = λ (d : Contents). d.identity ≡ c.identity in
    pick_case Same _ _ _ (λ t. refl) (λ t. pick_case Same _ _ _ (λ u. refl) (λ u. refl))

module _ {b : List ℕ} {c₀ : Contents} {at : ℕ} {w : Seen} {p : Places} (r : Reached b c₀ at w p) where
  -- what the record that is read here makes of the whole
  here : read_on c₀ (frames_at b identity_end) ≡ concluded b r.held (record_of b w (frame_at b at))
  here = r.same ∙ sym (turn_read b r.held at) ∙ ap (λ (v : Seen). concluded b r.held (record_of b v (frame_at b at))) (sym r.seeing)

  pub reached-refused : (k : ℕ) → number k ≡ record_of b w (frame_at b at) → number k ≡ answer_of (read_on c₀ (frames_at b identity_end))
  unfolding concluded answer_of
  reached-refused k e = sym (ap answer_of (here ∙ ap (concluded b r.held) (sym e)))

  pub reached-end : {g : Option Record} → g ≡ None → found g ≡ record_of b w (frame_at b at)
      → found (index_from c₀.identity w p) ≡ answer_of (read_on c₀ (frames_at b identity_end))
  unfolding concluded answer_of
  reached-end n f =
      let e = rw n at f in
      let v = r.seeing in
      let q = r.places in
      let x = r.identity in
      let i : index_from c₀.identity w p ≡ index_of r.held = cc in
      ap found i ∙ sym (ap answer_of (here ∙ ap (concluded b r.held) (sym e)))

  module _ {x : Record} {g : Option Record} (e : g ≡ Some x) (f : found g ≡ record_of b w (frame_at b at)) where
    pub reached-next : Reached b c₀ x.frame.end x.next (places_after p w x.frame.kind x.next.slot x.frame.start)
    unfolding concluded
    reached-next =
        let c = r.held in
        let kind = x.frame.kind in
        let start = x.frame.start in
        let body = body_in b x.frame in
        let key = get_or body 0 0 in
        let t = good b w at e f in
        let i = good-within b w at e f in
        let f : record_fault (seen c) kind body ≡ 0 = subst (λ (v : Seen). record_fault v kind body ≡ 0) r.seeing t.fine in
        let g = grown c kind body r.sound f in
        let s : start ≡ at + head_length = i.0 in
        let o = i.1.0 in
        let q = i.1.1 in
        let l : length body ≡ x.frame.end - start = part_length b start (x.frame.end - start) (omega arith) in
        let n = ap length g.bytes in
        let m = length-append (image_bytes c) (record_bytes kind body) in
        let d = record_length kind body in
        let z = r.place in
        let a : start ≡ length (image_bytes c) + head_length = omega arith in
        record {
          held = extended c kind body;
          same = here ∙ ap (concluded b c) (sym t.read);
          sound = g.sound;
          seeing = t.seeing ∙ ap (λ (v : Seen). seen_after v kind key) r.seeing ∙ sym (seen-extended c kind body);
          places = ap (λ (v : Seen). places_after p w kind v.slot start) t.seeing ∙ sym (slot_seen p w kind key start)
              ∙ ap (λ (v : Seen). places_after p v kind key start) r.seeing ∙ ap (λ (q : Places). places_after q (seen c) kind key start) r.places
              ∙ sym (places-extended c kind body start r.sound f a);
          place = omega arith;
          identity = extended-identity c kind body ∙ r.identity;
        }

-- a measurement behind another leaves the places as they are
places-kept : (p : Places) (v : Seen) (kind slot start : ℕ) → kind ≡ measurement_kind → 0 < v.measurements → places_after p v kind slot start ≡ p
unfolding pick
places-kept p v kind slot start k m = let t = ne_eqb v.measurements 0 (λ z. omega arith) in rw (k, t)

-- a run behind a measurement moves the turn on
record Ran (b : List ℕ) (c₀ : Contents) (p : Places) (at : ℕ) (v : Seen) : Type 0 where
  pub reached : Reached b c₀ at v p
  pub measuring : 0 < v.measurements

ran : {b : List ℕ} {c₀ : Contents} {from : ℕ} {w : Seen} {p : Places} {at : ℕ} {v : Seen} → Reached b c₀ from w p → 0 < w.measurements → Run b from w at v → Ran b c₀ p at v
ran r m none = record { reached = r; measuring = m }
ran {b} {c₀} {p = p} r m (more {at} {v} run x k e) =
    let i = ran r m run in
    record {
      reached = subst (Reached b c₀ x.frame.end x.next) (places-kept p v x.frame.kind x.next.slot x.frame.start k i.measuring) (reached-next i.reached {x = x} refl (sym e));
      measuring = (good-measuring b v at {x = x} refl (sym e) k).1;
    }

pub reached-run : {b : List ℕ} {c₀ : Contents} {from : ℕ} {w : Seen} {p : Places} {at : ℕ} {v : Seen} → Reached b c₀ from w p → 0 < w.measurements → Run b from w at v → Reached b c₀ at v p
reached-run r m run = (ran r m run).reached

-- what the walk needs of its turns
pub ruleset turns = (reached-first, run-onward, good-within, good-slot, good-measuring)
