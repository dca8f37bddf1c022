-- Sound contents are come to: whatever records follow theirs, the reader passes theirs, holds those contents, and reads on from there. One
-- record at a time from the identity on, since what makes an element valid is what the tests of its record ask. Assumes nothing.
use mathlib.Core.Path.{◌≡◌, refl, sym, ap, ◌∙◌, subst}
use mathlib.Core.Bool.{false}
use mathlib.Core.List.{List, [], ◌∷◌, ◌++◌, append_assoc}
use Prim.Native.Nat.{ℕ, ◌+◌, ◌-◌, ◌≤◌, ◌<◌}
use native.Mathlib.Omega.{arith}
use lib.ListN.{length, length-append}
use lib.Seq.{take_at, drop_at, drop-drop}
use lib.Dec.{eqb}
use borrow.Author.Tests.{ne_eqb}
use Rattle.wire.specs.Bytes.{le_at}
use Rattle.wire.specs.Pick.{pick}
use Rattle.wire.proofs.Picks.{picks, pick_yes, pick_no}
use Rattle.image.specs.Limits.{image_limit, image_version, identity_kind, chain_kind, measurement_kind, summary_kind, slot_limit, chains_limit, chain_least, chain_limit, index_limit, type_limit, measurements_limit}
use Rattle.image.specs.Sizes.{digest_size}
use Rattle.image.specs.Contents.{Chain, Measurement, Summary, Contents, identity_body, chain_body, measurement_body, summary_body, record_bytes, image_bytes, ValidIdentity, slots, indices}
use Rattle.image.specs.declared.Identity.{Identity}
use Rattle.image.specs.Reading.{Result, unless, Frames, frame, last_of, seen, identity_fault, slot_wrong, chain_fault, measurement_fault, summary_fault, record_fault, chain_in, summary_in, add_chain, add_measurement, add_summary, extended, read_on, read_all, reading}
use Rattle.image.proofs.Framed.{joined, Whole, apart}
use Rattle.image.proofs.Rising.{grows}
use Rattle.image.proofs.Sound.{Sound, chains-more, measurements-more, summaries-more}
use Rattle.image.proofs.Growth.{own-length, identity-grown, grown}

-- without their last element contents are sound, and its record, read from there on, has no fault and gives the element back
pub record Read (c : Contents) (kind : ℕ) (body : List ℕ) (more : Contents) : Type 0 where
  pub before : Sound c
  pub good : 0 ≡ record_fault (seen c) kind body
  pub back : more ≡ extended c kind body

chain-read : (c : Contents) (x : Chain) → length c.measurements ≡ 0 → Sound (add_chain c x) → Read c chain_kind (chain_body x) (add_chain c x)
unfolding record_fault chain_fault extended
chain-read c x n s =
    let h = digest_size c.identity.hash in
    let body = chain_body x in
    let p = (chains-more h c.chains x).0 s.chains in
    let v = p.1.fine in
    let i : chain_in h body ≡ x = rw (← drop-drop h 1 body, take_at x.digest x.bytes h v.digest, drop_at x.digest x.bytes h v.digest) in
    let l = length-append x.digest x.bytes in
    let o : le_at 2 body (1 + h) ≡ le_at 2 x.bytes 0 = sym (own-length body (1 + h)) ∙ ap (λ (y : Chain). le_at 2 y.bytes 0) i in
    let t₁ : length c.measurements ≤ 0 = omega arith in
    let t₂ : length c.chains < chains_limit = p.1.room in
    let t₃ : 1 + h + chain_least h ≤ length body = omega arith in
    let t₄ : length body ≤ 1 + h + chain_limit = omega arith in
    let t₅ : x.slot ≤ slot_limit = v.slot in
    let t₆ : slot_wrong (length c.chains) (last_of (slots c.chains)) x.slot ≡ false = p.1.next in
    let t₇ : le_at 2 body (1 + h) ≡ length body - (1 + h) = omega arith in
    record {
      before = record { identity = s.identity; chains = p.0; measurements = s.measurements; summaries = s.summaries; behind = s.behind };
      good = search picks depth 20;
      back = pick_yes _ _ _ _ refl (ap (add_chain c) (sym i));
    }

measurement-read : (c : Contents) (m : Measurement) → 1 ≤ length c.chains → length c.summaries ≡ 0 → Sound (add_measurement c m) → Read c measurement_kind (measurement_body m) (add_measurement c m)
unfolding record_fault measurement_fault extended
measurement-read c m k n s =
    let h = digest_size c.identity.hash in
    let p = (measurements-more h c.measurements m).0 s.measurements in
    let v = p.1.fine in
    let t₁ : eqb (length c.chains) 0 ≡ false = ne_eqb (length c.chains) 0 (λ z. omega arith) in
    let t₂ : length c.summaries ≤ 0 = omega arith in
    let t₃ : length c.measurements < measurements_limit = p.1.room in
    let t₄ : length (measurement_body m) ≡ 2 + h = omega arith in
    let t₅ : last_of (indices c.measurements) < m.index = p.1.next in
    let t₆ : m.index ≤ index_limit = v.index in
    let t₇ : m.type ≤ type_limit = v.type in
    record {
      before = record { identity = s.identity; chains = s.chains; measurements = p.0; summaries = s.summaries; behind = omega arith };
      good = search picks depth 22;
      back = search picks depth 8;
    }

summary-read : (c : Contents) (x : Summary) → Sound (add_summary c x) → Read c summary_kind (summary_body x) (add_summary c x)
unfolding record_fault summary_fault extended
summary-read c x s =
    let h = digest_size c.identity.hash in
    let p = (summaries-more h c.summaries x).0 s.summaries in
    let v = p.1.fine in
    let i : summary_in h (summary_body x) ≡ x = rw (take_at x.tcb x.all h v.tcb, drop_at x.tcb x.all h v.tcb) in
    let l₁ = length-append c.summaries (x ∷ []) in
    let l₂ = length-append x.tcb x.all in
    let t₁ : eqb (length c.measurements) 0 ≡ false = ne_eqb (length c.measurements) 0 (λ z. omega (arith, s.behind)) in
    let t₂ : length c.summaries ≤ 0 = omega (arith, p.1.room) in
    let t₃ : length (summary_body x) ≡ h + h = omega arith in
    record {
      before = record { identity = s.identity; chains = s.chains; measurements = s.measurements; summaries = p.0; behind = omega arith };
      good = search picks depth 16;
      back = pick_no _ _ _ _ refl (pick_no _ _ _ _ refl (ap (add_summary c) (sym i)));
    }

identity-read : (i : Identity) → ValidIdentity i → 0 ≡ identity_fault (identity_body i)
unfolding identity_fault
identity-read i v = search picks depth 12

-- where there is no fault, what follows is read
pub on : {A : Type 0} (k : ℕ) (r : Result A) → 0 ≡ k → unless k r ≡ r
unfolding unless pick
on k r e = rw (← e)

-- the reader comes to the contents c, and reads on from there whatever follows
abbrev pub Reached : Contents → Type 0
Reached c = (f : Frames) → Whole f → length (image_bytes c ++ joined f) ≤ image_limit → reading (image_bytes c ++ joined f) ≡ read_on c f

-- it comes to the contents behind one more record
next : (c : Contents) (kind : ℕ) (body : List ℕ) (more : Contents) → Read c kind body more → Reached c → Reached more
unfolding read_on joined
next c kind body more r reached f w l =
    let g = grown c kind body r.before (sym r.good) in
    let e : image_bytes more ++ joined f ≡ image_bytes c ++ joined (frame kind body f)
    = ap (λ (z : Contents). image_bytes z ++ joined f) r.back ∙ ap (λ (l : List ℕ). l ++ joined f) g.bytes ∙ append_assoc (image_bytes c) (record_bytes kind body) (joined f) in
    ap reading e ∙ reached (frame kind body f) (g.short, w) (subst (λ (l : List ℕ). length l ≤ image_limit) e l)
    ∙ on _ _ r.good ∙ ap (λ (z : Contents). read_on z f) (sym r.back)

-- the version byte and records behind it
records : (f : Frames) → Whole f → length (image_version ∷ joined f) ≤ image_limit → read_all f ≡ reading (image_version ∷ joined f)
unfolding reading
records f w l =
    let t : eqb (length (image_version ∷ joined f)) 0 ≡ false = ne_eqb (length (image_version ∷ joined f)) 0 (λ z. omega arith) in
    rw (← apart (length (image_version ∷ joined f)) f w (omega arith)) (search picks depth 8)

-- contents with c's identity
abbrev holding : Contents → List Chain → List Measurement → List Summary → Contents
holding c xs ms ss = record { identity = c.identity; chains = xs; measurements = ms; summaries = ss }

-- it comes to the identity
first : (c : Contents) → ValidIdentity c.identity → Reached (holding c [] [] [])
unfolding read_all joined pick
first c v f w l =
    let i = identity-read c.identity v in
    let g = identity-grown (identity_body c.identity) (sym i) in
    let r = frame identity_kind (identity_body c.identity) f in
    let e : image_bytes (holding c [] [] []) ++ joined f ≡ image_version ∷ joined r = ap (λ (l : List ℕ). l ++ joined f) g.bytes in
    ap reading e ∙ sym (records r (g.short, w) (subst (λ (l : List ℕ). length l ≤ image_limit) e l)) ∙ on _ _ i

-- the chains, then the measurements, then the summary
chains-reached : (c : Contents) (xs : List Chain) → Sound (holding c xs [] []) → Reached (holding c xs [] [])
chains-reached c = grows (λ (xs : List Chain). Sound (holding c xs [] []) → Reached (holding c xs [] []))
    (λ s. first c s.identity)
    (λ xs x ih s. let r = chain-read (holding c xs [] []) x refl s in next _ _ _ _ r (ih r.before))

measurements-reached : (c : Contents) (xs : List Chain) → 1 ≤ length xs → (ms : List Measurement) → Sound (holding c xs ms []) → Reached (holding c xs ms [])
measurements-reached c xs k = grows (λ (ms : List Measurement). Sound (holding c xs ms []) → Reached (holding c xs ms []))
    (chains-reached c xs)
    (λ ms m ih s. let r = measurement-read (holding c xs ms []) m k refl s in next _ _ _ _ r (ih r.before))

-- it comes to all sound contents with a chain
pub reached : (c : Contents) → 1 ≤ length c.chains → Sound c → Reached c
reached c k = grows (λ (ss : List Summary). Sound (holding c c.chains c.measurements ss) → Reached (holding c c.chains c.measurements ss))
    (measurements-reached c c.chains k c.measurements)
    (λ ss x ih s. let r = summary-read (holding c c.chains c.measurements ss) x s in next _ _ _ _ r (ih r.before))
    c.summaries
