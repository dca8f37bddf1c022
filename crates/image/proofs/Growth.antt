-- What is read of an image is sound, and its bytes are the image's: a record without a fault makes sound contents longer by exactly its
-- bytes, and they stay sound, since its tests ask what validity asks of the element that it adds. Assumes nothing.
use mathlib.Core.Path.{◌≡◌, sym, ap, ◌∙◌, subst}
use mathlib.Core.Bool.{Bool, true, false}
use mathlib.Core.List.{List, [], ◌∷◌, ◌++◌, append_assoc, append-nil}
use Prim.Native.Nat.{ℕ, suc, ◌+◌, ◌-◌, ◌≤◌, ◌<◌}
use native.Mathlib.Omega.{arith}
use native.Mathlib.Nat.{add-zero}
use lib.ListN.{length, take, drop, length-append, length-drop, take-append-drop}
use lib.Seq.{length-take-le, drop-drop, get_or-drop, drop-cons}
use lib.Dec.{eqb}
use borrow.Author.Tests.{ltb-false, leb-false, eqb-true, eqb-false}
use Rattle.wire.specs.Bytes.{le_at}
use Rattle.wire.specs.Pick.{pick}
use Rattle.wire.proofs.Picks.{either, not_first, not-second}
use Rattle.image.specs.Limits.{image_version, identity_length, identity_kind, chain_kind, measurement_kind, summary_kind, chain_limit, chain_least}
use Rattle.image.specs.Sizes.{digest_size}
use Rattle.image.specs.Contents.{Chain, Measurement, Summary, Contents, identity_body, chain_body, measurement_body, summary_body, record_bytes, records_bytes, identity_bytes, image_bytes, ValidChain, ValidMeasurement, ValidSummary}
use Rattle.image.specs.Reading.{Result, number, found, unless, Frames, ended, broken, frame, seen, identity_fault, chain_fault, measurement_fault, summary_fault, record_fault, end_fault, identity_in, chain_in, measurement_in, summary_in, identified, add_chain, add_measurement, add_summary, extended, read_on, read_all}
use Rattle.image.proofs.Framed.{joined, Whole, empty, heads}
use Rattle.image.proofs.Sound.{Sound, chains-more, measurements-more, summaries-more}
use Rattle.image.proofs.Sizes.{digest-most}

-- the bytes of one more record
records-more : {A : Type 0} (kind : ℕ) (body : A → List ℕ) (xs : List A) (x : A) → records_bytes kind body (xs ++ (x ∷ [])) ≡ records_bytes kind body xs ++ record_bytes kind (body x)
unfolding records_bytes
records-more kind body [] x = append-nil (record_bytes kind (body x))
records-more kind body (y ∷ ys) x = rw (records-more kind body ys x, append_assoc)

-- the bytes of contents with one more element, where nothing stands behind it
chain-bytes : (c : Contents) (x : Chain) → c.measurements ≡ [] → c.summaries ≡ [] → image_bytes (add_chain c x) ≡ image_bytes c ++ record_bytes chain_kind (chain_body x)
unfolding image_bytes identity_bytes records_bytes record_bytes
chain-bytes c x p q = simp (p, q, records-more, append-nil) (simp append_assoc)

measurement-bytes : (c : Contents) (m : Measurement) → c.summaries ≡ [] → image_bytes (add_measurement c m) ≡ image_bytes c ++ record_bytes measurement_kind (measurement_body m)
unfolding image_bytes identity_bytes records_bytes record_bytes
measurement-bytes c m q = simp (q, records-more, append-nil) (simp append_assoc)

summary-bytes : (c : Contents) (s : Summary) → image_bytes (add_summary c s) ≡ image_bytes c ++ record_bytes summary_kind (summary_body s)
unfolding image_bytes identity_bytes
summary-bytes c s = simp (records-more, append_assoc)

-- where there is no fault, the test for it failed, or the test for the good case held
unmet : (b : Bool) (k d : ℕ) → pick b (suc k) d ≡ 0 → (b ≡ false) × (d ≡ 0)
unmet b k d e = not_first b (suc k) d 0 e (λ z. omega arith)

met : (b : Bool) (k d : ℕ) → pick b d (suc k) ≡ 0 → (b ≡ true) × (d ≡ 0)
met b k d e = not-second b d (suc k) 0 e (λ z. omega arith)

-- the contents `more` are sound, and come of a good record behind the bytes `start`
pub record Grown (start : List ℕ) (kind : ℕ) (body : List ℕ) (more : Contents) : Type 0 where
  pub sound : Sound more
  pub bytes : image_bytes more ≡ start ++ record_bytes kind body
  pub short : length body < 65536

-- a body of an identity's length is that of the identity in it
pub identity-body : (body : List ℕ) → length body ≡ identity_length → identity_body (identity_in body) ≡ body
identity-body body e = let l = length-drop 3 body in cc (heads body (omega arith), empty (drop 3 body) (omega arith))

pub identity-grown : (body : List ℕ) → identity_fault body ≡ 0 → Grown (image_version ∷ []) identity_kind body (identified (identity_in body))
unfolding identity_fault image_bytes identity_bytes records_bytes
identity-grown body e =
    let a₁ = met _ _ _ e in
    let a₂ = unmet _ _ _ a₁.1 in
    let a₃ = unmet _ _ _ a₂.1 in
    let a₄ = unmet _ _ _ a₃.1 in
    let t₁ : length body ≡ identity_length = eqb-true _ _ a₁.0 in
    record {
      sound = record {
        identity = record { exponent = ltb-false _ _ a₂.0; hash = ltb-false _ _ a₃.0; signature = ltb-false _ _ a₄.0 };
        chains = record { each = tt; few = omega arith; order = tt };
        measurements = record { each = tt; few = omega arith; order = tt };
        summaries = record { each = tt; few = omega arith; order = tt };
        behind = omega arith;
      };
      bytes = rw (append-nil (identity_bytes (identified (identity_in body))), identity-body body t₁);
      short = omega arith;
    }

-- a chain's own length, counted in its body
pub own-length : (s : List ℕ) (n : ℕ) → le_at 2 (drop n s) 0 ≡ le_at 2 s n
own-length s n = simp (get_or-drop, add-zero)

chain-grown : (c : Contents) (body : List ℕ) → Sound c → chain_fault (seen c) body ≡ 0 → Grown (image_bytes c) chain_kind body (add_chain c (chain_in (digest_size c.identity.hash) body))
unfolding chain_fault
chain-grown c body s e =
    let h = digest_size c.identity.hash in
    let x = chain_in h body in
    let a₁ = unmet _ _ _ e in
    let a₂ = unmet _ _ _ a₁.1 in
    let a₃ = unmet _ _ _ a₂.1 in
    let a₄ = unmet _ _ _ a₃.1 in
    let a₅ = unmet _ _ _ a₄.1 in
    let a₆ = unmet _ _ _ a₅.1 in
    let a₇ = met _ _ _ a₆.1 in
    let t₁ : length c.measurements ≤ 0 = ltb-false _ _ a₁.0 in
    let t₃ : 1 + h + chain_least h ≤ length body = ltb-false _ _ a₃.0 in
    let t₄ : length body ≤ 1 + h + chain_limit = ltb-false _ _ a₄.0 in
    let t₇ : le_at 2 body (1 + h) ≡ length body - (1 + h) = eqb-true _ _ a₇.0 in
    let l₁ = length-drop (1 + h) body in
    let l₂ = length-drop 1 body in
    let d : length (take h (drop 1 body)) ≡ h = length-take-le h (drop 1 body) (omega arith) in
    let o = own-length body (1 + h) in
    let m = digest-most c.identity.hash in
    let v : ValidChain h x = record { slot = ltb-false _ _ a₅.0; digest = d; least = omega arith; most = omega arith; own = omega arith } in
    let b : body ≡ chain_body x = rw (← drop-drop h 1 body, take-append-drop) (drop-cons body 0 0 (omega arith)) in
    record {
      sound = record {
        identity = s.identity;
        chains = (chains-more h c.chains x).1 (s.chains, record { fine = v; room = leb-false _ _ a₂.0; next = a₆.0 });
        measurements = s.measurements;
        summaries = s.summaries;
        behind = s.behind;
      };
      bytes = chain-bytes c x (empty c.measurements (omega arith)) (empty c.summaries (omega (arith, s.behind)))
          ∙ ap (λ (l : List ℕ). image_bytes c ++ record_bytes chain_kind l) (sym b);
      short = omega arith;
    }

measurement-grown : (c : Contents) (body : List ℕ) → Sound c → measurement_fault (seen c) body ≡ 0 → Grown (image_bytes c) measurement_kind body (add_measurement c (measurement_in body))
unfolding measurement_fault
measurement-grown c body s e =
    let h = digest_size c.identity.hash in
    let x = measurement_in body in
    let a₁ = unmet _ _ _ e in
    let a₂ = unmet _ _ _ a₁.1 in
    let a₃ = unmet _ _ _ a₂.1 in
    let a₄ = met _ _ _ a₃.1 in
    let a₅ = unmet _ _ _ a₄.1 in
    let a₆ = unmet _ _ _ a₅.1 in
    let a₇ = unmet _ _ _ a₆.1 in
    let t₂ : length c.summaries ≤ 0 = ltb-false _ _ a₂.0 in
    let t₄ : length body ≡ 2 + h = eqb-true _ _ a₄.0 in
    let l = length-drop 2 body in
    let m = digest-most c.identity.hash in
    let v : ValidMeasurement h x = record { index = ltb-false _ _ a₆.0; type = ltb-false _ _ a₇.0; digest = omega arith } in
    let b : body ≡ measurement_body x = cc (drop-cons body 0 0 (omega arith), drop-cons body 1 0 (omega arith)) in
    record {
      sound = record {
        identity = s.identity;
        chains = s.chains;
        measurements = (measurements-more h c.measurements x).1 (s.measurements, record { fine = v; room = leb-false _ _ a₃.0; next = leb-false _ _ a₅.0 });
        summaries = s.summaries;
        behind = omega arith;
      };
      bytes = measurement-bytes c x (empty c.summaries (omega arith)) ∙ ap (λ (l : List ℕ). image_bytes c ++ record_bytes measurement_kind l) (sym b);
      short = omega arith;
    }

summary-grown : (c : Contents) (body : List ℕ) → Sound c → summary_fault (seen c) body ≡ 0 → Grown (image_bytes c) summary_kind body (add_summary c (summary_in (digest_size c.identity.hash) body))
unfolding summary_fault
summary-grown c body s e =
    let h = digest_size c.identity.hash in
    let x = summary_in h body in
    let a₁ = unmet _ _ _ e in
    let a₂ = unmet _ _ _ a₁.1 in
    let a₃ = met _ _ _ a₂.1 in
    let t₁ : length c.measurements ≡ 0 → ⊥ = eqb-false _ _ a₁.0 in
    let t₂ : length c.summaries ≤ 0 = ltb-false _ _ a₂.0 in
    let t₃ : length body ≡ h + h = eqb-true _ _ a₃.0 in
    let l₁ : length (take h body) ≡ h = length-take-le h body (omega arith) in
    let l₂ = length-drop h body in
    let l₃ = length-append c.summaries (x ∷ []) in
    let m = digest-most c.identity.hash in
    let v : ValidSummary h x = record { tcb = l₁; all = omega arith } in
    record {
      sound = record {
        identity = s.identity;
        chains = s.chains;
        measurements = s.measurements;
        summaries = (summaries-more h c.summaries x).1 (s.summaries, record { fine = v; room = omega arith; next = tt });
        behind = omega arith;
      };
      bytes = summary-bytes c x ∙ ap (λ (l : List ℕ). image_bytes c ++ record_bytes summary_kind l) (take-append-drop h body);
      short = omega arith;
    }

-- a record without a fault, of whichever kind
pub grown : (c : Contents) (kind : ℕ) (body : List ℕ) → Sound c → record_fault (seen c) kind body ≡ 0 → Grown (image_bytes c) kind body (extended c kind body)
unfolding record_fault extended pick
grown c kind body s e =
    either _ _ _ _ _ e
    (λ t g. of chain_kind t (chain-grown c body s g))
    (λ t₁ e₁. either _ _ _ _ _ e₁
    (λ t g. of measurement_kind t (measurement-grown c body s g))
    (λ t₂ e₂. let a = met _ _ _ e₂ in of summary_kind a.0 (summary-grown c body s a.1)))
  where
    of : (k : ℕ) → eqb kind k ≡ true → Grown (image_bytes c) k body (extended c k body) → Grown (image_bytes c) kind body (extended c kind body)
    of k t g = subst (λ (n : ℕ). Grown (image_bytes c) n body (extended c n body)) (sym (eqb-true kind k t)) g

-- a number is no contents, and what was found had no fault
pub number-found : {A : Type 0} (k : ℕ) (x : A) → number k ≡ found x → ⊥
number-found k x e = let z : ◌≡◌ {A = ℕ} 0 1 = cc in omega arith

pub found-same : {A : Type 0} (x y : A) → found x ≡ found y → x ≡ y
found-same x y e = cc

passed : {A : Type 0} (k : ℕ) (r : Result A) (x : A) → unless k r ≡ found x → (k ≡ 0) × (r ≡ found x)
unfolding unless
passed k r x e = let a = not-second _ _ _ _ e (number-found k x) in (eqb-true k 0 a.0, a.1)

-- the contents z are sound and miss nothing, and come of the bytes `start` and the records f
pub record Taken (start : List ℕ) (f : Frames) (z : Contents) : Type 0 where
  pub whole : Whole f
  pub sound : Sound z
  pub complete : end_fault (seen z) ≡ 0
  pub bytes : image_bytes z ≡ start ++ joined f

-- a good record, then what is taken behind it
before : (start : List ℕ) (kind : ℕ) (body : List ℕ) (more : Contents) (rest : Frames) (z : Contents)
    → Grown start kind body more → Taken (image_bytes more) rest z → Taken start (frame kind body rest) z
unfolding joined
before start kind body more rest z g r =
    record {
      whole = (g.short, r.whole);
      sound = r.sound;
      complete = r.complete;
      bytes = r.bytes ∙ ap (λ (l : List ℕ). l ++ joined rest) g.bytes ∙ append_assoc start (record_bytes kind body) (joined rest);
    }

-- what is found in the records behind sound contents
read-on : (c : Contents) (f : Frames) (z : Contents) → Sound c → read_on c f ≡ found z → Taken (image_bytes c) f z
unfolding read_on joined
read-on c ended z s e =
    let p = passed _ _ _ e in
    subst (Taken (image_bytes c) ended) (found-same c z p.1) (record { whole = tt; sound = s; complete = p.0; bytes = sym (append-nil (image_bytes c)) })
read-on c broken z s e = absurd (number-found _ _ e)
read-on c (frame kind body rest) z s e =
    let p = passed _ _ _ e in
    let g = grown c kind body s p.0 in
    before _ _ _ _ _ _ g (read-on (extended c kind body) rest z g.sound p.1)

-- what is found in all records of an image
pub read-all : (f : Frames) (z : Contents) → read_all f ≡ found z → Taken (image_version ∷ []) f z
unfolding read_all
read-all ended z e = absurd (number-found _ _ e)
read-all broken z e = absurd (number-found _ _ e)
read-all (frame kind body rest) z e =
    let a = not-second _ _ _ _ e (number-found _ _) in
    let p = passed _ _ _ a.1 in
    let g = identity-grown body p.0 in
    rw (eqb-true kind identity_kind a.0) (before _ _ _ _ _ _ g (read-on (identified (identity_in body)) rest z g.sound p.1))
