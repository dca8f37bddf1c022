-- The image that the lines of a text make. While a draft is good and its image no longer than the limit, its length is that of the records so
-- far, so each record is put right behind those before it. Assumes nothing.
use mathlib.Core.Path.{◌≡◌, refl, sym, ap, ◌∙◌}
use mathlib.Core.List.{List, [], ◌∷◌, ◌++◌, map}
use Prim.Native.Nat.{ℕ, ◌+◌, ◌≤◌}
use native.Mathlib.Omega.{arith}
use Rattle.std.specs.Prelude.{Some, Option}
use lib.ListN.{length, set}
use lib.Dec.{ltb}
use borrow.Author.Tests.{le-ltb}
use Rattle.wire.specs.Bytes.{splice}
use Rattle.wire.specs.Pick.{pick}
use Rattle.wire.proofs.Picks.{pick_case, either}
use Rattle.wire.proofs.Laws.{splice-then}
use Rattle.image.specs.Limits.{image_limit, head_length}
use Rattle.image.specs.Contents.{record_bytes}
use Rattle.image_writer.specs.Writing.{Record, joined, image_of}
use Rattle.image_writer.specs.Draft.{and_then, opened_by, longer, grown_to, seen_past, added}
use Rattle.image_writer.specs.declared.drafting.Draft.{Draft}
use Rattle.image.specs.Reading.{Result, number, found}
use Rattle.image.specs.declared.Seen.{Seen}
use Rattle.image.proofs.Growth.{number-found, found-same}
use Rattle.image.proofs.Framed.{record_length}
use Rattle.image_lines.specs.Lines.{decoded, bytes_of, first_in, record_in, first_of, records_of}
use Rattle.image_lines.specs.Taking.{no_record, good_after, if_good}
use Rattle.image_lines.proofs.Made.{Made, nothing_made, made_by}

-- a good draft past a record counts it
longer-more : (n : ℕ) (body : List ℕ) → n ≤ longer n body
unfolding longer
longer-more n body = pick_case (λ (k : ℕ). n ≤ k) (ltb image_limit n) n (n + (head_length + length body)) (λ _. omega arith) (λ _. omega arith)

grows : (d e : Draft) (s : Result Seen) (body : List ℕ) → and_then s (λ (w : Seen). found (grown_to d body w)) ≡ found e → e.length ≡ longer d.length body
grows d e (number k) body p = absurd (number-found _ _ p)
grows d e (found w) body p = ap (λ (d : Draft). d.length) (sym (found-same _ _ p))

-- what lines make of a draft that is none any more, or of one that is
abbrev from_draft : Result Draft → Draft → List ℕ → List (List ℕ) → Made
from_draft d g image ls = made_by (record { draft = Some d; good = g; image = image }) ls

stays-bad : (k : ℕ) (g : Draft) (image : List ℕ) (ls : List (List ℕ)) (e : Draft) → (from_draft (number k) g image ls).draft ≡ Some (found e) → ⊥
stays-bad k g image [] e p = number-found _ _ (some-same _ _ p)
  where
    some-same : (a b : Result Draft) → ◌≡◌ {A = Option (Result Draft)} (Some a) (Some b) → a ≡ b
    some-same a b e = cc
stays-bad k g image (l ∷ ls) e p = stays-bad k g image ls e p

-- within the limit a record more is counted whole
longer-by : (n : ℕ) (body : List ℕ) → n ≤ image_limit → longer n body ≡ n + (head_length + length body)
unfolding longer pick
longer-by n body h = rw (le-ltb image_limit n h)

-- the draft is no shorter than it was, and each record was put in its place
abbrev records_in : List (List ℕ) → List ℕ
records_in ls = joined (map (λ (l : List ℕ). record_in (bytes_of (decoded l))) ls)

record Put (d : Draft) (image : List ℕ) (put : List ℕ) (e : Draft) (records : List ℕ) : Type 0 where
  more : d.length ≤ e.length
  stands : e.length ≤ image_limit → put ≡ splice image d.length records

module _ (ls : List (List ℕ)) (e : Draft)
    (rest : (d g : Draft) (image : List ℕ) → (from_draft (found d) g image ls).draft ≡ Some (found e) → Put d image (from_draft (found d) g image ls).image e (records_in ls)) where
  record-put : (d g : Draft) (r : Record) (image : List ℕ) (a : Result Draft) → added d r ≡ a
      → (from_draft a (good_after a g) (if_good a (splice image d.length (record_bytes r.kind r.body)) image) ls).draft ≡ Some (found e)
      → Put d image (from_draft a (good_after a g) (if_good a (splice image d.length (record_bytes r.kind r.body)) image) ls).image e (record_bytes r.kind r.body ++ records_in ls)
  record-put d g r image (number k) q p = absurd (stays-bad k g image ls e p)
  record-put d g r image (found f) q p =
      let xs = record_bytes r.kind r.body in
      let n = head_length + length r.body in
      let g = grows d f (seen_past d.seen r.kind r.body) r.body q in
      let m = longer-more d.length r.body in
      let i = rest f f (splice image d.length xs) p in
      record {
        more = omega (arith, i.more);
        stands = λ h.
            let t : f.length ≡ d.length + n = g ∙ longer-by d.length r.body (omega (arith, i.more)) in
            i.stands h
            ∙ ap (λ (k : ℕ). splice (splice image d.length xs) k (records_in ls)) t
            ∙ splice-then image d.length xs (records_in ls) n (record_length r.kind r.body);
      }

good-same : (a b : Draft) → ◌≡◌ {A = Option (Result Draft)} (Some (found a)) (Some (found b)) → a ≡ b
good-same a b e = cc

records-put : (ls : List (List ℕ)) (e d g : Draft) (image : List ℕ) → (from_draft (found d) g image ls).draft ≡ Some (found e)
    → Put d image (from_draft (found d) g image ls).image e (records_in ls)
unfolding splice joined
records-put [] e d g image p = record { more = omega (arith, ap (λ (d : Draft). d.length) (good-same d e p)); stands = λ h. refl }
records-put (l ∷ ls) e d g image p =
    let r = record_in (bytes_of (decoded l)) in
    record-put ls e (λ d g image p. records-put ls e d g image p) d g r image (added d r) refl p

opened-length : (first : ℕ) (d : Draft) → opened_by first ≡ found d → d.length ≡ 1
unfolding opened_by
opened-length first d e =
    either (d.length ≡ 1) _ _ _ _ e (λ _ f. ap (λ (d : Draft). d.length) (sym (found-same _ _ f))) (λ _ f. absurd (number-found _ _ f))

-- the whole image: the first byte stands at the start, the records behind it
module _ (ls : List (List ℕ)) (e : Draft) (h : e.length ≤ image_limit) where
  first-put : (g : Draft) (image : List ℕ) (first : ℕ) (o : Result Draft) → (from_draft o (good_after o g) (splice image 0 (first ∷ [])) ls).draft ≡ Some (found e)
      → opened_by first ≡ o → (from_draft o (good_after o g) (splice image 0 (first ∷ [])) ls).image ≡ splice image 0 (first ∷ records_in ls)
  unfolding splice
  first-put g image first (number k) p q = absurd (stays-bad k g (splice image 0 (first ∷ [])) ls e p)
  first-put g image first (found d) p q = (records-put ls e d d (splice image 0 (first ∷ [])) p).stands h ∙ ap (λ (n : ℕ). splice (set image 0 first) n (records_in ls)) (opened-length first d q)

pub image-put : (image : List ℕ) (ls : List (List ℕ)) (e : Draft) → (made_by (nothing_made image) ls).draft ≡ Some (found e) → e.length ≤ image_limit
    → (made_by (nothing_made image) ls).image ≡ splice image 0 (image_of (first_of ls) (records_of ls))
image-put image [] e p h = absurd (let z : ◌≡◌ {A = ℕ} 0 1 = cc in omega arith)
image-put image (l ∷ ls) e p h = first-put ls e h no_record image (first_in (bytes_of (decoded l))) (opened_by (first_in (bytes_of (decoded l)))) p refl
