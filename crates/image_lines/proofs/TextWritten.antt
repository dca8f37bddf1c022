-- What a text comes to, in whatever parts it came (`taken-parts`): the answer is that of the image that its lines ask for, and an image that
-- is answered stands at the start of the buffer. The draft is that of the lines' records, whose closing answers as `writing` says; an answered
-- image is one of a good draft within the limit, so each of its records was put in its place. Assumes nothing.
use mathlib.Core.Path.{◌≡◌, refl, sym, ap, ◌∙◌}
use mathlib.Core.List.{List, [], ◌∷◌}
use Prim.Native.Nat.{ℕ, ◌≤◌}
use Rattle.std.specs.Prelude.{Option, Some, None}
use lib.ListN.{length}
use lib.Dec.{eqb}
use borrow.Author.Tests.{ltb-false}
use Rattle.wire.specs.Bytes.{splice}
use Rattle.wire.specs.Pick.{pick}
use Rattle.wire.proofs.Picks.{pick_case, not_first, not-second}
use Rattle.wire.proofs.Laws.{splice-length}
use Rattle.image.specs.Limits.{image_limit}
use Rattle.image.specs.Reading.{Result, number, found, unless}
use Rattle.image.proofs.Growth.{number-found}
use Rattle.image_writer.specs.Writing.{lent, answer_of, bytes_of}
use Rattle.image_writer.specs.Draft.{opened_by, added, closed, closed_all}
use Rattle.image_writer.specs.declared.drafting.Draft.{Draft}
use Rattle.image_writer.proofs.Drafts.{closing}
use Rattle.image_writer.proofs.Promise.{wrote_image}
use Rattle.image_lines.specs.Lines.{line_end, record_in, lines_of, first_of, records_of, text_writing}
use Rattle.image_lines.specs.Taking.{Taking, taking_of, started, line_room, if_good, draft_of, image_after, char_taken, line_taken, taken, taken_all, ended, answered}
use Rattle.image_lines.proofs.Made.{Made, nothing_made, made_by}
use Rattle.image_lines.proofs.Taken.{text_made, lines_drafted, text_drafted}
use Rattle.image_lines.proofs.ImageLaws.{image-put}

-- the buffer stays as long as it is
if-good-length : (d : Result Draft) (put image : List ℕ) → length put ≡ length image → length (if_good d put image) ≡ length image
if-good-length (number k) put image e = refl
if-good-length (found d) put image e = e

image-after-length : (d : Option (Result Draft)) (b image : List ℕ) → length (image_after d b image) ≡ length image
image-after-length None b image = splice-length image 0 _
image-after-length (Some (number k)) b image = refl
image-after-length (Some (found d)) b image = if-good-length (added d (record_in b)) _ image (splice-length image d.length _)

taken-length : (t : Taking) (text : List ℕ) → length (taken_all t text).image ≡ length t.image
unfolding taken
taken-length t [] = refl
taken-length t (x ∷ text) =
    taken-length (taken t x) text
    ∙ pick_case (λ (u : Taking). length u.image ≡ length t.image) (eqb x line_end) (line_taken t) (char_taken t x)
    (λ _. image-after-length t.draft _ t.image) (λ _. refl)

-- an answered image is one of a good draft within the limit
closed-good : (d : Result Draft) (room n : ℕ) → closed_all d room ≡ found n → (e : Draft) × ((d ≡ found e) × (e.length ≤ image_limit))
unfolding closed unless
closed-good (number k) room n e = absurd (number-found _ _ e)
closed-good (found d) room n e =
    let a = not-second _ _ _ _ e (number-found _ _) in
    let b = not_first _ _ _ _ a.1 (number-found _ _) in
    (d, (refl, ltb-false _ _ b.0))

-- a text without a line has none
opened-good : (d : Option (Result Draft)) (e : Draft) → draft_of d ≡ found e → d ≡ Some (found e)
unfolding opened_by pick
opened-good None e p = absurd (number-found _ _ p)
opened-good (Some d) e p = ap (λ (d : Result Draft). some d) p
  where
    some : Result Draft → Option (Result Draft)
    some d = Some d

-- The answer to a text is that of the image that its lines ask for.
pub text-answered : (text room image : List ℕ) → line_room ≤ length room
    → answered (taken_all (taking_of started room image) text) ≡ answer_of (lent (length image) (text_writing text))
text-answered text room image h =
    ap (closed_all (draft_of (ended (taken_all (taking_of started room image) text)).draft)) (taken-length (taking_of started room image) text)
    ∙ ap (λ (d : Result Draft). closed_all d (length image)) (text_drafted text room image h)
    ∙ closing (first_of (lines_of text)) (records_of (lines_of text)) (length image)

-- An image that is answered stands at the start of the buffer, and what is behind it stays.
pub text-image : (text room image b : List ℕ) → line_room ≤ length room → lent (length image) (text_writing text) ≡ found b
    → (ended (taken_all (taking_of started room image) text)).image ≡ splice image 0 b
unfolding splice
text-image text room image b h e =
    let ls = lines_of text in
    let m = made_by (nothing_made image) ls in
    let answers = closing (first_of ls) (records_of ls) (length image) in
    let d = ap (λ (d : Result Draft). closed_all d (length image)) (lines_drafted image ls) in
    let good = closed-good (draft_of m.draft) (length image) (length b) (d ∙ answers ∙ ap answer_of e) in
    let put = ap (λ (m : Made). m.image) (text_made text room image h) ∙ image-put image ls good.0 (opened-good m.draft good.0 good.1.0) good.1.1 in
    (wrote_image image (first_of ls) (records_of ls) (length b) (ended (taken_all (taking_of started room image) text)).image (sym (ap answer_of e)) put).put
    ∙ ap (λ (w : Result (List ℕ)). splice image 0 (bytes_of w)) e
