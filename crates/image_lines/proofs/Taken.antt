-- The machine that takes a text character by character makes what its lines make, one after the other; and those make the draft of the
-- first byte and the records that the lines ask for, and leave what those before the first fault come to. A line that has ended has left its bytes in the room, and what the room cuts off changes
-- nothing. Assumes nothing.
use mathlib.Core.Path.{◌≡◌, refl, ap, ◌∙◌}
use mathlib.Core.Bool.{Bool, true, false}
use Rattle.std.specs.Prelude.{Some, None}
use mathlib.Core.List.{List, [], ◌∷◌, ◌++◌, map}
use Prim.Native.Nat.{ℕ, suc, ◌≤◌}
use native.Mathlib.Omega.{arith}
use lib.ListN.{length}
use lib.Dec.{eqb}
use borrow.Author.Tests.{ne_eqb}
use Rattle.wire.specs.Pick.{pick}
use Rattle.image.specs.Reading.{Result}
use Rattle.image_writer.specs.Writing.{Record}
use Rattle.image_writer.specs.Draft.{and_then, opened_by, added, added_all}
use Rattle.image_writer.specs.declared.drafting.Draft.{Draft}
use Rattle.image_lines.specs.Lines.{line_end, lines_from, lines_of, decoded, bytes_of, first_in, record_in, first_of, records_of}
use Rattle.image_lines.specs.Taking.{Taking, taking_of, started, line_room, no_line, no_record, draft_of, draft_after, good_after, image_after, char_taken, line_taken, taken, taken_all, ended}
use Rattle.image_lines.proofs.LineLaws.{line_at, room_at, line_more, room-more, room-length, line_begun, line_law}
use Rattle.image_lines.proofs.Made.{Made, made_in, nothing_made, made_after, made_by}
use Rattle.image_lines.proofs.CutLaws.{Sized, line_cut, sized-after}

-- whatever parts a text comes in
pub taken-parts : (t : Taking) (p q : List ℕ) → taken_all (taken_all t p) q ≡ taken_all t (p ++ q)
taken-parts t [] q = refl
taken-parts t (x ∷ p) q = taken-parts (taken t x) p q

-- in a line of which some characters have come
abbrev within : Made → List ℕ → List ℕ → Taking
within m room cs = record {
  draft = m.draft;
  good = m.good;
  line = line_at no_line room cs;
  room = room_at no_line room cs;
  image = m.image;
}

-- two choices by one test
pick-both : {A B C : Type 0} (f : A → C) (g : B → C) (b : Bool) (x y : A) (u v : B) → f x ≡ g u → f y ≡ g v → f (pick b x y) ≡ g (pick b u v)
unfolding pick
pick-both f g true x y u v p q = p
pick-both f g false x y u v p q = q

module _ (m : Made) (room : List ℕ) (h : line_room ≤ length room) (s : Sized m.draft) where
  -- what the end of a line makes
  line_made : (cs : List ℕ) → made_in (line_taken (within m room cs)) ≡ made_after m (bytes_of (decoded cs))
  line_made cs = ap (λ (b : List ℕ). made_after m b) (line_law room cs) ∙ line_cut m (length room) (bytes_of (decoded cs)) s h

  -- the text's end ends a line that has begun
  end_made : (cs : List ℕ) → made_in (ended (within m room cs)) ≡ made_by m (lines_from cs [])
  unfolding ended lines_from pick
  end_made [] = refl
  end_made (x ∷ cs) = rw (line_begun no_line room x cs (omega arith), ne_eqb (suc (length cs)) 0 (λ e. omega arith)) (line_made (x ∷ cs))

  one_more : (cs : List ℕ) (x : ℕ) → char_taken (within m room cs) x ≡ within m room (cs ++ (x ∷ []))
  one_more cs x = rw (line_more no_line room cs x, room-more no_line room cs x)

lines_made : (m : Made) (room cs text : List ℕ) → line_room ≤ length room → Sized m.draft
    → made_in (ended (taken_all (within m room cs) text)) ≡ made_by m (lines_from cs text)
unfolding taken lines_from
lines_made m room cs [] h s = end_made m room h s cs
lines_made m room cs (x ∷ text) h s =
    let r = room-length no_line room cs in
    pick-both (λ (t : Taking). made_in (ended (taken_all t text))) (made_by m) (eqb x line_end) _ _ _ _
    (lines_made (made_in (line_taken (within m room cs))) (room_at no_line room cs) [] text (omega arith) (sized-after m.draft _ s)
    ∙ ap (λ (m : Made). made_by m (lines_from [] text)) (line_made m room h s cs))
    (rw (one_more m room h s cs x) (lines_made m room (cs ++ (x ∷ [])) text h s))

pub text_made : (text room image : List ℕ) → line_room ≤ length room
    → made_in (ended (taken_all (taking_of started room image) text)) ≡ made_by (nothing_made image) (lines_of text)
text_made text room image h = lines_made (nothing_made image) room [] text h tt

-- the lines behind the first make the draft of their records
records_drafted : (d : Result Draft) (good : Draft) (image : List ℕ) (ls : List (List ℕ))
    → draft_of (made_by (record { draft = Some d; good = good; image = image }) ls).draft ≡ added_all d (map (λ (l : List ℕ). record_in (bytes_of (decoded l))) ls)
records_drafted d good image [] = refl
records_drafted d good image (l ∷ ls) =
    let b = bytes_of (decoded l) in
    records_drafted (draft_after (Some d) b) (good_after (draft_after (Some d) b) good) (image_after (Some d) b image) ls

pub lines_drafted : (image : List ℕ) (ls : List (List ℕ)) → draft_of (made_by (nothing_made image) ls).draft ≡ added_all (opened_by (first_of ls)) (records_of ls)
lines_drafted image [] = refl
lines_drafted image (l ∷ ls) =
    let m = made_after (nothing_made image) (bytes_of (decoded l)) in
    records_drafted _ m.good m.image ls

pub text_drafted : (text room image : List ℕ) → line_room ≤ length room
    → draft_of (ended (taken_all (taking_of started room image) text)).draft ≡ added_all (opened_by (first_of (lines_of text))) (records_of (lines_of text))
text_drafted text room image h = ap (λ (m : Made). draft_of m.draft) (text_made text room image h) ∙ lines_drafted image (lines_of text)

-- what the records before the first fault come to, behind a good part that stands already
abbrev pub good_all : Result Draft → Draft → List Record → Draft
good_all d good [] = good_after d good
good_all d good (r ∷ rs) = good_all (and_then d (λ (d : Draft). added d r)) (good_after d good) rs

-- so the lines leave it
records_good : (d : Result Draft) (good : Draft) (image : List ℕ) (ls : List (List ℕ))
    → (made_by (record { draft = Some d; good = good_after d good; image = image }) ls).good
    ≡ good_all d good (map (λ (l : List ℕ). record_in (bytes_of (decoded l))) ls)
records_good d good image [] = refl
records_good d good image (l ∷ ls) =
    let b = bytes_of (decoded l) in
    records_good (draft_after (Some d) b) (good_after d good) (image_after (Some d) b image) ls

pub lines_good : (image : List ℕ) (ls : List (List ℕ)) → (made_by (nothing_made image) ls).good ≡ good_all (opened_by (first_of ls)) no_record (records_of ls)
unfolding opened_by pick
lines_good image [] = refl
lines_good image (l ∷ ls) =
    let b = bytes_of (decoded l) in
    records_good (opened_by (first_in b)) no_record (image_after None b image) ls

pub text_good : (text room image : List ℕ) → line_room ≤ length room
    → (ended (taken_all (taking_of started room image) text)).good ≡ good_all (opened_by (first_of (lines_of text))) no_record (records_of (lines_of text))
text_good text room image h = ap (λ (m : Made). m.good) (text_made text room image h) ∙ lines_good image (lines_of text)
