-- The law of the draft: added record by record and closed, it answers what the writer's definition says of the whole. As long as there is no
-- fault the draft has seen what the reader would have found so far, and its length is that of the image so far. Assumes nothing.
use mathlib.Core.Path.{◌≡◌, refl, sym, ap, ◌∙◌, subst}
use mathlib.Core.List.{List, [], ◌∷◌}
use Prim.Native.Nat.{ℕ, ◌+◌, ◌≤◌, ◌<◌}
use native.Mathlib.Omega.{arith}
use Rattle.std.specs.Prelude.{Some, None}
use lib.ListN.{length, get_or, length-append}
use lib.Dec.{ltb, eqb}
use borrow.Author.Tests.{ltb-true, ltb-false, le-ltb, lt-ltb}
use Rattle.wire.specs.Pick.{pick}
use Rattle.wire.proofs.Picks.{pick_case, pick-map}
use Rattle.image.specs.Limits.{image_limit, image_version, head_length, identity_kind, wrong_size, wrong_version, wrong_kind}
use Rattle.image.specs.Contents.{Contents, record_bytes}
use Rattle.image.specs.Reading.{Result, number, found, unless, seen, identity_in, identity_fault, record_fault, end_fault, identified, extended, read_on, read_all}
use Rattle.image.specs.declared.Seen.{Seen}
use Rattle.image.proofs.Framed.{record_length}
use Rattle.image_records.specs.Records.{seen_after, held_of}
use Rattle.image_records.proofs.Seeing.{seen-extended}
use Rattle.image_writer.specs.Writing.{Record, framed, joined, image_of, sized, writing, lent, answer_of, short_output}
use Rattle.image_writer.specs.Draft.{and_then, opened_by, longer, grown_to, first_held, added_all, closed, closed_all}
use Rattle.image_writer.specs.declared.drafting.Draft.{Draft}

-- a fault stays, and is the answer
pub fault_stays : (k : ℕ) (rs : List Record) → added_all (number k) rs ≡ number k
fault_stays k [] = refl
fault_stays k (r ∷ rs) = fault_stays k rs

pub fault_first : (d : Result Draft) (k : ℕ) (rs : List Record) → d ≡ number k → number k ≡ added_all d rs
fault_first d k rs e = rw e (sym (fault_stays k rs))

fault_answered : (k : ℕ) (rs : List Record) (room : ℕ) → closed_all (added_all (number k) rs) room ≡ number k
fault_answered k rs room = ap (λ (d : Result Draft). closed_all d room) (fault_stays k rs)

-- n counts a length m: exactly up to the limit, and as too long past it
abbrev Counts : ℕ → ℕ → Type 0
Counts n m = (n ≤ image_limit → n ≡ m) × (image_limit < n → image_limit < m)

counts_on : (n m : ℕ) (body : List ℕ) → Counts n m → Counts (longer n body) (m + (head_length + length body))
unfolding longer
counts_on n m body c =
    pick_case (λ (k : ℕ). Counts k (m + (head_length + length body))) (ltb image_limit n) n (n + (head_length + length body))
    (λ t. let p : image_limit < n = ltb-true _ _ t in (λ h. absurd (omega arith), λ h. omega (arith, c.1 p)))
    (λ t. let e : n ≡ m = c.0 (ltb-false _ _ t) in (λ h. omega arith, λ h. omega arith))

-- the last two tests, by the count or by the image itself
sized-by : (n room : ℕ) (b : List ℕ) → Counts n (length b)
    → pick (ltb image_limit n) (number wrong_size) (pick (ltb room n) (number short_output) (found n))
    ≡ answer_of (lent room (pick (ltb image_limit (length b)) (number wrong_size) (found b)))
unfolding lent pick
sized-by n room b c =
    pick_case (λ (w : Result ℕ). w ≡ answer_of (lent room (pick (ltb image_limit (length b)) (number wrong_size) (found b)))) (ltb image_limit n) _ _
    (λ t. let h : image_limit < length b = c.1 (ltb-true _ _ t) in rw (lt-ltb image_limit (length b) h))
    (λ t.
    let p : n ≤ image_limit = ltb-false _ _ t in
    let e : n ≡ length b = c.0 p in
    let h : length b ≤ image_limit = omega arith in
    rw (le-ltb image_limit (length b) h, e) (sym (pick-map answer_of (ltb room (length b)) (number short_output) (found b) _ _ (λ u. refl) (λ u. refl))))

-- a record more, and the rest behind it
joined_length : (r : Record) (rs : List Record) → length (joined (r ∷ rs)) ≡ head_length + length r.body + length (joined rs)
unfolding joined
joined_length r rs = length-append (record_bytes r.kind r.body) (joined rs) ∙ ap (λ (n : ℕ). n + length (joined rs)) (record_length r.kind r.body)

-- what the writer answers of an image b, by what the reader's rules say of its records
module _ (room : ℕ) (b : List ℕ) where
  abbrev judged : Result Contents → Result ℕ
  judged r = answer_of (lent room (sized r b))

  -- a draft behind the identity that has seen what the rules found so far answers as they do of the records that follow
  records-closed : (c : Contents) (rs : List Record) (n m : ℕ) → Counts n m → length b ≡ m + length (joined rs)
      → closed_all (added_all (found (record { seen = Some (seen c); length = n })) rs) room ≡ judged (read_on c (framed rs))
  unfolding closed held_of read_on unless sized lent joined pick
  records-closed c [] n m k l =
      let e : length b ≡ m = omega arith in
      sym (pick-map judged (eqb (end_fault (seen c)) 0) (found c) (number (end_fault (seen c))) _ _ (λ t. sym (sized-by n room b (subst (Counts n) (sym e) k))) (λ t. refl))
  records-closed c (r ∷ rs) n m k l =
      let fault = record_fault (seen c) r.kind r.body in
      let t = joined_length r rs in
      let d : Draft = record { seen = Some (seen c); length = n } in
      let past : Seen → Result ℕ = λ (w : Seen). closed_all (added_all (found (grown_to d r.body w)) rs) room in
      let after : past (seen_after (seen c) r.kind (get_or r.body 0 0)) ≡ judged (read_on (extended c r.kind r.body) (framed rs))
      = ap past (sym (seen-extended c r.kind r.body))
      ∙ records-closed (extended c r.kind r.body) rs (longer n r.body) (m + (head_length + length r.body)) (counts_on n m r.body k) (omega arith) in
      pick-map (λ (h : Result Seen). closed_all (added_all (and_then h (λ (w : Seen). found (grown_to d r.body w))) rs) room) (eqb fault 0) _ _ _ _
      (λ u. after) (λ u. fault_answered fault rs room)
      ∙ sym (pick-map judged (eqb fault 0) (read_on (extended c r.kind r.body) (framed rs)) (number fault) _ _ (λ u. refl) (λ u. refl))

  -- before it, the first record is asked to be the identity
  identity-closed : (rs : List Record) → length b ≡ 1 + length (joined rs)
      → closed_all (added_all (found (record { seen = None; length = 1 })) rs) room ≡ judged (read_all (framed rs))
  unfolding closed first_held read_all unless sized lent pick
  identity-closed [] l = refl
  identity-closed (r ∷ rs) l =
      let fault = identity_fault r.body in
      let d : Draft = record { seen = None; length = 1 } in
      let ends : Result Seen → Result ℕ = λ (h : Result Seen). closed_all (added_all (and_then h (λ (w : Seen). found (grown_to d r.body w))) rs) room in
      let t = joined_length r rs in
      let after = records-closed (identified (identity_in r.body)) rs (longer 1 r.body) (1 + (head_length + length r.body)) (counts_on 1 1 r.body (λ h. refl, λ h. absurd (omega arith))) (omega arith) in
      pick-map ends (eqb r.kind identity_kind) _ _ _ _
      (λ u. pick-map ends (eqb fault 0) _ _ _ _ (λ v. after) (λ v. fault_answered fault rs room))
      (λ u. fault_answered wrong_kind rs room)
      ∙ sym (pick-map judged (eqb r.kind identity_kind) _ _ _ _
      (λ u. pick-map judged (eqb fault 0) (read_on (identified (identity_in r.body)) (framed rs)) (number fault) _ _ (λ v. refl) (λ v. refl))
      (λ u. refl))

-- The draft of a first byte and all records, closed, answers as the writer's definition says.
pub closing : (first : ℕ) (rs : List Record) (room : ℕ) → closed_all (added_all (opened_by first) rs) room ≡ answer_of (lent room (writing first rs))
unfolding opened_by writing lent
closing first rs room =
    pick-map (λ (d : Result Draft). closed_all (added_all d rs) room) (eqb first image_version) _ _ _ _
    (λ t. identity-closed room (image_of first rs) rs (omega arith))
    (λ t. fault_answered wrong_version rs room)
    ∙ sym (pick-map (λ (r : Result (List ℕ)). answer_of (lent room r)) (eqb first image_version) _ _ _ _ (λ t. refl) (λ t. refl))

-- the same, by the draft that the code has
pub closing-by : (first : ℕ) (rs : List Record) (room : ℕ) (d : Result Draft) → d ≡ added_all (opened_by first) rs → closed_all d room ≡ answer_of (lent room (writing first rs))
closing-by first rs room d e = ap (λ (d : Result Draft). closed_all d room) e ∙ closing first rs room
