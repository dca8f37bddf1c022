-- The bytes of a line past its room change nothing. A body that the room cuts is longer than any record's, so its record is refused by its
-- kind, by its place or by its length, whole or cut; and a first line of two bytes or more is no version, whatever stands behind the second.
-- Assumes nothing.
use mathlib.Core.Path.{◌≡◌, refl, sym, ap}
use mathlib.Core.Bool.{Bool, true, false}
use mathlib.Core.List.{List, [], ◌∷◌}
use Prim.Native.Nat.{ℕ, zero, suc, ◌+◌, ◌≤◌, ◌<◌}
use native.Mathlib.Omega.{arith}
use Rattle.std.specs.Prelude.{Option, Some, None}
use lib.ListN.{length, get_or, take}
use lib.Seq.{length-take-le, take_all}
use lib.Dec.{ltb, leb, eqb}
use borrow.Author.Tests.{lt-ltb, le-ltb, ltb-true, ltb-false, ne_eqb}
use Rattle.wire.specs.Pick.{pick}
use Rattle.wire.proofs.Picks.{pick_case, pick-map}
use Rattle.image.specs.Limits.{identity_length, identity_kind, chain_kind, measurement_kind, summary_kind, chain_least, chain_limit, chains_limit, measurements_limit, wrong_kind, too_many, wrong_length}
use Rattle.image.specs.Sizes.{digest_most}
use Rattle.image.specs.Reading.{Result, number, found, unless, identity_fault, chain_fault, measurement_fault, summary_fault, record_fault}
use Rattle.image.specs.declared.Seen.{Seen}
use Rattle.image.proofs.Sizes.{digest-most}
use Rattle.image_records.specs.Records.{seen_after, held_of}
use Rattle.image_writer.specs.Draft.{and_then, opened_by, first_held, seen_past, grown_to}
use Rattle.image_writer.specs.declared.drafting.Draft.{Draft}
use Rattle.image_lines.specs.Lines.{first_in, record_in}
use Rattle.image_lines.specs.Taking.{line_room, draft_after}
use Rattle.image_lines.proofs.Made.{Made, made_after}

-- the digests that have come are of a size in the table
abbrev Small : Option Seen → Type 0
Small None = Unit {0}
Small (Some w) = w.size ≤ digest_most

abbrev SmallIn : Result Draft → Type 0
SmallIn (number k) = Unit {0}
SmallIn (found d) = Small d.seen

abbrev pub Sized : Option (Result Draft) → Type 0
Sized None = Unit {0}
Sized (Some d) = SmallIn d

-- the length of a body that no record may have, where digests are that long
abbrev over_long : ℕ → List ℕ → Type 0
over_long size body = 1 + size + chain_limit < length body

-- the number that a record with a body too long gets: of its kind or place, if not of its length
long_fault : Seen → ℕ → ℕ
long_fault w kind =
    pick (eqb kind chain_kind) (pick (ltb 0 w.measurements) wrong_kind (pick (leb chains_limit w.chains) too_many wrong_length))
    (pick (eqb kind measurement_kind) (pick (eqb w.chains 0) wrong_kind (pick (ltb 0 w.summaries) wrong_kind (pick (leb measurements_limit w.measurements) too_many wrong_length)))
    (pick (eqb kind summary_kind) (pick (eqb w.measurements 0) wrong_kind (pick (ltb 0 w.summaries) wrong_kind wrong_length))
    wrong_kind))

long_fault_lem : (w : Seen) (kind : ℕ) (body : List ℕ) → w.size ≤ digest_most → over_long w.size body → record_fault w kind body ≡ long_fault w kind
unfolding record_fault chain_fault measurement_fault summary_fault long_fault pick
long_fault_lem w kind body h l =
    let c₁ : ltb (length body) (1 + w.size + chain_least w.size) ≡ false = le-ltb (length body) (1 + w.size + chain_least w.size) (omega arith) in
    let c₂ : ltb (1 + w.size + chain_limit) (length body) ≡ true = lt-ltb (1 + w.size + chain_limit) (length body) l in
    let m : eqb (length body) (2 + w.size) ≡ false = ne_eqb (length body) (2 + w.size) (λ e. omega arith) in
    let s : eqb (length body) (w.size + w.size) ≡ false = ne_eqb (length body) (w.size + w.size) (λ e. omega arith) in
    rw (c₁, c₂, m, s)

some : (b : Bool) (k l : ℕ) → 0 < k → 0 < l → 0 < pick b k l
some b k l p q = pick_case (λ (n : ℕ). 0 < n) b k l (λ _. p) (λ _. q)

long-refused : (w : Seen) (kind : ℕ) → 0 < long_fault w kind
unfolding long_fault
long-refused w kind =
    let a : 0 < wrong_kind = omega arith in
    let b : 0 < too_many = omega arith in
    let c : 0 < wrong_length = omega arith in
    search some depth 14

-- the number that it gets, where the first record is the identity
long_number : Option Seen → ℕ → ℕ
long_number None kind = pick (eqb kind identity_kind) wrong_length wrong_kind
long_number (Some w) kind = long_fault w kind

abbrev long_past : Option Seen → List ℕ → Type 0
long_past None body = over_long digest_most body
long_past (Some w) body = over_long w.size body

answer : ℕ → Result Seen
answer k = number k

long_refused : (s : Option Seen) (kind : ℕ) (body : List ℕ) → Small s → long_past s body → seen_past s kind body ≡ number (long_number s kind)
unfolding first_held identity_fault held_of unless long_number answer pick
long_refused None kind body h l =
    let i : eqb (length body) identity_length ≡ false = ne_eqb (length body) identity_length (λ e. omega arith) in
    rw i (sym (pick-map answer _ _ _ _ _ (λ _. refl) (λ _. refl)))
long_refused (Some w) kind body h l =
    let p = long-refused w kind in
    let r : eqb (long_fault w kind) 0 ≡ false = ne_eqb (long_fault w kind) 0 (λ e. omega arith) in
    rw (long_fault_lem w kind body h l, r)

-- so it is refused in a draft, whole or cut
record_cut : (d : Draft) (kind n : ℕ) (body : List ℕ) (cut : Bool) → Small d.seen → 1 + digest_most + chain_limit < n → ltb n (length body) ≡ cut
    → (g : Draft) (m : List ℕ)
    → made_after (record { draft = Some (found d); good = g; image = m }) (kind ∷ take n body) ≡ made_after (record { draft = Some (found d); good = g; image = m }) (kind ∷ body)
record_cut d kind n body true h b e g m =
    let t : n < length body = ltb-true n (length body) e in
    let l : length (take n body) ≡ n = length-take-le n body (omega arith) in
    rw (long_refused d.seen kind (take n body) h (long d.seen (take n body) h (omega arith)), long_refused d.seen kind body h (long d.seen body h (omega arith)))
  where
    long : (s : Option Seen) (body : List ℕ) → Small s → 1 + digest_most + chain_limit < length body → long_past s body
    long None body h l = l
    long (Some w) body h l = omega arith
record_cut d kind n body false h b e g m =
    ap (λ (l : List ℕ). made_after (record { draft = Some (found d); good = g; image = m }) (kind ∷ l)) (take_all n body (ltb-false n (length body) e))

first_cut : (n : ℕ) (b : List ℕ) → first_in (take (suc (suc n)) b) ≡ first_in b
first_cut n [] = refl
first_cut n (x ∷ []) = refl
first_cut n (x ∷ y ∷ b) = refl

pub line_cut : (m : Made) (n : ℕ) (b : List ℕ) → Sized m.draft → line_room ≤ n → made_after m (take n b) ≡ made_after m b
line_cut m n b h r = by m.draft n b h r
  where
    by : (d : Option (Result Draft)) (n : ℕ) (b : List ℕ) → Sized d → line_room ≤ n
        → made_after (record { draft = d; good = m.good; image = m.image }) (take n b) ≡ made_after (record { draft = d; good = m.good; image = m.image }) b
    by None zero b h r = absurd (omega arith)
    by None (suc zero) b h r = absurd (omega arith)
    by None (suc (suc n)) b h r = rw (first_cut n b)
    by (Some (number k)) n b h r = refl
    by (Some (found d)) zero b h r = absurd (omega arith)
    by (Some (found d)) (suc n) [] h r = refl
    by (Some (found d)) (suc n) (k ∷ body) h r = record_cut d k n body (ltb n (length body)) h (omega arith) refl m.good m.image

-- the size stays one of the table
size-after : (w : Seen) (kind key : ℕ) → (seen_after w kind key).size ≡ w.size
size-after w kind key =
    pick_case (λ (v : Seen). v.size ≡ w.size) _ _ _ (λ _. refl) (λ _. pick_case (λ (v : Seen). v.size ≡ w.size) _ _ _ (λ _. refl) (λ _. refl))

small-past : (s : Option Seen) (d : Draft) (kind : ℕ) (body : List ℕ) → Small s → SmallIn (and_then (seen_past s kind body) (λ (w : Seen). found (grown_to d body w)))
unfolding first_held held_of unless
small-past None d kind body h =
    pick_case (λ (a : Result Seen). SmallIn (and_then a (λ (w : Seen). found (grown_to d body w)))) _ _ _
    (λ _. pick_case (λ (a : Result Seen). SmallIn (and_then a (λ (w : Seen). found (grown_to d body w)))) _ _ _ (λ _. digest-most (get_or body 1 0)) (λ _. tt))
    (λ _. tt)
small-past (Some w) d kind body h =
    let e = size-after w kind (get_or body 0 0) in
    pick_case (λ (a : Result Seen). SmallIn (and_then a (λ (w : Seen). found (grown_to d body w)))) _ _ _ (λ _. omega arith) (λ _. tt)

pub sized-after : (d : Option (Result Draft)) (b : List ℕ) → Sized d → Sized (Some (draft_after d b))
unfolding opened_by
sized-after None b h = pick_case SmallIn _ _ _ (λ _. tt) (λ _. tt)
sized-after (Some (number k)) b h = tt
sized-after (Some (found d)) b h = small-past d.seen d (record_in b).kind (record_in b).body h
