-- The run over measurement records. Length, kind and index of a record are one number, its head; between the head of the record before it
-- and that of the highest index there are only heads of measurements of the right length with a rising index. Type and room are tested
-- beside it, so the plain step accepts what the run accepts. Assumes nothing.
use mathlib.Core.Path.{◌≡◌, refl, sym, ap, ◌∙◌, subst}
use mathlib.Core.Bool.{false}
use mathlib.Core.List.{List}
use Rattle.std.specs.Prelude.{Some}
use Prim.Native.Nat.{ℕ, zero, suc, ◌+◌, ◌-◌, ◌*◌, ◌≤◌, ◌<◌}
use native.Mathlib.Omega.{arith}
use native.Mathlib.Nat.{suc-mul, add-sub_cancel_left}
use lib.ListN.{length, get_or, drop}
use lib.Seq.{get_or-drop, get_or-take}
use lib.Dec.{eqb}
use borrow.Author.Tests.{eq-eqb, ne_eqb}
use Rattle.wire.specs.Bytes.{be_at, part}
use Rattle.wire.proofs.Laws.{part_length}
use Rattle.wire.proofs.Picks.{picks, pick_yes, pick_no}
use Rattle.image.specs.Limits.{head_length, chain_kind, measurement_kind, measurements_limit, index_limit, type_limit}
use Rattle.image.specs.Reading.{found, number, unless, measurement_fault, record_fault}
use Rattle.image.specs.declared.Seen.{Seen}
use Rattle.image_records.specs.Records.{seen_after, held_of}
use Rattle.image_reader.specs.Steps.{frame_at, record_of}
use Rattle.image_reader.specs.Runs.{measured, Run, none, more, Measuring, Head}
use Rattle.image_reader.specs.declared.Frame.{Frame}
use Rattle.image_reader.specs.declared.Record.{Record}

-- what is seen past a measurement
pub measurement-seen : (w : Seen) (kind key : ℕ) → kind ≡ measurement_kind
    → seen_after w kind key ≡ measured w (w.measurements + 1) key
measurement-seen w kind key k =
    let other = ne_eqb kind chain_kind (λ z. omega arith) in
    sym (pick_no _ _ _ _ other (pick_yes _ _ _ _ (eq-eqb kind measurement_kind k) refl))

-- a measurement that passes every test
measurement-good : (w : Seen) (body : List ℕ) → Measuring w → w.measurements < measurements_limit
    → length body ≡ 2 + w.size → w.index < get_or body 0 0 → get_or body 0 0 ≤ index_limit → get_or body 1 0 ≤ type_limit
    → 0 ≡ record_fault w measurement_kind body
unfolding record_fault measurement_fault
measurement-good w body m room l low high type =
    let a = m.chained in
    let u = m.unsummed in
    let t : eqb w.chains 0 ≡ false = ne_eqb w.chains 0 (λ z. omega arith) in
    search picks depth 20

-- a record, and one that was found good
abbrev frame_of : ℕ → ℕ → ℕ → Frame
frame_of kind start len = record { kind = kind; start = start; end = start + len }

abbrev good_of : ℕ → ℕ → ℕ → Seen → Record
good_of kind start len next = record { frame = frame_of kind start len; next = next }

-- a record that ends within the bytes is whole
frame-whole : (b : List ℕ) (at : ℕ) → at + head_length + be_at 2 b at ≤ length b
    → found (Some (frame_of (get_or b (at + 2) 0) (at + head_length) (be_at 2 b at))) ≡ frame_at b at
unfolding frame_at
frame-whole b at h =
    let p : at < length b = omega arith in
    let q : head_length ≤ length b - at = omega arith in
    let r : be_at 2 b at ≤ length b - at - head_length = omega arith in
    search picks depth 14

-- a byte of a body is one of the image
body-byte : (b : List ℕ) (start len i place : ℕ) → i < len → start + i ≡ place → get_or (part b start len) i 0 ≡ get_or b place 0
body-byte b start len i place h e = get_or-take len (drop start b) i 0 h ∙ get_or-drop start b i 0 ∙ ap (λ (j : ℕ). get_or b j 0) e

-- the plain step on a whole measurement that passes every test
step-good : (b : List ℕ) (v : Seen) (start len : ℕ) → 0 ≡ record_fault v measurement_kind (part b start len)
    → record_of b v (found (Some (frame_of measurement_kind start len)))
    ≡ found (Some (good_of measurement_kind start len (measured v (v.measurements + 1) (get_or (part b start len) 0 0))))
unfolding record_of held_of unless
step-good b v start len f =
    let fault = record_fault v measurement_kind (part b start len) in
    let key = get_or (part b start len) 0 0 in
    let g = pick_yes (eqb fault 0) (found (seen_after v measurement_kind key)) _ (number fault) (eq-eqb _ 0 (sym f)) refl in
    rw (add-sub_cancel_left, ← g, measurement-seen v measurement_kind key refl)

-- the head of a measurement of that digest size, its index left off
abbrev head_of : ℕ → ℕ
head_of size = (2 + size) * 65536 + measurement_kind * 256

-- a head between two bounds is that of a measurement that the plain step finds good
head_good : (b : List ℕ) (v : Seen) (at x : ℕ) → Head b at x → Measuring v → v.measurements < measurements_limit
    → at + (head_length + (2 + v.size)) ≤ length b
    → head_of v.size + v.index < x → x ≤ head_of v.size + index_limit → get_or b (at + head_length + 1) 0 ≤ type_limit
    → record_of b v (frame_at b at)
    ≡ found (Some (good_of measurement_kind (at + head_length) (2 + v.size) (measured v (v.measurements + 1) (x - head_of v.size))))
head_good b v at x g m room inside low high type =
    let e = g.value in
    let k = g.kind in
    let f = g.first in
    let len : be_at 2 b at ≡ 2 + v.size = omega arith in
    let kind : get_or b (at + 2) 0 ≡ measurement_kind = omega arith in
    let index : get_or b (at + head_length) 0 ≡ x - head_of v.size = omega arith in
    let start = at + head_length in
    let body = part b start (2 + v.size) in
    let i₀ : get_or body 0 0 ≡ get_or b start 0 = body-byte b start (2 + v.size) 0 start (omega arith) (omega arith) in
    let i₁ : get_or body 1 0 ≡ get_or b (start + 1) 0 = body-byte b start (2 + v.size) 1 (start + 1) (omega arith) (omega arith) in
    let l : length body ≡ 2 + v.size = part_length b start (2 + v.size) (omega arith) in
    let z = measurement-good v body m room l (omega arith) (omega arith) (omega arith) in
    let w = rw (kind, len) at (frame-whole b at (omega arith)) in
    ap (record_of b v) (sym w) ∙ step-good b v start (2 + v.size) z
    ∙ ap (λ (n : ℕ). found (Some (good_of measurement_kind start (2 + v.size) (measured v (v.measurements + 1) n)))) (i₀ ∙ index)

-- A turn of the run. Of what was seen before it the loop keeps the digest size, the count and the last head only, so the run is claimed
-- whatever else was seen.
pub record Turn (b : List ℕ) (from size stride base far end n₀ last₀ at n last : ℕ) : Type 0 where
  pub run : (w : Seen) → Measuring w → w.size ≡ size → w.measurements ≡ n₀ → base + w.index ≡ last₀
      → Run b from w at (measured w n (last - base))
  pub low : base ≤ last
  pub high : last ≤ base + 255
  pub few : n ≤ measurements_limit
  pub left : at + (measurements_limit - n) * stride ≡ far
  pub inside : at ≤ length b
  pub step : stride ≡ head_length + (2 + size)
  pub based : base ≡ head_of size
  pub within : end ≤ length b
  pub near : end ≤ far

-- before the first turn
pub turn_first : (b : List ℕ) (from size stride base far end n last : ℕ) → base ≤ last → last ≤ base + 255
    → n ≤ measurements_limit → (k : ℕ) → k ≡ measurements_limit - n
    → from + k * stride ≡ far → from ≤ length b → stride ≡ head_length + (2 + size) → base ≡ head_of size
    → end ≤ length b → end ≤ far → Turn b from size stride base far end n last from n last
turn_first b from size stride base far end n last low high few k q left inside step based within near =
    record {
      run = λ w m s c e.
          let i : w.index ≡ last - base = omega arith in
          rw (← c, ← i) none;
      low = low;
      high = high;
      few = few;
      left = rw q at left;
      inside = inside;
      step = step;
      based = based;
      within = within;
      near = near;
    }

module _ {b : List ℕ} {from size stride base far end n₀ last₀ at n last : ℕ}
    (t : Turn b from size stride base far end n₀ last₀ at n last) (r : at + stride ≤ end) where
  -- while the run goes on there is room for one more
  some_left : (k : ℕ) → at + k * stride ≡ far → 0 < k
  some_left zero l = let s = t.step in let e = t.near in absurd (omega arith)
  some_left (suc k) l = omega arith

  turn_room : n < measurements_limit
  turn_room = let h = some_left (measurements_limit - n) t.left in omega arith

  -- past one more record there is room for one fewer
  less_left : at + stride + (measurements_limit - (n + 1)) * stride ≡ far
  less_left =
      let h = turn_room in
      let k = measurements_limit - (n + 1) in
      let e : measurements_limit - n ≡ suc k = omega arith in
      let l = subst (λ (i : ℕ). at + i * stride ≡ far) e t.left in
      let m = suc-mul k stride in
      omega arith

  -- a turn takes one more good record
  pub turn_next : (x : ℕ) → Head b at x → last < x → x ≤ base + index_limit → get_or b (at + head_length + 1) 0 ≤ type_limit
      → Turn b from size stride base far end n₀ last₀ (at + stride) (n + 1) x
  turn_next x g low high type =
      record {
        run = λ w m s k e.
            let d = t.based in
            let v = measured w n (last - base) in
            let q : head_of w.size ≡ base = ap head_of s ∙ sym d in
            let o = t.low in
            let p = t.step in
            let i = t.within in
            let y : Measuring v = record { chained = m.chained; few = t.few; unsummed = m.unsummed } in
            let h = head_good b v at x g y turn_room (omega arith) (omega arith) (omega arith) type in
            let c : at + head_length + (2 + w.size) ≡ at + stride = omega arith in
            let j : x - head_of w.size ≡ x - base = ap (λ (y : ℕ). x - y) q in
            rw (c, j) at (more (t.run w m s k e) (good_of measurement_kind (at + head_length) (2 + w.size) _) refl h);
        low = let o = t.low in omega arith;
        high = omega arith;
        few = omega (arith, turn_room);
        left = less_left;
        inside = let i = t.within in omega arith;
        step = t.step;
        based = t.based;
        within = t.within;
        near = t.near;
      }
