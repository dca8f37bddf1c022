-- Contents that are valid so far, before their last records: the identity and the three lists are each good, and nothing need be there yet.
-- Such contents are valid exactly if no record is missing at the end and their bytes are not too many. Assumes nothing.
use mathlib.Core.Path.{◌≡◌, sym}
use mathlib.Core.Bool.{false}
use mathlib.Core.Logic.{◌↔◌}
use mathlib.Core.List.{List, [], ◌∷◌, ◌++◌}
use Prim.Native.Nat.{ℕ, ◌≤◌, ◌<◌}
use native.Mathlib.Omega.{arith}
use lib.ListN.{length}
use lib.Dec.{eqb}
use borrow.Author.Tests.{eqb-true, eqb-false, ne_eqb}
use Rattle.wire.specs.Pick.{pick}
use Rattle.wire.proofs.Picks.{picks, pick_yes, pick_no, either, not_first}
use Rattle.image.specs.Limits.{image_limit, chains_limit, measurements_limit}
use Rattle.image.specs.Sizes.{digest_size}
use Rattle.image.specs.Contents.{Chain, Measurement, Summary, Contents, image_bytes, ValidIdentity, ValidChain, ValidMeasurement, ValidSummary, Rises, SlotsRise, slots, indices, Valid}
use Rattle.image.specs.Reading.{last_of, seen, slot_wrong, end_fault}
use Rattle.image.proofs.Rising.{Good, Fits, good_more, rises_more, slots-more}

-- good lists of the three kinds, and what may come behind them
abbrev pub Chains : ℕ → List Chain → Type 0
Chains h xs = Good (ValidChain h) chains_limit (λ (xs : List Chain). SlotsRise (slots xs)) xs

abbrev pub ChainFits : ℕ → List Chain → Chain → Type 0
ChainFits h xs x = Fits (ValidChain h) chains_limit (λ (xs : List Chain) (x : Chain). slot_wrong (length xs) (last_of (slots xs)) x.slot ≡ false) xs x

pub chains-more : (h : ℕ) (xs : List Chain) (x : Chain) → Chains h (xs ++ (x ∷ [])) ↔ (Chains h xs × ChainFits h xs x)
chains-more h = good_more _ _ _ _ slots-more

abbrev pub Measurements : ℕ → List Measurement → Type 0
Measurements h ms = Good (ValidMeasurement h) measurements_limit (λ (ms : List Measurement). Rises 0 (indices ms)) ms

abbrev pub MeasurementFits : ℕ → List Measurement → Measurement → Type 0
MeasurementFits h ms m = Fits (ValidMeasurement h) measurements_limit (λ (ms : List Measurement) (m : Measurement). last_of (indices ms) < m.index) ms m

pub measurements-more : (h : ℕ) (ms : List Measurement) (m : Measurement) → Measurements h (ms ++ (m ∷ [])) ↔ (Measurements h ms × MeasurementFits h ms m)
measurements-more h = good_more _ _ _ _ (rises_more (λ (m : Measurement). m.index) 0)

abbrev pub Summaries : ℕ → List Summary → Type 0
Summaries h ss = Good (ValidSummary h) 1 (λ (ss : List Summary). Unit {0}) ss

abbrev pub SummaryFits : ℕ → List Summary → Summary → Type 0
SummaryFits h ss s = Fits (ValidSummary h) 1 (λ (ss : List Summary) (s : Summary). Unit {0}) ss s

pub summaries-more : (h : ℕ) (ss : List Summary) (s : Summary) → Summaries h (ss ++ (s ∷ [])) ↔ (Summaries h ss × SummaryFits h ss s)
summaries-more h = good_more _ _ _ _ (λ ss s. (λ e. (tt, tt), λ e. tt))

pub record Sound (c : Contents) : Type 0 where
  pub identity : ValidIdentity c.identity
  pub chains : Chains (digest_size c.identity.hash) c.chains
  pub measurements : Measurements (digest_size c.identity.hash) c.measurements
  pub summaries : Summaries (digest_size c.identity.hash) c.summaries
  -- a summary stands behind a measurement
  pub behind : length c.summaries ≤ length c.measurements

-- sound contents that miss no record and are not too long are valid
pub valid : (c : Contents) → Sound c → end_fault (seen c) ≡ 0 → length (image_bytes c) ≤ image_limit → Valid c
unfolding end_fault
valid c s e size =
    let a = not_first _ _ _ _ e (λ z. omega arith) in
    let k : length c.chains ≡ 0 → ⊥ = eqb-false _ _ a.0 in
    let n : length c.summaries ≤ length c.measurements = s.behind in
    let m : length c.summaries ≤ 1 = s.summaries.few in
    record {
      identity = s.identity;
      chains = s.chains.each;
      some_chain = omega arith;
      few_chains = s.chains.few;
      slots = s.chains.order;
      measurements = s.measurements.each;
      few_measurements = s.measurements.few;
      indices = s.measurements.order;
      summaries = s.summaries.each;
      summed = either (length c.summaries ≡ pick (eqb (length c.measurements) 0) 0 1) _ _ _ _ a.1
          (λ t g. let z : length c.measurements ≡ 0 = eqb-true _ _ t in pick_yes _ _ _ _ t (omega arith))
          (λ t g. let z : length c.summaries ≡ 0 → ⊥ = eqb-false _ _ (not_first _ _ _ _ g (λ z. omega arith)).0 in pick_no _ _ _ _ t (omega arith));
      size = size;
    }

-- valid contents are sound and miss no record
pub sound : (c : Contents) → Valid c → Sound c × (0 ≡ end_fault (seen c))
unfolding end_fault
sound c v =
    let k : eqb (length c.chains) 0 ≡ false = ne_eqb (length c.chains) 0 (λ z. omega (arith, v.some_chain)) in
    let q = either ((length c.summaries ≤ 1) × ((length c.summaries ≤ length c.measurements) × (0 ≡ end_fault (seen c)))) _ _ _ _ (sym v.summed)
    (λ t g. let z : length c.measurements ≡ 0 = eqb-true _ _ t in (omega arith, (omega arith, search picks depth 6)))
    (λ t g. let z : length c.measurements ≡ 0 → ⊥ = eqb-false _ _ t in
    let u : eqb (length c.summaries) 0 ≡ false = ne_eqb (length c.summaries) 0 (λ z. omega arith) in
    (omega arith, (omega arith, search picks depth 8))) in (
      record {
        identity = v.identity;
        chains = record { each = v.chains; few = v.few_chains; order = v.slots };
        measurements = record { each = v.measurements; few = v.few_measurements; order = v.indices };
        summaries = record { each = v.summaries; few = q.0; order = tt };
        behind = q.1.0;
      },
      q.1.1,
    )
