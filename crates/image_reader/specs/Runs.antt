-- What a run over measurement records accepts: good ones only, each as the plain step would. The promises do not rest on this file.
use Rattle.std.specs.Prelude.{◌≡◌, Some, List, ℕ, ◌+◌, ◌*◌, ◌≤◌, ◌<◌, get_or}
use Rattle.wire.specs.Bytes.{be_at}
use Rattle.image.specs.Limits.{head_length, measurement_kind, measurements_limit}
use Rattle.image.specs.declared.Seen.{Seen}
use Rattle.image.specs.Reading.{found}
use Rattle.image_reader.specs.declared.Record.{Record}
use Rattle.image_reader.specs.Steps.{frame_at, record_of}

-- what is seen where there are n measurements, the last with that index
abbrev pub measured : Seen → ℕ → ℕ → Seen
measured w n index = record { size = w.size; chains = w.chains; slot = w.slot; measurements = n; index = index; summaries = w.summaries }

-- Good measurement records from a place on, w seen before them: the place behind the last, and what is seen there.
pub data Run (b : List ℕ) (from : ℕ) (w : Seen) : ℕ → Seen → Type 0 where
  none : Run b from w from w
  more : {at : ℕ} {v : Seen} → Run b from w at v → (r : Record) → r.frame.kind ≡ measurement_kind
      → record_of b v (frame_at b at) ≡ found (Some r) → Run b from w r.frame.end r.next

-- where measurements may follow one another
pub record Measuring (w : Seen) : Type 0 where
  pub chained : 0 < w.chains
  pub few : w.measurements ≤ measurements_limit
  pub unsummed : w.summaries ≤ 0

-- length, kind and the body's first byte as one number
pub record Head (b : List ℕ) (at x : ℕ) : Type 0 where
  pub value : x ≡ be_at 2 b at * 65536 + get_or b (at + 2) 0 * 256 + get_or b (at + head_length) 0
  pub kind : get_or b (at + 2) 0 < 256
  pub first : get_or b (at + head_length) 0 < 256
