-- ALGORITHMS from MeasurementHashAlgo on. The promises of the public functions do not rest on this file.
use Rattle.std.specs.Prelude.{List, ◌++◌, ℕ, ◌+◌, ◌*◌, ◌^◌, replicate}
use Rattle.wire.specs.Bytes.{le_bytes}
use Rattle.image.specs.declared.Identity.{Identity}

unfoldable pub bits_bytes : Identity → ℕ → List ℕ
bits_bytes id selection =
    le_bytes 4 (selection * 2 ^ (id.hash + 1)) ++ (le_bytes 4 (2 ^ id.signature) ++ (le_bytes 4 (2 ^ id.hash) ++ replicate 16 0))
