-- Tests of step 7 that give what they tested. No promise of a public function rests on this file.
use Rattle.std.specs.Prelude.{◌≡◌, Bool, true, false, List, ℕ, length, ltb, Result, Ok, Err}
use Rattle.wire.specs.Pick.{pick}
use Rattle.rules.specs.Facts.{Facts}
use Rattle.rules.specs.Decision.{decided}
use Rattle.rules.specs.Steps.{invalid}
use Rattle.rules.specs.Measurements.{signer_of, layout_of, signer_fits}
use Rattle.rules.specs.declared.Refusal.{Refusal}

-- what is asked, where it passes; else the refusal of step 7
abbrev pub Tested : {A : Type 0} → Result A Refusal → A → Bool → Type 0
Tested (Ok x) asked passes = (x ≡ asked) × (passes ≡ true)
Tested (Err e) asked passes = (decided (Err e) ≡ invalid) × (passes ≡ false)

-- the request has the signer that it asks, whose slot is filled
abbrev pub signer_passes : Facts → List ℕ → Bool
signer_passes f r = pick (ltb (length r) (layout_of (signer_of r))) false (signer_fits f (signer_of r))
