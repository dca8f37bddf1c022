-- What the sums of steps 8 and 9 take for granted. No promise of a public function rests on this file.
use Rattle.std.specs.Prelude.{◌<◌}
use Rattle.rules.specs.declared.Exchange.{Exchange}

-- an exchange whose numbers are far from wrapping
pub record Small (x : Exchange) : Type 0 where
  pub layout : x.layout < 65536
  pub length : x.length < 131072
  pub signature : x.signature < 65536
