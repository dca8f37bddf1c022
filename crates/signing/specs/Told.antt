-- The code's decision on a finishing by the names of the rules: it only renames, and no two of the code's have the same.
use Rattle.std.specs.Prelude.{Ok, Err, Result}
use Rattle.rules.specs.HostError.{host_number}
use Rattle.rules.specs.Finish as finish
use Rattle.rules.specs.Finish.{Finish}
use Rattle.rules.specs.declared.HostError.{HostError}
use Rattle.signing.specs.declared.Ending.{Ending}
use Rattle.signing.specs.declared.Ending.TheVariants as ending

abbrev pub finish_told : Result Ending HostError → Finish
finish_told (Ok ending.Signed) = finish.Signed
finish_told (Ok ending.Failed) = finish.Failed
finish_told (Err e) = finish.Number (host_number e)
