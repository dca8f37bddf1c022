-- GET_DIGESTS and DIGESTS.
use Rattle.std.specs.Prelude.{List, [], ◌∷◌, ◌++◌, ℕ, ◌+◌, ◌*◌}
use Rattle.image.specs.Contents.{Chain, Contents}
use Rattle.image.specs.Held.{slot_mask}
use Rattle.rules.specs.Limits.{header_length, digests_code}
use Rattle.rules.specs.Facts.{Facts, hash_size}
use Rattle.rules.specs.Header.{header}
use Rattle.rules.specs.Steps.{size_steps}
use Rattle.rules.specs.Exchanges.{complete}
use Rattle.rules.specs.declared.Negotiated.{Negotiated}
use Rattle.rules.specs.declared.State.{State}
use Rattle.rules.specs.declared.Kind.TheVariants as kind
use Rattle.rules.specs.declared.Message.TheVariants as message
use Rattle.rules.specs.declared.Exchange.{Exchange}
use Rattle.rules.specs.Decision.{Decision}

abbrev pub digests_size : Facts → ℕ
digests_size f = header_length + f.chains * hash_size f

abbrev pub digests_exchange : Facts → Exchange
digests_exchange f = complete kind.Digests header_length (digests_size f)

unfoldable pub digests_decision : Facts → State → Decision
digests_decision f s = size_steps s message.Digests (digests_exchange f)

-- "digests by rising slot": the image's chains stand in that order
unfoldable pub joined_digests : List Chain → List ℕ
joined_digests [] = []
joined_digests (x ∷ xs) = x.digest ++ joined_digests xs

-- "DIGESTS 0x01: Param2 slot mask"
unfoldable pub digests_bytes : Contents → Negotiated → List ℕ
digests_bytes c n = header n digests_code 0 (slot_mask c) ++ joined_digests c.chains
