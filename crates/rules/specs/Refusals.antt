-- Which refusals empty M, as a requester sees it: by its request and the ERROR's code. What *emptied_as_seen* claims.
use Rattle.std.specs.Prelude.{◌≡◌, Bool, true, not, ◌&&◌, ◌||◌, List, ℕ, length, get_or, ltb, eqb}
use Rattle.rules.specs.Limits.{message_limit, header_length, get_measurements, invalid_request, unspecified, response_too_large}
use Rattle.rules.specs.Header.{code_byte}
use Rattle.rules.specs.Effects.{Effect, host, refuse, accept}

-- the codes of steps 7, 8 and 9: "0x01 at step 7 and not at step 1", nor at step 2 under 1.1; "0x0D; 0x05"
abbrev pub late_code : ℕ → Bool
late_code code = eqb code invalid_request || eqb code response_too_large || eqb code unspecified

-- "byte 1 is 0xE0 and the step that refuses is 7, 8 or 9", the step told by length and code
abbrev pub seen_emptied : List ℕ → ℕ → Bool
seen_emptied r code =
    eqb (code_byte r) get_measurements && not (ltb (length r) header_length) && not (ltb message_limit (length r)) && late_code code

-- a refusal leaves A and B, and empties M exactly where a requester sees it
abbrev pub LeavesAsSeen : List ℕ → Effect → Type 0
LeavesAsSeen r (host n) = Unit {0}
LeavesAsSeen r (refuse bytes kept) = kept ≡ record { a = true; b = true; m = not (seen_emptied r (get_or bytes 2 0)) }
LeavesAsSeen r (accept bytes change) = Unit {0}
