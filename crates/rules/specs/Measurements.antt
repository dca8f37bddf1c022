-- GET_MEASUREMENTS and MEASUREMENTS.
use Rattle.std.specs.Prelude.{Bool, true, Option, Some, None, List, [], ◌∷◌, ◌++◌, ℕ, ◌+◌, ◌*◌, ◌%◌, length, get_or, drop, ltb, eqb}
use Rattle.wire.specs.Bytes.{le_bytes}
use Rattle.wire.specs.Pick.{pick}
use Rattle.image.specs.Sizes.{digest_size}
use Rattle.image.specs.Contents.{Measurement, Contents, measurement_body}
use Rattle.image.specs.Held.{measurement_of}
use Rattle.rules.specs.Limits.{header_length, nonce_length, signed_layout, all_measurements, measurements_code, awaits_measurements}
use Rattle.rules.specs.Facts.{Facts, hash_size}
use Rattle.rules.specs.Header.{param1, param2, header}
use Rattle.rules.specs.Steps.{invalid, size_steps}
use Rattle.rules.specs.Exchanges.{complete, signable}
use Rattle.rules.specs.declared.Negotiated.{Negotiated}
use Rattle.rules.specs.declared.State.{State}
use Rattle.rules.specs.declared.Operation.{Operation}
use Rattle.rules.specs.declared.Operation.TheVariants as operation
use Rattle.image.specs.declared.SlotNumber.{SlotNumber}
use Rattle.rules.specs.declared.Kind.TheVariants as kind
use Rattle.rules.specs.declared.Message.TheVariants as message
use Rattle.rules.specs.declared.Exchange.{Exchange}
use Rattle.rules.specs.Decision.{Decision}

-- "4 bytes, or 37 if bit 0 of Param1 asks a signature (nonce, then slot in the low half of the last byte ..). Other Param1 bits ignored."
abbrev pub asks_signature : List ℕ → Bool
asks_signature r = eqb (param1 r % 2) 1

abbrev pub signer_slot : List ℕ → ℕ
signer_slot r = get_or r 36 0 % 16

abbrev pub signer_of : List ℕ → Option SlotNumber
signer_of r = pick (asks_signature r) (Some (record { 0 = signer_slot r })) None

abbrev pub layout_of : Option SlotNumber → ℕ
layout_of None = header_length
layout_of (Some k) = signed_layout

-- ".. slot .. which must be filled"
unfoldable pub signer_fits : Facts → Option SlotNumber → Bool
signer_fits f None = true
signer_fits f (Some k) = ltb 0 (f.chain_length k.0)

-- "Param2 0, 0xFF or a present index"
abbrev pub operation_of : ℕ → Operation
operation_of x = pick (eqb x 0) operation.Count (pick (eqb x all_measurements) operation.All (operation.One (record { 0 = x })))

unfoldable pub operation_fits : Facts → Operation → Bool
operation_fits f operation.Count = true
operation_fits f operation.All = true
operation_fits f (operation.One i) = f.present i.0

-- "number of blocks .. (0 for Param2 0, all for 0xFF, else 1)"
abbrev pub block_count : ℕ → Operation → ℕ
block_count all operation.Count = 0
block_count all operation.All = all
block_count all (operation.One i) = 1

-- "Block: index, 1, size 3+H (2 bytes), type, H (2 bytes), digest"
abbrev pub block_size : ℕ → ℕ
block_size h = 7 + h

-- MEASUREMENTS without its signature: header, number of blocks, record length, record, nonce, opaque length
abbrev pub measurements_size : Facts → Operation → ℕ
measurements_size f o = header_length + 4 + block_count f.measurements o * block_size (hash_size f) + nonce_length + 2

abbrev pub measurements_exchange : Facts → Operation → Option SlotNumber → Exchange
measurements_exchange f o None = complete kind.Measurements (layout_of None) (measurements_size f o)
measurements_exchange f o (Some k) = signable f kind.Measurements (layout_of (Some k)) (measurements_size f o) awaits_measurements

unfoldable pub operation_step : Facts → State → Option SlotNumber → Operation → Decision
operation_step f s g o = pick (operation_fits f o) (size_steps s (message.Measurements o g) (measurements_exchange f o g)) invalid

unfoldable pub measurements_by : Facts → State → List ℕ → Option SlotNumber → Operation → Decision
measurements_by f s r g o =
    pick (ltb (length r) (layout_of g)) invalid
    (pick (signer_fits f g) (operation_step f s g o) invalid)

unfoldable pub measurements_decision : Facts → State → List ℕ → Decision
measurements_decision f s r = measurements_by f s r (signer_of r) (operation_of (param2 r))

-- a block of a measurement, given as index, type and digest
unfoldable pub block_bytes : ℕ → List ℕ → List ℕ
block_bytes h body =
    (get_or body 0 0 ∷ 1 ∷ []) ++ (le_bytes 2 (3 + h) ++ (get_or body 1 0 ∷ (le_bytes 2 h ++ drop 2 body)))

unfoldable pub blocks_of : ℕ → List Measurement → List ℕ
blocks_of h [] = []
blocks_of h (m ∷ ms) = block_bytes h (measurement_body m) ++ blocks_of h ms

abbrev pub record_of : Contents → Operation → List ℕ
record_of c operation.Count = []
record_of c operation.All = blocks_of (digest_size c.identity.hash) c.measurements
record_of c (operation.One i) = block_bytes (digest_size c.identity.hash) (measurement_of c i.0)

-- "Param1 the count of measurements if Param2 was 0, else 0; Param2 slot if signed, else 0"
abbrev pub count_shown : Contents → Operation → ℕ
count_shown c operation.Count = length c.measurements
count_shown c operation.All = 0
count_shown c (operation.One i) = 0

abbrev pub slot_shown : Option SlotNumber → ℕ
slot_shown None = 0
slot_shown (Some k) = k.0

-- "MEASUREMENTS 0x60: .. number of blocks at 4 .., record length (3 bytes) at 5, record, our nonce, opaque length 0, signature if asked";
-- without the signature
unfoldable pub measurements_bytes : Contents → List ℕ → Negotiated → Operation → Option SlotNumber → List ℕ
measurements_bytes c nonce n o g =
    header n measurements_code (count_shown c o) (slot_shown g)
    ++ (block_count (length c.measurements) o
    ∷ (le_bytes 3 (length (record_of c o)) ++ (record_of c o ++ (nonce ++ (0 ∷ 0 ∷ [])))))
