-- CHALLENGE and CHALLENGE_AUTH.
use Rattle.std.specs.Prelude.{Bool, true, false, List, [], ◌∷◌, ◌++◌, ℕ, ◌+◌, length, ltb, eqb}
use Rattle.wire.specs.Pick.{pick}
use Rattle.image.specs.Contents.{Contents}
use Rattle.image.specs.Held.{slot_digest, slot_mask, tcb_summary, full_summary}
use Rattle.rules.specs.Limits.{header_length, nonce_length, challenge_layout, challenge_code, tcb_measurements, all_measurements}
use Rattle.rules.specs.Limits.{awaits_challenge}
use Rattle.rules.specs.Facts.{Facts, hash_size}
use Rattle.rules.specs.Header.{param1, param2, header}
use Rattle.rules.specs.Steps.{invalid, size_steps}
use Rattle.rules.specs.Exchanges.{signable}
use Rattle.rules.specs.declared.Negotiated.{Negotiated}
use Rattle.rules.specs.declared.State.{State}
use Rattle.rules.specs.declared.Kind.TheVariants as kind
use Rattle.rules.specs.declared.Message.TheVariants as message
use Rattle.rules.specs.declared.Exchange.{Exchange}
use Rattle.rules.specs.Decision.{Decision}

-- "Param2 0, 1 or 0xFF, only 0 if no measurement specification is selected"
unfoldable pub summary_fits : Negotiated → ℕ → Bool
summary_fits n x =
    pick (eqb x 0) true
    (pick (eqb n.selection 0) false
    (pick (eqb x tcb_measurements) true (eqb x all_measurements)))

-- CHALLENGE_AUTH without its signature: header, digest, nonce, summary hash unless Param2 is 0, opaque length
abbrev pub challenge_size : Facts → ℕ → ℕ
challenge_size f x = header_length + hash_size f + nonce_length + pick (eqb x 0) 0 (hash_size f) + 2

abbrev pub challenge_exchange : Facts → ℕ → Exchange
challenge_exchange f x = signable f kind.Challenge challenge_layout (challenge_size f x) awaits_challenge

-- "CHALLENGE, 36 bytes: all of Param1 a filled slot"
unfoldable pub challenge_decision : Facts → State → List ℕ → Decision
challenge_decision f s r =
    pick (ltb (length r) challenge_layout) invalid
    (pick (eqb (f.chain_length (param1 r)) 0) invalid
    (pick (summary_fits s.negotiated (param2 r))
    (size_steps s (message.Challenge (record { 0 = param1 r }) (param2 r)) (challenge_exchange f (param2 r)))
    invalid))

-- "summary hash unless Param2 is 0 (1 TCB, 0xFF all)"
abbrev pub summary_of : Contents → ℕ → List ℕ
summary_of c x = pick (eqb x 0) [] (pick (eqb x tcb_measurements) (tcb_summary c) (full_summary c))

-- "CHALLENGE_AUTH 0x03: slot, mask, chain digest, our nonce, summary hash .., opaque length 0, signature"; without the signature
unfoldable pub challenge_bytes : Contents → List ℕ → Negotiated → ℕ → ℕ → List ℕ
challenge_bytes c nonce n slot x =
    header n challenge_code slot (slot_mask c) ++ (slot_digest c slot ++ (nonce ++ (summary_of c x ++ (0 ∷ 0 ∷ []))))
