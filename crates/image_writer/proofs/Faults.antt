-- *faults* of the writer: records that are written, and some that are refused with their number, computed from the definitions. The
-- records' own faults are the reader's (image/proofs/Faults.antt). Assumes nothing.
use mathlib.Core.Path.{◌≡◌, refl}
use mathlib.Core.List.{List, [], ◌∷◌, ◌++◌, map}
use Prim.Native.Nat.{ℕ, zero, suc, ◌+◌, ◌-◌, ◌/◌, ◌%◌}
use lib.ListN.{replicate}
use Rattle.wire.specs.Pick.{pick}
use Rattle.image.specs.Sizes.{digest_size}
use Rattle.image.specs.Contents.{record_bytes}
use Rattle.image.specs.Reading.{Result, number, found, unless, identity_fault, slot_wrong, chain_fault, measurement_fault, summary_fault}
use Rattle.image.specs.Reading.{record_fault, end_fault, extended, read_on, read_all}
use Rattle.image_writer.specs.Writing.{Record, records_in, records_lent, joined, sized, writing, lent}
use Rattle.image_writer.specs.declared.Record.{Record as Lent}

abbrev a : ℕ → List ℕ → Record
a kind body = record { kind = kind; body = body }

abbrev identity : Record
identity = a 1 (14 ∷ 0 ∷ 4 ∷ [])

-- a slot's chain of 37 bytes that says it has `own`
abbrev saying : ℕ → ℕ → List ℕ
saying slot own = slot ∷ (replicate 32 0xD0 ++ (own ∷ 0 ∷ replicate 35 0xC0))

abbrev chain : Record
chain = a 2 (saying 0 37)

-- three of the longest chains, and one of n bytes behind them, each with its own length: with n = 12,137 an image of 61,440 bytes,
-- with n = 16,384 one whose length two bytes cannot say
abbrev long : ℕ → ℕ → Record
long slot n = a 2 (slot ∷ (replicate 32 0xD0 ++ (n % 256 ∷ n / 256 ∷ replicate (n - 2) 0xC0)))

abbrev longs : ℕ → ℕ → List Record
longs slot zero = []
longs slot (suc n) = long slot 16384 ∷ longs (slot + 1) n

abbrev longest : ℕ → List Record
longest n = identity ∷ (longs 0 3 ++ (long 3 n ∷ []))

-- "smallest SHA-256 image: 80 bytes"
abbrev smallest : List ℕ
smallest = 1 ∷ 0 ∷ 3 ∷ 1 ∷ 14 ∷ 0 ∷ 4 ∷ 0 ∷ 70 ∷ 2 ∷ saying 0 37

record Case : Type 0 where
  room : ℕ
  first : ℕ
  records : List Record
  told : Result (List ℕ)

abbrev by : ℕ → ℕ → List Record → Result (List ℕ) → Case
by room first rs r = record { room = room; first = first; records = rs; told = r }

-- an output of the image's length is enough; 2 before 4; 2 and 4 to 8 before 18; "then 1 when the result would be too long": 2 and 4 to 8
-- before 1, and 1 before 18
abbrev cases : List Case
cases =
    by 80 1 (identity ∷ chain ∷ []) (found smallest) ∷ by 61440 1 (identity ∷ chain ∷ []) (found smallest)
    ∷ by 79 1 (identity ∷ chain ∷ []) (number 18) ∷ by 0 1 (identity ∷ chain ∷ []) (number 18)
    ∷ by 0 0 (identity ∷ chain ∷ []) (number 2) ∷ by 80 2 (identity ∷ chain ∷ []) (number 2) ∷ by 80 0 [] (number 2)
    ∷ by 0 1 [] (number 4) ∷ by 0 1 (identity ∷ []) (number 4) ∷ by 80 1 (chain ∷ []) (number 4)
    ∷ by 0 1 (a 1 [] ∷ chain ∷ []) (number 6) ∷ by 0 1 (identity ∷ a 2 (saying 1 37) ∷ []) (number 7)
    ∷ by 0 1 (identity ∷ a 2 (saying 0 36) ∷ []) (number 8)
    ∷ by 61439 1 (longest 12137) (number 18) ∷ by 61441 1 (longest 12138) (number 1) ∷ by 0 1 (longest 12138) (number 1)
    ∷ by 65687 1 (longest 16384) (number 1)
    ∷ by 61441 2 (longest 12138) (number 2) ∷ by 61441 1 (longest 12138 ++ (identity ∷ [])) (number 4)
    ∷ by 61441 1 (identity ∷ (longs 0 8 ++ (a 2 (saying 8 37) ∷ []))) (number 5)
    ∷ by 61441 1 (longest 16385) (number 6) ∷ by 61441 1 (longest 12138 ++ (chain ∷ [])) (number 7)
    ∷ by 61441 1 (longest 12138 ++ (a 2 (saying 4 36) ∷ [])) (number 8)
    ∷ []

faults : map (λ (x : Case). lent x.room (writing x.first x.records)) cases ≡ map (λ (x : Case). x.told) cases
unfolding digest_size pick unless identity_fault slot_wrong chain_fault measurement_fault summary_fault record_fault end_fault extended
    read_on read_all record_bytes joined sized writing lent
faults = refl

-- a body is as many of the bytes that are left as its length says, 0 where there is no length, fewer where the bytes end sooner
slices :
    records_in (1 ∷ 2 ∷ []) (2 ∷ 3 ∷ 9 ∷ []) (10 ∷ 11 ∷ 12 ∷ 13 ∷ 14 ∷ 15 ∷ [])
    ++ records_in (3 ∷ 4 ∷ []) (2 ∷ []) (20 ∷ [])
    ≡ a 1 (10 ∷ 11 ∷ []) ∷ a 2 (12 ∷ 13 ∷ 14 ∷ []) ∷ a 3 (20 ∷ []) ∷ a 4 [] ∷ []
slices = refl

-- a lent record, wherever its body lies
abbrev at : ℕ × ℕ → ℕ → List ℕ → Lent
at place kind body = record { kind = kind; body = record { ref_ptr = place; now = body } }

-- a lent slice of records stands for those records, kinds and bodies, in their order: an unknown kind, an empty body and no record among them
slice : (p q r : ℕ × ℕ)
    → records_lent (at p 2 (10 ∷ 11 ∷ []) ∷ at q 9 [] ∷ at r 1 (12 ∷ []) ∷ []) ∷ records_lent [] ∷ []
    ≡ (a 2 (10 ∷ 11 ∷ []) ∷ a 9 [] ∷ a 1 (12 ∷ []) ∷ []) ∷ [] ∷ []
slice p q r = refl
