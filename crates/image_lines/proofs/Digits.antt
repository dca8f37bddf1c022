-- Of hex digits, and of the byte that two of them make. Assumes nothing.
use mathlib.Core.Path.{◌≡◌}
use Prim.Native.Nat.{ℕ, ◌<◌}
use native.Mathlib.Omega.{arith}
use Rattle.std.specs.Prelude.{Option, Some, None}
use lib.Seq.{set_out}
use borrow.Author.Tests.{lt-ltb, le-ltb, leb-true}
use Rattle.wire.proofs.Picks.{either}
use Rattle.image_lines.specs.Lines.{digit_of}
use Rattle.image_lines.specs.Taking.{high_in}

some_same : (a b : ℕ) → ◌≡◌ {A = Option ℕ} (Some a) (Some b) → a ≡ b
some_same a b e = cc

none_some : (a : ℕ) → ◌≡◌ {A = Option ℕ} None (Some a) → ⊥
none_some a e = let z : ◌≡◌ {A = ℕ} 0 1 = cc in absurd (omega arith)

-- a digit is half a byte
pub digit_small : (x v : ℕ) → digit_of x ≡ Some v → v < 16
unfolding digit_of
digit_small x v e =
    either (v < 16) _ _ _ _ e (λ _ f. absurd (none_some v f))
    (λ _ e. either (v < 16) _ _ _ _ e (λ t f. let s = some_same _ _ f in omega (arith, leb-true _ _ t))
    (λ _ e. either (v < 16) _ _ _ _ e (λ _ f. absurd (none_some v f))
    (λ _ e. either (v < 16) _ _ _ _ e (λ t f. let s = some_same _ _ f in omega (arith, leb-true _ _ t))
    (λ _ e. either (v < 16) _ _ _ _ e (λ _ f. absurd (none_some v f))
    (λ _ e. either (v < 16) _ _ _ _ e (λ t f. let s = some_same _ _ f in omega (arith, leb-true _ _ t)) (λ _ f. absurd (none_some v f)))))))

pub high_small : (first : Option ℕ) (v : ℕ) → high_in first ≡ Some v → v < 16
high_small None v e = absurd (none_some v e)
high_small (Some x) v e = digit_small x v e

-- two digits make a byte, which is kept while there is room for it
pub ruleset kept = (digit_small, high_small, lt-ltb, le-ltb, set_out)
