-- What the reader's answer tells: an image that it accepted reads as contents whose index it gave, and one that it refused has the number
-- that it gave. Assumes nothing.
use Rattle.std.specs.Prelude.{Ok, Err, Result as Answer}
use mathlib.Core.Path.{◌≡◌, refl, sym, ap, ◌∙◌}
use mathlib.Core.List.{List}
use Prim.Native.Nat.{ℕ}
use native.Mathlib.Omega.{arith}
use Rattle.image.specs.Contents.{Contents}
use Rattle.image.specs.Reading.{Result, number, found, reading}
use Rattle.image.specs.Fault.{number_of, told}
use Rattle.image.specs.Index.{index_of, answer_of}
use Rattle.image.specs.declared.Fault.{Fault}
use Rattle.image.specs.declared.Index.{Index}
use Rattle.image.specs.Read.{Known}

-- accepted: the result is contents, and the index is theirs
accepted : (r : Result Contents) (ix : Index) → found ix ≡ answer_of r → (c : Contents) × ((r ≡ found c) × (ix ≡ index_of c))
unfolding answer_of
accepted (number k) ix e = let z : ◌≡◌ {A = ℕ} 0 1 = cc in absurd (omega arith)
accepted (found c) ix e = (c, (refl, cc))

-- refused: the result is the number
refused : (r : Result Contents) (k : ℕ) → number k ≡ answer_of r → r ≡ number k
unfolding answer_of
refused (number k) n e = cc
refused (found c) n e = let z : ◌≡◌ {A = ℕ} 0 1 = cc in absurd (omega arith)

module _ (b : List ℕ) {a : Answer Index Fault} (e : told a ≡ answer_of (reading b)) where
  -- the same of the reader's answer
  pub known : (ix : Index) → a ≡ Ok ix → Known b ix
  known ix v =
      let r = accepted (reading b) ix (sym (ap told v) ∙ e) in
      record { held = r.0; same = record { read = r.1.0; indexed = r.1.1 } }

  pub number_read : (f : Fault) → a ≡ Err f → reading b ≡ number (number_of f)
  number_read f v = refused (reading b) (number_of f) (sym (ap told v) ∙ e)
