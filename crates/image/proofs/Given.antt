-- What an image that reads as contents gives: the contents are valid, the image is their bytes, and the lookups find what they hold.
-- Assumes nothing.
use mathlib.Core.Path.{◌≡◌, sym, subst}
use mathlib.Core.List.{List}
use Prim.Native.Nat.{ℕ}
use Rattle.wire.specs.Bytes.{Bytes}
use Rattle.image.specs.Contents.{Contents, Valid, image_bytes}
use Rattle.image.specs.declared.Index.{Index}
use Rattle.image.proofs.Exactly.{image-read}
use Rattle.image.proofs.Holds.{Holds, holds}
use Rattle.image.specs.Read.{ReadAs, Known, Fine}

module _ {b : List ℕ} {ix : Index} {c : Contents} (y : Bytes b) (r : ReadAs b ix c) where
  pub valid : Valid c
  valid = (image-read b c y r.read).1

  pub image_is : b ≡ image_bytes c
  image_is = (image-read b c y r.read).0

  pub held : Holds b c
  held = subst (λ (l : List ℕ). Holds l c) (sym image_is) (holds c valid)

  pub fine-index : Fine ix
  fine-index =
      let v = valid in
      subst Fine (sym r.indexed) (record { identity = v.identity; chains = v.few_chains; measurements = v.few_measurements })

pub known-fine : {b : List ℕ} {ix : Index} → Bytes b → Known b ix → Fine ix
known-fine y k = fine-index y k.same
