-- The first len of 512 zeros are copied, and they are len zeros. Assumes nothing.
use Rattle.std.proofs.Common.{◌≡◌, refl, ap, ◌∙◌, ℕ, zero, suc, ◌≤◌, arith, take, replicate, List, ◌∷◌}
use Rattle.wire.specs.Bytes.{splice}
use Rattle.responder.proofs.zeros.write_zeros.Goals as goal

take-zeros : (n m : ℕ) → n ≤ m → ◌≡◌ {A = List ℕ} (take n (replicate m 0)) (replicate n 0)
take-zeros zero m h = refl
take-zeros (suc n) zero h = absurd (omega arith)
take-zeros (suc n) (suc m) h = ap (λ (l : List ℕ). 0 ∷ l) (take-zeros n m (omega arith))

pub returns-then-len-eq0 : goal.returns-then-len-eq0
unfolding splice
returns-then-len-eq0 c = rw c.if-len-eq0.true

pub returns : goal.returns
returns c = c.copy_into.ensures ∙ rw (c.part_of.ensures, take-zeros c.args.len 512 (omega arith))
