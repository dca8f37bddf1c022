-- The closure gives the byte at its place and stays as it is, so each element is what it gives for the element's index. Assumes nothing.
use Rattle.std.proofs.Common.{◌≡◌, ℕ, zero, suc, ◌+◌, ◌<◌, List, get_or, arith, ◌∙◌}
use Rattle.std.proofs.lemmas.Grind.{common_steps}
use Rattle.std.specs.Array.{IsFromFnResultFrom}
use Rattle.std.specs.Fn.{Mut, Called}
use Rattle.wire.proofs.bytes_at.Goals as goal

element : {F : Type 0} (g : Mut F (ℕ × Unit {0}) ℕ) (f : F) (ys : List ℕ) (v : ℕ → ℕ) (i n : ℕ) → ((j y : ℕ) (q : F) → Called g f (j, tt) y q → (y ≡ v j) × (q ≡ f)) → IsFromFnResultFrom g f ys i n → (k j : ℕ) → k < n → j ≡ i + k → get_or ys j 0 ≡ v j
element g f ys v i zero same each k j h e = absurd (omega arith)
element g f ys v i (suc n) same (q, y, is, called, more) zero j h e =
    let here : j ≡ i = omega arith in
    rw here (is.1 0 ∙ (same i y q called).0)
element g f ys v i (suc n) same (q, y, is, called, more) (suc k) j h e =
    element g f ys v (i + 1) n same (rw (same i y q called).1 at more) k j (omega arith) (omega arith)

pub returns : goal.returns
returns g c i h =
    element _ _ c.from_fn.result (λ j. get_or c.args.s.now (c.args.at + j) 0) 0 g.row.N (λ j y q called. grind (arith, common_steps))
    c.from_fn.ensures.items.each i i h (omega arith)
