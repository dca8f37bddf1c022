-- The second copy starts where the four texts end, so the two are one run of stores. Assumes nothing.
use Rattle.std.proofs.Common.{◌≡◌, ◌∙◌, ◌++◌, ℕ, List, refl, arith}
use borrow.Author.Tests.{ne_eqb}
use Rattle.wire.specs.Pick.{pick}
use Rattle.wire.specs.Bytes.{splice}
use Rattle.wire.proofs.Laws.{splice-then}
use Rattle.rules.specs.Signing.{spdm_text, prefix_of}
use Rattle.signing.proofs.write_prefix.Goals as goal

-- the text, four times
abbrev texts : List ℕ
texts = spdm_text ++ spdm_text ++ spdm_text ++ spdm_text

-- what is written behind the texts goes on where they end
behind : (l rest : List ℕ) → splice (splice l 0 texts) 64 rest ≡ splice l 0 (texts ++ rest)
behind l rest = splice-then l 0 texts rest 64 refl

-- under 1.1 there is none
pub returns-then-version_of-eq-VERSION_11 : goal.returns-then-version_of-eq-VERSION_11
unfolding prefix_of pick splice
returns-then-version_of-eq-VERSION_11 c = rw (← c.version_of.ensures, c.if-version_of-eq-VERSION_11.true)

pub returns-in-1 : goal.returns-in-1
unfolding prefix_of pick
returns-in-1 c =
    c.copy_into.ensures
    ∙ rw (c.write_texts.ensures, ← c.version_of.ensures, ne_eqb _ _ c.if-version_of-eq-VERSION_11.false, c.in-1.is)
    (behind _ _)

pub returns-in-2 : goal.returns-in-2
unfolding prefix_of pick
returns-in-2 c =
    c.copy_into-in-2.ensures
    ∙ rw (c.write_texts-in-2.ensures, ← c.version_of.ensures, ne_eqb _ _ c.if-version_of-eq-VERSION_11.false, c.in-2.is)
    (behind _ _)

pub returns-in_default : goal.returns-in_default
unfolding prefix_of pick splice
returns-in_default c =
    rw (← c.version_of.ensures)
    (simp (
      ne_eqb _ _ c.if-version_of-eq-VERSION_11.false,
      ne_eqb c.args.s.awaited.whose 1 (λ e. omega arith),
      ne_eqb c.args.s.awaited.whose 2 (λ e. omega arith),
    ))
