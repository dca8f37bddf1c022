-- An accepted GET_VERSION comes to one effect, whatever the state was: of the state only its bounds and the awaited signature are tested,
-- and a fresh state passes both. Assumes nothing.
use mathlib.Core.Path.{◌≡◌, refl, sym, ap}
use mathlib.Core.Bool.{true}
use mathlib.Core.List.{List}
use Prim.Native.Nat.{ℕ}
use lib.ListN.{length}
use Rattle.wire.specs.Pick.{pick}
use Rattle.image.specs.Contents.{Contents}
use Rattle.image.specs.Reading.{Result, number, found}
use Rattle.rules.specs.Limits.{version_phase, get_version}
use Rattle.rules.specs.Facts.{Facts, facts_of}
use Rattle.rules.specs.State.{cleared_at, fresh, holds_only, phase_fits, selection_fits, awaited_fits, edition_fits, own_bounds, selection_held, awaited_long, in_bounds}
use Rattle.rules.specs.Header.{code_byte, version_of}
use Rattle.rules.specs.Steps.{kind_of, must_wait, serves, version_fits, in_phase}
use Rattle.rules.specs.Version.{version_exchange, version_decision, version_bytes}
use Rattle.rules.specs.Messages.{message_bytes}
use Rattle.rules.specs.Decisions.{last_steps, decision_of}
use Rattle.rules.specs.Effects.{Effect, answered, effect_of, effect_by}
use Rattle.rules.specs.declared.State.{State}
use Rattle.rules.specs.declared.Lengths.{Lengths}
use Rattle.rules.specs.declared.Kind.TheVariants as kind
use Rattle.rules.specs.declared.Message.TheVariants as message
use Rattle.rules.specs.Decision.{Decision}
use Rattle.theorems.specs.Runs.{IsAccept}
use Rattle.theorems.proofs.Passes.{was_accepted, decides, PassedAs, passed_as}

-- "GET_VERSION .. leading to 1 with all else cleared"
abbrev pub version_effect : List ℕ → Effect
version_effect r = answered message.Version (cleared_at version_phase) version_exchange (version_bytes (cleared_at version_phase)) r

-- a fresh state is within its bounds
fresh-bounds : (f : Facts) → in_bounds f fresh ≡ true
unfolding in_bounds own_bounds selection_held awaited_long phase_fits holds_only selection_fits awaited_fits edition_fits version_of pick
fresh-bounds f = refl

-- what an accepted GET_VERSION passed, a fresh state passes
fresh-decides : (f : Facts) (s : State) (lent : Lengths) (nonce : ℕ) (r : List ℕ) (d : Decision) → PassedAs f s lent nonce r d kind.Version
    → decision_of f fresh lent nonce r ≡ version_decision
unfolding must_wait serves version_fits in_phase last_steps pick
fresh-decides f s lent nonce r d z =
    let c = z.called in
    let p = z.passed in
    let asked = rw z.kind at p.asked in
    let version = rw z.kind at p.version in
    decides f fresh lent nonce r version_decision (record { buffer = c.buffer; room = c.room; drawn = c.drawn; bounds = fresh-bounds f })
    (record {
      least = p.least;
      most = p.most;
      free = refl;
      kind = kind.Version;
      asked = asked;
      served = refl;
      version = version;
      phase = refl;
      decided = refl;
    })

-- the effect of a GET_VERSION that is accepted in the state s, and its effect in a fresh one
pub version_effect_lem : (i : Result Contents) (s : State) (lent : Lengths) (r nonce : List ℕ) → code_byte r ≡ get_version
    → IsAccept (effect_by i s lent r nonce)
    → (effect_by i s lent r nonce ≡ version_effect r) × (effect_by i fresh lent r nonce ≡ version_effect r)
unfolding effect_by effect_of message_bytes last_steps kind_of pick
version_effect_lem (number k) s lent r nonce code a = absurd a
version_effect_lem (found c) s lent r nonce code a =
    let f = facts_of c in
    let d : Decision = decision_of f s lent (length nonce) r in
    let z = passed_as f s lent (length nonce) r d kind.Version (rw code) refl (was_accepted c s r nonce d a) in (
      ap (λ (x : Decision). effect_of x c s nonce r) (sym z.decided),
      ap (λ (x : Decision). effect_of x c fresh nonce r) (fresh-decides f s lent (length nonce) r d z),
    )
