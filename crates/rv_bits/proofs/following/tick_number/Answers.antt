use Rattle.std.proofs.Common.{◌≡◌, ◌∙◌, ◌+◌, ◌∷◌, suc, true, false, drop, sym, arith}
use Rattle.std.proofs.Math.Seq.{drop-cons}
use Rattle.rv_types.specs.Lists.{Tick}
use Rattle.rv_control.specs.Named.{same_variable}
use Rattle.rv_flat.specs.Lists.{variable_of}
use Rattle.rv_bits.proofs.Nexting.{tick_here, tick_later, tick_none, tick_start, ticks_few}
use Rattle.rv_bits.proofs.following.tick_number.Goals as goal

pub loop-variable-init : goal.loop-variable-init
loop-variable-init c = record { within = omega arith; counted = tick_start c.args.variables.now c.args.place.now.sites }

pub returns-then-is_named : goal.returns-then-is_named
returns-then-is_named c =
    let vs = c.args.variables.now in
    let i = c.loop-variable.variable-index in
    let x = c.variable-item.result in
    let left : drop i vs ≡ x ∷ drop (i + 1) vs = drop-cons vs i x c.loop-variable-test.true
    ∙ (λ k. sym c.variable-item.is k ∷ drop (let z : suc i ≡ i + 1 = omega arith in z k) vs) in
    let is : same_variable (variable_of x) (Tick c.args.place.now.sites) ≡ true = sym c.is_named.ensures ∙ c.if-is_named.true in
    let here = tick_here vs i x c.args.place.now.sites left is in
    omega (arith, here, c.loop-variable.invariant.counted)

pub loop-variable-preserved : goal.loop-variable-preserved
loop-variable-preserved c =
    let vs = c.args.variables.now in
    let i = c.loop-variable.variable-index in
    let x = c.variable-item.result in
    let left : drop i vs ≡ x ∷ drop (i + 1) vs = drop-cons vs i x c.loop-variable-test.true
    ∙ (λ k. sym c.variable-item.is k ∷ drop (let z : suc i ≡ i + 1 = omega arith in z k) vs) in
    let is : same_variable (variable_of x) (Tick c.args.place.now.sites) ≡ false = sym c.is_named.ensures ∙ c.if-is_named.false in
    let later = tick_later vs i x c.args.place.now.sites left is in
    let few = ticks_few x in
    record { within = omega (arith, c.one_tick-count.ensures); counted = omega (arith, c.one_tick-count.ensures, later, c.loop-variable.invariant.counted) }

pub returns : goal.returns
returns c =
    let none = tick_none c.args.variables.now c.loop-variable.variable-index c.args.place.now.sites (omega arith) in
    omega (arith, none, c.loop-variable.invariant.counted)
