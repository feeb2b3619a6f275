use Rattle.std.proofs.{Common.rules, Common.FitsSigned, Common.◌≡◌, Common.◌+◌, Common.◌-◌, Common.ℕ, Common.ℤ, Common.List, Common.Some, Common.drop}
use Rattle.std.proofs.{Common.slice_get, Common.arith, Common.sym, Common.subst, lemmas.Int.to_z-of_z}
use Rattle.std.specs.Int.{w128}
use Rattle.rv_pairs.specs.Keys.{IsKey}
use Rattle.rv_pairs.proofs.Keying.{key_none, drop_next, drop_all}
use Rattle.rv_pairs.proofs.keys.key_of.Goals as goal

pub loop-done-init : goal.loop-done-init
loop-done-init c = λ k e. subst (λ (cs : List ℤ). IsKey cs 0) (sym (drop_all c.args.numbers.now k (omega (arith, e, c.len-count.ensures)))) key_none

pub loop-done-preserved : goal.loop-done-preserved
loop-done-preserved c = λ k e.
    let number_fits : FitsSigned w128 c.at-number.result.now = search rules in
    let place : c.len-count.result - 1 - c.loop-done.done ≡ k = omega (arith, e, c.len-count.ensures, c.loop-done-test.true) in
    let at : slice_get c.args.numbers.now k ≡ Some c.at-number.result.now =
    subst (λ (i : ℕ). slice_get c.args.numbers.now i ≡ Some c.at-number.result.now) place c.at-number.ensures.value in
    let before = c.loop-done.invariant (k + 1) (omega (arith, e)) in
    let here = simp to_z-of_z at (c.key_with-key.ensures (drop (k + 1) c.args.numbers.now) before) in
    subst (λ (cs : List ℤ). IsKey cs c.key_with-key.result) (sym (drop_next c.args.numbers.now k c.at-number.result.now at)) here

pub key_with-key-requires : goal.key_with-key-requires
key_with-key-requires c =
    let before = c.loop-done.invariant (c.len-count.result - c.loop-done.done) (omega (arith, c.len-count.ensures, c.loop-done-test.true)) in
    before.below

pub returns : goal.returns
returns c = c.loop-done.invariant 0 (omega (arith, c.len-count.ensures, c.loop-done-test.false, c.loop-done.auto))
