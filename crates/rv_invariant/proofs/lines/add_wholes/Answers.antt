use Rattle.std.proofs.Common.{◌∷◌, [], ℤ, FitsSigned, map, take, rules, subst, arith}
use Rattle.std.proofs.lemmas.Int.{to_z-of_z}
use Rattle.std.specs.{Int.w128, Fmt.signed_decimal}
use Rattle.rv_invariant.specs.Writes.{Extends}
use Rattle.rv_invariant.proofs.Adding.{extends-none, extends-then, map-more, map-taken}
use Rattle.rv_invariant.proofs.lines.add_wholes.Goals as goal

pub loop-index-init : goal.loop-index-init
loop-index-init c = extends-none c.args.row.now

pub loop-index-preserved : goal.loop-index-preserved
loop-index-preserved c =
    let i = c.loop-index.index in
    let zs = c.args.numbers.now in
    let z = c.at.result.now in
    let fits : FitsSigned w128 c.at.result.now = search rules in
    let one = subst (λ (n : ℤ). Extends c.loop-index.row c.add_whole.new.row (signed_decimal n ∷ [])) (to_z-of_z w128 c.at.result.now fits)
    c.in_ok-add_whole.ensures in
    subst (Extends c.args.row.now c.add_whole.new.row) (map-more signed_decimal zs i z c.at.ensures.value)
    (extends-then c.args.row.now c.loop-index.row c.add_whole.new.row (map signed_decimal (take i zs)) (signed_decimal z ∷ []) c.loop-index.invariant
    one)

pub returns : goal.returns
returns c =
    subst (Extends c.args.row.now c.loop-index.row)
    (map-taken signed_decimal c.args.numbers.now c.loop-index.index (omega (arith, c.loop-index-test.false, c.len-index-end.ensures))) c.loop-index.invariant
