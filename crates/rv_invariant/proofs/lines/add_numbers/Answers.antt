use Rattle.std.proofs.Common.{◌∷◌, [], map, take, subst, arith}
use Rattle.std.specs.Prelude.{decimal}
use Rattle.rv_invariant.specs.Writes.{Extends}
use Rattle.rv_invariant.proofs.Adding.{extends-none, extends-then, map-more, map-taken}
use Rattle.rv_invariant.proofs.lines.add_numbers.Goals as goal

pub loop-index-init : goal.loop-index-init
loop-index-init c = extends-none c.args.row.now

pub loop-index-preserved : goal.loop-index-preserved
loop-index-preserved c =
    let i = c.loop-index.index in
    let ns = c.args.numbers.now in
    let n = c.at.result.now in
    subst (Extends c.args.row.now c.add_number.new.row) (map-more decimal ns i n c.at.ensures.value)
    (extends-then c.args.row.now c.loop-index.row c.add_number.new.row (map decimal (take i ns)) (decimal n ∷ []) c.loop-index.invariant
    c.in_ok-add_number.ensures)

pub returns : goal.returns
returns c =
    subst (Extends c.args.row.now c.loop-index.row)
    (map-taken decimal c.args.numbers.now c.loop-index.index (omega (arith, c.loop-index-test.false, c.len-index-end.ensures))) c.loop-index.invariant
