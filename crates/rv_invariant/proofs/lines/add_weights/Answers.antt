use Rattle.std.proofs.Common.{take, subst, arith}
use Rattle.std.specs.Prelude.{flat_map}
use Rattle.rv_invariant.specs.{Pieces.weight_texts, Writes.Extends}
use Rattle.rv_invariant.proofs.Adding.{extends-none, extends-then, flat-more, flat-taken}
use Rattle.rv_invariant.proofs.lines.add_weights.Goals as goal

pub loop-index-init : goal.loop-index-init
loop-index-init c = extends-none c.args.row.now

pub loop-index-preserved : goal.loop-index-preserved
loop-index-preserved c =
    let i = c.loop-index.index in
    let ws = c.args.weights.now in
    let w = c.at-weight.result.now in
    subst (Extends c.args.row.now c.add_weight.new.row) (flat-more weight_texts ws i w c.at-weight.ensures.value)
    (extends-then c.args.row.now c.loop-index.row c.add_weight.new.row (flat_map weight_texts (take i ws)) (weight_texts w) c.loop-index.invariant
    c.in_ok-add_weight.ensures)

pub returns : goal.returns
returns c =
    subst (Extends c.args.row.now c.loop-index.row)
    (flat-taken weight_texts c.args.weights.now c.loop-index.index (omega (arith, c.loop-index-test.false, c.len-index-end.ensures))) c.loop-index.invariant
