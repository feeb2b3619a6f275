use Rattle.std.proofs.Common.{take, subst, arith}
use Rattle.std.specs.Prelude.{flat_map}
use Rattle.rv_invariant.specs.{Pieces.triple_texts, Writes.Extends}
use Rattle.rv_invariant.proofs.Adding.{extends-none, extends-then, flat-more, flat-taken, held-more}
use Rattle.rv_invariant.proofs.lines.add_nodes.Goals as goal

pub loop-index-init : goal.loop-index-init
loop-index-init c = (extends-none c.args.row.now, λ n l. absurd (omega (arith, l)))

pub loop-index-preserved : goal.loop-index-preserved
loop-index-preserved c =
    let i = c.loop-index.index in
    let ts = c.args.nodes.now in
    let t = c.at-node.result.now in
    let inv = c.loop-index.invariant in
    let held = c.in_ok-add_node.ensures.held in (
      subst (Extends c.args.row.now c.add_node.new.row) (flat-more triple_texts ts i t c.at-node.ensures.value)
          (extends-then c.args.row.now c.loop-index.row c.add_node.new.row (flat_map triple_texts (take i ts))
          (triple_texts t) inv.0 c.in_ok-add_node.ensures.fields),
      held-more ts i t c.at-node.ensures.value held.0 held.1 inv.1,
    )

pub returns : goal.returns
returns c =
    let i = c.loop-index.index in
    let ts = c.args.nodes.now in
    let inv = c.loop-index.invariant in
    record {
      fields = subst (Extends c.args.row.now c.loop-index.row) (flat-taken triple_texts ts i (omega (arith, c.loop-index-test.false, c.len-index-end.ensures)))
          inv.0;
      held = λ n l. inv.1 n (omega (arith, l, c.loop-index-test.false, c.len-index-end.ensures));
    }
