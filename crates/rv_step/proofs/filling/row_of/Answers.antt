use Rattle.std.proofs.Common.{◌≡◌, ◌+◌, ap, sym, ◌∙◌, subst, arith, length}
use Rattle.rv_agreement.specs.Trees.{Item, no_item}
use Rattle.rv_flat.specs.FlatInstants.{flow_items, found_at, nth_item}
use Rattle.rv_flat.specs.{Filling.AreShown, Filling.IsFilled, Systems.flow_item, Tame.IsOver, Tame.IsTame}
use Rattle.rv_flat.proofs.{Inlining.is_table, OneRow.item_value, OneRow.one_filled, Taming.flow_over, Taming.flow_tame}
use Rattle.rv_step.proofs.{Reading.read_at, Shown.shown_more}
use Rattle.rv_step.proofs.filling.row_of.Goals as goal

pub flow_value-value-requires-clause-table : goal.flow_value-value-requires-clause-table
flow_value-value-requires-clause-table c = is_table c.args.flat.now.memories c.args.flat.now.ends

pub flow_value-value-requires-clause-ready : goal.flow_value-value-requires-clause-ready
flow_value-value-requires-clause-ready c =
    let f = c.args.flat.now in
    let now = c.args.now.now in
    let inputs = c.args.input.now in
    let row = c.loop-flow.row in
    let n = c.loop-flow.flow-index in
    let items = c.as_slice-flow-items.result.now in
    let long = ap length c.as_slice-flow-items.ensures in
    let here : nth_item (flow_items f) n ≡ flow_item f.memories c.flow-item.result =
    read_at (flow_item f.memories) f.flows items n c.flow-item.result no_item c.as_slice-flow-items.ensures c.loop-flow-test.true c.flow-item.is in
    record {
      tame = subst (λ (x : Item). IsTame (found_at now inputs) row x.body) here
          (flow_tame f now inputs c.requires.state c.requires.inputs n row (omega (arith, long)) c.loop-flow.invariant.filled (omega (arith, long)));
      over = subst (λ (x : Item). IsOver (length row) x.body) here (flow_over f now inputs c.requires.state c.requires.inputs n row
          (omega (arith, long)) c.loop-flow.invariant.filled (omega (arith, long)));
    }

pub loop-flow-preserved : goal.loop-flow-preserved
loop-flow-preserved c =
    let f = c.args.flat.now in
    let now = c.args.now.now in
    let inputs = c.args.input.now in
    let row = c.loop-flow.row in
    let n = c.loop-flow.flow-index in
    let items = c.as_slice-flow-items.result.now in
    let long = ap length c.as_slice-flow-items.ensures in
    let here : nth_item (flow_items f) n ≡ flow_item f.memories c.flow-item.result =
    read_at (flow_item f.memories) f.flows items n c.flow-item.result no_item c.as_slice-flow-items.ensures c.loop-flow-test.true c.flow-item.is in
    record {
      filled = subst (IsFilled f now inputs (n + 1)) (sym c.in_ok-push.ensures.ok)
          (one_filled f now inputs n row c.flow_value-value.result (omega (arith, long))
          (c.flow_value-value.ensures.value ∙ ap (item_value now inputs row) (sym here)) c.loop-flow.invariant.filled);
      shown = subst (λ r. AreShown f.memories (found_at now inputs) r c.flow_value-value.new.shown) (sym c.in_ok-push.ensures.ok)
          (shown_more f.memories (found_at now inputs) row c.flow_value-value.result c.flow_value-value.new.shown c.flow_value-value.ensures.shown);
    }
