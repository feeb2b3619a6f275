use Rattle.std.proofs.Common.{◌≡◌, ◌+◌, false, cond, get_or, sym, ◌∙◌, subst, arith, length}
use Rattle.rv_base.specs.declared.value.Value.TheVariants.{Flag}
use Rattle.rv_agreement.specs.Trees.{Item}
use Rattle.rv_flat.specs.FlatInstants.{is_on_at, found_at, memory_items, nth_item, value_at}
use Rattle.rv_flat.specs.{Filling.IsKept, Inlined.table_of, Tame.IsOver, Tame.IsTame}
use Rattle.rv_flat.proofs.{Inlining.is_table, Inlining.item_at, Taming.memory_over, Taming.memory_tame}
use Rattle.rv_step.proofs.Keeping.{one_kept}
use Rattle.rv_step.proofs.filling.kept_after.Goals as goal

pub current_of-requires-clause-table : goal.current_of-requires-clause-table
current_of-requires-clause-table c = is_table c.args.flat.now.memories c.args.flat.now.ends

pub current_of-requires-clause-ready : goal.current_of-requires-clause-ready
current_of-requires-clause-ready c =
    let f = c.args.flat.now in
    let now = c.args.now.now in
    let inputs = c.args.input.now in
    let row = c.args.row.now in
    let m = c.loop-number.number in
    let here : nth_item (memory_items f) m ≡ table_of f.memories m = item_at f.memories f.ends m in
    record {
      tame = subst (λ (x : Item). IsTame (found_at now inputs) row x.body) here
          (memory_tame f now inputs c.requires.state c.requires.inputs row c.requires.row m (omega arith));
      over = subst (λ (x : Item). IsOver (length row) x.body) here
          (memory_over f now inputs c.requires.state c.requires.inputs row c.requires.row m (omega arith));
    }

pub loop-number-preserved : goal.loop-number-preserved
loop-number-preserved c =
    let f = c.args.flat.now in
    let now = c.args.now.now in
    let inputs = c.args.input.now in
    let row = c.args.row.now in
    let m = c.loop-number.number in
    let here : nth_item (memory_items f) m ≡ table_of f.memories m = item_at f.memories f.ends m in
    record {
      kept = subst (IsKept f now inputs row (m + 1)) (sym c.in_ok-push.ensures.ok)
          (one_kept f now inputs row m c.loop-number.kept c.current_of.result
          (c.current_of.ensures.value
          ∙ (λ i. cond (is_on_at row (sym here i).clock) (value_at now inputs row (sym here i).body) (get_or now.kept m (Flag false))))
          c.loop-number.invariant.kept);
      shown = c.current_of.ensures.shown;
    }
