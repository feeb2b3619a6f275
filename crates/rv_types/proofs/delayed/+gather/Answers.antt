use Rattle.std.proofs.Common.{List, map, drop, ap, ◌∙◌, add-one, ◌+◌, ◌++◌, arith}
use Rattle.std.proofs.lemmas.List.{append_assoc}
use Rattle.rv_tree.specs.Tree.{tree_of, trees}
use Rattle.rv_types.specs.{declared.typed.Kind.Kind, Delayed.delayed_in, Delayed.delayed_in_all, Types.kinds_of_all, Types.kind_of, Tables.scope_of}
use Rattle.rv_types.proofs.Fitting.{typed_more, fit_more, fit_end, nothing_left}
use Rattle.rv_base.proofs.{Lists.next_of, Truths.and_assoc}
use Rattle.rv_types.proofs.delayed.+gather.Goals as goal

pub gather_all-loop-e-preserved : goal.gather_all-loop-e-preserved
gather_all-loop-e-preserved t c =
    let d = next_of c.args.es.now c.loop-e.e-index c.e-item.result c.loop-e-test.true c.e-item.is in
    let v = rw d at c.loop-e.invariant in
    let rest = trees (map tree_of (drop (c.loop-e.e-index + 1) c.args.es.now)) in
    let s = scope_of c.args.view.now in
    let more = typed_more (kind_of s (tree_of c.e-item.result)) (kinds_of_all s rest) in
    let suited = fit_more c.args.wanted.now c.loop-e.together.count (kind_of s (tree_of c.e-item.result)) (kinds_of_all s rest) in
    record {
      count = omega arith;
      typed = rw (c.one_more-together.ensures.typed, and_assoc, c.judged.ensures.verdict, c.in_ok-gather.ensures.kind) (rw more at v.typed);
      boolean = rw (c.one_more-together.ensures.boolean, and_assoc, c.judged.ensures.verdict, c.in_ok-gather.ensures.kind) v.boolean;
      constant = rw (c.one_more-together.ensures.constant, and_assoc, c.judged.ensures.constant, c.in_ok-gather.ensures.constant) v.constant;
      fit = rw (c.one_more-together.ensures.fit, c.one_more-together.ensures.count, and_assoc, c.judged.ensures.verdict, c.in_ok-gather.ensures.kind, add-one)
          (rw suited at v.fit);
      found =
          ap (λ (l : List Kind). l ++ delayed_in_all s rest) c.in_ok-gather.ensures.found
          ∙ append_assoc c.loop-e.found (delayed_in s (tree_of c.e-item.result)) (delayed_in_all s rest) ∙ v.found;
    }

pub gather_all-returns-clause-fit : goal.gather_all-returns-clause-fit
gather_all-returns-clause-fit t c =
    let e = nothing_left c.args.es.now c.loop-e.e-index c.loop-e-test.false in
    let v = rw (e, fit_end) at c.loop-e.invariant.fit in
    ap (λ r. r.fit) c.whole.ensures ∙ v
