use Rattle.std.proofs.Common.{map, drop, ap, ◌∙◌, add-one, ◌+◌, arith}
use Rattle.rv_tree.specs.Tree.{tree_of, trees}
use Rattle.rv_types.specs.{Types.kinds_of_all, Types.kind_of, Tables.scope_of}
use Rattle.rv_types.proofs.{Joined.first_append, Joined.sooner_assoc, Fitting.typed_more, Fitting.fit_more, Fitting.fit_end, Fitting.nothing_left}
use Rattle.rv_base.proofs.{Lists.next_of, Truths.and_assoc}
use Rattle.rv_types.proofs.typing.+judge.Goals as goal

pub judge_all-loop-e-preserved : goal.judge_all-loop-e-preserved
judge_all-loop-e-preserved t c =
    let d = next_of c.args.es.now c.loop-e.e-index c.e-item.result c.loop-e-test.true c.e-item.is in
    let v = rw d at c.loop-e.invariant in
    let rest = trees (map tree_of (drop (c.loop-e.e-index + 1) c.args.es.now)) in
    let s = scope_of c.args.view.now in
    let more = typed_more (kind_of s (tree_of c.e-item.result)) (kinds_of_all s rest) in
    let suited = fit_more c.args.wanted.now c.loop-e.found.count (kind_of s (tree_of c.e-item.result)) (kinds_of_all s rest) in
    record {
      count = omega arith;
      typed = rw (c.one_more-found.ensures.typed, and_assoc, c.judge-one.ensures.verdict) (rw more at v.typed);
      boolean = rw (c.one_more-found.ensures.boolean, and_assoc, c.judge-one.ensures.verdict) v.boolean;
      constant = rw (c.one_more-found.ensures.constant, and_assoc, c.judge-one.ensures.constant) v.constant;
      fit = rw (c.one_more-found.ensures.fit, c.one_more-found.ensures.count, and_assoc, c.judge-one.ensures.verdict, add-one) (rw suited at v.fit);
      fault = rw (c.one_more-found.ensures.fault, sooner_assoc, c.judge-one.ensures.fault, ← first_append) v.fault;
    }

pub judge_all-returns-clause-fit : goal.judge_all-returns-clause-fit
judge_all-returns-clause-fit t c =
    let e = nothing_left c.args.es.now c.loop-e.e-index c.loop-e-test.false in
    let v = rw (e, fit_end) at c.loop-e.invariant.fit in
    ap (λ r. r.fit) c.whole.ensures ∙ v
