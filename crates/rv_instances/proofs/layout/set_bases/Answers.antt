use Rattle.std.proofs.Common.{◌≡◌, ◌++◌, ◌∷◌, [], inl, inr, length, get_or, set, sym, ◌∙◌, ap, subst, arith, unwrap_or, None as Nothing}
use Rattle.std.proofs.{lemmas.List.length-set, lemmas.List.get_or_default, lemmas.Bool.cases_eq, lemmas.Option.get_or_from_slice_get}
use Rattle.rv_types.specs.Instances.{clock_of_args}
use Rattle.rv_instances.specs.Expanded.{program_of, main_of}
use Rattle.rv_instances.specs.Layouts.{path_at, flows_before, number_of, IsWithin, IsClockPlaced, callee_or_main, all_places}
use Rattle.rv_instances.specs.{declared.timed.ClockedCall.ClockedCall, Callees.callee_in, Expanded.IsCallOf, Flowing.flow_count}
use Rattle.rv_instances.proofs.BaseClocks.{clock_within, callee_number, base_set, call_at}
use Rattle.rv_instances.proofs.CallsHere.{call_of, listed_of, first_read}
use Rattle.rv_instances.proofs.{ArgumentClocks.arguments_clock_known, ExpandedLaws.node_in, ExpandedLaws.instance_at, LaidFlows.laid_size, ToldCalls.element}
use Rattle.rv_instances.proofs.layout.set_bases.Goals as goal

pub at-requires : goal.at-requires
at-requires c =
    let x = c.args.expanded.now in
    let size = ap length c.requires.laid ∙ laid_size (program_of x) x.instances.now (length x.instances.now) in
    omega (arith, size, c.requires.instance)

pub number_of_clock-requires : goal.number_of_clock-requires
number_of_clock-requires c =
    let x = c.args.expanded.now in let p = program_of x in let main = main_of x in
    let known = c.requires.known.expanded in let m = c.args.instance in
    let here : IsCallOf p main x.instances.now m c.call-item.result =
    call_of p main x.instances.now known m c.requires.instance c.calls-call-items.result.now c.calls-call-items.ensures c.loop-call.call-index
    c.call-item.result c.loop-call-test.true c.call-item.is in
    let first = first_read p x.instances.now c.args.laid.now m c.at.result.now c.requires.instance c.requires.laid c.at.ensures.value in
    subst (λ k. IsWithin k c.call-item.result.clock) (sym first)
    (subst (IsWithin (flows_before (flow_count p x.instances.now) m)) (sym here.clock)
    (clock_within p main x.instances.now known m here.i (clock_of_args here.i.node here.call.args) c.requires.instance here.is here.at
    (arguments_clock_known p known.named here.i.node (node_in p main x.instances.now known here.i here.is) here.call here.there)))

pub set-requires : goal.set-requires
set-requires c =
    let x = c.args.expanded.now in let p = program_of x in let main = main_of x in
    let known = c.requires.known.expanded in let m = c.args.instance in
    let here : IsCallOf p main x.instances.now m c.call-item.result =
    call_of p main x.instances.now known m c.requires.instance c.calls-call-items.result.now c.calls-call-items.ensures c.loop-call.call-index
    c.call-item.result c.loop-call-test.true c.call-item.is in
    let to = (callee_number p main x.instances.now known c.args.callees.now c.requires.callees m here.i here.call c.requires.instance here.is here.at
    here.there).0 in
    let at = c.unwrap_or-callee.ensures ∙ ap (λ o. unwrap_or o 0) (c.callee.ensures ∙ ap (callee_in c.args.callees.now m) here.site) in
    omega (arith, to, at, c.loop-call.invariant.size)

pub loop-call-preserved : goal.loop-call-preserved
loop-call-preserved c =
    let x = c.args.expanded.now in let p = program_of x in let main = main_of x in
    let known = c.requires.known.expanded in let m = c.args.instance in let b = c.at-base.result.now in
    let here : IsCallOf p main x.instances.now m c.call-item.result =
    call_of p main x.instances.now known m c.requires.instance c.calls-call-items.result.now c.calls-call-items.ensures c.loop-call.call-index
    c.call-item.result c.loop-call-test.true c.call-item.is in
    let at = c.unwrap_or-callee.ensures ∙ ap (λ o. unwrap_or o 0) (c.callee.ensures ∙ ap (callee_in c.args.callees.now m) here.site) in
    let first = first_read p x.instances.now c.args.laid.now m c.at.result.now c.requires.instance c.requires.laid c.at.ensures.value in
    let value : c.number_of_clock.result ≡ number_of (flows_before (flow_count p x.instances.now) m) b (clock_of_args here.i.node here.call.args) =
    c.number_of_clock.ensures ∙ (λ t. number_of (first t) b (here.clock t)) in
    let new : c.set.new.self ≡ set c.loop-call.bases (callee_or_main c.args.callees.now m here.call.site)
    (number_of (flows_before (flow_count p x.instances.now) m) b (clock_of_args here.i.node here.call.args)) =
    c.set.ensures ∙ (λ t. set c.loop-call.bases (at t) (value t)) in
    let own : IsClockPlaced (all_places p x.instances.now) b here.i.base =
    subst (λ o. IsClockPlaced (all_places p x.instances.now) o here.i.base) (get_or_from_slice_get c.args.bases.now m b Nothing c.at-base.ensures.value)
    (c.requires.base here.i here.is here.at) in
    let one = base_set p main x.instances.now known c.args.callees.now c.requires.callees m here.i b c.requires.instance here.is here.at own c.loop-call.bases
    c.set.new.self here.call in
    record {
      size = ap length new ∙ length-set c.loop-call.bases (callee_or_main c.args.callees.now m here.call.site)
          (number_of (flows_before (flow_count p x.instances.now) m) b (clock_of_args here.i.node here.call.args)) ∙ c.loop-call.invariant.size;
      kept = λ k before. one k c.loop-call.invariant.size here.there new (inr (c.loop-call.invariant.kept k before));
      done = λ j k y less lt e. elim (cases_eq j c.loop-call.call-index) [
        | inl last ↦
            let item : get_or c.calls-call-items.result.now j y ≡ c.call-item.result =
            ap (λ q. get_or c.calls-call-items.result.now q y) last
            ∙ get_or_default c.calls-call-items.result.now c.loop-call.call-index y c.call-item.result c.loop-call-test.true ∙ sym c.call-item.is in
            let site : (get_or c.calls-call-items.result.now j y).site ≡ here.call.site = ap (λ (z : ClockedCall). z.site) item ∙ here.site in
            let found = c.requires.callees.found m here.call.site k c.requires.instance lt (e ∙ ap (λ s. path_at x.instances.now m ++ s ∷ []) site) in
            one k c.loop-call.invariant.size here.there new (inl (sym (ap (λ o. unwrap_or o 0) found)))
        | inr other ↦ one k c.loop-call.invariant.size here.there new (inr (c.loop-call.invariant.done j k y (omega (arith, less, other)) lt e))
      ];
    }

pub returns-clause-set : goal.returns-clause-set
returns-clause-set c k s lt e =
    let x = c.args.expanded.now in let p = program_of x in let main = main_of x in
    let known = c.requires.known.expanded in let m = c.args.instance in
    let v = instance_at p main x.instances.now known m c.requires.instance in
    let call = call_at p main x.instances.now known m v.0 v.1 v.2 k s lt e in
    let at = listed_of p main x.instances.now known m c.requires.instance c.calls-call-items.result.now c.calls-call-items.ensures v.0 call.0 v.1 v.2 call.1 in
    let none = element c.calls-call-items.result.now at.0 at.1 in
    c.loop-call.invariant.done at.0 k none (omega (arith, at.1)) lt (e ∙ ap (λ s. path_at x.instances.now m ++ s ∷ []) (sym (at.2 none ∙ call.2)))
