use Rattle.std.proofs.Common.{◌≡◌, ℕ, ◌++◌, [], List, map, reverse, get_or, sym, ◌∙◌, ap, subst}
use Rattle.std.proofs.lemmas.Option.{get_or_from_slice_get}
use Rattle.rv_instances.specs.declared.answer.Instance.{Instance}
use Rattle.rv_calls.specs.{declared.calls.Calling.Calling, Listing.called_instance, Listing.IsExpansion}
use Rattle.rv_calls.proofs.Expanding.{expansion_next, expansion_step, ahead_less}
use Rattle.rv_calls.proofs.expansion.expand.Goals as goal

pub at-requires : goal.at-requires
at-requires c = expansion_next c.args.calls.now c.args.root c.loop-instance.found c.loop-instance.waiting c.pop.new.self c.in-Some.instance
    c.loop-instance.invariant c.in-Some.ensures.taken

pub loop-instance-smaller : goal.loop-instance-smaller
loop-instance-smaller c =
    let i = c.in-Some.instance in
    let lt = expansion_next c.args.calls.now c.args.root c.loop-instance.found c.loop-instance.waiting c.pop.new.self i c.loop-instance.invariant
    c.in-Some.ensures.taken in
    let calls = c.as_slice-callees.ensures ∙ sym (get_or_from_slice_get c.args.calls.now i.node c.at.result.now [] c.at.ensures.value) in
    let pushed : c.push_callees.new.waiting ≡ c.pop.new.self ++ reverse (map (called_instance i.path) (get_or c.args.calls.now i.node [])) =
    c.in_ok-push_callees.ensures
    ∙ ap (λ (path : List ℕ). c.pop.new.self ++ reverse (map (called_instance path) c.as_slice-callees.result.now)) c.as_slice.ensures
    ∙ ap (λ (cs : List Calling). c.pop.new.self ++ reverse (map (called_instance i.path) cs)) calls in
    ahead_less c.args.calls.now c.requires.graph c.requires.ordered.0 c.requires.ordered.1 c.loop-instance.waiting c.pop.new.self c.push_callees.new.waiting i
    lt c.in-Some.ensures.taken pushed

pub loop-instance-preserved : goal.loop-instance-preserved
loop-instance-preserved c =
    let i = c.in-Some.instance in
    let calls = c.as_slice-callees.ensures ∙ sym (get_or_from_slice_get c.args.calls.now i.node c.at.result.now [] c.at.ensures.value) in
    let pushed : c.push_callees.new.waiting ≡ c.pop.new.self ++ reverse (map (called_instance i.path) (get_or c.args.calls.now i.node [])) =
    c.in_ok-push_callees.ensures
    ∙ ap (λ (path : List ℕ). c.pop.new.self ++ reverse (map (called_instance path) c.as_slice-callees.result.now)) c.as_slice.ensures
    ∙ ap (λ (cs : List Calling). c.pop.new.self ++ reverse (map (called_instance i.path) cs)) calls in
    subst (λ (l : List Instance). IsExpansion c.args.calls.now c.args.root l c.push_callees.new.waiting) (sym c.in_ok-push-2.ensures.ok)
    (expansion_step c.args.calls.now c.requires.graph c.requires.ordered.0 c.requires.ordered.1 c.args.root c.loop-instance.found c.loop-instance.waiting
    c.pop.new.self c.push_callees.new.waiting i
    c.loop-instance.invariant c.in-Some.ensures.taken pushed)
