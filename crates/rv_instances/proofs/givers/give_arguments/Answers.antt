use Rattle.std.proofs.Common.{ℕ, ◌+◌, ◌<◌, inl, inr, length, get_or, sym, ◌∙◌, ap, subst, arith}
use Rattle.std.proofs.{lemmas.Bool.cases_eq, lemmas.List.get_or_default}
use Rattle.rv_tree.specs.Tree.{Trees}
use Rattle.rv_types.specs.Instances.{IsArgument}
use Rattle.rv_instances.specs.Expanded.{ToldCall, program_of, main_of}
use Rattle.rv_instances.specs.{declared.timed.ClockedCall.ClockedCall, Giving.IsGiven, Giving.first_of, Layouts.callee_or_main, Layouts.node_at}
use Rattle.rv_instances.proofs.{CallsHere.call_of, GivenFlows.argument_there, ToldCalls.element, ToldCalls.listed_call}
use Rattle.rv_instances.proofs.givers.give_arguments.Goals as goal

pub give_call-requires-clause-call : goal.give_call-requires-clause-call
give_call-requires-clause-call c =
    let x = c.args.expanded.now in
    call_of (program_of x) (main_of x) x.instances.now c.requires.known.expanded c.args.instance c.requires.within c.calls-call-items.result.now
    c.calls-call-items.ensures
    c.loop-call.call-index c.call-item.result c.loop-call-test.true c.call-item.is

pub loop-call-preserved : goal.loop-call-preserved
loop-call-preserved c =
    let x = c.args.expanded.now in let items = c.calls-call-items.result.now in
    let index = c.loop-call.call-index in
    record {
      given = c.give_call.ensures.given;
      kept = λ k g. c.give_call.ensures.kept k (c.loop-call.invariant.kept k g);
      arguments = λ k j y lt within. elim (cases_eq k index) [
        | inl last ↦
            let item = c.call-item.is ∙ sym (get_or_default items index y c.call-item.result c.loop-call-test.true) ∙ ap (λ n. get_or items n y) (sym last) in
            subst (λ (z : ClockedCall). (j : ℕ) → j < length z.arguments.now
            → IsGiven c.give_call.new.found (first_of (program_of x) x.instances.now (callee_or_main c.args.layout.now.callees c.args.instance z.site) + j))
            item
            c.give_call.ensures.arguments j within
        | inr other ↦ c.give_call.ensures.kept _ (c.loop-call.invariant.arguments k j y (omega (arith, lt, other)) within)
      ];
    }

pub returns-clause-arguments : goal.returns-clause-arguments
returns-clause-arguments c d j e w arg =
    let x = c.args.expanded.now in let items = c.calls-call-items.result.now in
    let v = listed_call (node_at (program_of x) x.instances.now c.args.instance) items c.calls-call-items.ensures d w in
    let y = element items v.0 v.1 in let told = v.2 y in
    let within = argument_there (get_or items v.0 y).arguments.now j e
    (subst (λ (es : Trees). IsArgument es j e) (sym (ap (λ (t : ToldCall). t.arguments) told)) arg) in
    subst (λ s. IsGiven c.loop-call.found (first_of (program_of x) x.instances.now (callee_or_main c.args.layout.now.callees c.args.instance s) + j))
    (ap (λ (t : ToldCall). t.site) told) (c.loop-call.invariant.arguments v.0 j y (omega (arith, v.1, c.loop-call-test.false)) within)
