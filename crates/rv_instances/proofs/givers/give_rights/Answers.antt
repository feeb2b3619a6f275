use Rattle.std.proofs.Common.{◌≡◌, ℕ, ◌<◌, [], inl, inr, map, length, get_or, sym, ◌∙◌, ap, subst, arith}
use Rattle.std.proofs.{lemmas.Bool.cases_eq, lemmas.List.get_or_default}
use Rattle.rv_tree.specs.{declared.tree.Equation.Equation, Tree.NodeTree, Tree.equation_tree}
use Rattle.rv_types.specs.Names.{texts}
use Rattle.rv_instances.specs.{Expanded.program_of, Giving.IsGiven, Giving.IsGiving, Giving.number_at, Layouts.node_at}
use Rattle.rv_instances.proofs.GivenFlows.{right_listed}
use Rattle.rv_instances.proofs.givers.give_rights.Goals as goal

pub loop-equation-preserved : goal.loop-equation-preserved
loop-equation-preserved c =
    let x = c.args.expanded.now in
    let items = c.as_slice-equation-items.result.now in
    let index = c.loop-equation.equation-index in
    record {
      given = c.give_equation.ensures.given;
      kept = λ k g. c.give_equation.ensures.kept k (c.loop-equation.invariant.kept k g);
      lefts = λ k j q lt within giving. elim (cases_eq k index) [
        | inl last ↦
            let item : c.equation-item.result ≡ get_or items k q =
            c.equation-item.is ∙ sym (get_or_default items index q c.equation-item.result c.loop-equation-test.true) ∙ ap (λ n. get_or items n q) (sym last) in
            subst (λ (e : Equation). (j : ℕ) → j < length e.lefts → IsGiving (equation_tree e)
            → IsGiven c.give_equation.new.found (number_at (program_of x) x.instances.now c.args.instance (get_or (texts e.lefts) j []))) item
            c.give_equation.ensures.lefts j within giving
        | inr other ↦ c.give_equation.ensures.kept _ (c.loop-equation.invariant.lefts k j q (omega (arith, lt, other)) within giving)
      ];
    }

pub returns-clause-rights : goal.returns-clause-rights
returns-clause-rights c y r right =
    let x = c.args.expanded.now in
    let items = c.as_slice-equation-items.result.now in
    let n = node_at (program_of x) x.instances.now c.args.instance in
    let are = ap (map equation_tree) c.as_slice-equation-items.ensures ∙ ap (λ (k : NodeTree). k.equations) c.clocks.ensures in
    let v = right_listed n items are y r right in
    subst (λ z. IsGiven c.loop-equation.found (number_at (program_of x) x.instances.now c.args.instance z)) v.6
    (c.loop-equation.invariant.lefts v.0 v.1 v.2 (omega (arith, v.3, c.loop-equation-test.false)) v.4 v.5)
