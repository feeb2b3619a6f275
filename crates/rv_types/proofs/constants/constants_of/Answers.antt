use Rattle.std.proofs.Common.{◌≡◌, List, ◌++◌, ap, sym, ◌∙◌, subst, map, take, drop, reverse}
use Rattle.rv_base.specs.declared.value.Value.{Value}
use Rattle.rv_tree.specs.Tree.{constant_tree, program_tree}
use Rattle.rv_types.specs.Scopes.{constant_kinds_of, constant_values_of, constant_types}
use Rattle.rv_types.specs.{Earliest.first, ValueTables.known_in, ValueTables.AreSmall}
use Rattle.rv_types.proofs.ConstantMeanings.{kinds_more, values_more, faults_more, more_small}
use Rattle.rv_types.proofs.Turned.{one_mapped, all_turned}
use Rattle.rv_types.proofs.constants.constants_of.Goals as goal

pub loop-c-preserved : goal.loop-c-preserved
loop-c-preserved c =
    let p = program_tree c.args.p.now in
    let all = map constant_tree c.as_slice-constants.result.now in
    let before = reverse (take c.loop-c.c-index all) in
    let rest = drop c.loop-c.c-index all in
    let item = constant_tree c.c-item.result in
    let whole : p.constants ≡ reverse before ++ rest = sym (ap (map constant_tree) c.as_slice-constants.ensures) ∙ all_turned all c.loop-c.c-index in
    let t = sym (one_mapped constant_tree c.as_slice-constants.result.now c.loop-c.c-index c.c-item.result c.loop-c-test.true c.c-item.is) in
    let one = c.constant_after-one.ensures in
    let k = kinds_more p _ _ _ _ _ c.requires before rest whole _ c.loop-c.invariant.kinds item _ one.kind in
    let v = values_more p _ _ _ _ _ c.requires before rest whole _ c.loop-c.invariant.values item _ one.value in
    let f = faults_more p _ _ _ _ _ c.requires before rest whole _ c.loop-c.invariant.kinds item _ _ c.loop-c.invariant.fault one.fault in
    record {
      kinds = c.in_ok-add.ensures.kinds ∙ k ∙ ap (constant_kinds_of p) t;
      values = c.in_ok-add.ensures.values ∙ v ∙ ap (constant_values_of p) t;
      fault = c.in_ok-add.ensures.fault ∙ f ∙ ap (λ cs. first (constant_types p cs)) t;
      small = subst (λ (vs : List Value). AreSmall (known_in c.args.globals.now.constants.now vs c.args.globals.now.labels.now c.args.globals.now.places.now))
          (sym c.in_ok-add.ensures.values) (more_small _ _ _ _ _ c.loop-c.invariant.small one.bound);
    }
