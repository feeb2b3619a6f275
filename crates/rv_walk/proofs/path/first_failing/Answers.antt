use Rattle.std.proofs.Common.{◌∙◌, ◌<◌, Bool, List, Option, Some, None, length, subst, sym, arith, below_more}
use Rattle.rv_diagram.specs.{Nodes.Diagrams, Nodes.Valuation, declared.frozen.Frozen.Frozen}
use Rattle.rv_proofs.specs.Ranges.{IsControlSet}
use Rattle.rv_symbolic.specs.{Represented.IsRelationOf, Words.IsLeastOf, Words.IsLeastWord, Words.IsFalseIn}
use Rattle.rv_walk.specs.Trails.{layer_at}
use Rattle.rv_walk.proofs.Trailing.{layer_control}
use Rattle.rv_walk.proofs.path.first_failing.Goals as goal

pub returns-in-Some-clause-exact : goal.returns-in-Some-clause-exact
returns-in-Some-clause-exact c s is are =
    let low : c.loop-layer.layer < length c.args.layers.now.sets = omega (arith, c.loop-layer-test.true, c.len-layer-end.ensures) in
    let control : IsControlSet s c.layer_at.result.now = subst (IsControlSet s) (sym c.layer_at.ensures)
    (layer_control s c.args.first.now c.args.layers.now.sets c.loop-layer.layer are low) in
    let least : IsLeastOf s (IsFalseIn s c.layer_at.result.now) (Some c.in-Some.word) =
    subst (λ (o : Option (List Bool)). IsLeastOf s (IsFalseIn s c.layer_at.result.now) o) c.in-Some.is
    (c.in_ok-found.ensures.exact s (subst (λ (d : Diagrams). IsRelationOf s d c.args.relation.now) (sym c.loop-layer.invariant.same) is) control) in
    record {
      low = low;
      least = subst (λ (f : Frozen). IsLeastWord s (IsFalseIn s f) c.in-Some.word) c.layer_at.ensures least;
      before = c.loop-layer.invariant.before s is are;
    }

pub loop-layer-preserved : goal.loop-layer-preserved
loop-layer-preserved c = record {
  same = c.false_observer.ensures.same ∙ c.loop-layer.invariant.same;
  before = λ s is are.
      let low : c.loop-layer.layer < length c.args.layers.now.sets = omega (arith, c.loop-layer-test.true, c.len-layer-end.ensures) in
      let control : IsControlSet s c.layer_at.result.now = subst (IsControlSet s) (sym c.layer_at.ensures)
      (layer_control s c.args.first.now c.args.layers.now.sets c.loop-layer.layer are low) in
      let none : IsLeastOf s (IsFalseIn s c.layer_at.result.now) None =
      subst (λ (o : Option (List Bool)). IsLeastOf s (IsFalseIn s c.layer_at.result.now) o) c.in_default.is
      (c.in_ok-found.ensures.exact s (subst (λ (d : Diagrams). IsRelationOf s d c.args.relation.now) (sym c.loop-layer.invariant.same) is) control) in
      below_more (λ t. (v : Valuation) → ¬ IsFalseIn s (layer_at c.args.first.now c.args.layers.now.sets t) v) c.loop-layer.layer
      (c.loop-layer.invariant.before s is are)
      (subst (λ (f : Frozen). (v : Valuation) → ¬ IsFalseIn s f v) c.layer_at.ensures none);
}
