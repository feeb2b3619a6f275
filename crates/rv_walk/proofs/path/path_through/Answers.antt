use Rattle.std.proofs.Common.{Bool, List, Option, Some, None, subst, sym, inr}
use Rattle.rv_diagram.specs.Nodes.{Diagrams}
use Rattle.rv_symbolic.specs.Represented.{IsRelationOf}
use Rattle.rv_walk.specs.{declared.path.Failing.Failing, Trails.IsFailing, Trails.IsFirstFailing, Trails.IsTrailed}
use Rattle.rv_walk.proofs.path.path_through.Goals as goal

pub trail-requires : goal.trail-requires
trail-requires c = (
  c.requires.0,
  subst (λ (d : Diagrams). IsRelationOf c.requires.0 d c.args.relation.now) (sym c.first_failing.ensures.same) c.requires.1,
  c.requires.2,
  subst (λ (o : Option Failing). IsFirstFailing c.requires.0 c.args.first.now c.args.layers.now.sets o) c.in-Some.is
      (c.in_ok-found.ensures.exact c.requires.0 c.requires.1 c.requires.2),
)

pub returns-in-Some-2-clause-through : goal.returns-in-Some-2-clause-through
returns-in-Some-2-clause-through c s is are =
    let failing : IsFailing s c.args.first.now c.args.layers.now.sets c.in-Some.failing.layer c.in-Some.failing.word =
    subst (λ (o : Option Failing). IsFirstFailing s c.args.first.now c.args.layers.now.sets o) c.in-Some.is (c.in_ok-found.ensures.exact s is are) in
    let trailed : IsTrailed s c.args.first.now c.args.layers.now.sets c.in-Some.failing.layer (Some c.in-Some-2.words) =
    subst (λ (o : Option (List (List Bool))). IsTrailed s c.args.first.now c.args.layers.now.sets c.in-Some.failing.layer o) c.in-Some-2.is
    (c.in_ok-words.ensures.trailed s (subst (λ (d : Diagrams). IsRelationOf s d c.args.relation.now) (sym c.first_failing.ensures.same) is) are failing) in
    record {
      last = c.in-Some.failing.layer;
      word = c.in-Some.failing.word;
      failing = failing;
      back = c.in-Some-2.words;
      trail = trailed.0;
      count = trailed.1;
      turned = c.turned.ensures;
    }

pub returns-in-None-clause-through : goal.returns-in-None-clause-through
returns-in-None-clause-through c s is are =
    let failing : IsFailing s c.args.first.now c.args.layers.now.sets c.in-Some.failing.layer c.in-Some.failing.word =
    subst (λ (o : Option Failing). IsFirstFailing s c.args.first.now c.args.layers.now.sets o) c.in-Some.is (c.in_ok-found.ensures.exact s is are) in
    let broken : IsTrailed s c.args.first.now c.args.layers.now.sets c.in-Some.failing.layer None =
    subst (λ (o : Option (List (List Bool))). IsTrailed s c.args.first.now c.args.layers.now.sets c.in-Some.failing.layer o) c.in-None.is
    (c.in_ok-words.ensures.trailed s (subst (λ (d : Diagrams). IsRelationOf s d c.args.relation.now) (sym c.first_failing.ensures.same) is) are failing) in
    inr broken
