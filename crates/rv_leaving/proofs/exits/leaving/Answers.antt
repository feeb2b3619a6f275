use Rattle.std.proofs.Common.{sym, subst}
use Rattle.rv_diagram.specs.{Nodes.Diagrams}
use Rattle.rv_proofs.specs.{Cases.IsImage}
use Rattle.rv_symbolic.specs.Represented.{IsRelationOf}
use Rattle.rv_symbolic.proofs.Extending.{map_ok}
use Rattle.rv_leaving.specs.Exits.{AreLeft}
use Rattle.rv_leaving.proofs.Away.{away_case, left_made}
use Rattle.rv_leaving.proofs.exits.leaving.Goals as goal

pub image-requires : goal.image-requires
image-requires c =
    let (s, is, control, are) = c.requires in (
      s,
      subst (λ (d : Diagrams). IsRelationOf s d c.args.relation.now) (sym c.outside.ensures.same) is,
      control,
      away_case s c.args.store.now c.args.from.now c.args.taken are _ (c.in_ok-condition.ensures.outside s is control are),
    )

pub returns-clause-left : goal.returns-clause-left
returns-clause-left c s is control are =
    let outside = c.in_ok-condition.ensures.outside s is control are in
    map_ok c.image.result (IsImage s c.args.from.now _) (AreLeft s c.args.store.now.nodes c.args.from.now c.args.taken)
    (λ set image. left_made s c.args.store.now c.args.from.now c.args.taken are _ outside set image)
    (c.image.ensures.exact s (subst (λ (d : Diagrams). IsRelationOf s d c.args.relation.now) (sym c.outside.ensures.same) is) control
    (away_case s c.args.store.now c.args.from.now c.args.taken are _ outside))
