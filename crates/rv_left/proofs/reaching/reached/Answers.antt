use Rattle.std.proofs.Common.{◌∙◌, Bool, false, length, refl, sym, subst}
use Rattle.rv_diagram.specs.Nodes.{Diagrams}
use Rattle.rv_symbolic.specs.Represented.{IsRelationOf}
use Rattle.rv_walk.specs.Ends.{has}
use Rattle.rv_walk.proofs.Rounds.{fewer_left}
use Rattle.rv_left.specs.Fronts.{IsReaching}
use Rattle.rv_left.proofs.reaching.reached.Goals as goal

pub loop-more-init : goal.loop-more-init
loop-more-init c = record { same = refl; front = c.in_ok-front.ensures }

pub advance-requires : goal.advance-requires
advance-requires c = (
  c.requires.0,
  subst (λ (d : Diagrams). IsRelationOf c.requires.0 d c.args.relation.now) (sym c.loop-more.invariant.same) c.requires.1,
  subst (λ (b : Bool). IsReaching c.requires.0 b c.loop-more.front.fresh c.loop-more.front.all) c.loop-more-test.true
      (c.loop-more.invariant.front c.requires.0 c.requires.1),
)

pub loop-more-preserved : goal.loop-more-preserved
loop-more-preserved c = record {
  same = c.advance.ensures.same ∙ c.loop-more.invariant.same;
  front = λ s is. c.in_ok-more.ensures.ok s
      (subst (λ (d : Diagrams). IsRelationOf s d c.args.relation.now) (sym c.loop-more.invariant.same) is)
      (subst (λ (b : Bool). IsReaching s b c.loop-more.front.fresh c.loop-more.front.all) c.loop-more-test.true
      (c.loop-more.invariant.front s is));
}

pub loop-more-smaller : goal.loop-more-smaller
loop-more-smaller c =
    fewer_left (length c.args.relation.now.parts.next) (has c.loop-more.front.all) (has c.advance.new.front.all) (has c.advance.new.front.all)
    (λ x. false) c.loop-more.more c.in_ok-more.more c.loop-more-test.true (λ h. c.in_ok-more.ensures.less h (λ x. false))
    c.in_ok-more.ensures.still refl

pub returns-clause-closed : goal.returns-clause-closed
returns-clause-closed c s is =
    subst (λ (b : Bool). IsReaching s b c.loop-more.front.fresh c.loop-more.front.all) c.loop-more-test.false (c.loop-more.invariant.front s is)
