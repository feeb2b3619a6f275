use Rattle.std.proofs.{Common.Bool, Common.false, Common.length, Common.sym, Common.subst, Math.Path.fun_ext}
use Rattle.rv_diagram.specs.Nodes.{Valuation, value_of}
use Rattle.rv_diagram.proofs.Growing.{extends_refl, extends_trans}
use Rattle.rv_symbolic.proofs.Scheduling.{relation_after}
use Rattle.rv_walk.specs.Walks.{IsWalking}
use Rattle.rv_walk.proofs.Rounds.{fewer_left}
use Rattle.rv_walk.proofs.walking.rounds.Goals as goal

pub loop-more-init : goal.loop-more-init
loop-more-init c = record {
  extends = extends_refl c.args.store.now;
  first = c.mark-first.ensures.is;
  found = c.requires.2;
  walk = λ s is w. w;
}

pub advance-requires : goal.advance-requires
advance-requires c = (
  c.requires.0,
  relation_after c.requires.0 c.args.store.now c.loop-more.store c.args.relation.now c.loop-more.invariant.extends c.requires.1,
  c.loop-more.invariant.found,
  subst (λ (b : Bool). IsWalking c.requires.0 b c.loop-more.walk.sets (value_of c.loop-more.store.nodes c.loop-more.walk.reached) c.loop-more.walk.good)
      c.loop-more-test.true
      (c.loop-more.invariant.walk c.requires.0 c.requires.1 c.requires.3),
)

pub loop-more-preserved : goal.loop-more-preserved
loop-more-preserved c = record {
  extends = c.keep.ensures.extends c.args.store.now c.loop-more.invariant.first
      (extends_trans c.args.store.now c.loop-more.store c.advance.new.store c.loop-more.invariant.extends c.advance.ensures.extends);
  first = c.loop-more.invariant.first;
  found = c.in_ok-kept.ensures.found;
  walk = λ s is w. subst (λ (f : Valuation → Bool). IsWalking s c.in_ok-more.more c.advance.new.walk.sets f c.advance.new.walk.good)
      (sym (fun_ext c.in_ok-kept.ensures.means))
      (c.in_ok-more.ensures.ok s (relation_after s c.args.store.now c.loop-more.store c.args.relation.now c.loop-more.invariant.extends is)
      (subst (λ (b : Bool). IsWalking s b c.loop-more.walk.sets (value_of c.loop-more.store.nodes c.loop-more.walk.reached) c.loop-more.walk.good)
      c.loop-more-test.true
      (c.loop-more.invariant.walk s is w)));
}

pub loop-more-smaller : goal.loop-more-smaller
loop-more-smaller c =
    fewer_left (length c.args.relation.now.parts.next) (value_of c.loop-more.store.nodes c.loop-more.walk.reached)
    (value_of c.advance.new.store.nodes c.advance.new.walk.reached) (value_of c.keep.new.store.nodes c.in_ok-kept.kept.set) (λ x. false)
    c.loop-more.more c.in_ok-more.more c.loop-more-test.true (λ h. c.in_ok-more.ensures.less h (λ x. false)) c.in_ok-more.ensures.still
    (fun_ext c.in_ok-kept.ensures.means)

pub returns-clause-ok : goal.returns-clause-ok
returns-clause-ok c s is w =
    subst (λ (b : Bool). IsWalking s b c.loop-more.walk.sets (value_of c.loop-more.store.nodes c.loop-more.walk.reached) c.loop-more.walk.good)
    c.loop-more-test.false
    (c.loop-more.invariant.walk s is w)
