use Rattle.std.proofs.Common.{◌≡◌, ◌+◌, ◌∙◌, ℕ, List, length, refl, sym, ap, subst, arith}
use Rattle.rv_diagram.specs.{Nodes.Diagrams, Nodes.Valuation, Nodes.IsRef, Nodes.value_of, Several.ref_at, declared.frozen.Frozen.Frozen}
use Rattle.rv_proofs.specs.{Ranges.IsControlSet, declared.certificate.Location.Location}
use Rattle.rv_symbolic.specs.{Represented.IsRelationOf, Linked.AreRefs}
use Rattle.rv_split.specs.Partitions.{part_at}
use Rattle.rv_walk.specs.Ends.{has}
use Rattle.rv_left.specs.Entries.{AreThawnSets, IsLocationOf, AreLocations}
use Rattle.rv_left.proofs.{Bridging.part_read, Aiming.thawn_refs, Aiming.locations_none, Aiming.locations_more}
use Rattle.rv_left.proofs.locating.locations.Goals as goal

pub loop-k-init : goal.loop-k-init
loop-k-init c = record {
  same = refl;
  located = λ s is thawn. locations_none s c.args.sets.now c.new-locations.result c.new-locations.ensures;
}

pub location-requires-clause-few : goal.location-requires-clause-few
location-requires-clause-few c = omega (arith, c.requires.given.2.thawn.size, c.requires.few)

pub location-requires-clause-part : goal.location-requires-clause-part
location-requires-clause-part c =
    let read : part_at c.args.sets.now c.loop-k.k ≡ c.index-sets-k.result =
    part_read c.args.sets.now c.loop-k.k c.index-sets-k.result c.loop-k-test.true c.index-sets-k.is in (
      c.requires.given.0,
      subst (λ (d : Diagrams). IsRelationOf c.requires.given.0 d c.args.relation.now) (sym c.loop-k.invariant.same) c.requires.given.1,
      subst (IsControlSet c.requires.given.0) read (c.requires.given.2.sets_control c.loop-k.k c.loop-k-test.true),
      subst (λ (d : Diagrams). IsRef d.nodes (ref_at c.args.refs.now c.loop-k.k)) (sym c.loop-k.invariant.same)
          (c.requires.given.2.thawn.found c.loop-k.k c.loop-k-test.true),
      subst (λ (d : Diagrams). (v : Valuation) → value_of d.nodes (ref_at c.args.refs.now c.loop-k.k) v ≡ has c.index-sets-k.result v)
          (sym c.loop-k.invariant.same)
          (λ v. c.requires.given.2.thawn.means c.loop-k.k c.loop-k-test.true v ∙ ap (λ (f : Frozen). has f v) read),
    )

pub location-requires-clause-refs : goal.location-requires-clause-refs
location-requires-clause-refs c =
    subst (λ (d : Diagrams). AreRefs d.nodes c.args.refs.now) (sym c.loop-k.invariant.same)
    (thawn_refs c.requires.given.0 c.args.store.now c.args.sets.now c.args.refs.now c.requires.given.2)

pub loop-k-preserved : goal.loop-k-preserved
loop-k-preserved c =
    let read : part_at c.args.sets.now c.loop-k.k ≡ c.index-sets-k.result =
    part_read c.args.sets.now c.loop-k.k c.index-sets-k.result c.loop-k-test.true c.index-sets-k.is in
    record {
      same = c.location.ensures.same ∙ c.loop-k.invariant.same;
      located = λ s is thawn. subst (λ (l : List Location). AreLocations s c.args.sets.now (c.loop-k.k + 1) l) (sym c.in_ok-push.ensures.ok)
          (locations_more s c.args.sets.now c.loop-k.k c.loop-k.locations c.in_ok-here.here (c.loop-k.invariant.located s is thawn)
          (subst (λ (f : Frozen). IsLocationOf s f c.args.sets.now c.in_ok-here.here) (sym read)
          (c.in_ok-here.ensures.located s c.args.sets.now
          (subst (λ (d : Diagrams). IsRelationOf s d c.args.relation.now) (sym c.loop-k.invariant.same) is)
          (subst (IsControlSet s) read (thawn.sets_control c.loop-k.k c.loop-k-test.true))
          (subst (λ (d : Diagrams). AreThawnSets s d c.args.sets.now c.args.refs.now) (sym c.loop-k.invariant.same) thawn))));
    }

pub returns-clause-located : goal.returns-clause-located
returns-clause-located c s is thawn =
    let e : c.loop-k.k ≡ length c.args.sets.now = omega (arith, c.loop-k-test.false, c.loop-k.auto.k-end) in
    subst (λ (n : ℕ). AreLocations s c.args.sets.now n c.loop-k.locations) e (c.loop-k.invariant.located s is thawn)
