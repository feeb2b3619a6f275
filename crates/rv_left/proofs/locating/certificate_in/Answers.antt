use Rattle.std.proofs.Common.{ℕ, List, length, sym, subst}
use Rattle.rv_diagram.specs.Nodes.{IsOrderedOver}
use Rattle.rv_symbolic.proofs.Scheduling.{relation_after}
use Rattle.rv_split.specs.Partitions.{part_at}
use Rattle.rv_left.specs.Entries.{AreThawn}
use Rattle.rv_left.proofs.locating.certificate_in.Goals as goal

pub thaw_all-requires : goal.thaw_all-requires
thaw_all-requires c k low =
    subst (λ (m : ℕ). IsOrderedOver m (part_at c.args.sets.now k)) (sym c.requires.given.1.parts.variables) (c.requires.given.2 k low).ordered

pub locations-requires-clause-given : goal.locations-requires-clause-given
locations-requires-clause-given c = (
  c.requires.given.0,
  relation_after c.requires.given.0 c.args.store.now c.thaw_all.new.store c.args.relation.now c.thaw_all.ensures.extends c.requires.given.1,
  record {
    sets_control = c.requires.given.2;
    thawn = subst (λ (l : List ℕ). AreThawn c.thaw_all.new.store c.args.sets.now (length c.args.sets.now) l) (sym c.as_slice.ensures.value)
        c.in_ok-refs.ensures.thawn;
  },
)

pub returns-clause-located : goal.returns-clause-located
returns-clause-located c s is control =
    c.in_ok-locations.ensures.located s
    (relation_after s c.args.store.now c.thaw_all.new.store c.args.relation.now c.thaw_all.ensures.extends is)
    (record {
      sets_control = control;
      thawn = subst (λ (l : List ℕ). AreThawn c.thaw_all.new.store c.args.sets.now (length c.args.sets.now) l) (sym c.as_slice.ensures.value)
          c.in_ok-refs.ensures.thawn;
    })
