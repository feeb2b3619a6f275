use Rattle.std.proofs.Common.{◌≡◌, ◌<◌, ◌∙◌, ℕ, List, length, sym, ap, subst, arith}
use Rattle.rv_diagram.specs.{Nodes.Diagrams, Nodes.IsOrderedOver, declared.frozen.Frozen.Frozen}
use Rattle.rv_proofs.specs.Systems.{System}
use Rattle.rv_symbolic.specs.Represented.{IsRelationOf}
use Rattle.rv_split.specs.Partitions.{IsPartition, IsStateSet, part_at}
use Rattle.rv_left.specs.{Entries.AreControlSets, Entries.AreLocations, Reports.IsParted, Turns.IsEnded, Turns.AreMarked}
use Rattle.rv_left.proofs.Bridging.{set_of_control, parts_control, parted_after}
use Rattle.rv_left.proofs.Certified.{report_right, plain_locations}
use Rattle.rv_left.proofs.reporting.report_of.Goals as goal

pub failing-requires : goal.failing-requires
failing-requires c = (c.requires.given.0, c.requires.given.1)

pub parted-requires-clause-given : goal.parted-requires-clause-given
parted-requires-clause-given c = (
  c.requires.given.0,
  subst (λ (d : Diagrams). IsRelationOf c.requires.given.0 d c.args.relation.now) (sym c.failing.ensures.same) c.requires.given.1,
  c.requires.given.2.control,
)

pub refine-requires-clause-partition : goal.refine-requires-clause-partition
refine-requires-clause-partition c =
    let s : System = c.requires.given.0 in
    let still : IsRelationOf s c.failing.new.store c.args.relation.now =
    subst (λ (d : Diagrams). IsRelationOf s d c.args.relation.now) (sym c.failing.ensures.same) c.requires.given.1 in
    let parted : IsParted s c.args.limit c.args.reached.now c.in_ok-parts.parts =
    c.in_ok-parts.ensures.parted s still c.requires.given.2.control in
    subst (λ (d : Diagrams). IsPartition d.variables c.in_ok-parts.parts) (sym c.parted.ensures.same)
    (subst (λ (m : ℕ). IsPartition m c.in_ok-parts.parts) (sym still.parts.variables) parted.partition)

pub refine-requires-clause-failing : goal.refine-requires-clause-failing
refine-requires-clause-failing c =
    let s : System = c.requires.given.0 in
    let still : IsRelationOf s c.failing.new.store c.args.relation.now =
    subst (λ (d : Diagrams). IsRelationOf s d c.args.relation.now) (sym c.failing.ensures.same) c.requires.given.1 in
    let parted : IsParted s c.args.limit c.args.reached.now c.in_ok-parts.parts =
    c.in_ok-parts.ensures.parted s still c.requires.given.2.control in
    subst (λ (d : Diagrams). IsStateSet d.variables c.in_ok-parts.parts.state c.in_ok-bad.bad) (sym c.parted.ensures.same)
    (subst (λ (m : ℕ). IsStateSet m c.in_ok-parts.parts.state c.in_ok-bad.bad) (sym still.parts.variables)
    (set_of_control s c.in_ok-parts.parts.state parted.state c.in_ok-bad.bad (c.in_ok-bad.ensures.exact s c.requires.given.1).control))

pub refine-requires-clause-few : goal.refine-requires-clause-few
refine-requires-clause-few c =
    let s : System = c.requires.given.0 in
    let still : IsRelationOf s c.failing.new.store c.args.relation.now =
    subst (λ (d : Diagrams). IsRelationOf s d c.args.relation.now) (sym c.failing.ensures.same) c.requires.given.1 in
    let parted : IsParted s c.args.limit c.args.reached.now c.in_ok-parts.parts =
    c.in_ok-parts.ensures.parted s still c.requires.given.2.control in
    omega (arith, parted.limit_is, c.requires.few)

pub left_parts-requires-clause-parts : goal.left_parts-requires-clause-parts
left_parts-requires-clause-parts c =
    let s : System = c.requires.given.0 in
    let still : IsRelationOf s c.failing.new.store c.args.relation.now =
    subst (λ (d : Diagrams). IsRelationOf s d c.args.relation.now) (sym c.failing.ensures.same) c.requires.given.1 in
    let after : IsParted s c.args.limit c.args.reached.now c.refine.new.partition =
    parted_after s c.args.limit c.parted.new.store.variables c.args.reached.now c.in_ok-parts.parts c.refine.new.partition
    (subst (λ (d : Diagrams). d.variables ≡ s.variables) (sym c.parted.ensures.same) still.parts.variables)
    (c.in_ok-parts.ensures.parted s still c.requires.given.2.control)
    c.in_ok-why.ensures.partition c.in_ok-why.ensures.union c.in_ok-why.ensures.state c.in_ok-why.ensures.limit in
    let end : IsRelationOf s c.refine.new.store c.args.relation.now =
    subst (λ (d : Diagrams). IsRelationOf s d c.args.relation.now) (sym (c.refine.ensures.same ∙ c.parted.ensures.same)) still in
    subst (λ (l : List Frozen). (k : ℕ) → k < length l → IsOrderedOver c.refine.new.store.variables (part_at l k)) (sym c.as_slice-sets.ensures)
    (λ k low. subst (λ (m : ℕ). IsOrderedOver m (part_at c.refine.new.partition.parts k)) (sym end.parts.variables)
    (parts_control s c.args.limit c.args.reached.now c.refine.new.partition after k low).ordered)

pub left_parts-requires-clause-failing : goal.left_parts-requires-clause-failing
left_parts-requires-clause-failing c =
    let s : System = c.requires.given.0 in
    let still : IsRelationOf s c.failing.new.store c.args.relation.now =
    subst (λ (d : Diagrams). IsRelationOf s d c.args.relation.now) (sym c.failing.ensures.same) c.requires.given.1 in
    let after : IsParted s c.args.limit c.args.reached.now c.refine.new.partition =
    parted_after s c.args.limit c.parted.new.store.variables c.args.reached.now c.in_ok-parts.parts c.refine.new.partition
    (subst (λ (d : Diagrams). d.variables ≡ s.variables) (sym c.parted.ensures.same) still.parts.variables)
    (c.in_ok-parts.ensures.parted s still c.requires.given.2.control)
    c.in_ok-why.ensures.partition c.in_ok-why.ensures.union c.in_ok-why.ensures.state c.in_ok-why.ensures.limit in
    let end : IsRelationOf s c.refine.new.store c.args.relation.now =
    subst (λ (d : Diagrams). IsRelationOf s d c.args.relation.now) (sym (c.refine.ensures.same ∙ c.parted.ensures.same)) still in
    subst (λ (m : ℕ). IsOrderedOver m c.in_ok-bad.bad) (sym end.parts.variables) (c.in_ok-bad.ensures.exact s c.requires.given.1).control.ordered

pub left_parts-requires-clause-few : goal.left_parts-requires-clause-few
left_parts-requires-clause-few c =
    let s : System = c.requires.given.0 in
    let still : IsRelationOf s c.failing.new.store c.args.relation.now =
    subst (λ (d : Diagrams). IsRelationOf s d c.args.relation.now) (sym c.failing.ensures.same) c.requires.given.1 in
    let after : IsParted s c.args.limit c.args.reached.now c.refine.new.partition =
    parted_after s c.args.limit c.parted.new.store.variables c.args.reached.now c.in_ok-parts.parts c.refine.new.partition
    (subst (λ (d : Diagrams). d.variables ≡ s.variables) (sym c.parted.ensures.same) still.parts.variables)
    (c.in_ok-parts.ensures.parted s still c.requires.given.2.control)
    c.in_ok-why.ensures.partition c.in_ok-why.ensures.union c.in_ok-why.ensures.state c.in_ok-why.ensures.limit in
    let end : IsRelationOf s c.refine.new.store c.args.relation.now =
    subst (λ (d : Diagrams). IsRelationOf s d c.args.relation.now) (sym (c.refine.ensures.same ∙ c.parted.ensures.same)) still in
    let size : length c.as_slice-sets.result.now ≡ length c.refine.new.partition.parts = ap (λ (l : List Frozen). length l) c.as_slice-sets.ensures in
    omega (arith, size, after.partition.few, after.limit_is, c.requires.few)

pub certificate-requires-clause-given : goal.certificate-requires-clause-given
certificate-requires-clause-given c =
    let s : System = c.requires.given.0 in
    let still : IsRelationOf s c.failing.new.store c.args.relation.now =
    subst (λ (d : Diagrams). IsRelationOf s d c.args.relation.now) (sym c.failing.ensures.same) c.requires.given.1 in
    let after : IsParted s c.args.limit c.args.reached.now c.refine.new.partition =
    parted_after s c.args.limit c.parted.new.store.variables c.args.reached.now c.in_ok-parts.parts c.refine.new.partition
    (subst (λ (d : Diagrams). d.variables ≡ s.variables) (sym c.parted.ensures.same) still.parts.variables)
    (c.in_ok-parts.ensures.parted s still c.requires.given.2.control)
    c.in_ok-why.ensures.partition c.in_ok-why.ensures.union c.in_ok-why.ensures.state c.in_ok-why.ensures.limit in
    let end : IsRelationOf s c.refine.new.store c.args.relation.now =
    subst (λ (d : Diagrams). IsRelationOf s d c.args.relation.now) (sym (c.refine.ensures.same ∙ c.parted.ensures.same)) still in (
      s,
      subst (λ (d : Diagrams). IsRelationOf s d c.args.relation.now) (sym c.left_parts.ensures.same) end,
      subst (AreControlSets s) (sym c.as_slice-sets.ensures)
          (parts_control s c.args.limit c.args.reached.now c.refine.new.partition after),
    )

pub certificate-requires-clause-few : goal.certificate-requires-clause-few
certificate-requires-clause-few c =
    let s : System = c.requires.given.0 in
    let still : IsRelationOf s c.failing.new.store c.args.relation.now =
    subst (λ (d : Diagrams). IsRelationOf s d c.args.relation.now) (sym c.failing.ensures.same) c.requires.given.1 in
    let after : IsParted s c.args.limit c.args.reached.now c.refine.new.partition =
    parted_after s c.args.limit c.parted.new.store.variables c.args.reached.now c.in_ok-parts.parts c.refine.new.partition
    (subst (λ (d : Diagrams). d.variables ≡ s.variables) (sym c.parted.ensures.same) still.parts.variables)
    (c.in_ok-parts.ensures.parted s still c.requires.given.2.control)
    c.in_ok-why.ensures.partition c.in_ok-why.ensures.union c.in_ok-why.ensures.state c.in_ok-why.ensures.limit in
    let end : IsRelationOf s c.refine.new.store c.args.relation.now =
    subst (λ (d : Diagrams). IsRelationOf s d c.args.relation.now) (sym (c.refine.ensures.same ∙ c.parted.ensures.same)) still in
    let size : length c.as_slice-sets.result.now ≡ length c.refine.new.partition.parts = ap (λ (l : List Frozen). length l) c.as_slice-sets.ensures in
    omega (arith, size, after.partition.few, after.limit_is, c.requires.few)

pub returns-clause-right : goal.returns-clause-right
returns-clause-right c s is closed =
    let still : IsRelationOf s c.failing.new.store c.args.relation.now =
    subst (λ (d : Diagrams). IsRelationOf s d c.args.relation.now) (sym c.failing.ensures.same) is in
    let after : IsParted s c.args.limit c.args.reached.now c.refine.new.partition =
    parted_after s c.args.limit c.parted.new.store.variables c.args.reached.now c.in_ok-parts.parts c.refine.new.partition
    (subst (λ (d : Diagrams). d.variables ≡ s.variables) (sym c.parted.ensures.same) still.parts.variables)
    (c.in_ok-parts.ensures.parted s still closed.control)
    c.in_ok-why.ensures.partition c.in_ok-why.ensures.union c.in_ok-why.ensures.state c.in_ok-why.ensures.limit in
    let end : IsRelationOf s c.refine.new.store c.args.relation.now =
    subst (λ (d : Diagrams). IsRelationOf s d c.args.relation.now) (sym (c.refine.ensures.same ∙ c.parted.ensures.same)) still in
    let control : AreControlSets s c.as_slice-sets.result.now =
    subst (AreControlSets s) (sym c.as_slice-sets.ensures) (parts_control s c.args.limit c.args.reached.now c.refine.new.partition after) in
    let located : AreLocations s c.refine.new.partition.parts (length c.refine.new.partition.parts) c.in_ok-partition.partition.locations =
    subst (λ (l : List Frozen). AreLocations s l (length l) c.in_ok-partition.partition.locations) c.as_slice-sets.ensures
    (c.in_ok-partition.ensures.located s (subst (λ (d : Diagrams). IsRelationOf s d c.args.relation.now) (sym c.left_parts.ensures.same) end) control) in
    let marks : AreMarked c.refine.new.partition.parts c.in_ok-bad.bad (length c.refine.new.partition.parts) c.in_ok-left.left =
    subst (λ (l : List Frozen). AreMarked l c.in_ok-bad.bad (length l) c.in_ok-left.left) c.as_slice-sets.ensures c.in_ok-left.ensures.marked in
    let ended : IsEnded c.refine.new.partition.limit c.refine.new.partition.state c.in_ok-bad.bad c.refine.new.partition.parts c.in_ok-why.why =
    subst (λ (l : List ℕ). IsEnded c.refine.new.partition.limit l c.in_ok-bad.bad c.refine.new.partition.parts c.in_ok-why.why)
    (sym c.in_ok-why.ensures.state)
    (subst (λ (n : ℕ). IsEnded n c.in_ok-parts.parts.state c.in_ok-bad.bad c.refine.new.partition.parts c.in_ok-why.why)
    (sym c.in_ok-why.ensures.limit) c.in_ok-why.ensures.ended) in
    report_right s c.args.limit c.args.reached.now closed c.refine.new.partition after c.in_ok-partition.partition located c.requires.few
    c.in_ok-bad.bad (c.in_ok-bad.ensures.exact s is) c.in_ok-left.left marks c.in_ok-why.why ended

pub returns-clause-plain : goal.returns-clause-plain
returns-clause-plain c =
    let s : System = c.requires.given.0 in
    let still : IsRelationOf s c.failing.new.store c.args.relation.now =
    subst (λ (d : Diagrams). IsRelationOf s d c.args.relation.now) (sym c.failing.ensures.same) c.requires.given.1 in
    let after : IsParted s c.args.limit c.args.reached.now c.refine.new.partition =
    parted_after s c.args.limit c.parted.new.store.variables c.args.reached.now c.in_ok-parts.parts c.refine.new.partition
    (subst (λ (d : Diagrams). d.variables ≡ s.variables) (sym c.parted.ensures.same) still.parts.variables)
    (c.in_ok-parts.ensures.parted s still c.requires.given.2.control)
    c.in_ok-why.ensures.partition c.in_ok-why.ensures.union c.in_ok-why.ensures.state c.in_ok-why.ensures.limit in
    let end : IsRelationOf s c.refine.new.store c.args.relation.now =
    subst (λ (d : Diagrams). IsRelationOf s d c.args.relation.now) (sym (c.refine.ensures.same ∙ c.parted.ensures.same)) still in
    let control : AreControlSets s c.as_slice-sets.result.now =
    subst (AreControlSets s) (sym c.as_slice-sets.ensures) (parts_control s c.args.limit c.args.reached.now c.refine.new.partition after) in
    plain_locations s c.as_slice-sets.result.now c.in_ok-partition.partition
    (c.in_ok-partition.ensures.located s (subst (λ (d : Diagrams). IsRelationOf s d c.args.relation.now) (sym c.left_parts.ensures.same) end) control)
