use Rattle.std.proofs.Common.{◌≡◌, ◌∙◌, subst}
use Rattle.rv_diagram.specs.{Nodes.Diagrams, Nodes.Valuation, Nodes.IsOrderedOver, Nodes.value_of, Several.UsesNeeded}
use Rattle.rv_walk.specs.Ends.{has}
use Rattle.rv_left.proofs.Aiming.{part_control}
use Rattle.rv_left.proofs.locating.location.Goals as goal

pub returns-clause-located : goal.returns-clause-located
returns-clause-located c s sets is control thawn =
    let same : c.entries_of.new.store ≡ c.args.store.now = c.entries_of.ensures.same in
    let means : (v : Valuation) → has c.in_ok-control.control v ≡ value_of c.args.store.now.nodes c.args.whole v =
    subst (λ (d : Diagrams). (v : Valuation) → has c.in_ok-control.control v ≡ value_of d.nodes c.args.whole v) same c.in_ok-control.ensures.means in
    record {
      control = part_control s c.args.store.now c.args.part.now c.in_ok-control.control c.args.whole is.parts.variables control c.requires.part.4
          (subst (λ (d : Diagrams). IsOrderedOver d.variables c.in_ok-control.control) same c.in_ok-control.ensures.ordered)
          (subst (λ (d : Diagrams). UsesNeeded c.in_ok-control.control.nodes (value_of d.nodes c.args.whole)) same c.in_ok-control.ensures.needed);
      same = λ v. means v ∙ c.requires.part.4 v;
      entry = c.new.ensures;
      first = c.new-2.ensures;
      around = c.new-3.ensures;
      state = c.new-4.ensures;
      by_entry = c.new-5.ensures;
      by_first = c.new-6.ensures;
      entries = c.in_ok-entries.ensures.entries s sets is control thawn;
    }
