use Rattle.std.proofs.Common.{◌<◌, [], ◌∷◌, refl, sym, subst, arith, IfOk}
use Rattle.rv_diagram.specs.Nodes.{Diagrams}
use Rattle.rv_split.specs.Partitions.{IsStateSet}
use Rattle.rv_split.specs.declared.cutting.Halves.{Halves}
use Rattle.rv_split.proofs.cutting.halves_by.Goals as goal

pub cut_by-requires-clause-by : goal.cut_by-requires-clause-by
cut_by-requires-clause-by c = (c.in_ok-by.ensures.states c.divides.new.store.variables (c.args.x ∷ [])
    (subst (λ (d : Diagrams). c.args.x < d.variables) (sym c.divides.ensures.same) c.requires.x) (0, omega arith, refl)).ordered

pub returns-clause-states : goal.returns-clause-states
returns-clause-states c state s t listed =
    subst (λ (d : Diagrams). IfOk c.cut_by.result (λ (h : Halves). IsStateSet d.variables state h.yes × IsStateSet d.variables state h.no))
    c.divides.ensures.same
    (c.cut_by.ensures.states state (subst (λ (d : Diagrams). IsStateSet d.variables state c.args.set.now) (sym c.divides.ensures.same) s)
    (c.in_ok-by.ensures.states c.divides.new.store.variables state
    (subst (λ (d : Diagrams). c.args.x < d.variables) (sym c.divides.ensures.same) c.requires.x) listed))
