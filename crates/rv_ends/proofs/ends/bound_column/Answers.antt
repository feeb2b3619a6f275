use Rattle.std.proofs.Common.{◌≡◌, ◌≤ℤ◌, true, List, length, sym, subst, FitsSigned, rules}
use Rattle.std.proofs.lemmas.Int.{to_z-of_z}
use Rattle.std.specs.Int.{w128}
use Rattle.rv_diagram.specs.Nodes.{value_of}
use Rattle.rv_rows.specs.Forms.{number}
use Rattle.rv_ends.specs.{declared.ends.Ends.Ends, Columns.sided, Cuts.AreCut, Sides.AreEnds}
use Rattle.rv_ends.proofs.Within.{set_ends, set_cut}
use Rattle.rv_ends.proofs.ends.bound_column.Goals as goal

pub returns-clause-ends : goal.returns-clause-ends
returns-clause-ends c =
    subst (λ (l : List Ends). AreEnds c.bound_ends.new.store.nodes (length c.args.ends.now) l) (sym c.set.ensures)
    (set_ends c.args.store.now c.bound_ends.new.store c.args.ends.now c.args.column c.at.result.now c.in_ok-next.next c.in_ok-next.ensures.extends
    c.requires.ends c.at.ensures.value c.in_ok-next.ensures.high c.in_ok-next.ensures.low)

pub returns-clause-exact : goal.returns-clause-exact
returns-clause-exact c =
    let fits : FitsSigned w128 c.args.bound = search rules in
    let exact = simp to_z-of_z at c.in_ok-next.ensures.exact in
    subst (λ (l : List Ends). AreCut c.args.store.now.nodes c.bound_ends.new.store.nodes c.args.ends.now l
    (λ v point. value_of c.args.store.now.nodes c.args.under v ≡ true → sided c.args.is_high (number c.args.column point) ≤ℤ c.args.bound)) (sym c.set.ensures)
    (set_cut c.args.store.now c.bound_ends.new.store c.args.ends.now c.args.column c.at.result.now c.in_ok-next.next c.in_ok-next.ensures.extends
    c.requires.ends c.at.ensures.value c.in_ok-next.ensures.high c.in_ok-next.ensures.low
    (λ v x. value_of c.args.store.now.nodes c.args.under v ≡ true → sided c.args.is_high x ≤ℤ c.args.bound) exact)
