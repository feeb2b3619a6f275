use Rattle.std.proofs.{Common.◌∙◌, Common.[], Common.pos, Common.sym, Common.subst, lemmas.Option.get_or_from_slice_get}
use Rattle.rv_diagram.specs.Nodes.{value_of}
use Rattle.rv_rows.specs.declared.linear.Row.{Row}
use Rattle.rv_accept.specs.Needs.{StaysRow}
use Rattle.rv_base.proofs.Truths.{clash}
use Rattle.rv_accept.proofs.settling.still_row.Goals as goal

pub returns-in_default-clause-exact : goal.returns-in_default-clause-exact
returns-in_default-clause-exact c = λ s t are x still.
    let none = rw c.in_default.is at c.requires.point in clash (value_of c.args.store.now.nodes c.args.scope still.some.0) still.some.1 (none still.some.0)

pub returns-in_default-2-clause-exact : goal.returns-in_default-2-clause-exact
returns-in_default-2-clause-exact c = λ s t are. rw c.in_default-2.is at (c.in_ok-place.ensures.exact s t are)

pub returns-clause-exact : goal.returns-clause-exact
returns-clause-exact c = λ s t are.
    let h = rw c.in-Some-2.is at (c.in_ok-place.ensures.exact s t are) in
    subst (λ (x : Row). StaysRow s c.args.store.now.nodes c.args.scope t x)
    (get_or_from_slice_get c.args.rows.now c.in-Some-2.place c.at.result.now (record { coefficients = []; bound = pos 0 }) c.at.ensures.value
    ∙ sym c.in_ok-row.ensures) h
