use Rattle.std.proofs.Common.{◌≡◌, true, ap, sym, subst, ℕ, rules, FitsSigned}
use Rattle.std.proofs.{lemmas.Int.to_z-of_z}
use Rattle.std.specs.Int.{w128}
use Rattle.rv_rows.specs.{declared.linear.Row.Row, Rows.coefficient}
use Rattle.rv_diagram.specs.Nodes.{value_of}
use Rattle.rv_seek.specs.Least.{bounded}
use Rattle.rv_pairs.proofs.Raising.{shown_by_row}
use Rattle.rv_pairs.proofs.sure.is_sure_at.Goals as goal

pub returns : goal.returns
returns c e nodes v on =
    let bound_fits : FitsSigned w128 c.args.bound = search rules in
    let shows = simp to_z-of_z at c.is_sure_row.ensures.shows in
    shown_by_row nodes c.args.labels.now c.args.place c.at.result.now v c.args.zero.now.row (bounded c.args.numbers.now c.args.bound) c.at.ensures.value
    (subst (λ (r : ℕ). value_of nodes r v ≡ true) (sym (c.is_sure_row.ensures.same e)) on)
    (λ k. ap (λ (r : Row). coefficient k r) c.requires.zero) (ap (λ (r : Row). r.bound) c.requires.zero)
    (shows e (ap (λ (r : Row). r.bound) c.requires.zero))
