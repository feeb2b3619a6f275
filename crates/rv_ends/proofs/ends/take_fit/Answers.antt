use Rattle.std.proofs.Common.{◌≡◌, ◌≤ℤ◌, ◌<ℤ◌, ℤ, pos, true, length, subst, FitsSigned, rules}
use Rattle.std.proofs.{lemmas.Int.to_z-of_z, lemmas.Result.on_ok_weaker}
use Rattle.std.specs.Prelude.{MatchBool}
use Rattle.std.specs.Int.{w128}
use Rattle.rv_diagram.specs.Nodes.{value_of}
use Rattle.rv_rows.specs.{Rows.coefficient, Forms.number}
use Rattle.rv_ends.specs.Columns.{HoldsAlone, sided}
use Rattle.rv_ends.proofs.{Within.cut_as, Alone.alone_iff}
use Rattle.rv_ends.proofs.ends.take_fit.Goals as goal

pub returns-clause-exact : goal.returns-clause-exact
returns-clause-exact c =
    let number_fits : FitsSigned w128 c.number_at.result = search rules in
    let bound_fits : FitsSigned w128 c.args.row.now.bound = search rules in
    let test = simp to_z-of_z at c.is_below-is_high.ensures in
    let exact = simp to_z-of_z at c.bound_column.ensures.exact in
    let old = c.args.store.now.nodes in
    let here : MatchBool c.is_below-is_high.result (pos 0 <ℤ coefficient c.in-Some.column c.args.row.now)
        (coefficient c.in-Some.column c.args.row.now ≤ℤ pos 0) =
    subst (λ (z : ℤ). MatchBool c.is_below-is_high.result (pos 0 <ℤ z) (z ≤ℤ pos 0)) c.number_at.ensures test in
    on_ok_weaker c.bound_column.result
    (cut_as old c.bound_column.new.store.nodes c.args.ends.now c.bound_column.new.ends
    (λ v point. value_of old c.args.under v ≡ true → sided c.is_below-is_high.result (number c.in-Some.column point) ≤ℤ c.args.row.now.bound)
    (λ v point. value_of old c.args.under v ≡ true → HoldsAlone c.args.row.now point)
    (λ v point.
    let same = alone_iff c.args.row.now c.in-Some.column (length c.args.ends.now) c.is_below-is_high.result point c.in-Some.ensures.some c.requires.fit here in
    (λ h on. same.0 (h on), λ h on. same.1 (h on))))
    exact
