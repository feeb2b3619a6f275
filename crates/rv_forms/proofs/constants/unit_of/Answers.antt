use Rattle.std.proofs.Common.{◌≡◌, pos, [], ◌∷◌, ◌++◌, ◌∙◌, sym, arith, rules, FitsSigned}
use Rattle.std.proofs.lemmas.Int.{to_z-of_z}
use Rattle.std.specs.Int.{w128}
use Rattle.rv_rows.specs.Arithmetic.{unit}
use Rattle.rv_forms.proofs.{Ranks.unit_at, Taken.taken_more, Taken.taken_whole}
use Rattle.rv_control.proofs.Bounded.{length-unit}
use Rattle.rv_forms.proofs.constants.unit_of.Goals as goal

pub loop-number-preserved : goal.loop-number-preserved
loop-number-preserved c =
    let fits : FitsSigned w128 c.one_at.result = search rules in
    let pushed : c.push.new.self ≡ c.loop-number.numbers ++ c.one_at.result ∷ [] = simp to_z-of_z at c.in_ok-push.ensures.ok in
    let long = length-unit c.args.column c.args.columns in
    taken_more (unit c.args.column c.args.columns) c.loop-number.number (pos 0) c.one_at.result c.loop-number.numbers c.push.new.self
    (omega (arith, long)) c.loop-number.invariant pushed
    (unit_at c.args.column c.args.columns c.loop-number.number (omega arith) ∙ sym c.one_at.ensures)

pub returns : goal.returns
returns c =
    let long = length-unit c.args.column c.args.columns in
    taken_whole (unit c.args.column c.args.columns) c.loop-number.number c.loop-number.numbers c.loop-number.invariant (omega (arith, long))
