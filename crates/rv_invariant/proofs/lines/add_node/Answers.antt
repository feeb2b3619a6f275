use Rattle.std.proofs.Common.{◌<◌, ◌^◌, ◌∷◌, [], rules}
use Rattle.std.specs.Prelude.{decimal}
use Rattle.rv_invariant.proofs.Adding.{extends-last, settled}
use Rattle.rv_invariant.proofs.lines.add_node.Goals as goal

pub returns-clause-fields : goal.returns-clause-fields
returns-clause-fields c =
    let t = c.args.node in
    extends-last c.args.row.now c.add_number.new.row c.add_number-3.new.row (decimal t.var ∷ []) (decimal t.lo ∷ decimal t.hi ∷ []) c.add_number-3.result
    c.in_ok-add_number.ensures
    (extends-last c.add_number.new.row c.add_number-2.new.row c.add_number-3.new.row (decimal t.lo ∷ []) (decimal t.hi ∷ []) c.add_number-3.result
    c.in_ok-add_number-2.ensures c.add_number-3.ensures)

pub returns-clause-held : goal.returns-clause-held
returns-clause-held c =
    let low : c.args.node.lo < 2 ^ 32 = search rules in
    let high : c.args.node.hi < 2 ^ 32 = search rules in
    settled ((c.args.node.lo < 2 ^ 32) × (c.args.node.hi < 2 ^ 32)) c.add_number-3.result (low, high)
