use Rattle.std.proofs.Common.{true≢false, sym, ◌∙◌}
use Rattle.rv_diagram.specs.Nodes.{Answers, choice}
use Rattle.rv_symbolic.proofs.Extending.{map_ok}
use Rattle.rv_open.proofs.Rest.{left_whole, left_cut}
use Rattle.rv_open.proofs.counting.without_row.Goals as goal

pub returns-then-is_met-clause-left : goal.returns-then-is_met-clause-left
returns-then-is_met-clause-left c =
    left_whole c.args.store.now c.args.row.now c.args.answer c.args.rest c.requires.rest (c.is_met.ensures.0 c.if-is_met.true)

pub returns-clause-left : goal.returns-clause-left
returns-clause-left c =
    map_ok c.ite.result (λ r. Answers c.args.store.now c.ite.new.self (choice c.args.store.now.nodes c.args.answer c.constant-nothing.result c.args.rest) r) _
    (λ r t. left_cut c.args.store.now c.ite.new.self c.args.row.now c.args.answer c.constant-nothing.result c.args.rest r
    (λ h. true≢false (sym (c.is_met.ensures.1 h) ∙ c.if-is_met.false)) c.constant-nothing.ensures.means t)
    c.ite.ensures.ok
