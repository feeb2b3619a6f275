use Rattle.std.proofs.{Common.sym, Common.ap, Common.◌∙◌, lemmas.Result.err_from_is_err_and}
use Rattle.rv_syntax.specs.Reading.{item_of, items, statements, with_items}
use Rattle.rv_syntax.specs.{declared.rules.Statement.Statement, declared.rules.Body.Body}
use Rattle.rv_syntax.proofs.Loop.{items-loop, all-items, no-statements, goes-on, ends, stops-with}
use Rattle.rv_syntax.proofs.rules.read_statements.Goals as goal

pub more-init : goal.more-init
more-init c = all-items (statements (record { equations = c.new.result; assertions = c.new-2.result }))
    (no-statements c.new.result c.new-2.result c.new.ensures c.new-2.ensures) (items c.args.parser.now.rest)

pub returns-in_err-statement : goal.returns-in_err-statement
returns-in_err-statement c =
    let p = err_from_is_err_and c.from_residual.result c.from_residual.ensures.1 in
    rw (p.1, p.2) (stops-with {X = Body} {Y = Statement} items-loop (with_items (statements c.more.body)) statements item_of _ _ _
    (sym c.more-test.true ∙ c.sees_statement.ensures) c.more.invariant
    c.in_err-statement.ensures)

pub more-smaller : goal.more-smaller
more-smaller c = items-loop.less c.more.parser.rest c.read_statement.new.parser.rest (item_of c.in_ok-statement.statement) c.in_ok-statement.ensures

pub more-preserved : goal.more-preserved
more-preserved c =
    goes-on items-loop (with_items (statements c.more.body)) {now = with_items (statements c.in_ok-body.body)}
    (sym c.more-test.true ∙ c.sees_statement.ensures) c.in_ok-statement.ensures c.more.invariant
    (λ more. ap (λ s. with_items s more) (sym c.in_ok-body.ensures))

pub returns : goal.returns
returns c = ends items-loop (with_items (statements c.more.body)) (sym c.more-test.false ∙ c.sees_statement.ensures) c.more.invariant
