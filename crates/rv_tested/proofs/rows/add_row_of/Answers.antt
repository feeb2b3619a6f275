use Rattle.std.proofs.{Common.subst, lemmas.Result.on_ok_weaker}
use Rattle.rv_rows.specs.declared.linear.Row.{Row}
use Rattle.rv_diagram.specs.Nodes.{value_of}
use Rattle.rv_tested.specs.Rows.{IsPut}
use Rattle.rv_tested.proofs.rows.add_row_of.Goals as goal

pub returns-clause-put : goal.returns-clause-put
returns-clause-put c = on_ok_weaker c.add_row.result
    (λ p. subst (λ (r : Row). IsPut c.args.store.now.nodes c.add_row.new.store.nodes (value_of c.args.store.now.nodes c.args.under) (λ v. r)
    c.args.answers.now c.add_row.new.answers) c.in_ok-row.ensures p)
    c.add_row.ensures.put
