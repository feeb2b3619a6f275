use Rattle.std.proofs.Common.{◌∙◌, ◌≡◌, true, sym}
use Rattle.std.proofs.lemmas.Bool.{false≢true}
use Rattle.rv_diagram.specs.Nodes.{Valuation, value_of}
use Rattle.rv_terms.proofs.Finding.{some_from}
use Rattle.rv_pairs.specs.Labels.{active}
use Rattle.rv_pairs.proofs.Counting.{label_added, rows_added, none_added}
use Rattle.rv_pairs.proofs.labels.label_row.Goals as goal

pub returns-then-is_false-clause-rows : goal.returns-then-is_false-clause-rows
returns-then-is_false-clause-rows c v = none_added (value_of c.args.store.now.nodes c.args.under v) (active c.args.store.now.nodes c.args.labels.now v)
    c.args.row.now (c.is_false.ensures.0 c.if-is_false.true v)

pub returns-clause-labels : goal.returns-clause-labels
returns-clause-labels c =
    let some : (v : Valuation) × (value_of c.args.store.now.nodes c.args.under v ≡ true) =
    some_from c.args.store.now.nodes c.args.store.now.variables c.args.under c.mark-count.ensures.reads c.requires.under
    (λ none. false≢true (sym c.if-is_false.false ∙ c.is_false.ensures.1 none)) in
    label_added c.args.store.now.nodes c.args.labels.now c.push.new.self c.args.under c.args.row.now c.in_ok-copy.copy c.in_ok-push.ensures.ok
    c.in_ok-copy.ensures c.requires.labels c.requires.under (c.requires.row some.0 some.1)

pub returns-clause-rows : goal.returns-clause-rows
returns-clause-rows c v = rows_added c.args.store.now.nodes c.args.labels.now c.push.new.self c.args.under c.args.row.now c.in_ok-copy.copy v
    c.in_ok-push.ensures.ok c.in_ok-copy.ensures
