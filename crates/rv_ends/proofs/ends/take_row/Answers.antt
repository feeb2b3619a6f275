use Rattle.std.proofs.Common.{◌≡◌, ◌∙◌, sym, true}
use Rattle.std.proofs.lemmas.Bool.{false≢true}
use Rattle.rv_diagram.specs.Nodes.{Valuation, value_of}
use Rattle.rv_terms.proofs.Finding.{some_from}
use Rattle.rv_ends.proofs.ends.take_row.Goals as goal

pub take_fit-requires-clause-fit : goal.take_fit-requires-clause-fit
take_fit-requires-clause-fit c =
    let some : (v : Valuation) × (value_of c.args.store.now.nodes c.args.under v ≡ true) =
    some_from c.args.store.now.nodes c.args.store.now.variables c.args.under c.mark-count.ensures.reads c.requires.under
    (λ none. false≢true (sym c.if-is_false.false ∙ c.is_false.ensures.1 none)) in
    c.requires.fit some.0 some.1
