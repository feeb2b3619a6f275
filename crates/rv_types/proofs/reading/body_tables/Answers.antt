use Rattle.std.proofs.Common.{◌∙◌, map}
use Rattle.rv_tree.specs.Tree.{program_tree, node_tree}
use Rattle.rv_types.specs.TypeTables.{signature_by}
use Rattle.rv_types.proofs.ConstantMeanings.{types_named}
use Rattle.rv_types.proofs.reading.body_tables.Goals as goal

pub returns-clause-signatures : goal.returns-clause-signatures
returns-clause-signatures c =
    let p = program_tree c.args.p.now in
    let named = types_named p _ _ _ _ _ c.requires in
    c.in_ok-signatures.ensures ∙ (λ i. map (signature_by (named i)) (map node_tree (c.as_slice.ensures i)))
