use Rattle.std.proofs.Common.{List, [], ap, sym, ◌∙◌, map, reverse, subst}
use Rattle.std.specs.List.{Contains}
use Rattle.rv_tree.specs.{declared.tree.TypeDecl.TypeDecl, Tree.program_tree}
use Rattle.rv_types.specs.{Names.repeated, TypeTables.declared_kinds, TypeTables.places_from}
use Rattle.rv_types.proofs.RightNames.{all_different, few_labels, tables_are, node_table_is, type_table_is}
use Rattle.rv_types.proofs.reading.meanings_of.Goals as goal

pub type_tables-requires-clause-names : goal.type_tables-requires-clause-names
type_tables-requires-clause-names c =
    type_table_is (program_tree c.args.p.now) _ c.requires.names c.requires.spaces ∙ ap (map (λ (d : TypeDecl). d.name)) (sym c.as_slice.ensures)

pub type_tables-requires-clause-different : goal.type_tables-requires-clause-different
type_tables-requires-clause-different c =
    let p = program_tree c.args.p.now in
    ap (repeated []) (type_table_is p _ c.requires.names c.requires.spaces) ∙ (all_different p c.requires.names).types

pub type_tables-requires-clause-few_labels : goal.type_tables-requires-clause-few_labels
type_tables-requires-clause-few_labels c d h =
    few_labels d (λ xs e. c.requires.bounded.labels d xs (subst (λ (ds : List TypeDecl). Contains ds d) c.as_slice.ensures h) e)

pub body_tables-requires : goal.body_tables-requires
body_tables-requires c =
    tables_are (program_tree c.args.p.now) c.args.spaces.now _ _ c.requires.names c.requires.spaces
    (c.as_slice-2.ensures ∙ c.in_ok-types.ensures.kinds ∙ ap (λ (ds : List TypeDecl). declared_kinds (reverse ds)) c.as_slice.ensures)
    (c.as_slice-3.ensures ∙ c.in_ok-types.ensures.places ∙ ap (places_from 0) c.as_slice.ensures)

pub returns-clause-globals : goal.returns-clause-globals
returns-clause-globals c =
    tables_are (program_tree c.args.p.now) c.args.spaces.now _ _ c.requires.names c.requires.spaces
    (c.in_ok-types.ensures.kinds ∙ ap (λ (ds : List TypeDecl). declared_kinds (reverse ds)) c.as_slice.ensures)
    (c.in_ok-types.ensures.places ∙ ap (places_from 0) c.as_slice.ensures)

pub returns-clause-nodes : goal.returns-clause-nodes
returns-clause-nodes c = record {
  constant_kind_table = c.in_ok-constant_kinds.ensures.constants;
  node_table = node_table_is (program_tree c.args.p.now) c.args.spaces.now c.requires.names c.requires.spaces;
  signature_table = c.in_ok-constant_kinds.ensures.signatures;
}
