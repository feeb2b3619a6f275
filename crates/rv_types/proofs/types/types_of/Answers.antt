use Rattle.std.proofs.Common.{List, [], ap, sym, ◌∙◌, map, reverse, refl, subst}
use Rattle.rv_tree.specs.{declared.tree.TypeDecl.TypeDecl, Tree.program_tree, Tree.node_tree}
use Rattle.std.specs.List.{Contains}
use Rattle.rv_types.specs.{TypeTables.declared_kinds, TypeTables.places_from, TypeTables.signature_by, Names.repeated}
use Rattle.rv_types.proofs.RightNames.{all_different, few_labels, tables_are, node_table_is, type_table_is}
use Rattle.rv_types.proofs.ConstantMeanings.{types_named}
use Rattle.rv_types.proofs.types.types_of.Goals as goal

pub type_tables-requires-clause-names : goal.type_tables-requires-clause-names
type_tables-requires-clause-names c =
    type_table_is (program_tree c.args.p.now) _ c.requires.names c.requires.spaces ∙ ap (map (λ (d : TypeDecl). d.name)) (sym c.as_slice.ensures)

pub type_tables-requires-clause-different : goal.type_tables-requires-clause-different
type_tables-requires-clause-different c =
    let p = program_tree c.args.p.now in
    ap (repeated []) (type_table_is p _ c.requires.names c.requires.spaces) ∙ (all_different p c.requires.names).types

pub type_tables-requires-clause-few_labels : goal.type_tables-requires-clause-few_labels
type_tables-requires-clause-few_labels c d h =
    few_labels d (λ xs e. c.requires.bounded.labels d xs (subst (λ (ds : List TypeDecl). Contains ds d) c.as_slice.ensures h) e)

pub constants_of-requires : goal.constants_of-requires
constants_of-requires c =
    tables_are (program_tree c.args.p.now) c.args.spaces.now _ _ c.requires.names c.requires.spaces
    (c.as_slice-4.ensures ∙ c.in_ok-types.ensures.kinds ∙ ap (λ (ds : List TypeDecl). declared_kinds (reverse ds)) c.as_slice.ensures)
    (c.as_slice-5.ensures ∙ c.in_ok-types.ensures.places ∙ ap (places_from 0) c.as_slice.ensures)

pub flow_types-requires-clause-tables : goal.flow_types-requires-clause-tables
flow_types-requires-clause-tables c =
    tables_are (program_tree c.args.p.now) c.args.spaces.now _ _ c.requires.names c.requires.spaces
    (c.as_slice-4.ensures ∙ c.in_ok-types.ensures.kinds ∙ ap (λ (ds : List TypeDecl). declared_kinds (reverse ds)) c.as_slice.ensures)
    (c.as_slice-5.ensures ∙ c.in_ok-types.ensures.places ∙ ap (places_from 0) c.as_slice.ensures)

pub flow_types-requires-clause-node_tables : goal.flow_types-requires-clause-node_tables
flow_types-requires-clause-node_tables c =
    let p = program_tree c.args.p.now in
    let s = c.args.spaces.now in
    let tables = tables_are p s c.as_slice-2.result.now (places_from 0 p.types) c.requires.names c.requires.spaces
    (c.as_slice-2.ensures ∙ c.in_ok-types.ensures.kinds ∙ ap (λ (ds : List TypeDecl). declared_kinds (reverse ds)) c.as_slice.ensures) refl in
    let named = types_named p _ _ _ _ _ tables in
    record {
      constant_kind_table = c.as_slice-7.ensures ∙ c.in_ok-constant_kinds.ensures.kinds;
      node_table = node_table_is p s c.requires.names c.requires.spaces;
      signature_table = c.as_slice-6.ensures ∙ c.in_ok-known.ensures ∙ (λ i. map (signature_by (named i)) (map node_tree (c.as_slice-3.ensures i)));
    }
