use Rattle.std.proofs.Common.{◌≡◌, [], reverse, sym, ◌∙◌, subst}
use Rattle.rv_tree.specs.Tree.{program_tree}
use Rattle.rv_types.specs.{Scopes.constant_value, ValueTables.known_in, ValueTables.AreSmall}
use Rattle.rv_types.proofs.{ConstantMeanings.values_known, ConstantValues.constants_small, NodeScope.all_before}
use Rattle.rv_types.proofs.reading_values.named_values.Goals as goal

pub invariant_of-result : goal.invariant_of-result
invariant_of-result c =
    let p = program_tree c.args.p.now in
    let t = c.requires.tables.globals in
    let is : known_in c.args.tables.now.spaces.constants c.args.constants.now c.args.tables.now.spaces.labels c.as_slice.result.now ≡ constant_value p =
    (λ i. known_in (t.constant_table i) (c.requires.values i) (t.label_table i) ((c.as_slice.ensures ∙ t.place_table) i))
    ∙ values_known p (reverse p.constants) [] (all_before p) t.different_constants in
    subst AreSmall (sym is) (constants_small p)

pub returns : goal.returns
returns c =
    let p = program_tree c.args.p.now in
    let t = c.requires.tables.globals in
    (λ i. known_in (t.constant_table i) (c.requires.values i) (t.label_table i) ((c.as_slice.ensures ∙ t.place_table) i))
    ∙ values_known p (reverse p.constants) [] (all_before p) t.different_constants
