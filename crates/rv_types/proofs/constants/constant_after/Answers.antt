use Rattle.std.proofs.Common.{ap, ◌∙◌}
use Rattle.rv_tree.specs.Tree.{tree_of, constant_tree}
use Rattle.rv_types.specs.ConstantTables.{as_declared_by, constant_types_by}
use Rattle.rv_types.specs.{Constants.value_of, Earliest.first, Tables.entry_in, Types.kind_of, ValueTables.known_in}
use Rattle.rv_types.proofs.Entries.{empty_scope}
use Rattle.rv_types.proofs.constants.constant_after.Goals as goal

pub returns-clause-kind : goal.returns-clause-kind
returns-clause-kind c =
    let g = c.args.globals.now in
    let s = empty_scope _ g.constants.now _ _ g.labels.now g.places.now c.requires.none c.as_slice.ensures in
    c.typed-kind.ensures.kind ∙ ap (λ s. as_declared_by (entry_in g.types.now g.type_kinds.now) c.args.c.now.kind (kind_of s (tree_of c.args.c.now.body))) s

pub returns-clause-value : goal.returns-clause-value
returns-clause-value c =
    let g = c.args.globals.now in
    c.evaluate-value.ensures.value ∙ ap (λ vs. value_of (known_in g.constants.now vs g.labels.now g.places.now) (tree_of c.args.c.now.body))
    c.as_slice-2.ensures

pub returns-clause-fault : goal.returns-clause-fault
returns-clause-fault c =
    let g = c.args.globals.now in
    let s = empty_scope _ g.constants.now _ _ g.labels.now g.places.now c.requires.none c.as_slice.ensures in
    c.typed-kind.ensures.fault ∙ ap (λ s. first (constant_types_by (entry_in g.types.now g.type_kinds.now) s (constant_tree c.args.c.now))) s
