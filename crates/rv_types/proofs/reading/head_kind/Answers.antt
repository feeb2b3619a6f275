use Rattle.std.proofs.Common.{ap, ◌∙◌}
use Rattle.rv_tree.specs.Tree.{tree_of}
use Rattle.rv_types.specs.{Heads.head_kind, Readings.view_of, Tables.Tables, Tables.scope_of}
use Rattle.rv_types.proofs.HeadKinds.{head_is}
use Rattle.rv_types.proofs.reading.head_kind.Goals as goal

pub returns-clause-whole : goal.returns-clause-whole
returns-clause-whole c k typed =
    let e = tree_of c.args.e.now in
    c.head.ensures ∙ ap (λ (t : Tables). head_kind (scope_of t) e) c.view.ensures ∙ head_is (scope_of (view_of c.args.tables.now c.args.node.now)) e k typed
