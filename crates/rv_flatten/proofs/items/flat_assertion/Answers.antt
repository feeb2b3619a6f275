use Rattle.std.proofs.Common.{sym, ◌∙◌, ap, subst}
use Rattle.rv_tree.specs.Tree.{assertion_tree}
use Rattle.rv_instances.specs.{Expanded.program_of, Expanded.main_of, Layouts.IsLayout, Layouts.IsNumberOf, Layouts.node_at}
use Rattle.rv_types.specs.Scopes.{node_scope}
use Rattle.rv_flatten.specs.{declared.frame.Frame.Frame, Tables.clock_read}
use Rattle.rv_flat.specs.RawTree.{Node, If, raw_tree}
use Rattle.rv_flatten.proofs.MadeItems.{assertion_made}
use Rattle.rv_flatten.proofs.items.flat_assertion.Goals as goal

pub returns : goal.returns
returns c numbers i light ticks numbering of number there =
    let x = c.args.expanded.now in let p = program_of x in let reader = c.new-reader.ensures in
    let frame : Frame = record {
      expanded = c.args.expanded;
      reader = c.new-reader.result;
      tables = c.args.tables;
      own = c.own_at-own.result;
      values = c.args.values;
      numbering = c.args.numbering;
    } in
    assertion_made c.instance_numbers.ensures numbers frame c.requires.known light ticks reader.reader
    (reader.node ∙ ap (node_at p x.instances.now) (sym reader.instance))
    (c.own_at-own.ensures ∙ ap (λ m. node_scope p (node_at p x.instances.now m)) (sym reader.instance))
    (subst (IsLayout p (main_of x) x.instances.now) (sym reader.layout) c.requires.layout)
    c.requires.values numbering i (assertion_tree c.args.assertion.now) _ _ _ of
    (subst (λ m. IsNumberOf p x.instances.now m i) (sym reader.instance) number) there
    (c.clock_number.ensures ∙ ap (clock_read frame) c.clock_of-clock.ensures) c.in_ok-made.ensures
    (c.assumed.ensures ∙ (λ t. Node (c.in_ok-at.ensures t) (If (c.in_ok-there.ensures t) (raw_tree (c.in_ok-body.ensures t)) (c.in_ok-absent.ensures t))))
