use Rattle.std.proofs.Common.{◌+◌, arith, sym, ◌∙◌, ap, subst}
use Rattle.rv_instances.specs.{Expanded.program_of, Expanded.main_of, Layouts.IsLayout, Layouts.node_at, NumberedNeeds.numbers_of}
use Rattle.rv_types.specs.Scopes.{node_scope}
use Rattle.rv_flatten.specs.{declared.frame.Frame.Frame, Readings.unplaced, Tables.flow_read, Tables.clock_read}
use Rattle.rv_flat.specs.RawTree.{Flow, raw_tree}
use Rattle.rv_flatten.proofs.{ReadItems.output_instance, ReadItems.output_within, ReadItems.output_few, MadeItems.output_made}
use Rattle.rv_flatten.proofs.items.output_item.Goals as goal

pub new-reader-requires-clause-within : goal.new-reader-requires-clause-within
new-reader-requires-clause-within c =
    let x = c.args.expanded.now in
    output_instance (program_of x) (main_of x) x.instances.now c.requires.known.expanded c.args.output.now c.requires.giver

pub clock-clock-requires-clause-within : goal.clock-clock-requires-clause-within
clock-clock-requires-clause-within c =
    let x = c.args.expanded.now in
    output_within (program_of x) (main_of x) x.instances.now c.requires.known.expanded c.new-reader.result c.args.output.now c.new-reader.ensures.reader
    c.new-reader.ensures.node c.requires.giver

pub overflow_add-first : goal.overflow_add-first
overflow_add-first c =
    let x = c.args.expanded.now in
    let few = output_few (program_of x) (main_of x) x.instances.now c.requires.known.expanded c.args.output.now c.requires.giver in
    omega (arith, few)

pub returns : goal.returns
returns c numbers q g light ticks numbering gives stands =
    let x = c.args.expanded.now in let o = c.args.output.now in let p = program_of x in
    let reader = c.new-reader.ensures in
    let frame : Frame = record {
      expanded = c.args.expanded;
      reader = c.new-reader.result;
      tables = c.args.tables;
      own = c.own_at-own.result;
      values = c.args.values;
      numbering = c.args.numbering;
    } in
    output_made c.instance_numbers.ensures numbers frame c.requires.known light ticks reader.reader
    (reader.node ∙ ap (node_at p x.instances.now) (sym reader.instance))
    (c.own_at-own.ensures ∙ ap (λ m. node_scope p (node_at p x.instances.now m)) (sym reader.instance))
    (subst (IsLayout p (main_of x) x.instances.now) (sym reader.layout) c.requires.layout)
    c.requires.values numbering c.args.output.now q g _ _ reader.instance gives stands (c.clock_number.ensures ∙ ap (clock_read frame) c.clock-clock.ensures)
    (ap raw_tree c.into_inner.ensures ∙ c.in_ok-made.ensures ∙ ap (λ k. unplaced (Flow k)) (c.number_at-flow.ensures ∙ ap (λ k. flow_read frame (k + o.output))
    (c.output-first.ensures ∙ ap (numbers_of c.new-reader.result).output c.site_of-site.ensures)))
