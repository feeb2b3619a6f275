use Rattle.std.proofs.Common.{◌≡◌, sym, ◌∙◌, ap, subst}
use Rattle.rv_tree.specs.Tree.{tree_of}
use Rattle.rv_types.specs.{Clocks.pace, Scopes.node_scope}
use Rattle.rv_instances.specs.{Expanded.program_of, Expanded.main_of, Layouts.IsLayout, Layouts.IsNumberOf, Layouts.IsWithin, Layouts.node_at}
use Rattle.rv_instances.specs.{NumberedNeeds.clock_number, NumberedNeeds.clock_of_expression, NumberedNeeds.node_read, NumberedNeeds.numbers_of}
use Rattle.rv_instances.proofs.ClockBounds.{low_within, taken_low, pace_low}
use Rattle.rv_flatten.specs.{declared.frame.Frame.Frame, Tables.clock_read}
use Rattle.rv_flatten.proofs.MadeItems.{delay_made}
use Rattle.rv_flatten.proofs.items.delay_item.Goals as goal

pub clock-number-requires-clause-within : goal.clock-number-requires-clause-within
clock-number-requires-clause-within c =
    let r = c.new-reader.result in let n = node_read r in let e = tree_of c.args.operand.now in
    let is : c.args.clock ≡ clock_of_expression n e = c.requires.clock ∙ (λ i. clock_of_expression (sym c.new-reader.ensures.node i) e) in
    subst (IsWithin (numbers_of r).offset) (sym is)
    (low_within n (numbers_of r).offset (clock_of_expression n e) c.new-reader.ensures.reader.room (taken_low n (pace n e) (pace_low n e)))

pub returns : goal.returns
returns c numbers i d light ticks numbering of number there same =
    let x = c.args.expanded.now in let p = program_of x in let r = c.new-reader.result in
    let e = tree_of c.args.operand.now in let reader = c.new-reader.ensures in
    let frame : Frame = record {
      expanded = c.args.expanded;
      reader = r;
      tables = c.args.tables;
      own = c.own_at-own.result;
      values = c.args.values;
      numbering = c.args.numbering;
    } in
    let clock : c.args.clock ≡ clock_of_expression (node_read r) e = c.requires.clock ∙ (λ i. clock_of_expression (sym reader.node i) e) in
    delay_made c.instance_numbers.ensures numbers frame c.requires.known light ticks reader.reader
    (reader.node ∙ ap (node_at p x.instances.now) (sym reader.instance))
    (c.own_at-own.ensures ∙ ap (λ m. node_scope p (node_at p x.instances.now m)) (sym reader.instance))
    (subst (IsLayout p (main_of x) x.instances.now) (sym reader.layout) c.requires.layout) c.requires.values numbering i d e _ _ of
    (subst (λ m. IsNumberOf p x.instances.now m i) (sym reader.instance) number) there same
    (c.clock_number.ensures ∙ ap (clock_read frame) (c.clock-number.ensures ∙ ap (clock_number (numbers_of r)) clock)) c.in_ok-made.ensures
