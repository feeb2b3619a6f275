use Rattle.std.proofs.Common.{◌<◌, ◌^◌, false, length, replicate, sym, ◌∙◌, ap, subst}
use Rattle.std.proofs.{lemmas.List.length-replicate, lemmas.Result.IfOk-weaker}
use Rattle.rv_instances.specs.Expanded.{program_of, main_of}
use Rattle.rv_flatten.specs.Arrows.{marked_from, with_marks}
use Rattle.rv_flatten.proofs.MarkedTicks.{marks_size, ticks_within, are_ticks}
use Rattle.rv_flatten.proofs.ticks.ticks_of.Goals as goal

pub marked-requires : goal.marked-requires
marked-requires c =
    let count = c.flow_count.result in
    subst (λ n. n < 2 ^ 32) (sym (ap length (c.as_slice-2.ensures ∙ c.in_ok-marks.ensures) ∙ marks_size (replicate count false) c.as_slice.result.now
    ∙ length-replicate count false)) c.flow_count.ensures.few

pub returns-clause-within : goal.returns-clause-within
returns-clause-within c =
    let x = c.args.expanded.now in let p = program_of x in let l = c.args.layout.now in
    let known = c.requires.known.expanded in
    IfOk-weaker c.marked.result _ _ (λ ks is. ticks_within p (main_of x) x.instances.now l known
    (λ m i of number. c.instance_numbers.ensures p (main_of x) x.instances.now l m i known c.requires.layout of number)
    c.in_ok-numbers.numbers ks c.in_ok-marks.marks c.in_ok-numbers.ensures
    (c.in_ok-marks.ensures ∙ (λ i. with_marks (replicate (c.flow_count.ensures.count i) false) (c.as_slice.ensures i)))
    (is ∙ ap (marked_from 0) c.as_slice-2.ensures)) c.marked.ensures

pub returns-clause-list : goal.returns-clause-list
returns-clause-list c =
    let x = c.args.expanded.now in let p = program_of x in let l = c.args.layout.now in
    let known = c.requires.known.expanded in
    IfOk-weaker c.marked.result _ _ (λ ks is. are_ticks p (main_of x) x.instances.now l known
    (λ m i of number. c.instance_numbers.ensures p (main_of x) x.instances.now l m i known c.requires.layout of number)
    c.in_ok-numbers.numbers ks c.in_ok-marks.marks c.in_ok-numbers.ensures
    (c.in_ok-marks.ensures ∙ (λ i. with_marks (replicate (c.flow_count.ensures.count i) false) (c.as_slice.ensures i)))
    (is ∙ ap (marked_from 0) c.as_slice-2.ensures) (c.flow_places.ensures p (main_of x) x.instances.now known.named known.declared known.sited known.all))
    c.marked.ensures
