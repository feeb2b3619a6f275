use Rattle.std.proofs.Common.{sym, ◌∙◌, subst}
use Rattle.rv_tree.specs.Tree.{program_tree}
use Rattle.rv_types.specs.Instances.{name_at}
use Rattle.rv_run.specs.{declared.report.Report.Report, Traced.IsTraceAnswer, Traced.IsUnlessNoMemory}
use Rattle.rv_run.proofs.{Judging.well, Judging.is_node, Retraced.all_said, Retraced.all_told, Retraced.fault-answers, Retraced.fault_says}
use Rattle.rv_run.proofs.{Retraced.fault_tells, Retraced.few_memories, Retraced.of_document, Retraced.replay-answers, Retraced.trace_says, Retraced.trace_tells}
use Rattle.rv_run.proofs.retrace.report_on_trace.Goals as goal

pub read_trace-requires-clause-told : goal.read_trace-requires-clause-told
read_trace-requires-clause-told c =
    let s = c.args.source.now in
    let p = program_tree s.program in
    let fits = c.fitting_sources.ensures s in
    let flat = c.in-Ok.ensures.flat in
    c.told_systems.ensures p (name_at p s.typed.main) fits.settled.0 s.typed c.in-Ok.flat fits.tree c.requires.plain fits.settled.1
    (is_node p s.typed s.order fits (λ m text settled. c.well_formed_programs.ensures p m s.typed text settled)) flat
    (few_memories p s.typed s.order c.in-Ok.flat fits flat)

pub replay-requires : goal.replay-requires
replay-requires c =
    let s = c.args.source.now in
    let p = program_tree s.program in
    let fits = c.fitting_sources.ensures s in
    let f = c.in-Ok.flat in
    let t = c.in-Ok-read_trace.trace in record {
      trace = c.flat_traces.ensures.back p (name_at p s.typed.main) f t
          (well p s.typed s.order fits (λ m text settled. c.well_formed_programs.ensures p m s.typed text settled))
          (is_node p s.typed s.order fits (λ m text settled. c.well_formed_programs.ensures p m s.typed text settled)) c.in-Ok.ensures.flat
          (of_document f t ((c.fitting_traces.ensures f t).0 c.in-Ok-read_trace.ensures.found.0));
    }

pub returns-in-Ok-read_trace-clause-says : goal.returns-in-Ok-read_trace-clause-says
returns-in-Ok-read_trace-clause-says c = λ x answer e.
    let s = c.args.source.now in
    let p = program_tree s.program in
    let main = name_at p s.typed.main in
    let t = c.in-Ok-read_trace.trace in
    let r = c.replay.result in
    trace_says c.args.document.now p main c.in-Ok.flat c.in-Ok.ensures.flat t c.in-Ok-read_trace.ensures.document r
    (all_said p main t r c.replay.ensures.falsified c.replay.ensures.fails c.replay.ensures.never c.replay.ensures.outgrown) x answer
    (sym c.on_replay.ensures ∙ e)

pub returns-in-Ok-read_trace-clause-only : goal.returns-in-Ok-read_trace-clause-only
returns-in-Ok-read_trace-clause-only c = subst IsTraceAnswer (sym c.on_replay.ensures) (replay-answers c.replay.result)

pub returns-in-Ok-read_trace-clause-only_says : goal.returns-in-Ok-read_trace-clause-only_says
returns-in-Ok-read_trace-clause-only_says c = λ x h.
    let s = c.args.source.now in
    let p = program_tree s.program in
    let main = name_at p s.typed.main in
    let t = c.in-Ok-read_trace.trace in
    let r = c.replay.result in
    subst (λ (y : Report). IsUnlessNoMemory x y) (sym c.on_replay.ensures)
    (trace_tells c.args.document.now p main c.in-Ok.flat c.in-Ok.ensures.flat t c.in-Ok-read_trace.ensures.document r (c.one_trace_rule.ensures p main)
    (all_told p main t r c.replay.ensures.only_falsified c.replay.ensures.only_fails c.replay.ensures.only_never c.replay.ensures.only_outgrown)
    c.in-Ok-read_trace.ensures.only_refused x h)

pub returns-clause-says : goal.returns-clause-says
returns-clause-says c = λ x answer e.
    let s = c.args.source.now in
    let p = program_tree s.program in
    fault_says c.args.document.now p (name_at p s.typed.main) c.in-Ok.flat c.in-Ok.ensures.flat c.in-Err.fault c.in-Err.ensures.refused x answer
    (sym c.on_fault.ensures ∙ e)

pub returns-clause-only : goal.returns-clause-only
returns-clause-only c = subst IsTraceAnswer (sym c.on_fault.ensures) (fault-answers c.in-Err.fault)

pub returns-clause-only_says : goal.returns-clause-only_says
returns-clause-only_says c = λ x h.
    let s = c.args.source.now in
    let p = program_tree s.program in
    let main = name_at p s.typed.main in
    subst (λ (y : Report). IsUnlessNoMemory x y) (sym c.on_fault.ensures)
    (fault_tells c.args.document.now p main c.in-Ok.flat c.in-Ok.ensures.flat c.in-Err.fault (c.one_trace_rule.ensures p main) c.in-Err.ensures.only
    c.in-Err.ensures.only_refused x h)
