use Rattle.rv_tree.specs.Tree.{program_tree}
use Rattle.rv_types.specs.Instances.{name_at}
use Rattle.rv_explain.proofs.Fitting.{few_memories, is_node}
use Rattle.rv_explain.proofs.trace.trace_text.Goals as goal

pub read_trace-requires-clause-told : goal.read_trace-requires-clause-told
read_trace-requires-clause-told c =
    let s = c.args.source.now in
    let p = program_tree s.program in
    let fits = c.fitting_sources.ensures s in
    let flat = c.in_ok-flat.ensures.flat in
    c.told_systems.ensures p (name_at p s.typed.main) fits.settled.0 s.typed c.in_ok-flat.flat fits.tree c.requires.plain fits.settled.1
    (is_node p s.typed s.order fits) flat (few_memories p s.typed s.order c.in_ok-flat.flat fits flat)

pub played_text-requires : goal.played_text-requires
played_text-requires c = (c.fitting_traces.ensures c.in_ok-flat.flat c.in-Ok.trace).0 c.in-Ok.ensures.found.0
