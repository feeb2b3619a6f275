use Rattle.rv_tree.specs.Tree.{program_tree}
use Rattle.rv_types.specs.Instances.{name_at}
use Rattle.rv_replay.proofs.Sources.{observed}
use Rattle.rv_hunt.proofs.confirming.confirmed.Goals as goal

pub cut-requires-clause-trace : goal.cut-requires-clause-trace
cut-requires-clause-trace c =
    let s = c.args.source.now in
    let f = c.args.flat.now in
    let p = program_tree s.program in
    let of = observed p s.typed s.order (c.fitting_sources.ensures s) (λ m text settled. c.well_formed_programs.ensures p m s.typed text settled) f
    c.requires.flat in
    c.flat_traces.ensures.back p (name_at p s.typed.main) f c.args.trace of.well of.named of.flat (c.in_ok-is.ensures.trace c.if-is.true)
