use Rattle.std.proofs.Common.{refl, arith}
use Rattle.rv_tree.specs.Tree.{program_tree}
use Rattle.rv_types.specs.Instances.{name_at}
use Rattle.rv_run.proofs.Told.{fits_document}
use Rattle.rv_run.proofs.judge.with_trace.Goals as goal

pub write_trace-requires-clause-told : goal.write_trace-requires-clause-told
write_trace-requires-clause-told c =
    let s = c.args.source.now in
    let fits = c.fitting_sources.ensures s in
    let p = program_tree s.program in
    c.told_systems.ensures p (name_at p s.typed.main) fits.settled.0 s.typed c.args.flat.now fits.tree c.requires.plain
    fits.settled.1 c.requires.known.named c.requires.known.flat
    (omega (arith, c.len-count.type_inv, c.len-count.ensures))

pub write_trace-requires-clause-fits : goal.write_trace-requires-clause-fits
write_trace-requires-clause-fits c =
    let s = c.args.source.now in
    let p = program_tree s.program in
    let f = c.args.flat.now in
    let t = c.args.trace in
    (c.fitting_traces.ensures f t).1
    (fits_document f t (c.flat_traces.ensures.flat p (name_at p s.typed.main) f t c.requires.known.well c.requires.known.named c.requires.known.flat
    c.requires.trace))

pub returns-clause-traced : goal.returns-clause-traced
returns-clause-traced c = (
  refl,
  record {
    system = c.args.flat.now;
    flat = c.requires.known.flat;
    written = c.in_ok-document.ensures.text;
    read = c.in_ok-document.ensures.document;
  },
)
