use Rattle.std.proofs.Common.{arith}
use Rattle.rv_tree.specs.Tree.{program_tree}
use Rattle.rv_types.specs.Instances.{name_at}
use Rattle.rv_run.proofs.judge.undecided.Goals as goal

pub write_left-requires-clause-told : goal.write_left-requires-clause-told
write_left-requires-clause-told c =
    let s = c.args.source.now in
    let fits = c.fitting_sources.ensures s in
    let p = program_tree s.program in
    let main = name_at p s.typed.main in
    c.told_systems.ensures p main fits.settled.0 s.typed c.args.flat.now fits.tree c.requires.plain fits.settled.1
    c.requires.known.named c.requires.known.flat
    (omega (arith, c.len-count.type_inv, c.len-count.ensures))

pub write_left-requires-clause-range : goal.write_left-requires-clause-range
write_left-requires-clause-range c = c.requires.left.partition.in_range

pub write_left-requires-clause-free : goal.write_left-requires-clause-free
write_left-requires-clause-free c = λ k l at none. let included = c.requires.left.partition.included k l at in
    (included.no_first none, included.no_around none)

pub returns-clause-judged : goal.returns-clause-judged
returns-clause-judged c = λ nodes limit left.
    let f = c.args.flat.now in
    let flat = c.requires.known.flat in (
      (c.requires.undecided, (f, flat, left)),
      record {
        system = f;
        flat = flat;
        written = c.in_ok-document.ensures.text;
        read = c.in_ok-document.ensures.written;
        left = left;
      },
    )
