use Rattle.std.proofs.Common.{arith}
use Rattle.rv_tree.specs.Tree.{program_tree}
use Rattle.rv_types.specs.Instances.{name_at}
use Rattle.rv_control.specs.Control.{control_of}
use Rattle.rv_run.proofs.judge.safe.Goals as goal

pub write_certificate-requires-clause-told : goal.write_certificate-requires-clause-told
write_certificate-requires-clause-told c =
    let s = c.args.source.now in
    let fits = c.fitting_sources.ensures s in
    let p = program_tree s.program in
    let main = name_at p s.typed.main in
    c.told_systems.ensures p main fits.settled.0 s.typed c.args.flat.now fits.tree c.requires.plain fits.settled.1
    c.requires.known.named c.requires.known.flat
    (omega (arith, c.len-count.type_inv, c.len-count.ensures))

pub write_certificate-requires-clause-range : goal.write_certificate-requires-clause-range
write_certificate-requires-clause-range c = c.requires.accepted.partition.in_range

pub write_certificate-requires-clause-free : goal.write_certificate-requires-clause-free
write_certificate-requires-clause-free c = λ k l at none. let included = c.requires.accepted.partition.included k l at in
    (included.no_first none, included.no_around none)

pub returns-clause-judged : goal.returns-clause-judged
returns-clause-judged c = λ nodes limit.
    let f = c.args.flat.now in
    let found = c.args.certificate in (
      c.requires.known.safe (c.certificates_are_safe.ensures.safe (control_of f) found c.requires.accepted),
      (f, c.requires.known.flat, c.requires.accepted),
      record {
        system = f;
        flat = c.requires.known.flat;
        written = c.in_ok-document.ensures.text;
        read = c.in_ok-document.ensures.document;
        accepted = c.requires.accepted;
      },
    )
