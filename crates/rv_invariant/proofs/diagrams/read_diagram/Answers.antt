use Rattle.std.proofs.{Common.refl, lemmas.Result.err_from_is_err_and}
use Rattle.rv_invfile.specs.Ahead.{here}
use Rattle.rv_invariant.specs.Pieces.{diagram, frozen_of}
use Rattle.rv_invariant.proofs.Grouping.{fields-stop}
use Rattle.rv_invariant.proofs.diagrams.read_diagram.Goals as goal

pub returns-in_err-frozen : goal.returns-in_err-frozen
returns-in_err-frozen c =
    let s = c.args.records.now in
    let p = err_from_is_err_and c.from_residual-in_err-frozen.result c.from_residual-in_err-frozen.ensures.1 in
    rw (p.1, p.2) (fields-stop (diagram c.args.shape c.args.word.now c.args.states) frozen_of s (frozen_of (here s)) c.in_err-frozen.field-0.0 s
    c.in_ok-expect_groups.ensures refl c.in_err-frozen.ensures)
