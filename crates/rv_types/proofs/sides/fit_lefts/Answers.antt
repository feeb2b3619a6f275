use Rattle.std.proofs.Common.{◌+◌, drop, ◌∙◌, add-one, arith}
use Rattle.rv_types.specs.{NodeTypes.lefts_by, Tables.scope_of}
use Rattle.rv_types.proofs.Fitting.{fit_more, fit_end, none_left}
use Rattle.rv_base.proofs.{Lists.next_of, Truths.and_assoc}
use Rattle.rv_types.proofs.sides.fit_lefts.Goals as goal

pub loop-x-preserved : goal.loop-x-preserved
loop-x-preserved c =
    let s = scope_of c.args.view.now in
    let d = next_of c.args.lefts.now c.loop-x.x-index c.x-item.result c.loop-x-test.true c.x-item.is in
    let v = rw d at c.loop-x.invariant.fits in
    let suited = fit_more c.args.wanted.now c.loop-x.count (s.clock c.x-item.result.text) (lefts_by s (drop (c.loop-x.x-index + 1) c.args.lefts.now)) in
    record {
      counted = omega arith;
      fits = rw (c.still_fits-fit.ensures, and_assoc, c.clock.ensures, add-one c.loop-x.count) (rw suited at v);
    }

pub returns : goal.returns
returns c =
    let e = none_left c.args.lefts.now c.loop-x.x-index c.loop-x-test.false in
    let v = rw (e, fit_end) at c.loop-x.invariant.fits in
    c.fits_whole.ensures ∙ v
