use Rattle.std.proofs.Common.{◌<◌, length, arith}
use Rattle.rv_poly.proofs.GuideLemmas.{guided-same, guided-trans, guided-in, guided-upto}
use Rattle.rv_poly.proofs.guides.add_all_sums.Goals as goal

pub loop-first-init : goal.loop-first-init
loop-first-init c = guided-same c.args.width c.args.guide.now.rows

pub add_row_sums-requires : goal.add_row_sums-requires
add_row_sums-requires c =
    let test = c.loop-first-test.true in
    let most = c.requires.count in
    let inside : c.loop-first.first < length c.args.guide.now.rows = omega arith in
    record {
      guide = c.loop-first.invariant.guide c.requires.guide;
      first = guided-in c.args.width c.args.guide.now.rows c.loop-first.guide.rows c.loop-first.first c.loop-first.invariant inside;
      count = guided-upto c.args.width c.args.guide.now.rows c.loop-first.guide.rows c.args.count c.loop-first.invariant c.requires.count;
    }

pub loop-first-preserved : goal.loop-first-preserved
loop-first-preserved c =
    guided-trans c.args.width c.args.guide.now.rows c.loop-first.guide.rows c.add_row_sums.new.guide.rows c.loop-first.invariant c.in_ok-add_row_sums.ensures

pub returns : goal.returns
returns c = c.loop-first.invariant
