use Rattle.std.proofs.Common.{◌<◌, length, arith}
use Rattle.rv_poly.proofs.GuideLemmas.{guided-same, guided-trans, guided-in}
use Rattle.rv_poly.proofs.guides.add_all_replaced.Goals as goal

pub loop-row-init : goal.loop-row-init
loop-row-init c = guided-same c.args.width c.args.guide.now.rows

pub add_replaced-requires : goal.add_replaced-requires
add_replaced-requires c =
    let test = c.loop-row-test.true in
    let most = c.requires.count in
    let inside : c.loop-row.row < length c.args.guide.now.rows = omega arith in
    record {
      guide = c.loop-row.invariant.guide c.requires.guide;
      first = guided-in c.args.width c.args.guide.now.rows c.loop-row.guide.rows c.args.equal.first c.loop-row.invariant c.requires.first;
      second = guided-in c.args.width c.args.guide.now.rows c.loop-row.guide.rows c.args.equal.second c.loop-row.invariant c.requires.second;
      row = guided-in c.args.width c.args.guide.now.rows c.loop-row.guide.rows c.loop-row.row c.loop-row.invariant inside;
    }

pub loop-row-preserved : goal.loop-row-preserved
loop-row-preserved c =
    guided-trans c.args.width c.args.guide.now.rows c.loop-row.guide.rows c.add_replaced.new.guide.rows c.loop-row.invariant c.in_ok-add_replaced.ensures

pub returns : goal.returns
returns c = c.loop-row.invariant
