use Rattle.std.proofs.Common.{◌<◌, length, arith}
use Rattle.rv_poly.proofs.GuideLemmas.{guided-same, guided-trans, guided-in}
use Rattle.rv_poly.proofs.guides.add_with_negatives.Goals as goal

pub loop-second-init : goal.loop-second-init
loop-second-init c = guided-same c.args.width c.args.guide.now.rows

pub add_with_negative-requires : goal.add_with_negative-requires
add_with_negative-requires c =
    let test = c.loop-second-test.true in
    let most = c.requires.count in
    let inside : c.loop-second.second < length c.args.guide.now.rows = omega arith in
    record {
      guide = c.loop-second.invariant.guide c.requires.guide;
      first = guided-in c.args.width c.args.guide.now.rows c.loop-second.guide.rows c.args.first c.loop-second.invariant c.requires.first;
      second = guided-in c.args.width c.args.guide.now.rows c.loop-second.guide.rows c.loop-second.second c.loop-second.invariant inside;
    }

pub loop-second-preserved : goal.loop-second-preserved
loop-second-preserved c =
    guided-trans c.args.width c.args.guide.now.rows c.loop-second.guide.rows c.add_with_negative.new.guide.rows c.loop-second.invariant
    c.in_ok-add_with_negative.ensures

pub returns : goal.returns
returns c = c.loop-second.invariant
