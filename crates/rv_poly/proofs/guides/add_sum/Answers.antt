use Rattle.std.proofs.Common.{◌∙◌, sym}
use Rattle.rv_poly.proofs.GuideLemmas.{guided-same, guide-fits, guide-width}
use Rattle.rv_poly.proofs.guides.add_sum.Goals as goal

pub returns-then-guide-eq0 : goal.returns-then-guide-eq0
returns-then-guide-eq0 c = guided-same c.args.width c.args.guide.now.rows

pub combine-requires : goal.combine-requires
combine-requires c =
    let one_wide = guide-width c.args.width c.args.guide.now.rows c.args.first c.at-one.result.now c.requires.guide c.requires.first c.at-one.ensures.value in
    let other_wide = guide-width c.args.width c.args.guide.now.rows c.args.second c.at-other.result.now c.requires.guide c.requires.second
    c.at-other.ensures.value in
    record {
      positive = guide-fits c.args.width c.args.guide.now.rows c.args.first c.at-one.result.now c.requires.guide c.requires.first c.at-one.ensures.value;
      negative = guide-fits c.args.width c.args.guide.now.rows c.args.second c.at-other.result.now c.requires.guide c.requires.second c.at-other.ensures.value;
      widths = other_wide ∙ sym one_wide;
    }

pub add_tightened-requires : goal.add_tightened-requires
add_tightened-requires c =
    c.in_ok-sum.ensures.width
    ∙ guide-width c.args.width c.args.guide.now.rows c.args.first c.at-one.result.now c.requires.guide c.requires.first c.at-one.ensures.value
