use Rattle.std.proofs.{Common.◌+◌, Common.get_or, Common.take, Common.refl, Common.sym, Common.◌∙◌, Common.ap, Common.arith, lemmas.List.take_more}
use Rattle.rv_flatten.specs.Positions.{way_from}
use Rattle.rv_flatten.proofs.PlaceWalks.{way_back, way_more}
use Rattle.rv_flatten.proofs.positions.turn.Goals as goal

pub loop-k-init : goal.loop-k-init
loop-k-init c =
    let l = c.args.layout.now in let k = c.shared-common.result in
    record {
      way = c.truncate.ensures ∙ ap (take (k + 1)) c.requires ∙ way_back l 0 c.args.path.now k ∙ ap (way_from l 0) c.shared-common.ensures.same;
      within = c.shared-common.ensures.within_other;
      end = refl;
    }

pub loop-k-preserved : goal.loop-k-preserved
loop-k-preserved c =
    let l = c.args.layout.now in let k = c.loop-k.k in let other = c.args.other.now in
    let test = c.loop-k-test.true in let end = c.loop-k.invariant.end in
    record {
      way = way_more l (take k other) (get_or other k 0) c.loop-k.way c.go_on.new.way c.loop-k.invariant.way c.in_ok-go_on.ensures
          ∙ ap (way_from l 0) (sym (take_more other k 0 (omega (arith, test, end))));
      within = omega (arith, test, end);
      end = refl;
    }
