use Rattle.rv_state.proofs.NarrowLemmas.{narrowed-more}
use Rattle.rv_state.proofs.narrow.narrowed.Goals as goal

pub loop-place-preserved : goal.loop-place-preserved
loop-place-preserved c =
    narrowed-more c.args.most c.args.poly.now.rows c.loop-place.rows c.note.new.rows c.loop-place.place c.at.result.now c.at.ensures.value
    c.loop-place.invariant c.in_ok-note.ensures
