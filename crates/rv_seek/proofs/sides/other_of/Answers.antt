use Rattle.std.proofs.Common.{length, refl, sym}
use Rattle.rv_seek.proofs.SideLemmas.{other-none, none_kept}
use Rattle.rv_seek.proofs.sides.other_of.Goals as goal

pub returns-in-Some : goal.returns-in-Some
returns-in-Some c rows n table =
    let s = rw (sym c.in-Some.ensures.value) at (table.sound c.args.side.now) in
    c.other_than.ensures rows n c.args.side.now.items s.1

pub returns-in-None : goal.returns-in-None
returns-in-None c rows n table =
    other-none rows n c.args.side.now.items c.args.place
    (none_kept rows (length c.args.side.now.items) n c.args.sides.now c.args.side.now.items table refl (sym c.in-None.ensures.value))
