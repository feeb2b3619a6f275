use Rattle.std.proofs.Common.{arith, rules}
use Rattle.rv_split.proofs.Sets.{sides_extend, side_yes, side_no}
use Rattle.rv_diagram.proofs.Growing.{extends_trans, grows_extends, equal_extends}
use Rattle.rv_split.proofs.Rooms.{room_one, room_two, room_three, room_four}
use Rattle.rv_split.proofs.cutting.cut_sides.Goals as goal

pub returns-clause-extends : goal.returns-clause-extends
returns-clause-extends c = sides_extend c.args.store.now c.thaw.new.self c.thaw-2.new.self c.ite.new.self c.ite-2.new.self c.args.set.now c.args.test.now
    c.in_ok-whole.whole c.in_ok-by.by c.constant-never.result c.in_ok-yes.yes c.in_ok-no.no c.in_ok-whole.ensures.ok c.in_ok-by.ensures.ok
    c.constant-never.ensures.found c.constant-never.ensures.means c.in_ok-yes.ensures.ok c.in_ok-no.ensures.ok

pub returns-clause-yes : goal.returns-clause-yes
returns-clause-yes c = side_yes c.args.store.now c.thaw.new.self c.thaw-2.new.self c.ite.new.self c.ite-2.new.self c.args.set.now c.args.test.now
    c.in_ok-whole.whole c.in_ok-by.by c.constant-never.result c.in_ok-yes.yes c.in_ok-no.no c.in_ok-whole.ensures.ok c.in_ok-by.ensures.ok
    c.constant-never.ensures.found c.constant-never.ensures.means c.in_ok-yes.ensures.ok c.in_ok-no.ensures.ok

pub returns-clause-no : goal.returns-clause-no
returns-clause-no c = side_no c.args.store.now c.thaw.new.self c.thaw-2.new.self c.ite.new.self c.ite-2.new.self c.args.set.now c.args.test.now
    c.in_ok-whole.whole c.in_ok-by.by c.constant-never.result c.in_ok-yes.yes c.in_ok-no.no c.in_ok-whole.ensures.ok c.in_ok-by.ensures.ok
    c.constant-never.ensures.found c.constant-never.ensures.means c.in_ok-yes.ensures.ok c.in_ok-no.ensures.ok

pub returns-in_err-whole-clause-room : goal.returns-in_err-whole-clause-room
returns-in_err-whole-clause-room c h = room_one c.args.store.now c.thaw.new.self c.in_err-whole.ensures.err
    (c.in_err-whole.ensures.short (first_of (search rules, grind (arith, h), cc)))

pub returns-in_err-by-clause-room : goal.returns-in_err-by-clause-room
returns-in_err-by-clause-room c h = room_two c.args.store.now c.thaw.new.self c.in_ok-whole.ensures.ok.grows c.in_ok-whole.ensures.grown
    c.thaw-2.new.self c.in_err-by.ensures.err (c.in_err-by.ensures.short (first_of (search rules, grind (arith, h), cc)))

pub returns-in_err-yes-clause-room : goal.returns-in_err-yes-clause-room
returns-in_err-yes-clause-room c h = room_three c.args.store.now c.thaw.new.self c.in_ok-whole.ensures.ok.grows c.in_ok-whole.ensures.grown
    c.thaw-2.new.self c.in_ok-by.ensures.ok.grows c.in_ok-by.ensures.grown c.ite.new.self c.in_err-yes.ensures.err
    (c.in_err-yes.ensures.short (first_of (search rules, grind (arith, h), cc)))

pub returns-in_err-no-clause-room : goal.returns-in_err-no-clause-room
returns-in_err-no-clause-room c h = room_four c.args.store.now c.thaw.new.self c.in_ok-whole.ensures.ok.grows c.in_ok-whole.ensures.grown
    c.thaw-2.new.self c.in_ok-by.ensures.ok.grows c.in_ok-by.ensures.grown c.ite.new.self c.ite-2.new.self c.in_ok-yes.ensures.ok.grows
    c.in_ok-yes.ensures.grown c.in_err-no.ensures.err (c.in_err-no.ensures.short (first_of (search rules, grind (arith, h), cc)))

pub returns-in_err-no-clause-extends : goal.returns-in_err-no-clause-extends
returns-in_err-no-clause-extends c = extends_trans c.args.store.now c.ite.new.self c.ite-2.new.self
    (extends_trans c.args.store.now c.thaw-2.new.self c.ite.new.self
    (extends_trans c.args.store.now c.thaw.new.self c.thaw-2.new.self (grows_extends c.args.store.now c.thaw.new.self c.in_ok-whole.ensures.ok.grows)
    (grows_extends c.thaw.new.self c.thaw-2.new.self c.in_ok-by.ensures.ok.grows))
    (grows_extends c.thaw-2.new.self c.ite.new.self c.in_ok-yes.ensures.ok.grows))
    (equal_extends c.ite.new.self c.ite-2.new.self c.in_err-no.ensures.err)
