use Rattle.rv_diagram.proofs.Growing.{extends_refl, extends_trans, grows_extends}
use Rattle.rv_rise.proofs.Stepping.{part_first, part_later}
use Rattle.rv_rise.proofs.steps.part_of.Goals as goal

pub returns-then-first-clause-extends : goal.returns-then-first-clause-extends
returns-then-first-clause-extends c = extends_refl c.args.store.now

pub returns-then-first-clause-part : goal.returns-then-first-clause-part
returns-then-first-clause-part c = part_first c.args.store.now c.args.taken c.constant-everywhere.result c.args.first c.if-first.true c.requires
    c.constant-everywhere.ensures.found c.constant-everywhere.ensures.means

pub returns-clause-extends : goal.returns-clause-extends
returns-clause-extends c = extends_trans c.args.store.now c.main_tick.new.store c.and.new.self c.main_tick.ensures.extends
    (grows_extends c.main_tick.new.store c.and.new.self c.in_ok-here.ensures.ok.grows)

pub returns-clause-part : goal.returns-clause-part
returns-clause-part c = part_later c.args.store.now c.main_tick.new.store c.and.new.self c.args.taken c.in_ok-sure.sure c.in_ok-here.here c.args.first
    c.if-first.false c.main_tick.ensures.extends c.requires c.in_ok-sure.ensures.found c.in_ok-sure.ensures.means c.in_ok-here.ensures.ok
