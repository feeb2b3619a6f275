use Rattle.rv_left.proofs.Replaced.{condition_made}
use Rattle.rv_left.proofs.conditions.condition_in.Goals as goal

pub returns-clause-made : goal.returns-clause-made
returns-clause-made c =
    condition_made c.args.store.now c.compose_each.new.self c.and.new.self c.args.within c.args.target c.in_ok-led.led c.in_ok-both.both
    c.args.by.now c.in_ok-freeze.field-0 c.requires.within c.in_ok-led.ensures.ok c.in_ok-both.ensures.ok
    c.in_ok-freeze.ensures.ordered c.in_ok-freeze.ensures.means c.in_ok-freeze.ensures.needed
