use Rattle.rv_leaving.proofs.Away.{apart_made}
use Rattle.rv_leaving.proofs.exits.apart.Goals as goal

pub returns-clause-apart : goal.returns-clause-apart
returns-clause-apart c =
    apart_made c.args.store.now c.not.new.self c.and.new.self c.args.taken c.args.inside c.in_ok-outside.outside c.in_ok-both.both
    c.in_ok-freeze.field-0 c.requires.taken c.in_ok-outside.ensures.ok c.in_ok-both.ensures.ok c.in_ok-freeze.ensures.ordered
    c.in_ok-freeze.ensures.means c.in_ok-freeze.ensures.needed
