use Rattle.rv_cover.proofs.Chaining.{cover_later}
use Rattle.rv_cover.proofs.covering.add_found_step.Goals as goal

pub returns-clause-cover : goal.returns-clause-cover
returns-clause-cover c n is kind =
    c.add_entry.ensures.cover n
    (cover_later c.args.store.now c.step_condition.new.store c.args.frame.now n c.args.cover c.step_condition.ensures.extends is) kind
