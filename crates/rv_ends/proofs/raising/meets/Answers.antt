use Rattle.rv_ends.proofs.Risen.{meets_exact}
use Rattle.rv_ends.proofs.raising.meets.Goals as goal

pub returns-clause-exact : goal.returns-clause-exact
returns-clause-exact c = meets_exact c.args.store.now c.and.new.self c.args.one c.args.other c.in_ok-both.both c.is_false.result c.in_ok-both.ensures.ok
    c.mark-count.ensures.reads c.is_false.ensures
