use Rattle.rv_symbolic.proofs.Scheduling.{have_after, parts_after, relation_after}
use Rattle.rv_symbolic.proofs.laws.relation_stays.Goals as goal

pub returns-clause-relation : goal.returns-clause-relation
returns-clause-relation c = relation_after

pub returns-clause-parts : goal.returns-clause-parts
returns-clause-parts c = parts_after

pub returns-clause-refs : goal.returns-clause-refs
returns-clause-refs c = have_after
