use Rattle.rv_tree.proofs.MemorySites.{rising_sites, site_kept, site_only}
use Rattle.rv_tree.proofs.memories_in_order.Goals as goal

pub returns-clause-rising : goal.returns-clause-rising
returns-clause-rising c = rising_sites

pub returns-clause-all : goal.returns-clause-all
returns-clause-all c = site_kept

pub returns-clause-only : goal.returns-clause-only
returns-clause-only c = site_only
