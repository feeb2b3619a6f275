use Rattle.std.proofs.Common.{length}
use Rattle.rv_types.specs.Instances.{is_main, main_instance}
use Rattle.rv_calls.proofs.{AllInstances.all_found, AllInstances.only_instances, OnceInstances.instances_once}
use Rattle.rv_causality.proofs.laws.counted_instances.Goals as goal

pub returns-clause-all : goal.returns-clause-all
returns-clause-all c p main i named none declared is = all_found p main named none declared i is

pub returns-clause-only : goal.returns-clause-only
returns-clause-only c p main i w = only_instances p main (length p.nodes) (main_instance p main) i is_main w

pub returns-clause-once : goal.returns-clause-once
returns-clause-once c p main j k i named sited less lt e = instances_once p named sited main j k i less lt e
