use Rattle.std.proofs.Common.{◌≡◌, length}
use Rattle.rv_types.specs.Lists.{sites_of}
use Rattle.rv_flatten.specs.Building.{numbers_of, program_given, main_given}
use Rattle.rv_flatten.proofs.MadeFlows.{AreMadeTo}
use Rattle.rv_flatten.proofs.flows.flat_flows.Given as goal

abbrev pub invariant-loop-number : goal.invariant-loop-number
invariant-loop-number l = record {
  made : AreMadeTo (program_given l.given) (main_given l.given) (numbers_of l.given l.found) (sites_of l.given.sequence.now) l.number l.flows;
  end : l.number-end ≡ length l.given.sequence.now;
}
