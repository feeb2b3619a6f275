use Rattle.std.proofs.Common.{subst}
use Rattle.rv_rise.specs.Limits.{AreFirst}
use Rattle.rv_rise.proofs.Rounding.{first_claimed}
use Rattle.rv_rise.proofs.rounds.first_claim.Goals as goal

pub initial-requires : goal.initial-requires
initial-requires c = let (s, q, given) = c.requires in (s, given.relation)

pub first_limits-requires : goal.first_limits-requires
first_limits-requires c = let (s, q, given) = c.requires in let f = given.frame in f.small

pub returns : goal.returns
returns c = record {
  first = λ s q given.
      let r = given.relation in
      first_claimed s r.system c.args.frame.now given.frame (record { reached = c.in_ok-reached.reached; limits = c.in_ok-limits.limits })
      (c.in_ok-reached.ensures s r)
      (subst (λ n. AreFirst c.args.frame.now.thresholds n c.in_ok-limits.limits) c.len.ensures c.in_ok-limits.ensures);
}
