use Rattle.std.proofs.Common.{subst}
use Rattle.rv_boxes.specs.Rounds.{AreFirst}
use Rattle.rv_boxes.proofs.Rounding.{first_claimed}
use Rattle.rv_boxes.proofs.claim.first_claim.Goals as goal

pub initial-requires : goal.initial-requires
initial-requires c = let (s, q, given) = c.requires in (s, given.relation)

pub first_limits-requires : goal.first_limits-requires
first_limits-requires c = let (s, q, given) = c.requires in let f = given.frame in f.small

pub first_limits-requires-2 : goal.first_limits-requires-2
first_limits-requires-2 c = let (s, q, given) = c.requires in let f = given.frame in f.turned_small

pub returns : goal.returns
returns c = record {
  first = λ s q given m.
      let r = given.relation in
      first_claimed s r.system c.args.frame.now given.frame (record {
        reached = c.in_ok-reached.reached;
        upper = c.in_ok-upper.upper;
        lower =
            c.in_ok-lower.lower;
      })
      (c.in_ok-reached.ensures s r)
      (subst (λ n. AreFirst c.args.frame.now.thresholds n c.in_ok-upper.upper) m c.in_ok-upper.ensures)
      (subst (λ n. AreFirst c.args.frame.now.opposites n c.in_ok-lower.lower) m c.in_ok-lower.ensures);
}
