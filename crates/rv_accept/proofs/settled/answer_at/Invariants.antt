use Rattle.std.proofs.Common.{◌≡◌, ℕ, ◌<◌, false}
use Rattle.rv_diagram.specs.Nodes.{valuation_of}
use Rattle.rv_cases.specs.Conditions.{is_in}
use Rattle.rv_accept.proofs.settled.answer_at.Given as goal

abbrev pub invariant-loop-b : goal.invariant-loop-b
invariant-loop-b l = (k : ℕ) → k < l.b → is_in l.store.nodes l.answers k (valuation_of l.point) ≡ false
