use Rattle.std.proofs.Common.{◌≡◌, ℕ, ◌<◌, true}
use Rattle.rv_diagram.specs.Nodes.{valuation_of}
use Rattle.rv_cases.specs.Conditions.{is_in}
use Rattle.rv_cases.proofs.splitting.place_in.Given as goal

abbrev pub invariant-loop-place : goal.invariant-loop-place
invariant-loop-place l = (k : ℕ) → k < l.place → is_in l.store.nodes l.answers k (valuation_of l.sample) ≡ true → ⊥
