use Rattle.std.proofs.Common.{◌≡◌, ℕ, ◌<◌, true}
use Rattle.rv_diagram.specs.Nodes.{Valuation}
use Rattle.rv_cases.specs.Conditions.{is_in}
use Rattle.rv_rise.proofs.columns.columns_in.Given as goal

abbrev pub invariant-loop-place : goal.invariant-loop-place
invariant-loop-place l = (i : ℕ) (v : Valuation) → i < l.place → is_in l.store.nodes l.answers i v ≡ true → ⊥
