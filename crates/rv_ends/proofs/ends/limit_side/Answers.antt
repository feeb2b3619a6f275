use Rattle.std.proofs.Common.{◌≡◌, ◌↔◌, ◌≤ℤ◌, ℤ, true, FitsSigned, rules}
use Rattle.std.proofs.{lemmas.Int.to_z-of_z, lemmas.Result.IfOk-weaker}
use Rattle.std.specs.Int.{w128}
use Rattle.rv_diagram.specs.Nodes.{Valuation, value_of}
use Rattle.rv_ends.specs.{Intervals.IsAtMost, Sides.side_at}
use Rattle.rv_ends.proofs.Limiting.{limit_iff}
use Rattle.rv_ends.proofs.ends.limit_side.Goals as goal

pub returns-in-Some-clause-exact : goal.returns-in-Some-clause-exact
returns-in-Some-clause-exact c =
    let fits : FitsSigned w128 c.in-Some.bound = search rules in
    let exact = simp to_z-of_z at c.tighten.ensures.exact in
    let old = c.args.store.now.nodes in
    let new = c.tighten.new.store.nodes in
    IfOk-weaker c.tighten.result
    (λ s. (v : Valuation) (x : ℤ) → IsAtMost (side_at new s v) x
    ↔ (IsAtMost (side_at old c.args.side.now v) x × (value_of old c.args.ticked v ≡ true → x ≤ℤ c.in-Some.bound)))
    (λ s. (v : Valuation) (x : ℤ) → IsAtMost (side_at new s v) x
    ↔ (IsAtMost (side_at old c.args.side.now v) x × (value_of old c.args.ticked v ≡ true → IsAtMost c.args.limit x)))
    (λ s h v x.
    let same = limit_iff c.args.limit c.in-Some.bound x (value_of old c.args.ticked v) (IsAtMost (side_at old c.args.side.now v) x) c.in-Some.is in
    (λ m. same.0 ((h v x).0 m), λ p. (h v x).1 (same.1 p)))
    exact
