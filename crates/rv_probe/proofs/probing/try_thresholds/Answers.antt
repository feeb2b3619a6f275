use Rattle.std.proofs.Common.{ℕ, ◌<◌, Bool, length, get_or, SFits, ◌≡◌, ◌∙◌, sym, ap, subst, arith, rules, below_more}
use Rattle.std.proofs.{lemmas.Int.to_z-of_z, lemmas.List.get_or_default}
use Rattle.std.specs.{Prelude.ℤ, Prelude.pos, Int.w128}
use Rattle.rv_tree.specs.Tree.{program_tree}
use Rattle.rv_types.specs.Instances.{name_at}
use Rattle.rv_flat.specs.Steps.{IsWithin}
use Rattle.rv_probe.specs.Probes.{NeverFalsifies}
use Rattle.rv_probe.proofs.probing.try_thresholds.Goals as goal

pub loop-number-preserved : goal.loop-number-preserved
loop-number-preserved c =
    let s = c.args.source.now in
    let p = program_tree s.program in
    let f = c.args.flat.now in
    let k = c.loop-number.number-index in
    let z = get_or c.as_slice-number-items.result.now k (pos 0) in
    let fits : SFits w128 z = search rules in
    let Never : Bool → ℤ → Type 0 = λ b y. IsWithin y → NeverFalsifies p (name_at p s.typed.main) f b y in
    below_more (λ (j : ℕ). (b : Bool) → Never b (get_or f.thresholds j (pos 0))) k c.loop-number.invariant
    (λ b. subst (λ ys. Never b (get_or ys k (pos 0))) c.as_slice-number-items.ensures
    (subst (Never b) (to_z-of_z w128 z fits) (c.in_ok-trace.ensures.never b (cc))))

pub returns-clause-never : goal.returns-clause-never
returns-clause-never c = λ b z e w within.
    let s = c.args.source.now in
    let p = program_tree s.program in
    let ts = c.args.flat.now.thresholds in
    let lt : w.0 < length ts = w.1 in
    let long = ap length c.as_slice-number-items.ensures in
    let at : w.0 < c.loop-number.number-index = omega (arith, lt, long) in
    let is : get_or ts w.0 (pos 0) ≡ z = get_or_default ts w.0 (pos 0) z lt ∙ w.2 in
    subst (NeverFalsifies p (name_at p s.typed.main) c.args.flat.now b) is (c.loop-number.invariant w.0 at b (subst IsWithin (sym is) within))
