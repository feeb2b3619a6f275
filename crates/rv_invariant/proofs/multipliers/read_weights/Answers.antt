use Rattle.std.proofs.Common.{◌≡◌, ◌+◌, ◌<◌, ◌∙◌, ℕ, true, length, sym, arith, ap, subst, add-one}
use Rattle.std.proofs.lemmas.Result.{err_from_is_err_and}
use Rattle.rv_invfile.specs.Ahead.{here}
use Rattle.rv_rows.specs.declared.farkas.Weight.{Weight}
use Rattle.rv_invariant.specs.{Groups.upto, Judging.AreRight, Pieces.is_pair_field, Pieces.least_at, Pieces.weight_at}
use Rattle.rv_invariant.proofs.{Grouping.group-stops, Looping.all-read, Looping.pushed-length, Looping.pushed-read, Looping.pushed-right}
use Rattle.rv_invariant.proofs.multipliers.read_weights.Goals as goal

pub returns-in_err-weight : goal.returns-in_err-weight
returns-in_err-weight c =
    let r = here c.args.records.now in
    let p = err_from_is_err_and c.from_residual-in_err-weight.result c.from_residual-in_err-weight.ensures.1 in
    let inv = c.loop-index.invariant in
    rw (p.1, p.2) (group-stops 2 (is_pair_field c.args.premises) c.args.records.now c.args.count c.loop-index.index (weight_at r c.loop-index.index)
    (upto weight_at r c.args.count) c.in_err-weight.field-0.0
    c.loop-index-test.true (subst (λ n. AreRight 2 n (is_pair_field c.args.premises r)) inv.size inv.right) c.in_err-weight.ensures)

pub loop-index-preserved : goal.loop-index-preserved
loop-index-preserved c =
    let r = here c.args.records.now in
    let inv = c.loop-index.invariant in
    let xs = c.loop-index.weights in
    let new = c.push.new.self in
    let x = c.in_ok-weight.weight in
    let e = c.in_ok-push.ensures.ok in
    let same = sym inv.size in
    let told = c.in_ok-weight.ensures.0 ∙ ap (weight_at r) same in
    record {
      size = omega (arith, pushed-length xs new x e, inv.size);
      read = pushed-read weight_at r xs new x inv.read told e;
      right = pushed-right 2 (is_pair_field c.args.premises r) xs new x inv.right
          (subst (λ n. (j : ℕ) → j < 2 → is_pair_field c.args.premises r n j ≡ true) same c.in_ok-weight.ensures.1) e;
      least = ap (λ n. n + 1) c.from-least.ensures ∙ ap (λ (w : Weight). w.premise + 1) told
          ∙ sym (ap (least_at r) (pushed-length xs new x e ∙ add-one (length xs)));
    }

pub returns : goal.returns
returns c =
    let inv = c.loop-index.invariant in
    all-read weight_at (here c.args.records.now) 2 (is_pair_field c.args.premises (here c.args.records.now)) c.loop-index.weights c.args.count
    (omega (arith, inv.size, c.loop-index-test.false)) inv.read inv.right
