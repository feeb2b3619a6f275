use Rattle.std.proofs.Common.{◌≡◌, ℕ, [], replicate, false, subst, arith}
use Rattle.rv_calls.proofs.Walks.{at_start}
use Rattle.rv_calls.proofs.graph.sort.Goals as goal

pub loop-root-init : goal.loop-root-init
loop-root-init c =
    let w = c.in_ok-walk.walk in
    record {
      walk = at_start c.args.graph.now w
          (subst (λ n. (w.entered ≡ replicate n false) × (w.finished ≡ replicate n false) × (w.cursor ≡ replicate {A = ℕ} n 0) × (w.path ≡ []) × (w.order ≡ []))
          c.len.ensures c.in_ok-walk.ensures);
      path = c.in_ok-walk.ensures.3;
      entered = λ k lt. absurd (omega (arith, lt));
      whole = c.len-root-end.ensures;
    }
