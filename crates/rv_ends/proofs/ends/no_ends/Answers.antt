use Rattle.std.proofs.Common.{◌≡◌, ◌+◌, ◌∙◌, ap, subst, length, List, [], ◌∷◌, ◌++◌, ⊎_elim, length-append, slice_get, Some}
use Rattle.rv_ends.specs.{declared.ends.Ends.Ends, Cuts.IsFree}
use Rattle.rv_base.proofs.Lists.{push_got}
use Rattle.rv_ends.proofs.ends.no_ends.Goals as goal

pub loop-column-preserved : goal.loop-column-preserved
loop-column-preserved c =
    let more : List Ends = c.loop-column.ends ++ c.in_ok-next.next ∷ [] in
    let is : c.push.new.self ≡ more = c.in_ok-push.ensures.ok in
    record {
      size = ap (λ (l : List Ends). length l) is ∙ length-append c.loop-column.ends (c.in_ok-next.next ∷ []) ∙ ap (λ n. n + 1) c.loop-column.invariant.size;
      each = λ k e got. ⊎_elim
          (λ old. c.loop-column.invariant.each k e old.1)
          (λ new. subst (λ (x : Ends). IsFree c.args.store.now.nodes x) new.1 c.in_ok-next.ensures)
          (push_got c.loop-column.ends c.in_ok-next.next e k (subst (λ (l : List Ends). slice_get l k ≡ Some e) is got));
    }
