use Rattle.std.proofs.{Common.◌∙◌, Common.subst, lemmas.Result.IfOk-weaker}
use Rattle.rv_tree.specs.Tree.{program_tree}
use Rattle.rv_flatten.specs.Literals.{IsDistinctOf}
use Rattle.rv_flat.specs.Thresholds.{AreThresholds}
use Rattle.rv_flatten.proofs.ThresholdLists.{distinct_thresholds}
use Rattle.rv_flatten.proofs.thresholds.thresholds_of.Goals as goal

pub returns : goal.returns
returns c =
    IfOk-weaker c.each_once.result (IsDistinctOf c.deref.result.now) (AreThresholds (program_tree c.args.p.now))
    (λ ys d. distinct_thresholds (program_tree c.args.p.now) c.into_vec-numbers.result.items c.sort.new.self.items ys
    (c.into_vec-numbers.ensures ∙ c.in_ok-numbers_of.ensures) c.in_ok-sort.ensures.permutation (subst (λ l. IsDistinctOf l ys) c.deref.ensures.value d))
    c.each_once.ensures
