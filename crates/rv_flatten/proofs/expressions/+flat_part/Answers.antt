use Rattle.std.proofs.Common.{◌≡◌, ◌∙◌, ap, subst, IfOk}
use Rattle.rv_flat.specs.RawTree.{AtMostOne, raw_tree, raw_trees}
use Rattle.rv_flatten.specs.Readings.{unplaced}
use Rattle.rv_flatten.proofs.ReadTables.{each_read}
use Rattle.rv_flatten.proofs.expressions.+flat_part.Goals as goal

pub flat_at_most_one-returns-clause-flat : goal.flat_at_most_one-returns-clause-flat
flat_at_most_one-returns-clause-flat t c =
    let x = c.args.frame.now in
    subst (λ ts. IfOk c.made_at_most_one.result (λ f. raw_tree f ≡ unplaced (AtMostOne ts)))
    (ap raw_trees c.in_ok-all.ensures.flat ∙ each_read x c.args.operands.now) c.made_at_most_one.ensures
