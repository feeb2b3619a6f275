use Rattle.std.proofs.Common.{sym, subst}
use Rattle.std.specs.List.{All}
use Rattle.rv_tree.specs.Tree.{program_tree}
use Rattle.rv_flatten.specs.Literals.{IsSmallValue}
use Rattle.rv_flatten.proofs.ConstantSizes.{constants_small}
use Rattle.rv_flatten.proofs.thresholds.numbers_of.Goals as goal

pub spread_values-requires : goal.spread_values-requires
spread_values-requires c = subst (All IsSmallValue) (sym c.requires) (constants_small (program_tree c.args.p.now))
