use Rattle.std.proofs.Common.{sym, ap, ◌∙◌}
use Rattle.std.specs.Prelude.{Ok, Err}
use Rattle.rv_tree.specs.Tree.{Tree}
use Rattle.rv_syntax.specs.Machine.{Reading}
use Rattle.rv_syntax.proofs.Expressions.{read-whole}
use Rattle.rv_syntax.proofs.one_expression.Goals as goal

abbrev value_or : Tree → Reading → Tree
value_or t (Ok x) = x.0
value_or t (Err rest) = t

pub returns : goal.returns
returns c = λ ts t u d e. ap (value_or t) (sym (read-whole ts t d) ∙ read-whole ts u e)
