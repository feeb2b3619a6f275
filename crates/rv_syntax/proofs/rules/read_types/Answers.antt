use Rattle.std.proofs.Common.{List, subst}
use Rattle.rv_tree.specs.declared.tree.TypeDecl.{TypeDecl}
use Rattle.rv_syntax.specs.Reads.{Reads, same}
use Rattle.rv_syntax.proofs.Loop.{from-types}
use Rattle.rv_syntax.proofs.rules.read_types.Goals as goal

pub returns : goal.returns
returns c =
    subst (λ r. Reads (same {A = List TypeDecl}) r c.read_next_types.result c.read_next_types.new.parser.rest)
    (from-types _ _ c.in_ok-expect.ensures c.in_ok-read_type.ensures c.in_ok-push.ensures.ok) c.read_next_types.ensures
