use Rattle.std.proofs.Common.{◌∙◌, sym, arith}
use Rattle.rv_syntax.proofs.Closing.{not-star, not-last, ends-none}
use Rattle.rv_syntax.proofs.lexer.close_len.Goals.{else-bytes-at-eq42-via-then-bytes-at-eq42+else-bytes-at, else-bytes-at-eq42-via-else-bytes-at-eq42}
use Rattle.rv_syntax.proofs.lexer.close_len.Goals as goal

pub more-preserved : goal.more-preserved
more-preserved c =
    elim c.else-bytes-at-eq42.branch [
      | else-bytes-at-eq42-via-then-bytes-at-eq42+else-bytes-at w ↦ record {
        within = omega arith;
        same = c.more.invariant.same ∙ not-last c.args.last c.args.bytes.now c.more.at (omega arith) w.if-bytes-at.false;
      }
      | else-bytes-at-eq42-via-else-bytes-at-eq42 w ↦ record {
        within = omega arith;
        same = c.more.invariant.same ∙ not-star c.args.last c.args.bytes.now c.more.at (omega arith) w.if-bytes-at-eq42.false;
      }
    ]

pub returns-clause-value : goal.returns-clause-value
returns-clause-value c = sym (c.more.invariant.same ∙ ends-none c.args.last c.args.bytes.now c.more.at (omega arith))
