use Rattle.rv_syntax.proofs.Singles.{passed}
use Rattle.rv_syntax.proofs.parser.Parser.expect.Goals as goal

pub returns : goal.returns
returns c = passed c.args.mark c.args.self.now c.pass.new.self c.pass.result c.pass.ensures
