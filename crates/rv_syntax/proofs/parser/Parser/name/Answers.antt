use Rattle.rv_syntax.proofs.Singles.{named}
use Rattle.rv_syntax.proofs.parser.Parser.name.Goals as goal

pub returns : goal.returns
returns c = named c.args.self.now c.inner_name.new.self c.inner_name.result c.inner_name.ensures.takes
