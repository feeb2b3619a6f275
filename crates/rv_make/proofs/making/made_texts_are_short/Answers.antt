use Rattle.rv_make.proofs.Lengths.{made_short}
use Rattle.rv_make.proofs.making.made_texts_are_short.Goals as goal

pub returns : goal.returns
returns c = made_short
