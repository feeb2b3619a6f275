use Rattle.std.proofs.Common.{refl}
use Rattle.clap.specs.{Walk.nothing_held, Simple.argument_words, Simple.built}
use Rattle.rv_words.specs.Reaver.{reaver}
use Rattle.rv_words.proofs.Takes.{built_free}
use Rattle.rv_words.proofs.laws.taken_words.Goals as goal

pub returns : goal.returns
returns c = λ words. built_free (built reaver) nothing_held (argument_words reaver words) refl refl
