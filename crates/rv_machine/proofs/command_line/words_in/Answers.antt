use Rattle.std.proofs.Common.{◌≡◌, ◌∙◌, IsOkAnd, subst, sym}
use Rattle.std.specs.Vec.Iter.{into_iter_items}
use Rattle.rv_machine.proofs.Drained.{given_all}
use Rattle.rv_machine.proofs.command_line.words_in.Goals as goal

pub returns-clause-words : goal.returns-clause-words
returns-clause-words c =
    let ran = c.in-Ok-collect.ensures.ran in
    subst (λ r. IsOkAnd r (λ given. c.in-Ok-collect.words.items ≡ into_iter_items given)) (sym c.in-Ok.is)
    (ran.2.0 ∙ given_all _ c.in-Ok.arguments ran.0 ran.1 tt)
