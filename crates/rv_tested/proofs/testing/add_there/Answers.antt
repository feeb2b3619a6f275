use Rattle.std.proofs.Common.{◌∙◌, ◌++◌, ◌∷◌, [], sym}
use Rattle.rv_flat.specs.Lists.{side_of}
use Rattle.rv_tested.specs.{Compared.comparison_in, Testing.row_in}
use Rattle.rv_tested.proofs.Rowing.{answered_as, skip_side}
use Rattle.rv_tested.proofs.testing.add_there.Goals as goal

pub add_own-requires-clause-asked : goal.add_own-requires-clause-asked
add_own-requires-clause-asked c = sym c.has_side.ensures ∙ c.if-has_side.true

pub returns-clause-answered : goal.returns-clause-answered
returns-clause-answered c cs is =
    let f = c.args.flat.now in
    let x = comparison_in f.memories c.args.compared.now in
    answered_as c.args.store.now.nodes (row_in f cs c.args.at.now.sites (side_of c.args.side))
    (row_in f (cs ++ x ∷ []) c.args.at.now.sites (side_of c.args.side)) c.args.answers.now
    (λ v. skip_side f cs x c.args.at.now.sites (side_of c.args.side) v (sym c.has_side.ensures ∙ c.if-has_side.false)) is
