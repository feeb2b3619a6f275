use Rattle.std.proofs.{Common.◌∙◌, Common.◌++◌, Common.◌∷◌, Common.[], Common.sym, lemmas.Bool.false≢true}
use Rattle.rv_flat.specs.Lists.{side_of}
use Rattle.rv_tested.specs.{Compared.comparison_in, Testing.row_in}
use Rattle.rv_tested.proofs.Rowing.{answered_as, skip_place}
use Rattle.rv_tested.proofs.testing.add_at.Goals as goal

pub add_there-requires-clause-place : goal.add_there-requires-clause-place
add_there-requires-clause-place c = c.is.ensures.0 c.if-is.true

pub returns-clause-answered : goal.returns-clause-answered
returns-clause-answered c cs is =
    let f = c.args.flat.now in
    let x = comparison_in f.memories c.args.compared.now in
    answered_as c.args.store.now.nodes (row_in f cs c.args.at.now.sites (side_of c.args.side))
    (row_in f (cs ++ x ∷ []) c.args.at.now.sites (side_of c.args.side)) c.args.answers.now
    (λ v. skip_place f cs x c.args.at.now.sites (side_of c.args.side) v (λ e. false≢true (sym c.if-is.false ∙ c.is.ensures.1 e))) is
