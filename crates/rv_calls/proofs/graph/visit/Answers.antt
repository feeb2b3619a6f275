use Rattle.std.proofs.{Common.◌<◌, Common.false, Common.sym, Common.◌∙◌, Common.subst, lemmas.Option.get_or_from_slice_get}
use Rattle.rv_calls.proofs.Walks.{root_step}
use Rattle.rv_calls.proofs.graph.visit.Goals as goal

pub at-requires : goal.at-requires
at-requires c = subst (λ n. c.args.root < n) (sym c.requires.walk.entered_size) c.requires.root

pub explore-requires-clause-walk : goal.explore-requires-clause-walk
explore-requires-clause-walk c =
    (root_step c.args.graph.now c.args.walk.now c.enter.new.self c.args.root c.requires.walk c.requires.path c.requires.root
    (get_or_from_slice_get c.args.walk.now.entered c.args.root c.at.result.now false c.at.ensures.value ∙ c.if-at.false) c.in_ok-enter.ensures).0
