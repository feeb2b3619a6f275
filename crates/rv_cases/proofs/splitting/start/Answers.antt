use Rattle.std.proofs.{Common.◌∙◌, Common.ap, Common.sym, Common.subst, Common.List, Common.ℕ, Common.[], Common.◌∷◌, Common.◌++◌, lemmas.Bool.false≢true}
use Rattle.rv_diagram.specs.Nodes.{value_of}
use Rattle.rv_terms.proofs.Finding.{some_from}
use Rattle.rv_cases.specs.Conditions.{IsParted}
use Rattle.rv_cases.proofs.Gathering.{start_one, start_none}
use Rattle.rv_cases.proofs.splitting.start.Goals as goal

pub returns-then-is_false-clause-parted : goal.returns-then-is_false-clause-parted
returns-then-is_false-clause-parted c =
    subst (λ (l : List ℕ). IsParted c.args.store.now.nodes (value_of c.args.store.now.nodes c.args.whole) l) (sym c.new-made.ensures.items)
    (start_none c.args.store.now.nodes c.args.whole (c.is_false.ensures.0 c.if-is_false.true))

pub returns-clause-parted : goal.returns-clause-parted
returns-clause-parted c =
    subst (λ (l : List ℕ). IsParted c.args.store.now.nodes (value_of c.args.store.now.nodes c.args.whole) l)
    (sym (c.in_ok-push.ensures.items ∙ ap (λ (l : List ℕ). l ++ c.args.whole ∷ []) c.new-made.ensures.items))
    (start_one c.args.store.now.nodes c.args.whole c.requires
    (some_from c.args.store.now.nodes c.args.store.now.variables c.args.whole c.mark-count.ensures.reads c.requires
    (λ none. false≢true (sym c.if-is_false.false ∙ c.is_false.ensures.1 none))))
