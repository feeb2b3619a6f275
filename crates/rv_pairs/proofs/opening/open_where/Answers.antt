use Rattle.std.proofs.Common.{◌≡◌, ◌↔◌, ℤ, List, negsuc, true, subst}
use Rattle.std.proofs.lemmas.Result.{IfOk-weaker}
use Rattle.rv_rows.specs.Multipliers.{AreShutAtOnce}
use Rattle.rv_diagram.specs.Nodes.{Valuation, value_of}
use Rattle.rv_pairs.specs.{Labels.active, Hints.IsHinted, Hints.AreHintsOf}
use Rattle.rv_pairs.proofs.Admitting.{open_is}
use Rattle.rv_pairs.proofs.opening.open_where.Goals as goal

pub returns-clause-exact : goal.returns-clause-exact
returns-clause-exact c =
    IfOk-weaker c.left_by.result
    (λ r. (v : Valuation) → (value_of c.left_by.new.store.nodes r v ≡ true) ↔ ((value_of c.args.store.now.nodes c.args.whole v ≡ true)
    × ¬ IsHinted c.args.store.now.nodes c.in_ok-shut.shut v (negsuc 0)))
    (λ r. (v : Valuation) → (value_of c.left_by.new.store.nodes r v ≡ true) ↔ ((value_of c.args.store.now.nodes c.args.whole v ≡ true)
    × ¬ AreShutAtOnce (active c.args.store.now.nodes c.args.labels.now v)))
    (λ r h v. open_is (value_of c.left_by.new.store.nodes r v) (value_of c.args.store.now.nodes c.args.whole v)
    (IsHinted c.args.store.now.nodes c.in_ok-shut.shut v (negsuc 0)) (AreShutAtOnce (active c.args.store.now.nodes c.args.labels.now v)) (h v)
    (subst (λ (ns : List ℤ). AreHintsOf c.args.store.now.nodes c.args.labels.now ns c.in_ok-shut.shut) c.new-none.ensures c.in_ok-shut.ensures.shown v
    (negsuc 0)))
    c.left_by.ensures.exact
