use Rattle.std.proofs.Common.{◌≡◌, ◌↔◌, List, true, subst}
use Rattle.std.proofs.lemmas.Result.{IfOk-weaker}
use Rattle.rv_rows.specs.{declared.linear.Row.Row, Multipliers.AreShutAtOnce}
use Rattle.rv_diagram.specs.Nodes.{Valuation, value_of}
use Rattle.rv_walk.specs.Ends.{has}
use Rattle.rv_diagram.proofs.Growing.{extends_trans}
use Rattle.rv_pairs.specs.Labels.{active}
use Rattle.rv_pairs.proofs.{Admitting.first_is, Counting.labels_stay, Counting.active_stays}
use Rattle.rv_pairs.proofs.opening.open_within.Goals as goal

pub open_where-requires-clause-labels : goal.open_where-requires-clause-labels
open_where-requires-clause-labels c = labels_stay c.args.store.now c.within.new.store c.args.labels.now c.in_ok-whole.ensures.extends c.requires.labels

pub returns-clause-extends : goal.returns-clause-extends
returns-clause-extends c = extends_trans c.args.store.now c.within.new.store c.open_where.new.store c.in_ok-whole.ensures.extends c.open_where.ensures.extends

pub returns-clause-exact : goal.returns-clause-exact
returns-clause-exact c =
    IfOk-weaker c.open_where.result
    (λ r. (v : Valuation) → (value_of c.open_where.new.store.nodes r v ≡ true)
    ↔ ((value_of c.within.new.store.nodes c.in_ok-whole.whole v ≡ true) × ¬ AreShutAtOnce (active c.within.new.store.nodes c.args.labels.now v)))
    (λ r. (v : Valuation) → (value_of c.open_where.new.store.nodes r v ≡ true)
    ↔ (((value_of c.args.store.now.nodes c.args.allowed v ≡ true) × (has c.args.reached.now v ≡ true))
    × ¬ AreShutAtOnce (active c.args.store.now.nodes c.args.labels.now v)))
    (λ r exact v. first_is (value_of c.open_where.new.store.nodes r v) (value_of c.within.new.store.nodes c.in_ok-whole.whole v)
    ((value_of c.args.store.now.nodes c.args.allowed v ≡ true) × (has c.args.reached.now v ≡ true))
    (¬ AreShutAtOnce (active c.args.store.now.nodes c.args.labels.now v))
    (subst (λ (rs : List Row). (value_of c.open_where.new.store.nodes r v ≡ true) ↔ ((value_of c.within.new.store.nodes c.in_ok-whole.whole v ≡ true)
    × ¬ AreShutAtOnce rs)) (active_stays c.args.store.now c.within.new.store c.args.labels.now c.in_ok-whole.ensures.extends c.requires.labels v) (exact v))
    (c.in_ok-whole.ensures.exact v))
    c.open_where.ensures.exact
