use Rattle.std.proofs.Common.{◌≡◌, ◌++◌, ◌∙◌, List, [], Bool, sym, subst, ap, if◌then◌else◌}
use Rattle.rv_rows.specs.declared.linear.Row.{Row}
use Rattle.rv_diagram.specs.Nodes.{value_of}
use Rattle.rv_pairs.specs.{declared.labels.Labelled.Labelled, Labels.active, Labels.AreLabels}
use Rattle.rv_pairs.proofs.Counting.{labels_stay, active_stays}
use Rattle.rv_pairs.proofs.labels.with_claim.Goals as goal

pub label_given-requires-clause-labels : goal.label_given-requires-clause-labels
label_given-requires-clause-labels c =
    subst (AreLabels c.main_tick.new.store.nodes) (sym c.in_ok-all.ensures)
    (labels_stay c.args.store.now c.main_tick.new.store c.args.labels.now c.in_ok-ticked.ensures.extends c.requires.labels)

pub returns-clause-labels : goal.returns-clause-labels
returns-clause-labels c = subst (AreLabels c.main_tick.new.store.nodes) (sym c.in_ok-new.ensures) c.in_ok-label_given.ensures.labels

pub returns-clause-rows : goal.returns-clause-rows
returns-clause-rows c some v =
    let nodes = c.main_tick.new.store.nodes in
    let ticked = value_of nodes c.in_ok-ticked.ticked v in
    subst (λ (ls : List Labelled). active nodes ls v ≡ active c.args.store.now.nodes c.args.labels.now v ++ (if v 0 then c.args.given.now else []))
    (sym c.in_ok-new.ensures)
    (c.in_ok-label_given.ensures.rows v
    ∙ ap (λ (ls : List Labelled). active nodes ls v ++ (if ticked then c.args.given.now else [])) c.in_ok-all.ensures
    ∙ ap (λ (rs : List Row). rs ++ (if ticked then c.args.given.now else []))
    (active_stays c.args.store.now c.main_tick.new.store c.args.labels.now c.in_ok-ticked.ensures.extends c.requires.labels v)
    ∙ ap (λ (b : Bool). active c.args.store.now.nodes c.args.labels.now v ++ (if b then c.args.given.now else [])) (c.in_ok-ticked.ensures.means some v))
