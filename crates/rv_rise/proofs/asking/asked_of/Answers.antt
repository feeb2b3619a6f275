use Rattle.std.proofs.Common.{◌≡◌, List, sym, subst}
use Rattle.rv_rows.specs.{declared.linear.Row.Row}
use Rattle.rv_diagram.specs.Nodes.{Valuation, value_of}
use Rattle.rv_proofs.specs.Systems.{rows_of}
use Rattle.rv_pairs.specs.{declared.labels.Labelled.Labelled, Labels.active, Labels.AreLabels, Telling.Tells}
use Rattle.rv_pairs.proofs.Counting.{labels_stay, active_stays}
use Rattle.rv_rise.proofs.Giving.{allowed_of}
use Rattle.rv_rise.proofs.Stepping.{asked_is}
use Rattle.rv_rise.proofs.asking.asked_of.Goals as goal

pub label_tests-requires : goal.label_tests-requires
label_tests-requires c = let (s, given) = c.requires in let r = given.relation in (s, r.system, given.questions)

pub open_where-requires-clause-whole : goal.open_where-requires-clause-whole
open_where-requires-clause-whole c =
    let (s, given) = c.requires in (allowed_of s c.args.store.now c.args.relation.now given.relation c.parts.result.now c.parts.ensures).0

pub open_where-requires-clause-labels : goal.open_where-requires-clause-labels
open_where-requires-clause-labels c = subst (AreLabels c.args.store.now.nodes) (sym c.in_ok-rows.ensures) c.in_ok-tests.ensures.labels

pub returns-clause-asked : goal.returns-clause-asked
returns-clause-asked c s given =
    let nodes = c.args.store.now.nodes in
    let meant = allowed_of s c.args.store.now c.args.relation.now given.relation c.parts.result.now c.parts.ensures in
    let are = c.in_ok-labels.ensures.labels nodes c.in_ok-tests.ensures.labels in
    let rows : (v : Valuation) → active nodes c.in_ok-tests.tests v ≡ rows_of s v = c.in_ok-tests.ensures.rows s given.questions in
    record {
      found = c.in_ok-allowed.ensures.found;
      exact = λ v. asked_is s v (value_of c.open_where.new.store.nodes c.in_ok-allowed.allowed v) (value_of nodes c.parts.result.now.allowed v)
          (active nodes c.in_ok-rows.rows v) (c.in_ok-allowed.ensures.exact v) (meant.1 v)
          (subst (λ (ls : List Labelled). active nodes ls v ≡ rows_of s v) (sym c.in_ok-rows.ensures) (rows v));
      labels = labels_stay c.args.store.now c.open_where.new.store c.in_ok-labels.labels c.in_ok-allowed.ensures.extends are;
      told = λ v. subst (Tells (rows_of s v)) (sym (active_stays c.args.store.now c.open_where.new.store c.in_ok-labels.labels
          c.in_ok-allowed.ensures.extends are v))
          (subst (λ (rs : List Row). Tells rs (active nodes c.in_ok-labels.labels v)) (rows v) (c.in_ok-labels.ensures.told nodes v));
    }
