use Rattle.std.proofs.Common.{◌≡◌, ◌++◌, ◌∙◌, List, [], sym, subst, ap, arith, if◌then◌else◌}
use Rattle.rv_rows.specs.declared.linear.Row.{Row}
use Rattle.rv_diagram.specs.Nodes.{value_of}
use Rattle.rv_proofs.specs.Systems.{rows_of}
use Rattle.rv_cases.proofs.Keeping.{questions_later}
use Rattle.rv_pairs.specs.{declared.labels.Labelled.Labelled, Labels.active}
use Rattle.rv_proofs.specs.RowClaims.{premises_at}
use Rattle.rv_pairs.proofs.Counting.{premises_are}
use Rattle.rv_pairs.proofs.labels.premises.Goals as goal

pub label_tests-requires : goal.label_tests-requires
label_tests-requires c = (
  c.requires.questions.0,
  c.requires.questions.1,
  questions_later c.requires.questions.0 c.args.store.now c.main_tick.new.store c.args.questions.now c.in_ok-ticked.ensures.extends c.requires.questions.2,
)

pub returns-clause-premises : goal.returns-clause-premises
returns-clause-premises c s system asked some claim same v =
    let nodes = c.main_tick.new.store.nodes in
    let ticked = value_of nodes c.in_ok-ticked.ticked v in
    subst (λ (ls : List Labelled). active nodes ls v ≡ premises_at s claim v) (sym c.in_ok-new.ensures)
    (premises_are ticked (v 0) (active nodes c.label_given.new.labels v) (rows_of s v) c.args.given.now claim.rows
    (c.in_ok-label_given.ensures.rows v
    ∙ ap (λ (rs : List Row). rs ++ (if ticked then c.args.given.now else []))
    (c.in_ok-labels.ensures.rows s (questions_later s c.args.store.now c.main_tick.new.store c.args.questions.now c.in_ok-ticked.ensures.extends asked) v))
    (c.in_ok-ticked.ensures.means (omega (arith, system.bits, asked.variables, some)) v) same)
