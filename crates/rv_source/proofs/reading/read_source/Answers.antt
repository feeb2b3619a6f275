use Rattle.std.proofs.Common.{sym, ◌∙◌, subst, Err}
use Rattle.rv_tree.specs.Tree.{program_tree}
use Rattle.rv_causality.specs.Causes.{IsOrder}
use Rattle.rv_source.specs.Sources.{HasSourceCause, RefusesSource}
use Rattle.rv_source.proofs.ReadSource.{main_is, text_only, text_only_refused, name_only, name_refused, name_only_refused, cause_only, cause_refused}
use Rattle.rv_source.proofs.ReadSource.{cause_only_refused, not_refused}
use Rattle.rv_source.proofs.reading.read_source.Goals as goal

pub returns-in-Err-clause-only : goal.returns-in-Err-clause-only
returns-in-Err-clause-only c p t is = c.text_fault.ensures ∙ text_only c.args.bytes.now c.args.main.now program_tree p c.in-Err.fault
    (c.in-Err.ensures.only p is.text)

pub returns-in-Err-clause-only_refused : goal.returns-in-Err-clause-only_refused
returns-in-Err-clause-only_refused c f h =
    subst (λ e. RefusesSource f (Err e)) (sym c.text_fault.ensures)
    (text_only_refused c.args.bytes.now c.args.main.now f c.in-Err.fault c.in-Err.ensures.only_offending c.in-Err.ensures.only h)

pub returns-in-Err-settle-clause-only : goal.returns-in-Err-settle-clause-only
returns-in-Err-settle-clause-only c p t is =
    c.name_fault.ensures
    ∙ name_only c.args.bytes.now c.args.main.now (program_tree c.in-Ok.program) c.in-Ok.ensures.found
    c.one_tree.ensures c.one_fault.ensures.no_tree p t c.in-Err-settle.fault is.text is.settled c.in-Err-settle.ensures.only

pub returns-in-Err-settle-clause-refused : goal.returns-in-Err-settle-clause-refused
returns-in-Err-settle-clause-refused c =
    subst (HasSourceCause c.args.bytes.now c.args.main.now) (sym c.name_fault.ensures)
    (name_refused c.args.bytes.now c.args.main.now (program_tree c.in-Ok.program) c.in-Ok.ensures.found
    c.one_tree.ensures c.one_fault.ensures.no_tree c.in-Err-settle.fault c.in-Err-settle.ensures.refused)

pub returns-in-Err-settle-clause-only_refused : goal.returns-in-Err-settle-clause-only_refused
returns-in-Err-settle-clause-only_refused c f h =
    subst (λ e. RefusesSource f (Err e)) (sym c.name_fault.ensures)
    (name_only_refused c.args.bytes.now c.args.main.now (program_tree c.in-Ok.program) c.in-Ok.ensures.found
    c.one_tree.ensures c.one_fault.ensures.no_tree f c.in-Err-settle.fault c.in-Err-settle.ensures.only_refused c.in-Err-settle.ensures.only h)

pub returns-in-Err-order-clause-only : goal.returns-in-Err-order-clause-only
returns-in-Err-order-clause-only c p t is =
    c.cause_fault.ensures
    ∙ cause_only c.args.bytes.now c.args.main.now (program_tree c.in-Ok.program) c.in-Ok.ensures.found
    c.one_tree.ensures c.one_fault.ensures.no_tree c.in-Ok-settle.typed c.in-Ok-settle.ensures.found c.settled_or_refused.ensures.never_both
    p c.in-Err-order.fault is.text is.accepted c.in-Err-order.ensures.only

pub returns-in-Err-order-clause-refused : goal.returns-in-Err-order-clause-refused
returns-in-Err-order-clause-refused c =
    subst (HasSourceCause c.args.bytes.now c.args.main.now) (sym c.cause_fault.ensures)
    (cause_refused c.args.bytes.now c.args.main.now (program_tree c.in-Ok.program) c.in-Ok.ensures.found
    c.one_tree.ensures c.one_fault.ensures.no_tree c.in-Ok-settle.typed c.in-Ok-settle.ensures.found c.settled_or_refused.ensures.never_both
    c.in-Err-order.fault c.in-Err-order.ensures.refused)

pub returns-in-Err-order-clause-only_refused : goal.returns-in-Err-order-clause-only_refused
returns-in-Err-order-clause-only_refused c f h =
    subst (λ e. RefusesSource f (Err e)) (sym c.cause_fault.ensures)
    (cause_only_refused c.args.bytes.now c.args.main.now (program_tree c.in-Ok.program) c.in-Ok.ensures.found
    c.one_tree.ensures c.one_fault.ensures.no_tree c.in-Ok-settle.typed c.in-Ok-settle.ensures.found c.settled_or_refused.ensures.never_both
    f c.in-Err-order.fault c.in-Err-order.ensures.only_refused h)

pub invariant_of-result : goal.invariant_of-result
invariant_of-result c = record {
  fits = ∣ c.ordered_fits.ensures (program_tree c.in-Ok.program) c.in-Ok-settle.typed c.in-Ok-order.order c.in-Ok.ensures.tree
      (c.args.main.now, c.in-Ok-settle.ensures.found) c.in-Ok-order.ensures.found ∣₁;
}

pub returns-clause-found : goal.returns-clause-found
returns-clause-found c =
    let p = program_tree c.in-Ok.program in
    record {
      text = c.in-Ok.ensures.found;
      settled = c.in-Ok-settle.ensures.found;
      ordered = subst (λ x. IsOrder p x c.in-Ok-order.order) (main_is p c.args.main.now c.in-Ok-settle.typed c.in-Ok-settle.ensures.found)
          c.in-Ok-order.ensures.found;
      fits = c.ordered_fits.ensures p c.in-Ok-settle.typed c.in-Ok-order.order c.in-Ok.ensures.tree
          (c.args.main.now, c.in-Ok-settle.ensures.found) c.in-Ok-order.ensures.found;
    }

pub returns-clause-only_refused : goal.returns-clause-only_refused
returns-clause-only_refused c f h =
    not_refused c.args.bytes.now c.args.main.now (program_tree c.in-Ok.program) c.in-Ok.ensures.found
    c.one_tree.ensures c.one_fault.ensures.no_tree c.in-Ok-settle.typed c.in-Ok-settle.ensures.found c.settled_or_refused.ensures.never_both
    f c.in-Ok-order.ensures.only_refused h
