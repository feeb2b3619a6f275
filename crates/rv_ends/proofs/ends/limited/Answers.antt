use Rattle.std.proofs.Common.{◌≡◌, ◌+◌, ◌^◌, ℕ, ℤ, true, List, Option, length, sym, subst, arith}
use Rattle.rv_diagram.specs.{Nodes.Valuation, Nodes.value_of}
use Rattle.rv_diagram.proofs.Growing.{extends_trans}
use Rattle.rv_ends.specs.{declared.ends.Ends.Ends, Claiming.limit_at, Cuts.IsCut, Cuts.IsLimited, Sides.interval_of}
use Rattle.rv_ends.proofs.{Stays.side_later, Limiting.AreLimited, Limiting.limited_more, Limiting.ends_of_limits}
use Rattle.rv_ends.proofs.ends.limited.Goals as goal

pub limit_column-requires-clause-high : goal.limit_column-requires-clause-high
limit_column-requires-clause-high c =
    side_later c.args.store.now c.loop-column.store (2 ^ 60) c.at.result.now.high
    (extends_trans c.args.store.now c.main_tick.new.store c.loop-column.store c.in_ok-ticked.ensures.extends c.loop-column.invariant.extends)
    (c.requires.ends.high c.loop-column.column c.at.result.now c.at.ensures.value)

pub limit_column-requires-clause-low : goal.limit_column-requires-clause-low
limit_column-requires-clause-low c =
    side_later c.args.store.now c.loop-column.store (2 ^ 60) c.at.result.now.low
    (extends_trans c.args.store.now c.main_tick.new.store c.loop-column.store c.in_ok-ticked.ensures.extends c.loop-column.invariant.extends)
    (c.requires.ends.low c.loop-column.column c.at.result.now c.at.ensures.value)

pub returns-in_err-push-clause-extends : goal.returns-in_err-push-clause-extends
returns-in_err-push-clause-extends c =
    extends_trans c.args.store.now c.loop-column.store c.limit_column.new.store
    (extends_trans c.args.store.now c.main_tick.new.store c.loop-column.store c.in_ok-ticked.ensures.extends c.loop-column.invariant.extends)
    c.in_ok-next.ensures.extends

pub loop-column-preserved : goal.loop-column-preserved
loop-column-preserved c =
    let k : ℕ = c.loop-column.column in
    let old = c.main_tick.new.store in
    let mid = c.loop-column.store in
    let new = c.limit_column.new.store in
    let b = c.at.result.now in
    let a = c.in_ok-next.next in
    let upper = c.args.upper.now in
    let lower = c.args.lower.now in
    let ticked = c.in_ok-ticked.ticked in
    let cut : (v : Valuation) → IsCut (interval_of mid.nodes v b) (interval_of new.nodes v a)
    (λ x. value_of mid.nodes ticked v ≡ true → IsLimited (limit_at upper k) (limit_at lower k) x) = λ v.
    subst (λ (o : Option ℤ). IsCut (interval_of mid.nodes v b) (interval_of new.nodes v a)
    (λ x. value_of mid.nodes ticked v ≡ true → IsLimited o (limit_at lower k) x)) c.limit_of-above.ensures
    (subst (λ (o : Option ℤ). IsCut (interval_of mid.nodes v b) (interval_of new.nodes v a)
    (λ x. value_of mid.nodes ticked v ≡ true → IsLimited c.limit_of-above.result o x)) c.limit_of-below.ensures
    (c.in_ok-next.ensures.exact v)) in
    record {
      extends = extends_trans old mid new c.loop-column.invariant.extends c.in_ok-next.ensures.extends;
      limited = subst (λ (l : List Ends). AreLimited old.nodes new.nodes upper lower ticked (k + 1) c.args.tests.now l) (sym c.in_ok-push.ensures.ok)
          (limited_more old mid new upper lower ticked k c.args.tests.now c.loop-column.ends b a c.loop-column.invariant.extends c.in_ok-next.ensures.extends
          (side_later c.args.store.now old (2 ^ 60) b.high c.in_ok-ticked.ensures.extends (c.requires.ends.high k b c.at.ensures.value))
          (side_later c.args.store.now old (2 ^ 60) b.low c.in_ok-ticked.ensures.extends (c.requires.ends.low k b c.at.ensures.value))
          c.at.ensures.value c.in_ok-next.ensures.high c.in_ok-next.ensures.low
          (λ v. c.loop-column.invariant.extends.kept ticked c.in_ok-ticked.ensures.found v) cut c.loop-column.invariant.limited);
    }

pub returns-clause-ends : goal.returns-clause-ends
returns-clause-ends c s is many are ups downs =
    let all : c.loop-column.column ≡ length c.args.tests.now =
    omega (arith, c.loop-column-test.false, c.loop-column.auto.column-end, c.len-column-end.ensures) in
    ends_of_limits s is c.args.store.now c.main_tick.new.store c.loop-column.store c.in_ok-ticked.ticked c.args.upper.now c.args.lower.now c.args.tests.now
    c.loop-column.ends c.in_ok-ticked.ensures.extends many c.in_ok-ticked.ensures.means are ups downs c.loop-column.column all
    c.loop-column.invariant.limited
