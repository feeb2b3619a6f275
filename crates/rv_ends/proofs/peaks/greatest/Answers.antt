use Rattle.std.proofs.Common.{◌≡◌, ◌∙◌, ◌^◌, ◌+◌, ◌<◌, ℕ, suc, ℤ, List, length, take, ap, sym, subst, FitsSigned, rules, arith}
use Rattle.std.proofs.lemmas.Int.{to_z-of_z}
use Rattle.std.proofs.{lemmas.List.length-map, lemmas.Option.get_or_from_slice_get, lemmas.Option.slice_get_within}
use Rattle.std.specs.Prelude.{pos}
use Rattle.std.specs.Int.{w128}
use Rattle.rv_diagram.proofs.Growing.{extends_trans}
use Rattle.rv_rows.specs.Forms.{number}
use Rattle.rv_ends.specs.Intervals.{Interval, IsPeak, interval_at}
use Rattle.rv_ends.specs.{Sides.side_at, Sides.interval_of, Sides.box_at, Tops.bounds_sum, Tops.top_of}
use Rattle.rv_ends.proofs.{Stays.side_later, Stays.interval_later, Within.interval_got, Highest.peak_more}
use Rattle.rv_ends.proofs.peaks.greatest.Goals as goal

pub with_column-requires-clause-high : goal.with_column-requires-clause-high
with_column-requires-clause-high c =
    side_later c.args.store.now c.loop-column.store (2 ^ 60) c.at.result.now.high c.loop-column.invariant.extends
    (c.requires.ends.high c.loop-column.column c.at.result.now c.at.ensures.value)

pub with_column-requires-clause-low : goal.with_column-requires-clause-low
with_column-requires-clause-low c =
    side_later c.args.store.now c.loop-column.store (2 ^ 60) c.at.result.now.low c.loop-column.invariant.extends
    (c.requires.ends.low c.loop-column.column c.at.result.now c.at.ensures.value)

pub returns-in_err-top-2-clause-extends : goal.returns-in_err-top-2-clause-extends
returns-in_err-top-2-clause-extends c =
    extends_trans c.args.store.now c.loop-column.store c.with_column.new.store c.loop-column.invariant.extends c.in_err-top-2.ensures.extends

pub loop-column-preserved : goal.loop-column-preserved
loop-column-preserved c =
    let number_fits : FitsSigned w128 c.at-in-loop-column.result.now = search rules in
    let exact = simp to_z-of_z at c.in_ok-top-2.ensures.exact in
    let k : ℕ = c.loop-column.column in
    let ends = c.args.ends.now in
    let numbers = c.args.numbers.now in
    let e = c.at.result.now in
    let is : number k numbers ≡ c.at-in-loop-column.result.now =
    get_or_from_slice_get numbers k c.at-in-loop-column.result.now (pos 0) c.at-in-loop-column.ensures.value in
    let known : k < length ends = slice_get_within ends k e c.at.ensures.value in
    let more : suc k ≡ k + 1 = omega arith in
    record {
      extends = extends_trans c.args.store.now c.loop-column.store c.with_column.new.store c.loop-column.invariant.extends c.in_ok-top-2.ensures.extends;
      side = c.in_ok-top-2.ensures.side k c.loop-column.invariant.side;
      peak = λ v some.
          let box : List Interval = box_at c.args.store.now.nodes ends v in
          let size : length box ≡ length ends = length-map ends (interval_of c.args.store.now.nodes v) in
          let same : interval_of c.loop-column.store.nodes v e ≡ interval_at box k =
          interval_later c.args.store.now c.loop-column.store (2 ^ 60) (2 ^ 60) e v c.loop-column.invariant.extends
          (c.requires.ends.high k e c.at.ensures.value) (c.requires.ends.low k e c.at.ensures.value)
          ∙ sym (interval_got c.args.store.now.nodes ends v k e c.at.ensures.value) in
          subst (λ (n : ℕ). IsPeak box (take n numbers) (side_at c.with_column.new.store.nodes c.in_ok-top-2.top v)) more
          (peak_more box numbers k (omega (arith, known, size)) some (side_at c.loop-column.store.nodes c.loop-column.top v)
          (side_at c.with_column.new.store.nodes c.in_ok-top-2.top v)
          (exact v ∙ ap (λ (i : Interval). bounds_sum (side_at c.loop-column.store.nodes c.loop-column.top v) (top_of c.at-in-loop-column.result.now i)) same
          ∙ ap (λ (z : ℤ). bounds_sum (side_at c.loop-column.store.nodes c.loop-column.top v) (top_of z (interval_at box k))) (sym is))
          (c.loop-column.invariant.peak v some));
    }
