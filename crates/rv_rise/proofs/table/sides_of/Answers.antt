use Rattle.std.proofs.Common.{◌≡◌, ◌∙◌, ◌*◌, ℕ, length, arith, subst, ap}
use Rattle.rv_rise.specs.Table.{IsTableOf, column_places}
use Rattle.rv_rise.proofs.Tabling.{none_added, sides_are}
use Rattle.rv_rise.proofs.table.sides_of.Goals as goal

pub loop-column-init : goal.loop-column-init
loop-column-init c = record {
  table = none_added c.args.memories c.new-sides.result c.new-sides.ensures;
  pairs = λ l. ap length c.new-sides.ensures;
  alone = λ l. ap length c.new-sides.ensures;
}

pub loop-column-preserved : goal.loop-column-preserved
loop-column-preserved c = record {
  table = c.in_ok-add_column.ensures.after;
  pairs = λ l. omega (arith, c.in_ok-add_column.ensures.pairs l, c.loop-column.invariant.pairs l);
  alone = λ l. omega (arith, c.in_ok-add_column.ensures.alone l, c.loop-column.invariant.alone l);
}

pub returns : goal.returns
returns c s same =
    let e : c.loop-column.column ≡ c.args.memories = omega (arith, c.loop-column-test.false, c.loop-column.auto) in
    sides_are s c.args.memories same c.loop-column.sides
    (subst (λ (n : ℕ). IsTableOf c.args.memories (column_places c.args.memories n) c.loop-column.sides) e c.loop-column.invariant.table)
    c.requires
    (λ l. c.loop-column.invariant.pairs l ∙ ap (λ (n : ℕ). 2 * (n * n)) e)
    (λ l. c.loop-column.invariant.alone l ∙ ap (λ (n : ℕ). 2 * n) e)
