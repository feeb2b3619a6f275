use Rattle.std.proofs.Common.{◌≡◌, ◌∙◌, ◌++◌, ◌∷◌, ◌+◌, ℕ, List, [], length, length-append, ap, sym, subst, arith, Some}
use Rattle.std.specs.Prelude.{slice_get}
use Rattle.rv_diagram.proofs.Growing.{extends_refl, extends_trans}
use Rattle.rv_tested.specs.{declared.compared.Compared.Compared, declared.testing.Sides.Sides, Compared.comparison_in, Testing.AreSidesRead}
use Rattle.rv_tested.proofs.Following.{read_more}
use Rattle.rv_base.proofs.Lists.{none_at}
use Rattle.rv_tested.proofs.testing.read_all.Goals as goal

pub loop-number-init : goal.loop-number-init
loop-number-init c = record {
  extends = extends_refl c.args.store.now;
  ready = c.requires.ready;
  many = ap (λ (l : List Sides). length l) c.new-read.ensures;
  each = λ i d y one two. absurd (none_at c.new-read.result i y c.new-read.ensures two);
}

pub read_sides-requires-clause-inside : goal.read_sides-requires-clause-inside
read_sides-requires-clause-inside c = c.requires.inside c.loop-number.number c.at-one.result.now c.at-one.ensures.value

pub loop-number-preserved : goal.loop-number-preserved
loop-number-preserved c =
    let f = c.args.around.now.flat.now in
    let is : c.push.new.self ≡ c.loop-number.read ++ c.in_ok-sides.sides ∷ [] = c.in_ok-push.ensures.ok in
    record {
      extends = extends_trans c.args.store.now c.loop-number.store c.read_sides.new.store c.loop-number.invariant.extends c.in_ok-sides.ensures.extends;
      ready = c.in_ok-sides.ensures.ready;
      many = ap (λ (l : List Sides). length l) is ∙ length-append c.loop-number.read (c.in_ok-sides.sides ∷ [])
          ∙ ap (λ n. n + 1) c.loop-number.invariant.many;
      each = subst (λ (l : List Sides). (i : ℕ) (d : Compared) (y : Sides) → slice_get c.args.compared.now i ≡ Some d → slice_get l i ≡ Some y
          → AreSidesRead f c.read_sides.new.store.nodes (comparison_in f.memories d) y) (sym is)
          (read_more f c.loop-number.store c.read_sides.new.store c.args.compared.now c.loop-number.read c.at-one.result.now c.in_ok-sides.sides
          c.in_ok-sides.ensures.extends
          (ap (λ n. slice_get c.args.compared.now n) c.loop-number.invariant.many ∙ c.at-one.ensures.value) c.loop-number.invariant.each
          c.in_ok-sides.ensures.ok);
    }

pub returns-clause-ok : goal.returns-clause-ok
returns-clause-ok c = record { many = omega (arith, c.loop-number.invariant.many); each = c.loop-number.invariant.each }
