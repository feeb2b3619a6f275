use Rattle.std.proofs.Common.{◌≡◌, ◌∙◌, ◌+◌, ◌<◌, Bool, List, [], ◌∷◌, length, sym, ap, subst, arith, length-append}
use Rattle.rv_split.specs.Steps.{AreTold, IsMet}
use Rattle.rv_split.proofs.Walking.{met_node, told_more}
use Rattle.rv_split.proofs.freeing.told_of.Goals as goal

pub loop-i-init : goal.loop-i-init
loop-i-init c = record {
  size = ap (λ (l : List Bool). length l) c.new-told.ensures.items;
  told = λ i low. let z : length c.new-told.result.items ≡ 0 = ap (λ (l : List Bool). length l) c.new-told.ensures.items in absurd (omega arith);
}

pub loop-i-preserved : goal.loop-i-preserved
loop-i-preserved c =
    let low : c.loop-i.i < length c.args.nodes.now = c.loop-i-test.true in
    let one : AreTold c.args.nodes.now c.as_slice.result.now =
    subst (λ (l : List Bool). AreTold c.args.nodes.now l) (sym c.as_slice.ensures.value) c.loop-i.invariant.told in
    let (a, b, ma, mb, e) = c.either_reaches-some.ensures c.args.nodes.now one in
    let met : IsMet c.args.nodes.now (c.loop-i.i + 2) c.either_reaches-some.result =
    subst (λ (x : Bool). IsMet c.args.nodes.now (c.loop-i.i + 2) x) (sym e) (met_node c.args.nodes.now c.requires c.loop-i.i low a b ma mb) in
    record {
      size = ap (λ (l : List Bool). length l) c.in_ok-push.ensures.items
          ∙ length-append c.loop-i.told.items (c.either_reaches-some.result ∷ []) ∙ ap (λ n. n + 1) c.loop-i.invariant.size;
      told = subst (λ (l : List Bool). AreTold c.args.nodes.now l) (sym c.in_ok-push.ensures.items)
          (told_more c.args.nodes.now c.loop-i.told.items c.either_reaches-some.result c.loop-i.i c.loop-i.invariant.told
          c.loop-i.invariant.size met);
    }
