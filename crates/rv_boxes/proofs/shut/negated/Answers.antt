use Rattle.std.proofs.Common.{◌+◌, ◌≤◌, ◌^◌, ◌++◌, ◌∷◌, [], rules, FitsSigned, length, ap, ◌∙◌}
use Rattle.std.proofs.{lemmas.Int.to_z-of_z, lemmas.List.length_push, lemmas.List.Elements.All-push, lemmas.List.Elements.All-same}
use Rattle.std.specs.{Int.w128, Int.RustNames.unsigned_abs}
use Rattle.rv_boxes.proofs.Numbers.{negated_more, turned_small, read_small}
use Rattle.rv_boxes.proofs.shut.negated.Goals as goal

pub loop-column-preserved : goal.loop-column-preserved
loop-column-preserved c =
    let fits : FitsSigned w128 c.at.result.now = search rules in
    let turned_fits : FitsSigned w128 c.opposite-turned.result = search rules in
    let is = simp to_z-of_z at c.opposite-turned.ensures in
    let grown = simp to_z-of_z at c.in_ok-push.ensures.ok in
    let old = c.loop-column.invariant in
    record {
      size = ap length grown ∙ length_push c.loop-column.list c.opposite-turned.result ∙ ap (λ n. n + 1) old.size;
      each = negated_more c.args.numbers.now c.loop-column.list c.push.new.self c.loop-column.column c.at.result.now c.opposite-turned.result
          c.at.ensures.value old.size old.each is grown;
      sizes = All-same (λ x. unsigned_abs x ≤ 2 ^ 41) c.push.new.self (c.loop-column.list ++ c.opposite-turned.result ∷ []) grown
          (All-push (λ x. unsigned_abs x ≤ 2 ^ 41) c.loop-column.list c.opposite-turned.result old.sizes
          (turned_small c.at.result.now c.opposite-turned.result (2 ^ 41) is (read_small c.args.numbers.now c.loop-column.column c.at.result.now
          (2 ^ 41) c.requires c.at.ensures.value)));
    }
