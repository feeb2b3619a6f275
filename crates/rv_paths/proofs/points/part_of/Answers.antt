use Rattle.std.proofs.Common.{◌≡◌, ◌∙◌, ◌+◌, ◌++◌, ◌∷◌, [], ℤ, List, FitsSigned, rules, length, ap, sym, subst}
use Rattle.std.proofs.{lemmas.Int.to_z-of_z, lemmas.List.length_push, lemmas.List.Elements.All-push}
use Rattle.std.specs.Int.{w128}
use Rattle.rv_poly.specs.Whole.{IsInReplay}
use Rattle.rv_paths.proofs.Lists.{number_replay}
use Rattle.rv_paths.proofs.points.part_of.Goals as goal

pub loop-column-preserved : goal.loop-column-preserved
loop-column-preserved c =
    let number_fits : FitsSigned w128 c.number_at-number.result = search rules in
    let new_is : c.push.new.self ≡ c.loop-column.numbers ++ c.number_at-number.result ∷ [] = simp to_z-of_z at c.in_ok-push.ensures.ok in
    let within : IsInReplay c.number_at-number.result = subst IsInReplay (sym c.number_at-number.ensures)
    (number_replay c.args.point.now c.saturating_add.result c.requires) in
    record {
      size = ap (λ (l : List ℤ). length l) new_is ∙ length_push c.loop-column.numbers c.number_at-number.result ∙ ap (λ n. n + 1) c.loop-column.invariant.size;
      replay = rw new_is (All-push IsInReplay c.loop-column.numbers c.number_at-number.result c.loop-column.invariant.replay within);
    }
