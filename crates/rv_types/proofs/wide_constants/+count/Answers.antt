use Rattle.std.proofs.Common.{◌+◌, ◌∷◌, ◌&&◌, not, map, drop, sym, ap, ◌∙◌}
use Rattle.rv_tree.specs.Tree.{tree_of, trees}
use Rattle.rv_types.specs.WideConstants.{lesser, first_wide, first_wide_of_all}
use Rattle.rv_types.specs.{Constants.flag_in, Constants.flags_of_all, ValueTables.at_most_after, ValueTables.value_by}
use Rattle.rv_types.proofs.WideParts.{rest_is, seen_more, lesser_more}
use Rattle.rv_types.proofs.wide_constants.+count.Goals as goal

pub count_all-loop-e-preserved : goal.count_all-loop-e-preserved
count_all-loop-e-preserved t c =
    let known = value_by c.args.known.now in
    let es = c.args.es.now in
    let e = c.e-item.result in
    let rest = rest_is es c.loop-e.e-index e c.loop-e-test.true c.e-item.is in
    let after = trees (map tree_of (drop (c.loop-e.e-index + 1) es)) in
    let flag = c.flag.ensures ∙ ap (λ v. flag_in v) c.count-part.ensures.value in
    record {
      seen =
          (λ i. not (c.seen_after-seen.ensures.several i) && at_most_after (c.seen_after-seen.ensures.some i) (flags_of_all known after))
          ∙ seen_more c.loop-e.seen.some c.loop-e.seen.several c.flag.result (flags_of_all known after)
          ∙ ap (λ f. not c.loop-e.seen.several && at_most_after c.loop-e.seen.some (f ∷ flags_of_all known after)) flag
          ∙ ap (λ ts. not c.loop-e.seen.several && at_most_after c.loop-e.seen.some (flags_of_all known ts)) (sym rest) ∙ c.loop-e.invariant.seen;
      first =
          ap (λ o. lesser o (first_wide_of_all known after)) c.lesser_of-first.ensures
          ∙ ap (λ o. lesser (lesser c.loop-e.first o) (first_wide_of_all known after)) c.count-part.ensures.first
          ∙ lesser_more c.loop-e.first (first_wide known (tree_of e)) (first_wide_of_all known after)
          ∙ ap (λ ts. lesser c.loop-e.first (first_wide_of_all known ts)) (sym rest) ∙ c.loop-e.invariant.first;
    }
