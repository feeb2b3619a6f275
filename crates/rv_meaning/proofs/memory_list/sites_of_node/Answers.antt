use Rattle.std.proofs.{Common.List, Common.ℕ, Common.sym, Common.◌∙◌, Common.subst, lemmas.List.Filters.dedup_is, lemmas.List.Kept.Contains-dedup_nat}
use Rattle.std.proofs.{lemmas.List.Kept.Contains-from_dedup, lemmas.List.Sorted.Contains-permutation, lemmas.List.Sorted.IsPermutation-sym}
use Rattle.std.specs.List.{Contains}
use Rattle.rv_tree.specs.{Delays.node_delays, Tree.node_tree}
use Rattle.rv_meaning.specs.Remembered.{AreSites}
use Rattle.rv_meaning.proofs.SitesRead.{sites_are}
use Rattle.rv_meaning.proofs.memory_list.sites_of_node.Goals as goal

pub returns : goal.returns
returns c =
    let n = node_tree c.args.node.now in
    let read = c.into_vec-sites.ensures ∙ c.in_ok-read.ensures ∙ sites_are n c.in_ok-flows.flows c.in_ok-flows.ensures (node_delays n) in
    let is = dedup_is _ _ _ c.dedup.ensures.filtered in
    let moved = c.sort_unstable.ensures.permutation in
    subst (λ (l : List ℕ). AreSites n l) (sym (c.from_vec.ensures ∙ is))
    (record {
      all = λ s w. Contains-dedup_nat _ s (Contains-permutation _ _ s moved (subst (λ (l : List ℕ). Contains l s) (sym read) w));
      only = λ s w. subst (λ (l : List ℕ). Contains l s) read (Contains-permutation _ _ s (IsPermutation-sym _ _ moved) (Contains-from_dedup _ _ s w));
    })
