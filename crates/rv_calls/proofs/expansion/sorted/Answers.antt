use Rattle.std.proofs.{Common.List, Common.sym, Common.subst, Common.rules, lemmas.List.Sorted.IsNonDecreasingBy-from_sort_by_key}
use Rattle.std.specs.List.Sorted.{IsPermutation}
use Rattle.rv_calls.specs.{declared.calls.Calling.Calling, Listing.AreSorted}
use Rattle.rv_calls.proofs.expansion.sorted.Goals as goal

pub returns : goal.returns
returns c =
    subst (λ (l : List Calling). AreSorted c.args.calls.now l) (sym c.from_vec.ensures)
    (record {
      same = subst (λ (l : List Calling). IsPermutation l c.sort_by_key.new.self.items) c.in_ok-sorted.ensures.items c.in_ok-sort_by_key.ensures.permutation;
      rising = IsNonDecreasingBy-from_sort_by_key (λ (x : Calling). x.site) _ c.in_ok-sort_by_key.ensures.sorted (λ a r q k. search rules);
    })
