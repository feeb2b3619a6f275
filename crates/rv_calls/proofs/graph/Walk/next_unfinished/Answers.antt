use Rattle.std.proofs.Common.{◌≡◌, ◌<◌, ℕ, List, [], length, get_or, false, true, refl, sym, ◌∙◌, ap, subst, ◌≤◌}
use Rattle.std.proofs.lemmas.Option.{get_or_from_slice_get}
use Rattle.rv_calls.specs.Graphs.{edges}
use Rattle.rv_calls.proofs.graph.Walk.next_unfinished.Goals as goal

pub first_unmarked-requires : goal.first_unmarked-requires
first_unmarked-requires c j lt =
    let same = get_or_from_slice_get c.args.graph.now c.args.v c.at.result.now [] c.at.ensures.value ∙ sym c.as_slice-targets.ensures in
    let size : length c.args.graph.now ≡ length c.as_slice.result.now = sym (ap length c.as_slice.ensures ∙ c.requires.finished) in
    subst (λ n. get_or c.as_slice-targets.result.now j 0 < n) size
    (subst (λ ts. j < length ts → get_or ts j 0 < length c.args.graph.now) same (c.requires.vertices c.args.v j c.requires.within) lt)

pub returns-in-None : goal.returns-in-None
returns-in-None c =
    let same = get_or_from_slice_get c.args.graph.now c.args.v c.at.result.now [] c.at.ensures.value ∙ sym c.as_slice-targets.ensures in
    let start : get_or c.args.self.now.cursor c.args.v 0 ≡ c.at-start.result.now = get_or_from_slice_get c.args.self.now.cursor c.args.v c.at-start.result.now 0
    c.at-start.ensures.value in (
      refl,
      λ j from lt.
          subst (λ fs. get_or fs (get_or (edges c.args.graph.now c.args.v) j 0) false ≡ true) c.as_slice.ensures
          (subst (λ ts. get_or c.as_slice.result.now (get_or ts j 0) false ≡ true) (sym same)
          (c.in-None.ensures.none j (subst (λ n. n ≤ j) start from) (subst (λ ts. j < length ts) same lt))),
    )

pub returns-in-Some : goal.returns-in-Some
returns-in-Some c =
    let next = c.in-Some.next in let found = c.in-Some.ensures.some in
    let same = get_or_from_slice_get c.args.graph.now c.args.v c.at.result.now [] c.at.ensures.value ∙ sym c.as_slice-targets.ensures in
    let start = get_or_from_slice_get c.args.self.now.cursor c.args.v c.at-start.result.now 0 c.at-start.ensures.value in
    let fin = c.as_slice.ensures in (
      next,
      subst (λ ts. next < length ts) (sym same) found.0,
      ap (λ ts. get_or ts next 0) same,
      subst (λ fs. get_or fs (get_or c.as_slice-targets.result.now next 0) false ≡ false) fin found.1,
      (λ j from lt.
          subst (λ fs. get_or fs (get_or (edges c.args.graph.now c.args.v) j 0) false ≡ true) fin
          (subst (λ ts. get_or c.as_slice.result.now (get_or ts j 0) false ≡ true) (sym same) (found.2 j (subst (λ n. n ≤ j) start from) lt))),
      ap (λ (l : List ℕ). record {
        entered = c.args.self.now.entered;
        finished = c.args.self.now.finished;
        cursor = l;
        path = c.args.self.now.path;
        order = c.args.self.now.order;
      }) c.set.ensures,
    )
