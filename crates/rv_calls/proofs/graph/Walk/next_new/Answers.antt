use Rattle.std.proofs.Common.{◌≡◌, ◌<◌, [], length, get_or, false, sym, ◌∙◌, ap, subst}
use Rattle.std.proofs.lemmas.Option.{get_or_from_slice_get}
use Rattle.rv_calls.proofs.graph.Walk.next_new.Goals as goal

pub first_unmarked-requires : goal.first_unmarked-requires
first_unmarked-requires c j lt =
    let same = get_or_from_slice_get c.args.graph.now c.args.v c.at.result.now [] c.at.ensures.value ∙ sym c.as_slice-targets.ensures in
    let size : length c.args.graph.now ≡ length c.as_slice.result.now = sym (ap length c.as_slice.ensures ∙ c.requires.entered) in
    subst (λ n. get_or c.as_slice-targets.result.now j 0 < n) size
    (subst (λ ts. j < length ts → get_or ts j 0 < length c.args.graph.now) same (c.requires.vertices c.args.v j c.requires.within) lt)

pub returns-in-Some-clause-some : goal.returns-in-Some-clause-some
returns-in-Some-clause-some c =
    let next = c.in-Some.next in let found = c.in-Some.ensures.some in
    let same = get_or_from_slice_get c.args.graph.now c.args.v c.at.result.now [] c.at.ensures.value ∙ sym c.as_slice-targets.ensures in (
      subst (λ ts. next < length ts → get_or ts next 0 < length c.args.graph.now) same (c.requires.vertices c.args.v next c.requires.within) found.0,
      subst (λ fs. get_or fs (get_or c.as_slice-targets.result.now next 0) false ≡ false) c.as_slice.ensures found.1,
    )
