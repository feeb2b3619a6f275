use Rattle.std.proofs.Common.{None, length, map, sym, subst}
use Rattle.std.specs.Option.{option_copied}
use Rattle.rv_flat.specs.{Earliest.IsPicked, FlatInstants.places, FlatInstants.memory_places, Steps.IsLeast, Steps.IsLeastOf}
use Rattle.rv_step.specs.Ranges.{is_grown_flow, is_grown_memory, IsGrownAt}
use Rattle.rv_flat.proofs.Earliest.{least_joined, least_alone}
use Rattle.rv_step.proofs.ranges.grown_place.Goals as goal

pub returns-in-Some : goal.returns-in-Some
returns-in-Some c =
    let f = c.args.flat.now in
    let row = c.args.row.now in
    let kept = c.args.kept.now in
    let first = option_copied c.grown_flow-first.result in
    let a : IsLeastOf (IsPicked (is_grown_flow row) (places f) (length f.flows)) first =
    subst (λ fs. IsLeastOf (IsPicked (is_grown_flow row) (map (λ g. g.place.sites) fs) (length fs)) first) c.as_slice.ensures c.grown_flow-first.ensures in
    let b : IsLeast (IsPicked (is_grown_memory kept) (memory_places f) (length f.memories)) c.in-Some.place.now.sites =
    subst (λ ms. IsLeast (IsPicked (is_grown_memory kept) (map (λ m. m.place.sites) ms) (length ms)) c.in-Some.place.now.sites) c.as_slice-2.ensures
    c.in-Some.ensures in
    subst (λ p. IsLeast (IsGrownAt f row kept) p.sites) (sym c.sooner.ensures)
    (least_joined (IsPicked (is_grown_flow row) (places f) (length f.flows)) (IsPicked (is_grown_memory kept) (memory_places f) (length f.memories)) first
    c.in-Some.place.now a b)

pub returns-in-None : goal.returns-in-None
returns-in-None c =
    let f = c.args.flat.now in
    let row = c.args.row.now in
    let kept = c.args.kept.now in
    let first = option_copied c.grown_flow-first.result in
    let a : IsLeastOf (IsPicked (is_grown_flow row) (places f) (length f.flows)) first =
    subst (λ fs. IsLeastOf (IsPicked (is_grown_flow row) (map (λ g. g.place.sites) fs) (length fs)) first) c.as_slice.ensures c.grown_flow-first.ensures in
    least_alone (IsPicked (is_grown_flow row) (places f) (length f.flows)) (IsPicked (is_grown_memory kept) (memory_places f) (length f.memories)) first a
    (subst (λ ms. IsLeastOf (IsPicked (is_grown_memory kept) (map (λ m. m.place.sites) ms) (length ms)) None) c.as_slice-2.ensures c.in-None.ensures)
