use Rattle.std.proofs.Common.{◌≡◌, ◌+◌, [], get_or, map, sym, ◌∙◌, ap, subst, length, arith, Some}
use Rattle.std.proofs.lemmas.List.{get_or-map}
use Rattle.std.specs.Option.{option_copied}
use Rattle.rv_flat.specs.{Earliest.IsPicked, Steps.IsLeastOf}
use Rattle.rv_step.specs.Ranges.{is_grown_memory}
use Rattle.rv_flat.proofs.Earliest.{picked_yes, picked_no}
use Rattle.rv_step.proofs.ranges.grown_memory.Goals as goal
use Rattle.rv_step.proofs.ranges.grown_memory.Goals.{then-is_grown_memory, else-is_grown_memory}

pub loop-number-preserved : goal.loop-number-preserved
loop-number-preserved c =
    let places = map (λ m. m.place.sites) c.args.memories.now in
    let n = c.loop-number.number in
    let item = c.index-memories-number.result in
    let here : get_or places n [] ≡ item.place.sites = get_or-map (λ m. m.place.sites) c.args.memories.now n item [] (omega arith)
    ∙ ap (λ m. m.place.sites) (sym c.index-memories-number.is) in
    elim c.if-is_grown_memory.branch [
      | then-is_grown_memory w ↦ subst (λ least. IsLeastOf (IsPicked (is_grown_memory c.args.kept.now) places (n + 1)) least)
          (sym (ap option_copied w.least-is ∙ ap (λ p. Some p) w.sooner.ensures))
          (picked_yes (is_grown_memory c.args.kept.now) places n (option_copied c.loop-number.least) item.place
          (sym c.is_grown_memory.ensures ∙ w.if-is_grown_memory.true) here c.loop-number.invariant)
      | else-is_grown_memory w ↦ subst (λ least. IsLeastOf (IsPicked (is_grown_memory c.args.kept.now) places (n + 1)) (option_copied least)) (sym w.least-is)
          (picked_no (is_grown_memory c.args.kept.now) places n (option_copied c.loop-number.least)
          (sym c.is_grown_memory.ensures ∙ w.if-is_grown_memory.false) c.loop-number.invariant)
    ]

pub returns : goal.returns
returns c =
    let all : c.loop-number.number ≡ length c.args.memories.now = omega arith in
    subst (λ n. IsLeastOf (IsPicked (is_grown_memory c.args.kept.now) (map (λ m. m.place.sites) c.args.memories.now) n) (option_copied c.loop-number.least)) all
    c.loop-number.invariant
