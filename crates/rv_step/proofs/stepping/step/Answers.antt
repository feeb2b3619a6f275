use Rattle.std.proofs.Common.{sym, subst, Some, None}
use Rattle.std.specs.Option.{option_copied}
use Rattle.rv_flat.specs.{FlatOf.IsFlatBroken, Steps.IsLeast, Steps.IsLeastOf, Steps.IsGrown}
use Rattle.rv_step.proofs.OneStep.{broken_places, grown_places, next, next_state}
use Rattle.rv_step.proofs.Typed.{are_taken}
use Rattle.rv_step.proofs.stepping.step.Goals as goal

pub returns-in-Some-clause-fault : goal.returns-in-Some-clause-fault
returns-in-Some-clause-fault c =
    let f = c.args.flat.now in
    let row = c.in_ok-values.values in (
      row,
      c.in_ok-values.ensures.instant,
      subst (λ p. IsLeast (IsGrown f c.args.now.now c.args.input.now row) p.sites) (sym c.in_ok-copy_of.ensures)
          (grown_places f c.args.now.now c.args.input.now row c.requires.state c.in_ok-kept.kept c.in_ok-kept.ensures.kept (Some c.in-Some.place.now)
          c.in-Some.ensures),
    )

pub returns-clause-stepped : goal.returns-clause-stepped
returns-clause-stepped c =
    let f = c.args.flat.now in
    let now = c.args.now.now in
    let inputs = c.args.input.now in
    let row = c.in_ok-values.values in
    let kept = c.in_ok-kept.kept in
    record {
      instant = c.in_ok-values.ensures.instant;
      next = next f now inputs row c.requires.state kept c.in_ok-kept.ensures.kept c.in_ok-ticked.ticked c.in_ok-ticked.ensures;
      observer = c.is_flow_on.ensures;
      broken = subst (IsLeastOf (IsFlatBroken f now inputs row)) (sym c.in_ok-broken.ensures)
          (broken_places f now inputs row (option_copied c.broken_place.result) c.broken_place.ensures);
      within = grown_places f now inputs row c.requires.state kept c.in_ok-kept.ensures.kept None c.in_default.ensures;
      state = next_state f now inputs row c.requires.state kept c.in_ok-kept.ensures.kept c.in_ok-ticked.ticked c.in_ok-ticked.ensures c.in_default.ensures
          (are_taken f now inputs row c.requires.state c.requires.inputs c.in_ok-values.ensures.instant);
    }

pub returns-clause-next_state : goal.returns-clause-next_state
returns-clause-next_state c =
    let f = c.args.flat.now in
    let now = c.args.now.now in
    let inputs = c.args.input.now in
    let row = c.in_ok-values.values in
    next_state f now inputs row c.requires.state c.in_ok-kept.kept c.in_ok-kept.ensures.kept c.in_ok-ticked.ticked c.in_ok-ticked.ensures c.in_default.ensures
    (are_taken f now inputs row c.requires.state c.requires.inputs c.in_ok-values.ensures.instant)
