use Rattle.std.proofs.Common.{ap, get_or}
use Rattle.std.specs.FinMap.{empty}
use Rattle.rv_meaning.proofs.OneInstant.{at_state, at_state_is_local, alone, solution_of_instant, instant_of_solution}
use Rattle.rv_meaning.proofs.{Agree.same, Extend.a_solution, Defined.are_defined}
use Rattle.rv_meaning.proofs.laws.one_instant.Goals as goal

pub returns : goal.returns
returns c program main sequence state inputs well named ordered =
    let defined = are_defined program main well named in
    let is_local = at_state_is_local program main state inputs in
    let s = a_solution program main (at_state program main state inputs) sequence is_local defined ordered 1 in (
      get_or s.0 0 empty,
      instant_of_solution program main state inputs defined s.0 s.1,
      λ other r. ap (λ h. get_or h 0 empty)
          (same program main (at_state program main state inputs) is_local defined sequence ordered 1 (alone program main state inputs other) s.0
          (solution_of_instant program main state inputs other r) s.1),
    )
