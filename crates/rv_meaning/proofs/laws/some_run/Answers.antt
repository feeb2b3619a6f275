use Rattle.rv_meaning.proofs.{Extend.a_solution, Defined.are_defined, Sources.wanted, Sources.wanted_is_local, Sources.run_of_solution}
use Rattle.rv_meaning.proofs.laws.some_run.Goals as goal

pub returns : goal.returns
returns c program main sequence starts inputs n well named ordered typed given =
    let defined = are_defined program main well named in
    let s = a_solution program main (wanted program starts inputs) sequence (wanted_is_local program starts inputs) defined ordered n in
    (s.0, run_of_solution program main starts inputs defined typed n given s.0 s.1)
