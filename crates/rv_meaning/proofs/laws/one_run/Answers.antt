use Rattle.rv_meaning.proofs.{Agree.same, Defined.are_defined, Sources.wanted, Sources.wanted_is_local, Sources.solution_of_run}
use Rattle.rv_meaning.proofs.laws.one_run.Goals as goal

pub returns : goal.returns
returns c program main sequence starts inputs n h g well named ordered p q =
    same program main (wanted program starts inputs) (wanted_is_local program starts inputs) (are_defined program main well named) sequence ordered n h g
    (solution_of_run program main starts inputs n h p) (solution_of_run program main starts inputs n g q)
