use Rattle.std.proofs.Common.{◌≡◌, ◌++◌, map, drop}
use Rattle.rv_tree.specs.{Tree.equation_tree, Delays.delays_in_equations}
use Rattle.rv_meaning.specs.Remembered.{sites_by}
use Rattle.rv_meaning.proofs.memory_list.gather_equations.Given as goal

abbrev pub invariant-loop-equation : goal.invariant-loop-equation
invariant-loop-equation l =
    l.sites ++ sites_by l.flows (delays_in_equations (map equation_tree (drop l.equation-index l.equations)))
    ≡ l.initial.sites ++ sites_by l.flows (delays_in_equations (map equation_tree l.equations))
