-- What the answer of the rules of names, types and clocks gives.
use Rattle.std.proofs.Common.{◌≡◌, [], ◌<◌, length, sym, subst}
use Rattle.rv_tree.specs.Tree.{ProgramTree}
use Rattle.rv_types.specs.{declared.typed.Typed.Typed, Names.name_faults, Settled.IsAnswer}
use Rattle.rv_instances.proofs.Known.{called}

pub answer_named : (p : ProgramTree) (t : Typed) → IsAnswer p t → name_faults p ≡ []
answer_named p t a = a.1.names

pub main_within : (p : ProgramTree) (t : Typed) → IsAnswer p t → t.main < length p.nodes
main_within p t a = subst (λ k. k < length p.nodes) (sym a.1.main_number) (called p a.1.names a.0 a.1.has_main).0
