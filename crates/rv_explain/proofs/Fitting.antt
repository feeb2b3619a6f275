-- What an accepted source has that its traces are read by.
use Rattle.std.proofs.Common.{◌<◌, ◌^◌, length, map, sym, subst, arith}
use Rattle.std.proofs.lemmas.List.{length-map}
use Rattle.rv_tree.specs.{Tree.ProgramTree, Places.Identifier}
use Rattle.rv_types.specs.{declared.typed.Typed.Typed, Instances.name_at, Instances.IsNode, Settled.IsSettled}
use Rattle.rv_instances.specs.{declared.answer.Order.Order, Fitting.Fits}
use Rattle.rv_flat.specs.{declared.flat.Flat.Flat, FlatOf.IsFlatOf, Systems.memory_of}
use Rattle.rv_flatten.proofs.FewMemories as few
use Rattle.rv_explain.proofs.MainNode.{main_named, main_is_node}

-- The memories of the program of an accepted source can be counted.
pub few_memories : (p : ProgramTree) (t : Typed) (o : Order) (f : Flat) → Fits p t o → IsFlatOf p (name_at p t.main) f → length f.memories < 2 ^ 64
few_memories p t o f fits flat =
    let bound = few.few_memories p (name_at p t.main) (map memory_of f.memories) fits.counted.all flat.memories fits.few.expressions in
    let long = length-map f.memories memory_of in
    omega (arith, bound, long)

-- Its main node is one.
pub is_node : (p : ProgramTree) (t : Typed) (o : Order) → Fits p t o → IsNode p (name_at p t.main)
is_node p t o fits =
    let settled : IsSettled p (name_at p t.main) t =
    subst (λ (x : Identifier). IsSettled p x t) (sym (main_named p fits.settled.0 t fits.settled.1)) fits.settled.1 in
    main_is_node p (name_at p t.main) t settled
