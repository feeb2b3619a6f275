-- Memories stand in the order of their places, so those of a program have one list.
use Rattle.std.proofs.Common.{◌≡◌, List, sym, subst}
use Rattle.std.specs.List.{Contains}
use Rattle.rv_tree.specs.{Tree.ProgramTree, Places.Identifier}
use Rattle.rv_types.specs.Lists.{MemoryAt, AreMemories, IsAny}
use Rattle.rv_types.proofs.PlaceOrders.{one_list}

-- The memories of a program have one list.
pub one_listing : (p : ProgramTree) (main : Identifier) (xs ys : List MemoryAt) → AreMemories p main IsAny xs → AreMemories p main IsAny ys → xs ≡ ys
one_listing p main xs ys a b = one_list xs ys a.rising b.rising (taken xs ys a b) (taken ys xs b a)
  where
    taken : (xs ys : List MemoryAt) → AreMemories p main IsAny xs → AreMemories p main IsAny ys → (m : MemoryAt) → Contains xs m → Contains ys m
    taken xs ys a b m w = let found = a.only m w in subst (Contains ys) (sym found.5) (b.all found.0 found.1 found.2 found.3 found.4)
