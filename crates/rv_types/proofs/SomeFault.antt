-- A list of faults is empty or has a first one, and so do groups of them.
use Rattle.std.proofs.Common.{◌≡◌, ◌⊎◌, inl, inr, IsTrue, List, [], ◌∷◌, Option, Some, None, map, refl}
use Rattle.rv_tree.specs.{Tree.ProgramTree, Places.Identifier}
use Rattle.rv_types.specs.{declared.fault.NameFault.NameFault, declared.fault.NameFault.TheVariants.NoNode, declared.typed.Typed.Typed, Names.is_declared}
use Rattle.rv_types.specs.{Names.node_names, Kinds.flow_kinds, Scopes.constant_values, Clocks.flow_clocks, Earliest.first, Faults.IsFirst}
use Rattle.rv_types.specs.{Faults.IsFirstOfGroups, Settled.node_number, Settled.node_faults, Settled.groups, Settled.IsSettled, Settled.IsFirstFault}
use Rattle.rv_types.proofs.{FirstLaws.first_none, FirstLaws.first_is, RightNames.met}

some_first : (fs : List NameFault) → (fs ≡ []) ⊎ ((f : NameFault) × IsFirst f fs)
some_first fs = tested (first fs) refl
  where
    tested : (o : Option NameFault) → first fs ≡ o → (fs ≡ []) ⊎ ((f : NameFault) × IsFirst f fs)
    tested None e = inl (first_none fs e)
    tested (Some f) e = inr (f, first_is fs f e)

-- groups without a fault
abbrev AreNone : List (List NameFault) → Type 0
AreNone [] = Unit {0}
AreNone (fs ∷ rest) = (fs ≡ []) × AreNone rest

joined : (fs : List NameFault) (rest : List (List NameFault)) → (fs ≡ []) ⊎ ((f : NameFault) × IsFirst f fs)
    → AreNone rest ⊎ ((f : NameFault) × IsFirstOfGroups rest f) → AreNone (fs ∷ rest) ⊎ ((f : NameFault) × IsFirstOfGroups (fs ∷ rest) f)
joined fs rest (inr h) _ = inr (h.0, inl h.1)
joined fs rest (inl none) (inl right) = inl (none, right)
joined fs rest (inl none) (inr h) = inr (h.0, inr (none, h.1))

some_of_groups : (fss : List (List NameFault)) → AreNone fss ⊎ ((f : NameFault) × IsFirstOfGroups fss f)
some_of_groups [] = inl tt
some_of_groups (fs ∷ rest) = joined fs rest (some_first fs) (some_of_groups rest)

-- where no group says that there is no node there is one
main_there : (p : ProgramTree) (main : Identifier) → node_faults p main ≡ [] → IsTrue (is_declared (node_names p) main)
main_there p main = met (is_declared (node_names p) main) NoNode

-- the types, clocks and constants of a program
settlement : ProgramTree → Identifier → Typed
settlement p main = record {
  main = node_number p main;
  kinds = map (flow_kinds p) p.nodes;
  clocks = map flow_clocks p.nodes;
  constants = constant_values p;
}

settles : (p : ProgramTree) (main : Identifier) → AreNone (groups p main) → IsSettled p main (settlement p main)
unfolding settlement
settles p main right = record {
  has_main = main_there p main right.0;
  names = right.1.0;
  types = right.1.1.0;
  clocks = right.1.1.1.0;
  observer = right.1.1.1.1.0;
  main_number = refl;
  flow_types = refl;
  flow_times = refl;
  values = refl;
}

pub settled_or_first : (p : ProgramTree) (main : Identifier) → ((t : Typed) × IsSettled p main t) ⊎ ((f : NameFault) × IsFirstFault p main f)
settled_or_first p main = told (some_of_groups (groups p main))
  where
    told : AreNone (groups p main) ⊎ ((f : NameFault) × IsFirstOfGroups (groups p main) f)
        → ((t : Typed) × IsSettled p main t) ⊎ ((f : NameFault) × IsFirstFault p main f)
    told (inl right) = inl (settlement p main, settles p main right)
    told (inr h) = inr h
