-- The first fault of a group, where the groups before have none.
use Rattle.std.proofs.Common.{◌≡◌, inl, inr, true, false, cond, [], ◌∷◌, Some, sym, ap, subst}
use Rattle.rv_tree.specs.{Tree.ProgramTree, Places.Identifier}
use Rattle.rv_types.specs.{declared.fault.NameFault.NameFault, declared.fault.NameFault.TheVariants.NoNode, declared.fault.NameFault.TheVariants.Memory}
use Rattle.rv_types.specs.{Names.is_declared, Names.node_names, Names.name_faults, Scopes.type_faults, Scopes.observer_faults, Clocks.clock_faults}
use Rattle.rv_types.specs.{Earliest.first, Settled.HasCause, Settled.IsFaultOf, Settled.node_faults}
use Rattle.rv_types.proofs.{FirstLaws.first_is, Answered.caused, Answered.has_node}

pub no_node : (p : ProgramTree) (main : Identifier) → is_declared (node_names p) main ≡ false → HasCause p main NoNode
no_node p main absent = inl (first_is (node_faults p main) NoNode (ap (λ b. first (cond b [] (NoNode ∷ []))) absent))

memory_cause : (p : ProgramTree) (main : Identifier) (f : NameFault) → f ≡ Memory → HasCause p main f
memory_cause p main f e = subst (λ g. HasCause p main g) (sym e) tt

module _ (p : ProgramTree) (main : Identifier) (f : NameFault) (there : is_declared (node_names p) main ≡ true) where
  pub of_names : Some f ≡ first (name_faults p) → HasCause p main f
  of_names e = caused p main f (inr (has_node p main there, inl (first_is (name_faults p) f (sym e))))

  pub of_types : name_faults p ≡ [] → IsFaultOf (type_faults p) f → HasCause p main f
  of_types names (inl e) = memory_cause p main f e
  of_types names (inr e) = caused p main f (inr (has_node p main there, inr (names, inl (first_is (type_faults p) f (sym e)))))

  pub of_clocks : name_faults p ≡ [] → type_faults p ≡ [] → IsFaultOf (clock_faults p) f → HasCause p main f
  of_clocks names types (inl e) = memory_cause p main f e
  of_clocks names types (inr e) = caused p main f (inr (has_node p main there, inr (names, inr (types, inl (first_is (clock_faults p) f (sym e))))))

  pub of_observer : name_faults p ≡ [] → type_faults p ≡ [] → clock_faults p ≡ [] → IsFaultOf (observer_faults p main) f → HasCause p main f
  of_observer names types clocks (inl e) = memory_cause p main f e
  of_observer names types clocks (inr e) =
      caused p main f (inr (has_node p main there, inr (names, inr (types, inr (clocks, inl (first_is (observer_faults p main) f (sym e)))))))
