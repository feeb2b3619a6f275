-- Where there is a sequence, there is no cycle.
use Rattle.std.proofs.Common.{◌≡◌, ℕ, ◌<◌, true, List, [], ◌∷◌, length, sym, ◌∙◌, subst, arith, get_or}
use Rattle.std.proofs.{lemmas.List.get_or_default, lemmas.List.Elements.All-contains}
use Rattle.rv_tree.specs.{Tree.ProgramTree, Places.Identifier, Places.Sites, Places.is_among}
use Rattle.rv_types.specs.Names.{name_faults}
use Rattle.rv_types.specs.Needs.{Giver, Gives, needs_of, IsAmongFirst, IsSequence, NeedsFlow, Leads, IsCycle}
use Rattle.rv_instances.specs.AllInstances.{names_of, AreFed}
use Rattle.rv_instances.proofs.Flowing.{flow_of_giver}

module _ (p : ProgramTree) (main : Identifier) (sequence : List Sites) (ordered : IsSequence p main sequence) where
  earlier : (k : ℕ) → k < length sequence → (a b : Sites) → get_or sequence k [] ≡ a → NeedsFlow p main a b → IsAmongFirst p main sequence k b
  earlier k lt a b is = subst (λ a. NeedsFlow p main a b → IsAmongFirst p main sequence k b) is
      (λ n. All-contains (IsAmongFirst p main sequence k) (needs_of p n.0) b (ordered.after k n.0 lt n.1) n.2)

  all_earlier : (k : ℕ) → k < length sequence → (a : Sites) (rs : List Sites) (b : Sites) → get_or sequence k [] ≡ a → Leads p main a rs b
      → IsAmongFirst p main sequence k b
  all_earlier k lt a [] b is n = earlier k lt a b is n
  all_earlier k lt a (r ∷ rs) b is n =
      let w = earlier k lt a r is n.0 in
      let v = all_earlier w.0 (omega (arith, w.1)) r rs b w.2 n.1 in
      (v.0, omega (arith, w.1, v.1), v.2)

  pub no_cycle : name_faults p ≡ [] → is_among (names_of p) main ≡ true → AreFed p → (c : List Sites) → IsCycle p main c → ⊥
  no_cycle named declared fed [] cycle = cycle
  no_cycle named declared fed (a ∷ rs) cycle =
      let w = ordered.flows a (let f = first a rs a cycle in flow_of_giver p named main declared fed a f.0 f.1) in
      let is = get_or_default sequence w.0 [] a w.1 ∙ w.2 in
      let v = all_earlier w.0 w.1 a rs a is cycle in
      ordered.once v.0 w.0 v.1 w.1 (v.2 ∙ sym is)
    where
      first : (a : Sites) (rs : List Sites) (b : Sites) → Leads p main a rs b → (g : Giver) × Gives p main a g
      first a [] b n = (n.0, n.1)
      first a (r ∷ rs) b n = (n.0.0, n.0.1)
