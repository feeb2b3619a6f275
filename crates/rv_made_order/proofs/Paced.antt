-- No clock of a made program breaks a rule: all flows stand on the base clock.
use Rattle.std.proofs.Common.{◌≡◌, ℕ, zero, suc, ◌+◌, ◌≤◌, cond, [], ◌++◌, map, refl, ◌∙◌, ap, arith, Option, Some}
use Rattle.std.specs.{Prelude.codes, List.flat_map}
use Rattle.rv_tree.specs.Tree.{Node, Call, None, More, NodeTree, ProgramTree}
use Rattle.rv_tree.specs.{declared.tree.Decl.Decl, Places.Identifier, Places.site_of}
use Rattle.rv_types.specs.Clocks.{declared_clock, clock_at, name_pace, chain_clash, equation_clocks, clocks_in_node, clock_faults}
use Rattle.rv_types.specs.{declared.typed.Clock.TheVariants.Base, declared.fault.Pace.TheVariants.Free, declared.fault.Pace.TheVariants.At}
use Rattle.rv_make.specs.{Made.link_name, Chains.Offsets, Chains.equation, Chains.flow_read, Chains.link_flows, Chains.main_node, Chains.chain_program}
use Rattle.rv_made_order.proofs.Lists.{both_none, none_of_each, each_or, each_mapped}
use Rattle.rv_made_order.proofs.Program.{ok_equation_of, each_equation, each_flow, flow_there}

-- the clocks in the equation of a call
call_clocks : (n : NodeTree) (a b c : ℕ) (site : Option ℕ) (x y f : Identifier) → name_pace n x ≡ At Base → name_pace n y ≡ At Base
    → equation_clocks n (equation a x (Node b site (Call f (More (flow_read c y) None)))) ≡ []
call_clocks n a b c site x y f given taken = simp (given, taken)

-- and in that of the observer
ok_clocks : (n : NodeTree) (at : ℕ → ℕ) (x : Identifier) → name_pace n (codes "ok") ≡ At Base → name_pace n x ≡ At Base → name_pace n (codes "seen") ≡ At Base
    → equation_clocks n (ok_equation_of at x) ≡ []
ok_clocks n at x given taken seen = simp (given, taken, seen)

module _ (o : Offsets) (n : ℕ) where
  -- the made program with n calls
  abbrev p : ProgramTree
  p = chain_program o n

  -- its main node
  abbrev main : NodeTree
  main = main_node o n

  -- Each flow of the main node is on the base clock.
  pub main_clock : (k : ℕ) → clock_at main k ≡ Base
  main_clock zero = refl
  main_clock (suc zero) = refl
  main_clock (suc (suc zero)) = refl
  main_clock (suc (suc (suc k))) = each_or Base (map (λ (d : Decl). declared_clock main d.clock) (link_flows o.declared n)) k
      (each_mapped (λ (d : Decl). declared_clock main d.clock) Base (link_flows o.declared n)
      (each_flow o n (λ (d : Decl). declared_clock main d.clock ≡ Base) (λ i lt. refl)))

  pub link_pace : (i : ℕ) → i ≤ n → name_pace main (link_name i) ≡ At Base
  link_pace i le =
      ap (λ b. cond b (At (clock_at main (site_of main (link_name i)))) Free) (flow_there o n i le)
      ∙ ap (λ c. At c) (main_clock (site_of main (link_name i)))

  main_clocks : clocks_in_node main ≡ []
  main_clocks = both_none (flat_map (chain_clash main) main.locals) (flat_map (equation_clocks main) main.equations ++ [])
      (none_of_each (chain_clash main) (link_flows o.declared n) (each_flow o n (λ (d : Decl). chain_clash main d ≡ []) (λ i lt. refl)))
      (both_none (flat_map (equation_clocks main) main.equations) []
      (none_of_each (equation_clocks main) main.equations (each_equation o n (λ q. equation_clocks main q ≡ []) refl
      (λ i lt. call_clocks main (o.left i) (o.call i) (o.argument i) (Some ((n + 4) + i)) (link_name (suc i)) (link_name i) (codes "link")
      (link_pace (suc i) lt) (link_pace i (omega (arith, lt))))
      (ok_clocks main o.main (link_name n) refl (link_pace n (omega arith)) refl)))
      refl)

  pub clocked : clock_faults p ≡ []
  clocked = both_none (clocks_in_node main) [] main_clocks refl
