-- No type of a made program breaks a rule: all flows and expressions are Boolean.
use Rattle.std.proofs.Common.{◌≡◌, ℕ, zero, suc, ◌+◌, ◌^◌, ◌<◌, ◌≤◌, cond, [], ◌∷◌, ◌++◌, refl, ◌∙◌, ap, arith, Option, Some}
use Rattle.std.specs.{Prelude.codes, Prelude.slice_get, List.flat_map}
use Rattle.rv_tree.specs.{declared.tree.Decl.Decl, Tree.Node, Tree.Call, Tree.None, Tree.More, Tree.NodeTree, Tree.ProgramTree, Places.Identifier}
use Rattle.rv_types.specs.Kinds.{kind_in_program, decl_kinds, flow_kinds, flow_kind}
use Rattle.rv_types.specs.Scopes.{constant_kind, value_kind, signature_named, clock_types, equation_types, types_in_node, type_faults}
use Rattle.rv_types.specs.{declared.typed.Kind.TheVariants.Bool as Boolean, Types.Signature}
use Rattle.rv_make.specs.{Made.link_name, Chains.Offsets, Chains.equation, Chains.flow_read, Chains.link_flows, Chains.main_node, Chains.chain_program}
use Rattle.rv_instances.proofs.Lists.{length_map}
use Rattle.rv_made_order.proofs.Lists.{both_none, none_of_each, each_at, each_mapped}
use Rattle.rv_made_order.proofs.Program.{ok_equation_of, each_equation, each_flow, flow_there, flow_site, link_site, length_flows}

-- a node that takes a Boolean and gives one
abbrev pub delay_signature : Signature
delay_signature = record { takes = Boolean ∷ []; gives = Boolean ∷ [] }

-- the types in the equation of a call
call_types : (p : ProgramTree) (n : NodeTree) (a b c : ℕ) (site : Option ℕ) (x y f : Identifier) → flow_kind p n x ≡ Some Boolean
    → value_kind p n y ≡ Some Boolean
    → signature_named p f ≡ Some delay_signature → equation_types p n (equation a x (Node b site (Call f (More (flow_read c y) None)))) ≡ []
call_types p n a b c site x y f given taken called = simp (given, taken, called)

-- and in that of the observer
ok_types : (p : ProgramTree) (n : NodeTree) (at : ℕ → ℕ) (x : Identifier) → flow_kind p n (codes "ok") ≡ Some Boolean → value_kind p n x ≡ Some Boolean
    → value_kind p n (codes "seen") ≡ Some Boolean
    → equation_types p n (ok_equation_of at x) ≡ []
ok_types p n at x given taken seen = simp (given, taken, seen)

module _ (o : Offsets) (n : ℕ) (few : n < 2 ^ 64) where
  -- the made program with n calls
  abbrev p : ProgramTree
  p = chain_program o n

  -- its main node
  abbrev main : NodeTree
  main = main_node o n

  link_kinds : (k : ℕ) → k < n → slice_get (decl_kinds p (link_flows o.declared n)) k ≡ Some Boolean
  link_kinds k lt = each_at Boolean (decl_kinds p (link_flows o.declared n)) k
      (each_mapped (λ (d : Decl). kind_in_program p d.kind) Boolean (link_flows o.declared n)
      (each_flow o n (λ (d : Decl). kind_in_program p d.kind ≡ Boolean) (λ i less. refl)))
      (let l = length_map (λ (d : Decl). kind_in_program p d.kind) (link_flows o.declared n) in let m = length_flows o.declared n in omega (arith, l, m, lt))

  -- The flow that a call takes or gives is Boolean.
  pub link_kind : (i : ℕ) → i ≤ n → flow_kind p main (link_name i) ≡ Some Boolean
  link_kind i le = ap (λ k. slice_get (flow_kinds p main) k) (flow_site o n few i le) ∙ at i le
    where
      at : (i : ℕ) → i ≤ n → slice_get (flow_kinds p main) (link_site i) ≡ Some Boolean
      at zero le = refl
      at (suc i) le = link_kinds i le

  pub link_value : (i : ℕ) → i ≤ n → value_kind p main (link_name i) ≡ Some Boolean
  link_value i le = ap (λ b. cond b (flow_kind p main (link_name i)) (constant_kind p (link_name i))) (flow_there o n i le) ∙ link_kind i le

  main_types : types_in_node p main ≡ []
  main_types = both_none (flat_map (clock_types p main) main.locals) (flat_map (equation_types p main) main.equations ++ [])
      (none_of_each (clock_types p main) (link_flows o.declared n) (each_flow o n (λ (d : Decl). clock_types p main d ≡ []) (λ i lt. refl)))
      (both_none (flat_map (equation_types p main) main.equations) []
      (none_of_each (equation_types p main) main.equations (each_equation o n (λ q. equation_types p main q ≡ []) refl
      (λ i lt. call_types p main (o.left i) (o.call i) (o.argument i) (Some ((n + 4) + i)) (link_name (suc i)) (link_name i) (codes "link")
      (link_kind (suc i) lt) (link_value i (omega (arith, lt))) refl)
      (ok_types p main o.main (link_name n) refl (link_value n (omega arith)) refl)))
      refl)

  pub typed : type_faults p ≡ []
  typed = both_none (types_in_node p main) [] main_types refl
