-- A made program of up to 2,000 calls can be run.
use Rattle.std.proofs.Common.{◌≡◌, ℕ, ◌≤◌, inl, inr, [], ◌∷◌, refl, sym, ap, subst, arith}
use Rattle.std.proofs.lemmas.Bool.{true≢false}
use Rattle.std.specs.{Prelude.codes, List.Contains}
use Rattle.rv_tree.specs.{Tree.NodeTree, Tree.ProgramTree, Places.Identifier, Places.is_same}
use Rattle.rv_types.specs.Instances.{CallTree, calls, node_of}
use Rattle.rv_calls.specs.Reach.{Reaches, itself, by_call, HasNoRecursion}
use Rattle.rv_causality.specs.Causes.{IsAccepted}
use Rattle.rv_make.specs.Chains.{Offsets, link_node, main_node, chain_program}
use Rattle.rv_made_order.proofs.{Lists.only_one, Instances.each_call, Ranked.no_cycle, Sized.within, Weighed.are_light}
use Rattle.rv_types.proofs.Members.{cons_cases, nothing_in}

not_link : codes "main" ≡ codes "link" → ⊥
not_link e = true≢false (ap (λ x. is_same x (codes "main")) e)

module _ (o : Offsets) (n : ℕ) where
  -- the made program with n calls
  abbrev p : ProgramTree
  p = chain_program o n

  -- The node that delays calls none, so it reaches itself alone.
  only_itself : (g f : Identifier) → Reaches p g f → f ≡ codes "link" → g ≡ codes "link"
  only_itself g _ itself e = e
  only_itself g _ (by_call f c w rest) e = nothing_in c (subst (λ f. Contains (calls (node_of p f)) c) e w)

  calls_back : (m : NodeTree) (c : CallTree) → Contains p.nodes m → Contains (calls m) c → Reaches p m.name.text c.name → ⊥
  calls_back m c there w back = elim (cons_cases (link_node o.link) (main_node o n ∷ []) m there) [
    | inl e ↦ nothing_in c (subst (λ (m : NodeTree). Contains (calls m) c) (sym e) w)
    | inr v ↦
        let is = only_one (main_node o n) m v in
        each_call o n (λ c. Reaches p (codes "main") c.name → ⊥) (λ i lt r. not_link (only_itself (codes "main") (codes "link") r refl)) c
        (subst (λ (m : NodeTree). Contains (calls m) c) (sym is) w) (subst (λ (m : NodeTree). Reaches p m.name.text c.name) (sym is) back)
  ]

  no_recursion : HasNoRecursion p
  no_recursion m c r = calls_back m c r.node r.call r.back

  pub accepted : n ≤ 2000 → IsAccepted p (codes "main")
  accepted few = record {
    recursion = no_recursion;
    sizes = within o n few;
    cycles = no_cycle o n (omega (arith, few));
    weights = are_light o n (omega (arith, few));
  }
