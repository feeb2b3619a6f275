-- No name of a made program breaks a rule.
use Rattle.std.proofs.Common.{◌≡◌, ℕ, zero, suc, ◌+◌, ◌^◌, ◌<◌, true, cond, not, ◌||◌, List, [], ◌∷◌, ◌++◌, refl, ◌∙◌, ap, arith, Option, Some}
use Rattle.std.proofs.lemmas.Bool.{and_parts, or_left, or_right, not-true}
use Rattle.std.proofs.{lemmas.List.Concat.flat_map-append, lemmas.List.map_push}
use Rattle.std.specs.{Prelude.codes, List.flat_map}
use Rattle.rv_tree.specs.Tree.{Node, Call, None, More, EquationTree, NodeTree, ProgramTree}
use Rattle.rv_tree.specs.{declared.tree.Name.Name, declared.tree.Decl.Decl, Places.Identifier, Places.is_same, Places.is_among, Places.is_flow, Places.names}
use Rattle.rv_types.specs.declared.fault.NameFault.TheVariants.{DefinedTwice, Undefined}
use Rattle.rv_types.specs.Names.{texts, is_declared, node_names, decl_names, decls, lefts, repeated, undefined_unless, flow_use, clock_use, equation_uses}
use Rattle.rv_types.specs.Names.{names_in_node, name_faults}
use Rattle.rv_make.specs.Made.{link_name}
use Rattle.rv_make.specs.Chains.{Offsets, named_at, equation, flow_read, link_flows, link_calls, ok_equation, main_node, chain_program}
use Rattle.rv_made_order.proofs.Lists.{both_none, none_of_each, flat_map_map, are_apart, apart_push, among_push}
use Rattle.rv_made_order.proofs.Links.{links, flow_links, among_links, not_among, links_apart}
use Rattle.rv_made_order.proofs.Program.{call_equation, each_equation, each_flow, flow_there}
use Rattle.rv_types.proofs.KnownLaws.{texts_of}

-- no second declaration stands among names that are apart
pub repeated_none : (before xs : List Name) → are_apart (texts before) (texts xs) ≡ true → repeated before xs ≡ []
repeated_none before [] apart = refl
repeated_none before (x ∷ xs) apart =
    let a = and_parts (not (is_declared before x.text)) (are_apart (texts (x ∷ before)) (texts xs)) apart in
    both_none (cond (is_declared before x.text) (DefinedTwice x.at ∷ []) []) (repeated (x ∷ before) xs)
    (ap (λ b. cond b (DefinedTwice x.at ∷ []) []) (not-true (is_declared before x.text) a.0)) (repeated_none (x ∷ before) xs a.1)

-- the left sides of the calls
left_links : (o : Offsets) (first n : ℕ) → texts (flat_map (λ (q : EquationTree). q.lefts) (link_calls o first n)) ≡ links n
left_links o first zero = refl
left_links o first (suc n) =
    ap texts (flat_map-append (λ (q : EquationTree). q.lefts) (link_calls o first n) (call_equation o first n ∷ []))
    ∙ map_push (λ (x : Name). x.text) (flat_map (λ (q : EquationTree). q.lefts) (link_calls o first n)) (named_at (o.left n) (link_name (suc n)))
    ∙ ap (λ xs. xs ++ link_name (suc n) ∷ []) (left_links o first n)

-- the uses in the equation of a call
call_uses : (p : ProgramTree) (n : NodeTree) (a b c : ℕ) (site : Option ℕ) (x y f : Identifier) → is_flow n x ≡ true → is_flow n y ≡ true
    → is_declared (node_names p) f ≡ true
    → equation_uses p n (equation a x (Node b site (Call f (More (flow_read c y) None)))) ≡ []
call_uses p n a b c site x y f given taken known = simp (given, taken, known)

module _ (o : Offsets) (n : ℕ) (few : n < 2 ^ 64) where
  -- the made program with n calls
  abbrev p : ProgramTree
  p = chain_program o n

  -- its main node
  abbrev main : NodeTree
  main = main_node o n

  left_texts : texts (lefts main) ≡ codes "seen" ∷ (links n ++ codes "ok" ∷ [])
  left_texts =
      ap (λ ls. texts (named_at (o.main 4) (codes "seen") ∷ ls))
      (flat_map-append (λ (q : EquationTree). q.lefts) (link_calls o (n + 4) n) (ok_equation o.main n ∷ []))
      ∙ ap (λ xs. codes "seen" ∷ xs)
      (map_push (λ (x : Name). x.text) (flat_map (λ (q : EquationTree). q.lefts) (link_calls o (n + 4) n)) (named_at (o.main 11) (codes "ok"))
      ∙ ap (λ xs. xs ++ codes "ok" ∷ []) (left_links o (n + 4) n))

  flows_apart : repeated [] (decl_names (decls main)) ≡ []
  flows_apart = repeated_none (named_at (o.main 3) (codes "seen") ∷ named_at (o.main 2) (codes "ok") ∷ named_at (o.main 1) (codes "a") ∷ [])
      (decl_names (link_flows o.declared n))
      (ap (λ xs. are_apart (codes "seen" ∷ codes "ok" ∷ codes "a" ∷ []) xs) (texts_of (link_flows o.declared n) ∙ flow_links o.declared n)
      ∙ links_apart (codes "seen" ∷ codes "ok" ∷ codes "a" ∷ []) n few (λ i lt. refl))

  lefts_apart : repeated (decl_names main.inputs) (lefts main) ≡ []
  lefts_apart = repeated_none (decl_names main.inputs) (lefts main)
      (ap (λ xs. are_apart (codes "a" ∷ []) xs) left_texts
      ∙ apart_push (codes "seen" ∷ codes "a" ∷ []) (links n) (codes "ok") (links_apart (codes "seen" ∷ codes "a" ∷ []) n few (λ i lt. refl)) refl
      (not_among (codes "ok") n (λ i lt. refl)))

  -- each flow but the input has an equation
  is_left : (x : Identifier) → (is_among (links n) x || is_same (codes "ok") x) ≡ true → is_declared (lefts main) x ≡ true
  is_left x among =
      ap (λ xs. is_among xs x) left_texts
      ∙ or_right (is_same (codes "seen") x) (is_among (links n ++ codes "ok" ∷ []) x) (among_push (links n) (codes "ok") x ∙ among)

  seen_left : is_declared (lefts main) (codes "seen") ≡ true
  seen_left = refl

  ok_left : is_declared (lefts main) (codes "ok") ≡ true
  ok_left = is_left (codes "ok") (or_right (is_among (links n) (codes "ok")) true refl)

  link_left : (i : ℕ) → i < n → is_declared (lefts main) (link_name (suc i)) ≡ true
  link_left i lt = is_left (link_name (suc i))
      (or_left (is_among (links n) (link_name (suc i))) (is_same (codes "ok") (link_name (suc i))) (among_links n i lt))

  all_defined : flat_map (undefined_unless (lefts main)) (decl_names (main.outputs ++ main.locals)) ≡ []
  all_defined = both_none (cond (is_declared (lefts main) (codes "ok")) [] (Undefined (o.main 2) ∷ []))
      (flat_map (undefined_unless (lefts main)) (decl_names (link_flows o.declared n)))
      (ap (λ b. cond b [] (Undefined (o.main 2) ∷ [])) ok_left)
      (flat_map_map (undefined_unless (lefts main)) (λ (d : Decl). d.name) (link_flows o.declared n)
      ∙ none_of_each (λ (d : Decl). undefined_unless (lefts main) d.name) (link_flows o.declared n)
      (each_flow o n (λ (d : Decl). undefined_unless (lefts main) d.name ≡ []) (λ i lt. ap (λ b. cond b [] (Undefined (o.declared i) ∷ [])) (link_left i lt))))

  types_used : flat_map (flow_use p) (decls main) ≡ []
  types_used = none_of_each (flow_use p) (link_flows o.declared n) (each_flow o n (λ (d : Decl). flow_use p d ≡ []) (λ i lt. refl))

  clocks_used : flat_map (clock_use main) main.locals ≡ []
  clocks_used = none_of_each (clock_use main) (link_flows o.declared n) (each_flow o n (λ (d : Decl). clock_use main d ≡ []) (λ i lt. refl))

  names_used : flat_map (equation_uses p main) main.equations ≡ []
  names_used = none_of_each (equation_uses p main) main.equations (each_equation o n (λ q. equation_uses p main q ≡ []) refl
      (λ i lt. call_uses p main (o.left i) (o.call i) (o.argument i) (Some ((n + 4) + i)) (link_name (suc i)) (link_name i) (codes "link")
      (flow_there o n (suc i) lt) (flow_there o n i (omega (arith, lt))) refl)
      (let there = flow_there o n n (omega arith) in simp there))

  main_named : names_in_node p main ≡ []
  main_named = both_none (repeated [] (decl_names (decls main)) ++ repeated (decl_names main.inputs) (lefts main))
      (flat_map (undefined_unless (lefts main)) (decl_names (main.outputs ++ main.locals))
      ++ ((flat_map (flow_use p) (decls main) ++ flat_map (clock_use main) main.locals) ++ (flat_map (equation_uses p main) main.equations ++ [])))
      (both_none (repeated [] (decl_names (decls main))) (repeated (decl_names main.inputs) (lefts main)) flows_apart lefts_apart)
      (both_none (flat_map (undefined_unless (lefts main)) (decl_names (main.outputs ++ main.locals)))
      ((flat_map (flow_use p) (decls main) ++ flat_map (clock_use main) main.locals) ++ (flat_map (equation_uses p main) main.equations ++ [])) all_defined
      (both_none (flat_map (flow_use p) (decls main) ++ flat_map (clock_use main) main.locals) (flat_map (equation_uses p main) main.equations ++ [])
      (both_none (flat_map (flow_use p) (decls main)) (flat_map (clock_use main) main.locals) types_used clocks_used)
      (both_none (flat_map (equation_uses p main) main.equations) [] names_used refl)))

  pub named : name_faults p ≡ []
  named = both_none (names_in_node p main) [] main_named refl
