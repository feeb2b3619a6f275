-- The flows of a node by their sites: their names are different, inputs come first, and then the outputs.
use Rattle.std.proofs.Common.{◌≡◌, ℕ, zero, suc, ◌+◌, ◌-◌, ◌<◌, inl, inr, List, [], ◌∷◌, ◌++◌, map, length, get_or, refl, sym, ◌∙◌, ap, arith, Some, slice_get}
use Rattle.std.proofs.lemmas.Bool.{cases_lt}
use Rattle.std.proofs.lemmas.List.{length-map, length-append, get_or_default, get_or_append_left, get_or-append_right, append_assoc}
use Rattle.std.specs.List.{Contains}
use Rattle.rv_tree.specs.Places.{Identifier, names, flows, site_of, index_of}
use Rattle.rv_tree.specs.{declared.tree.Decl.Decl, Tree.NodeTree, Tree.ProgramTree}
use Rattle.rv_types.specs.{declared.typed.Kind.Kind, declared.typed.Clock.TheVariants.Base, Kinds.decl_kinds, Kinds.flow_kinds, Kinds.flow_kind}
use Rattle.rv_types.specs.{Kinds.kind_in_program, Clocks.base_clock, Clocks.declared_clock, Clocks.flow_clocks, Instances.clock_of}
use Rattle.rv_flatten.proofs.Assembled.{front, map_joined}
use Rattle.rv_meaning.proofs.NameLemmas.{index_at}
use Rattle.rv_base.proofs.Lists.{within_got}

module _ (n : NodeTree) (once : (j k : ℕ) → j < k → k < length (flows n) → get_or (flows n) j [] ≡ get_or (flows n) k [] → ⊥) where
  -- the flow at a site
  pub name_at_site : ℕ → Identifier
  name_at_site k = get_or (flows n) k []

  pub name_within : (k : ℕ) → k < length (flows n) → Contains (flows n) (name_at_site k)
  unfolding name_at_site
  name_within k lt = (k, lt, get_or_default (flows n) k (get_or (flows n) k []) [] lt)

  -- has that site
  pub site_is : (k : ℕ) → k < length (flows n) → site_of n (name_at_site k) ≡ k
  unfolding name_at_site
  site_is k lt =
      let r = index_at (flows n) (get_or (flows n) k []) (name_within k lt) in
      let within : index_of (flows n) (get_or (flows n) k []) < length (flows n) = r.0 in
      let same : get_or (flows n) (index_of (flows n) (get_or (flows n) k [])) [] ≡ get_or (flows n) k [] = r.1 in
      elim (cases_lt (index_of (flows n) (get_or (flows n) k [])) k) [
        | inl below ↦ absurd (once (index_of (flows n) (get_or (flows n) k [])) k below lt same)
        | inr above ↦ elim (cases_lt k (index_of (flows n) (get_or (flows n) k []))) [
          | inl over ↦ absurd (once k (index_of (flows n) (get_or (flows n) k [])) over within (sym same))
          | inr under ↦ omega arith
        ]
      ]

  flows_long : length (flows n) ≡ length n.inputs + (length n.outputs + length n.locals)
  flows_long =
      let a = length-append (names n.inputs ++ names n.outputs) (names n.locals) in
      let b = length-append (names n.inputs) (names n.outputs) in
      let i = length-map n.inputs (λ (d : Decl). d.name.text) in
      let o = length-map n.outputs (λ (d : Decl). d.name.text) in
      let l = length-map n.locals (λ (d : Decl). d.name.text) in
      omega (arith, a, b, i, o, l)

  -- an input has the type that is declared
  pub input_within : (j : ℕ) → j < length n.inputs → j < length (flows n)
  input_within j lt = omega (arith, lt, flows_long)

  pub output_within : 0 < length n.outputs → length n.inputs < length (flows n)
  output_within lt = omega (arith, lt, flows_long)

  pub input_kind : (p : ProgramTree) (j : ℕ) (k : Kind) → slice_get (decl_kinds p n.inputs) j ≡ Some k → flow_kind p n (name_at_site j) ≡ Some k
  input_kind p j k is =
      let lt = within_got (decl_kinds p n.inputs) j k is in
      let long = length-map n.inputs (λ (d : Decl). kind_in_program p d.kind) in
      let within : j < length (flows n) = input_within j (omega (arith, lt, long)) in
      let split : flow_kinds p n ≡ decl_kinds p n.inputs ++ (decl_kinds p n.outputs ++ decl_kinds p n.locals) =
      map_joined (λ (d : Decl). kind_in_program p d.kind) (n.inputs ++ n.outputs) n.locals
      ∙ ap (λ l. l ++ decl_kinds p n.locals) (map_joined (λ (d : Decl). kind_in_program p d.kind) n.inputs n.outputs)
      ∙ append_assoc (decl_kinds p n.inputs) (decl_kinds p n.outputs) (decl_kinds p n.locals) in
      ap (λ (i : ℕ). slice_get (flow_kinds p n) i) (site_is j within) ∙ ap (λ (l : List Kind). slice_get l j) split
      ∙ front (decl_kinds p n.inputs) (decl_kinds p n.outputs ++ decl_kinds p n.locals) j k is

  base_at : (ds : List Decl) (i : ℕ) → get_or (map base_clock ds) i Base ≡ Base
  base_at [] i = refl
  base_at (d ∷ ds) zero = refl
  base_at (d ∷ ds) (suc i) = base_at ds i

  -- the first output is on the base clock
  pub output_clock : 0 < length n.outputs → clock_of n (name_at_site (length n.inputs)) ≡ Base
  output_clock some =
      let within = output_within some in
      let i = length-map n.inputs base_clock in
      let o = length-map n.outputs base_clock in
      let both = length-append (map base_clock n.inputs) (map base_clock n.outputs) in
      ap (λ (k : ℕ). get_or (flow_clocks n) k Base) (site_is (length n.inputs) within)
      ∙ get_or_append_left (map base_clock n.inputs ++ map base_clock n.outputs) (map (λ (d : Decl). declared_clock n d.clock) n.locals) Base (length n.inputs)
      (omega (arith, some, i, o, both))
      ∙ get_or-append_right (map base_clock n.inputs) (map base_clock n.outputs) (length n.inputs) (length n.inputs) Base i (omega arith)
      ∙ base_at n.outputs (length n.inputs - length n.inputs)
