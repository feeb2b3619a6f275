-- A flat system without integers is that of a program without integers, and the other way round.
use Rattle.std.proofs.Common.{◌≡◌, ℕ, ◌<◌, true, false, List, [], map, length, get_or, refl, sym, ◌∙◌, ap, arith, Some, slice_get}
use Rattle.std.proofs.lemmas.List.{length-map, get_or-map, get_or_default}
use Rattle.std.proofs.{lemmas.List.Elements.All-contains, lemmas.Bool.false_from_ne_true, lemmas.Option.slice_get-get_or}
use Rattle.std.specs.List.{Contains}
use Rattle.rv_tree.specs.{declared.tree.Decl.Decl, Tree.ProgramTree, Places.Identifier, Places.flows}
use Rattle.rv_types.specs.Lists.{MemoryAt, memory_at}
use Rattle.rv_types.specs.Instances.{Instance, place, node_of, main_instance, IsInstance, is_main, IsNode}
use Rattle.rv_types.specs.{declared.typed.Kind.Kind, Kinds.decl_kinds, Kinds.kind_in_program, Variables.is_integer, WellFormed.AreWell}
use Rattle.rv_types.specs.declared.typed.Kind.TheVariants as kind
use Rattle.rv_meaning.specs.Integers.{IsControl}
use Rattle.rv_flat.specs.{declared.parts.FlatFlow.FlatFlow, declared.parts.FlatInput.FlatInput, declared.flat.Flat.Flat, FlatInstants.places}
use Rattle.rv_flat.specs.{FlatOf.IsFlatOf, Systems.memory_of, Steps.input_kinds}
use Rattle.rv_run.specs.Judged.{IsControlSystem}
use Rattle.rv_run.proofs.{NoIntegers.not_integer, Sites.name_at_site, Sites.name_within, Sites.input_within, Sites.input_kind}
use Rattle.rv_meaning.proofs.Acceptable.{main_in}
use Rattle.rv_sequence.proofs.NeedsGraph.{all_from}
use Rattle.rv_tested.proofs.Inside.{integer_kind}
use Rattle.rv_types.proofs.Members.{in_map}
use Rattle.rv_base.proofs.Lists.{from_map, within_got}

module _ (p : ProgramTree) (main : Identifier) (f : Flat) (flat : IsFlatOf p main f) (well : AreWell p) (is_node : IsNode p main) where
  flow_number : (i : Instance) (x : Identifier) → IsInstance p main i → Contains (flows i.node) x
      → (k : ℕ) × (k < length f.flows) × (get_or (places f) k [] ≡ place i x)
  flow_number i x inst w =
      let c = flat.sequence.flows (place i x) (i, x, inst, w, refl) in
      let long = length-map f.flows (λ (g : FlatFlow). g.place.sites) in
      let lt = c.1 in
      (c.0, omega (arith, long, lt), get_or_default (places f) c.0 [] (place i x) c.1 ∙ c.2)

  pub system_control : IsControlSystem f → IsControl p main
  system_control control = record {
    flows = λ i x inst w is.
        let n = flow_number i x inst w in
        let bad = not_integer (λ (g : FlatFlow). g.kind) f.flows control.flows n.0 kind.Int (flat.kinds i x n.0 inst w n.1 n.2 ∙ is) in
        let different : ⊥ = cc in different;
    delays = λ i d inst w is.
        let m = from_map memory_of f.memories (memory_at p i d) (flat.memories.all i d inst tt w) in
        let integer : m.0.kind ≡ kind.Int = ap (λ (x : MemoryAt). x.kind) m.2 ∙ is in
        let bad : true ≡ false = ap is_integer (sym integer) ∙ All-contains (λ x. is_integer x.kind ≡ false) f.memories m.0 control.memories m.1 in
        let different : ⊥ = cc in different;
  }

  -- the types of flows, memories and inputs of a control program
  module _ (control : IsControl p main) where
    flow_integer : (k : ℕ) → k < length f.flows → get_or (map (λ (g : FlatFlow). g.kind) f.flows) k kind.Bool ≡ kind.Int → ⊥
    flow_integer k lt is =
        let long = length-map f.flows (λ (g : FlatFlow). g.place.sites) in
        let kinds_long = length-map f.flows (λ (g : FlatFlow). g.kind) in
        let o = flat.sequence.only k (omega (arith, lt, long)) in
        let there = slice_get-get_or (map (λ (g : FlatFlow). g.kind) f.flows) k kind.Bool (omega (arith, lt, kinds_long)) in
        control.flows o.0 o.1 o.2 o.3 (sym (flat.kinds o.0 o.1 k o.2 o.3 lt o.4) ∙ there ∙ ap (λ (x : Kind). Some x) is)

    pub input_control : (j : ℕ) → slice_get (decl_kinds p (node_of p main).inputs) j ≡ Some kind.Int → ⊥
    input_control j declared =
        let n = node_of p main in
        let once = (well.formed n (main_in p main is_node)).once in
        let lt = within_got (decl_kinds p n.inputs) j kind.Int declared in
        let long = length-map n.inputs (λ (d : Decl). kind_in_program p d.kind) in
        control.flows (main_instance p main) (name_at_site n once j) is_main (name_within n once j (input_within n once j (omega (arith, lt, long))))
        (input_kind n once p j kind.Int declared)

    input_integer : (j : ℕ) → slice_get (input_kinds f) j ≡ Some kind.Int → ⊥
    input_integer j is = input_control j (ap (λ (l : List Kind). slice_get l j) (sym flat.input_kinds) ∙ is)

    pub control_system : IsControlSystem f
    control_system = record {
      flows = λ k d lt. false_from_ne_true (is_integer (get_or f.flows k d).kind) (λ is.
          flow_integer k lt (get_or-map (λ (g : FlatFlow). g.kind) f.flows k d kind.Bool lt ∙ integer_kind (get_or f.flows k d).kind is));
      memories = all_from (λ m. is_integer m.kind ≡ false) f.memories (λ m w. false_from_ne_true (is_integer m.kind) (λ is.
          let o = flat.memories.only (memory_of m) (in_map memory_of f.memories m w) in
          control.delays o.0 o.1 o.2 o.4 (ap (λ (x : MemoryAt). x.kind) (sym o.5) ∙ integer_kind m.kind is)));
      inputs = λ k d lt. false_from_ne_true (is_integer (get_or f.inputs k d).kind) (λ is.
          let long = length-map f.inputs (λ (x : FlatInput). x.kind) in
          input_integer k (slice_get-get_or (input_kinds f) k kind.Bool (omega (arith, long, lt))
          ∙ ap (λ (x : Kind). Some x) (get_or-map (λ (x : FlatInput). x.kind) f.inputs k d kind.Bool lt ∙ integer_kind (get_or f.inputs k d).kind is)));
    }
