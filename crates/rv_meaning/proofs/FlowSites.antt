-- Flows by their sites: their names, types and clocks.
use Rattle.std.proofs.Common.{◌≡◌, ℕ, zero, suc, ◌+◌, ◌<◌, true, false, List, [], ◌∷◌, ◌++◌, map, length, get_or, refl, sym, ◌∙◌, ap, arith, Some, slice_get}
use Rattle.std.proofs.Common.{length-append, zero-add}
use Rattle.std.proofs.lemmas.List.{length-map, get_or_append_left, get_or-append-add, get_or_default, append_assoc}
use Rattle.std.proofs.lemmas.Option.{none-some, slice_get_within}
use Rattle.std.specs.List.{Contains}
use Rattle.rv_tree.specs.{Tree.NodeTree, Tree.ProgramTree, Places.Identifier, Places.names, Places.flows, Places.is_among, Places.index_of, Places.site_of}
use Rattle.rv_types.specs.Kinds.{kind_in_program, decl_kinds, flow_kinds, flow_kind}
use Rattle.rv_types.specs.{declared.typed.Kind.Kind, declared.typed.Clock.TheVariants.Base, Clocks.base_clock, Clocks.declared_clock, Clocks.clock_at}
use Rattle.rv_types.specs.{Instances.Instance, Instances.IsInstance, Instances.IsNode, WellFormed.AreWell}
use Rattle.rv_meaning.proofs.Defined.{site_is}
use Rattle.rv_types.proofs.{Members.among_contains, NamePlaces.index_past, WellNodes.base_at, WellNodes.index_front}

-- what is found within a list is there
pub index_within : (xs : List Identifier) (x : Identifier) → index_of xs x < length xs → Contains xs x
index_within xs x lt = elim (is_among xs x) as (λ b. is_among xs x ≡ b → Contains xs x)
    [ true ↦ among_contains xs x | false ↦ λ none. absurd (omega (arith, lt, index_past xs x none)) ] refl

-- an element of the first part of a list, by a function
kept_by : {A B : Type 0} (f : A → B) (xs ys : List A) (j : ℕ) (k : B) → slice_get (map f xs) j ≡ Some k → slice_get (map f (xs ++ ys)) j ≡ Some k
kept_by f [] ys j k e = absurd (none-some k e)
kept_by f (x ∷ xs) ys zero k e = e
kept_by f (x ∷ xs) ys (suc j) k e = kept_by f xs ys j k e

-- one of the second
shifted_by : {A B : Type 0} (f : A → B) (xs ys : List A) (j : ℕ) → slice_get (map f (xs ++ ys)) (length xs + j) ≡ slice_get (map f ys) j
shifted_by f [] ys j = ap (slice_get (map f ys)) (zero-add j)
shifted_by f (x ∷ xs) ys j =
    let next : length (x ∷ xs) + j ≡ suc (length xs + j) = omega arith in ap (slice_get (map f (x ∷ xs ++ ys))) next ∙ shifted_by f xs ys j

module _ (n : NodeTree) where
  -- an output is on the base clock
  pub output_base : (j : ℕ) → j < length n.outputs → clock_at n (length n.inputs + j) ≡ Base
  output_base j lt =
      let ins = map base_clock n.inputs in
      let outs = map base_clock n.outputs in
      let many = length-map n.inputs base_clock in
      get_or_append_left (ins ++ outs) (map (λ d. declared_clock n d.clock) n.locals) Base (length n.inputs + j)
      (omega (arith, lt, many, length-map n.outputs base_clock, length-append ins outs))
      ∙ ap (λ l. get_or (ins ++ outs) (l + j) Base) (sym many) ∙ get_or-append-add ins outs j Base ∙ base_at n.outputs j

  -- the site of an input is below their number
  pub input_within : (x : Identifier) → Contains (names n.inputs) x → site_of n x < length n.inputs
  input_within x w =
      let found : site_of n x ≡ index_of (names n.inputs ++ (names n.outputs ++ names n.locals)) x =
      ap (λ xs. index_of xs x) (append_assoc (names n.inputs) (names n.outputs) (names n.locals)) in
      omega (arith, index_front (names n.inputs) (names n.outputs ++ names n.locals) x w, found, length-map n.inputs (λ d. d.name.text))

module _ (program : ProgramTree) (n : NodeTree) where
  -- there is a type for each flow
  pub kinds_many : length (flow_kinds program n) ≡ length (flows n)
  kinds_many = simp (length-append, length-map)

  -- what has a type as a flow is one
  pub flow_there : (x : Identifier) (k : Kind) → flow_kind program n x ≡ Some k → Contains (flows n) x
  flow_there x k e = let lt = slice_get_within (flow_kinds program n) (site_of n x) k e in index_within (flows n) x (omega (arith, kinds_many))

  -- the type of an input is that of a flow
  pub input_kind : (j : ℕ) (k : Kind) → slice_get (decl_kinds program n.inputs) j ≡ Some k → slice_get (flow_kinds program n) j ≡ Some k
  input_kind j k e =
      kept_by (λ d. kind_in_program program d.kind) (n.inputs ++ n.outputs) n.locals j k
      (kept_by (λ d. kind_in_program program d.kind) n.inputs n.outputs j k e)

  -- and so is that of an output
  pub output_kind : (j : ℕ) (k : Kind) → slice_get (decl_kinds program n.outputs) j ≡ Some k → slice_get (flow_kinds program n) (length n.inputs + j) ≡ Some k
  output_kind j k e =
      kept_by (λ d. kind_in_program program d.kind) (n.inputs ++ n.outputs) n.locals (length n.inputs + j) k
      (shifted_by (λ d. kind_in_program program d.kind) n.inputs n.outputs j ∙ e)

-- A flow of this site and type.
pub record FlowAt (program : ProgramTree) (n : NodeTree) (s : ℕ) (k : Kind) : Type 0 where
  pub name : Identifier
  pub within : Contains (flows n) name
  pub site : site_of n name ≡ s
  pub kind : flow_kind program n name ≡ Some k

-- each site with a type is that of a flow
pub flow_at : (program : ProgramTree) (main : Identifier) → AreWell program → IsNode program main → (i : Instance) → IsInstance program main i
    → (s : ℕ) (k : Kind) → slice_get (flow_kinds program i.node) s ≡ Some k → FlowAt program i.node s k
flow_at program main well is_node i inst s k e =
    let lt = slice_get_within (flow_kinds program i.node) s k e in
    let less : s < length (flows i.node) = omega (arith, kinds_many program i.node) in
    let at = site_is program main well is_node i inst (get_or (flows i.node) s []) s less refl in
    record {
      name = get_or (flows i.node) s [];
      within = (s, less, get_or_default (flows i.node) s (get_or (flows i.node) s []) [] less);
      site = at;
      kind = ap (slice_get (flow_kinds program i.node)) at ∙ e;
    }
