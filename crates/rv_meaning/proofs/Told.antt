-- What tells the type of an expression tells it rightly, where the expression has one.
use Rattle.std.proofs.Common.{◌≡◌, ℕ, ◌+◌, ◌≤◌, Bool, true, false, ◌||◌, cond, List, [], ◌∷◌, map, reverse, length, unwrap_or, refl, sym, ◌∙◌, ap, arith}
use Rattle.std.proofs.Common.{Option, Some, is_some, slice_get, add-zero, add-one, None as Nothing}
use Rattle.std.proofs.lemmas.Option.{none-some, same_Some, slice_get-map, slice_get_past}
use Rattle.std.specs.Option.{option_map}
use Rattle.rv_tree.specs.Tree.{Tree, ConstantTree, NodeTree, ProgramTree}
use Rattle.rv_tree.specs.Places.{Identifier, flows, is_same, is_flow, index_of, site_of}
use Rattle.rv_tree.specs.{declared.tree.Name.Name, declared.tree.TypeDecl.TypeDecl, declared.tree.TypeName.TypeName}
use Rattle.rv_types.specs.Kinds.{flow_kinds, flow_kind, LabelPlace, number_from, label_from, label_of, node_among, kind_in_program}
use Rattle.rv_types.specs.Types.{Scope, same_kind, kind_of}
use Rattle.rv_types.specs.Scopes.{label_kind, constant_scope, as_declared, constant_kind_after, constant_kind, value_kind, signature_of, node_scope}
use Rattle.rv_types.specs.{declared.typed.Kind.Kind, Names.is_declared, Names.labels_of}
use Rattle.rv_types.specs.declared.typed.Kind.TheVariants as kind
use Rattle.rv_types.specs.Heads.{Telling, Itself, OfName, OfCallee, telling, first_output, meant}
use Rattle.rv_types.proofs.HeadKinds.{told_right}
use Rattle.rv_meaning.specs.Leading.{node_texts}
use Rattle.rv_meaning.specs.{Telling.label_told, Telling.constant_told, Telling.name_told, Telling.output_of, Telling.told}
use Rattle.rv_meaning.proofs.{FlowSites.kinds_many, FlowSites.output_kind}
use Rattle.rv_types.proofs.NamePlaces.{index_past}

module _ (s : Scope) where
  -- what a telling tells is right where that of a name and that of a callee are
  by_telling : (of_name of_callee : Identifier → Kind) (k : Kind) → ((x : Identifier) → s.kind x ≡ Some k → of_name x ≡ k)
      → ((f : Identifier) → meant s (OfCallee f) ≡ Some k → of_callee f ≡ k) → (t : Telling) → meant s t ≡ Some k
      → elim t as (λ _. Kind) [ Itself k ↦ k | OfName x ↦ of_name x | OfCallee f ↦ of_callee f ] ≡ k
  by_telling of_name of_callee k name callee (Itself j) e = same_Some j k e
  by_telling of_name of_callee k name callee (OfName x) e = name x e
  by_telling of_name of_callee k name callee (OfCallee f) e = callee f e

-- a label has a number where its declaration has the name
has_number : (k : ℕ) (ys : List Name) (x : Identifier) → is_some (number_from k ys x) ≡ is_declared ys x
has_number k [] x = refl
has_number k (y ∷ ys) x = elim (is_same y.text x) as (λ b. is_some (cond b (Some k) (number_from (k + 1) ys x)) ≡ b || is_declared ys x)
    [ true ↦ refl | false ↦ has_number (k + 1) ys x ]

-- the type of a label is told
label_right : (i : ℕ) (ds : List TypeDecl) (x : Identifier) (l : LabelPlace) → label_from i ds x ≡ Some l → label_told i ds x ≡ kind.Labels l.declaration
label_right i [] x l e = absurd (none-some l e)
label_right i (d ∷ ds) x l e =
    ap (λ b. cond b (kind.Labels i) (label_told (i + 1) ds x)) (sym (has_number 0 (labels_of d) x))
    ∙ tested (number_from 0 (labels_of d) x) (label_right (i + 1) ds x l) e
  where
    tested : (o : Option ℕ) → (label_from (i + 1) ds x ≡ Some l → label_told (i + 1) ds x ≡ kind.Labels l.declaration)
        → elim o as (λ _. Option LabelPlace) [ Nothing ↦ label_from (i + 1) ds x | Some k ↦ Some (record { declaration = i; number = k }) ] ≡ Some l
        → cond (is_some o) (kind.Labels i) (label_told (i + 1) ds x) ≡ kind.Labels l.declaration
    tested Nothing again e = again e
    tested (Some k) again e = ap (λ (l : LabelPlace). kind.Labels l.declaration) (same_Some _ l e)

module _ (p : ProgramTree) where
  label_known : (x : Identifier) (k : Kind) → label_kind p x ≡ Some k → label_told 0 p.types x ≡ k
  label_known x k e = elim (label_of p x) as (λ o. label_of p x ≡ o
      → elim o as (λ _. Option Kind) [ Nothing ↦ Nothing | Some l ↦ Some (kind.Labels l.declaration) ] ≡ Some k → label_told 0 p.types x ≡ k) [
        | Nothing ↦ λ is e. absurd (none-some k e)
        | Some l ↦ λ is e. label_right 0 p.types x l is ∙ same_Some (kind.Labels l.declaration) k e
      ] refl e

  -- a constant with a type has that of its body
  of_body : (d : Option TypeName) (o : Option Kind) (k : Kind) → as_declared p d o ≡ Some k → o ≡ Some k
  of_body Nothing o k e = e
  of_body (Some t) Nothing k e = absurd (none-some k e)
  of_body (Some t) (Some j) k e = elim (same_kind j (kind_in_program p t)) as (λ b. cond b (Some j) Nothing ≡ Some k → Some j ≡ Some k)
      [ true ↦ λ e. e | false ↦ λ e. absurd (none-some k e) ] e

  -- the type of a constant or label is told
  constant_right : (cs : List ConstantTree) (x : Identifier) (k : Kind) → constant_kind_after p cs x ≡ Some k → constant_told p cs x ≡ k
  constant_right [] x k e = label_known x k e
  constant_right (c ∷ before) x k e = tested (is_same c.name.text x) (λ y e. constant_right before y k e) e
    where
      tested : (b : Bool) → ((y : Identifier) → constant_kind_after p before y ≡ Some k → constant_told p before y ≡ k)
          → cond b (as_declared p c.kind (kind_of (constant_scope (constant_kind_after p before)) c.body)) (constant_kind_after p before x) ≡ Some k
          → cond b (elim (telling c.body) as (λ _. Kind) [ Itself k ↦ k | OfName y ↦ constant_told p before y | OfCallee f ↦ kind.Bool ])
          (constant_told p before x) ≡ k
      tested true again e = let scope = constant_scope (constant_kind_after p before) in
          by_telling scope (constant_told p before) (λ f. kind.Bool) k again (λ f none. absurd (none-some k none)) (telling c.body)
          (told_right scope c.body k (of_body c.kind _ k e))
      tested false again e = again x e

-- the first node of a name stands at its number
node_at_number : (ns : List NodeTree) (f : Identifier) (m : NodeTree) → node_among ns f ≡ Some m → slice_get ns (index_of (node_texts ns) f) ≡ Some m
node_at_number [] f m e = absurd (none-some m e)
node_at_number (n ∷ ns) f m e = elim (is_same n.name.text f)
    as (λ b. cond b (Some n) (node_among ns f) ≡ Some m → slice_get (n ∷ ns) (cond b 0 (index_of (node_texts ns) f + 1)) ≡ Some m)
    [ true ↦ λ e. e | false ↦ λ e. ap (slice_get (n ∷ ns)) (add-one (index_of (node_texts ns) f)) ∙ node_at_number ns f m e ] e

module _ (p : ProgramTree) (n : NodeTree) where
  -- the type of a name by that of a flow
  abbrev by_flow : Identifier → Option Kind → Kind
  by_flow x o = elim o as (λ _. Kind) [ Nothing ↦ constant_told p (reverse p.constants) x | Some k ↦ k ]

  -- the type of a flow, constant or label is told
  name_right : (x : Identifier) (k : Kind) → value_kind p n x ≡ Some k → name_told p n (flow_kinds p n) x ≡ k
  name_right x k e =
      elim (is_flow n x) as (λ b. is_flow n x ≡ b → cond b (flow_kind p n x) (constant_kind p x) ≡ Some k → name_told p n (flow_kinds p n) x ≡ k) [
        | true ↦ λ is e. ap (by_flow x) e
        | false ↦ λ is e.
            let past : length (flow_kinds p n) ≤ site_of n x = omega (arith, index_past (flows n) x is, kinds_many p n) in
            ap (by_flow x) (slice_get_past (flow_kinds p n) (site_of n x) past) ∙ constant_right p (reverse p.constants) x k e
      ] refl e

  -- the type of an output by the node of its number, and by the types of its flows
  abbrev by_kinds : NodeTree → Option (List Kind) → Option Kind
  by_kinds m o = elim o as (λ _. Option Kind) [ Nothing ↦ Nothing | Some ks ↦ slice_get ks (length m.inputs) ]

  abbrev by_node : ℕ → Option NodeTree → Option Kind
  by_node j o = elim o as (λ _. Option Kind) [ Nothing ↦ Nothing | Some m ↦ by_kinds m (slice_get (map (flow_kinds p) p.nodes) j) ]

  -- the type of a node's output is told
  output_right : (f : Identifier) (k : Kind) → meant (node_scope p n) (OfCallee f) ≡ Some k
      → output_of p (map (flow_kinds p) p.nodes) (index_of (node_texts p.nodes) f) ≡ Some k
  output_right f k e = tested (node_among p.nodes f) refl e
    where
      tested : (o : Option NodeTree) → node_among p.nodes f ≡ o
          → first_output (option_map (signature_of p) o) ≡ Some k
          → output_of p (map (flow_kinds p) p.nodes) (index_of (node_texts p.nodes) f) ≡ Some k
      tested Nothing is e = absurd (none-some k e)
      tested (Some m) is e =
          let at = node_at_number p.nodes f m is in
          ap (by_node (index_of (node_texts p.nodes) f)) at
          ∙ ap (by_kinds m) (slice_get-map (flow_kinds p) p.nodes (index_of (node_texts p.nodes) f) ∙ ap (option_map (flow_kinds p)) at)
          ∙ ap (slice_get (flow_kinds p m)) (sym (add-zero (length m.inputs)))
          ∙ output_kind p m 0 k e

  -- the type of an expression of the node is told
  pub told_in_node : (e : Tree) (k : Kind) → kind_of (node_scope p n) e ≡ Some k → told p (map (flow_kinds p) p.nodes) n (flow_kinds p n) e ≡ k
  told_in_node e k h = by_telling (node_scope p n) (name_told p n (flow_kinds p n))
      (λ f. unwrap_or (output_of p (map (flow_kinds p) p.nodes) (index_of (node_texts p.nodes) f)) kind.Bool) k (λ x is. name_right x k is)
      (λ f is. ap (λ o. unwrap_or o kind.Bool) (output_right f k is)) (telling e) (told_right (node_scope p n) e k h)
