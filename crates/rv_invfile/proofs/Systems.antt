-- What documents ask of a flat system follows from the program that it is of.
use Rattle.std.proofs.Common.{◌≡◌, ◌<◌, ◌≤◌, ◌^◌, ℕ, zero, suc, Bool, true, false, List, [], ◌∷◌, ◌++◌, length, map, get_or, refl, sym, ap, ◌∙◌, subst, arith}
use Rattle.std.proofs.Common.{inl, inr}
use Rattle.std.proofs.lemmas.Bool.{eq-eqb, eqb-true, leb-true, or_left, or_right}
use Rattle.std.proofs.lemmas.List.{length-map, length-append}
use Rattle.std.specs.{Prelude.◌&&◌, Prelude.◌||◌, Prelude.cond, Prelude.flat_map, Prelude.nat_eq, Prelude.nat_le, List.Contains, List.list_all}
use Rattle.rv_tree.specs.{declared.tree.Name.Name, declared.tree.Decl.Decl, declared.tree.TypeBody.TypeBody, declared.tree.TypeBody.TheVariants.Alias}
use Rattle.rv_tree.specs.{declared.tree.TypeBody.TheVariants.Labels, declared.tree.TypeDecl.TypeDecl, Tree.NodeTree, Tree.ProgramTree, Places.Identifier}
use Rattle.rv_tree.specs.{Places.is_among, Places.is_same, Places.names, SourceTrees.IsSourceTree, Words.HasPlainNames, Words.is_name}
use Rattle.rv_types.specs.Instances.{IsNode, node_of}
use Rattle.rv_types.specs.Names.{alias_use, constant_names, constant_uses, is_declared, label_names, labels_of, name_faults, names_in_node, node_names}
use Rattle.rv_types.specs.Names.{repeated, repeated_after, repeated_values, texts, type_names}
use Rattle.rv_types.specs.{declared.typed.Typed.Typed, declared.fault.NameFault.NameFault, declared.fault.NameFault.TheVariants.DefinedTwice, Settled.IsSettled}
use Rattle.rv_meaning.proofs.Acceptable.{main_in}
use Rattle.rv_flat.specs.{declared.flat.Flat.Flat, declared.parts.FlatInput.FlatInput, FlatOf.IsFlatOf}
use Rattle.rv_flat.specs.Facts as facts
use Rattle.rv_invfile.specs.{Texts.all_few, Told.AreDifferent, Told.IsAmong, Told.IsTold}
use Rattle.rv_types.proofs.{Members.at_head, Members.in_tail, RightNames.both_empty}
use Rattle.rv_base.proofs.Truths.{both_of}

same-text : (x y : List ℕ) → is_same x y ≡ true → x ≡ y
same-text [] [] e = refl
same-text [] (b ∷ y) e = cc
same-text (a ∷ x) [] e = cc
same-text (a ∷ x) (b ∷ y) e = let p = both_of (nat_eq a b) (is_same x y) e in ap (λ c. c ∷ x) (eqb-true a b p.0) ∙ ap (λ l. b ∷ l) (same-text x y p.1)

same-itself : (x : List ℕ) → is_same x x ≡ true
same-itself [] = refl
same-itself (a ∷ x) = ap (λ c. c && is_same x x) (eq-eqb a a refl) ∙ same-itself x

all-true : {X : Type 0} (p : X → Bool) (xs : List X) → ((x : X) → Contains xs x → p x ≡ true) → list_all p xs ≡ true
all-true p [] h = refl
all-true p (x ∷ xs) h = ap (λ b. b && list_all p xs) (h x (at_head x xs)) ∙ all-true p xs (λ y w. h y (in_tail x xs y w))

all-map : {X Y : Type 0} (g : X → Y) (p : Y → Bool) (xs : List X) → list_all p (map g xs) ≡ list_all (λ x. p (g x)) xs
all-map g p [] = refl
all-map g p (x ∷ xs) = ap (λ b. p (g x) && b) (all-map g p xs)

-- ---- Names.
named-plain : (ns : List NodeTree) (main : Identifier) → ((n : NodeTree) → Contains ns n → is_name n.name.text ≡ true)
    → is_among (map (λ (n : NodeTree). n.name.text) ns) main ≡ true → is_name main ≡ true
named-plain [] main h e = cc
named-plain (n ∷ ns) main h e = tested (is_same n.name.text main) refl e (named-plain ns main (λ m w. h m (in_tail n ns m w)))
  where
    tested : (b : Bool) → is_same n.name.text main ≡ b → (b || is_among (map (λ (n : NodeTree). n.name.text) ns) main) ≡ true
        → (is_among (map (λ (n : NodeTree). n.name.text) ns) main ≡ true → is_name main ≡ true) → is_name main ≡ true
    tested true same e again = subst (λ x. is_name x ≡ true) (same-text n.name.text main same) (h n (at_head n ns))
    tested false same e again = again e

names-plain : (p : ProgramTree) (n : NodeTree) → HasPlainNames p → Contains p.nodes n → list_all is_name (names n.inputs) ≡ true
names-plain p n h at = all-map (λ (d : Decl). d.name.text) is_name n.inputs ∙ all-true (λ (d : Decl). is_name d.name.text) n.inputs (λ d w. h.inputs n d at w)

type-plain : (p : ProgramTree) (d : TypeDecl) → HasPlainNames p → Contains p.types d → list_all is_name (texts (labels_of d)) ≡ true
type-plain p d h at = all-map (λ (x : Name). x.text) is_name (labels_of d) ∙ tested d.body (h.labels d at)
  where
    tested : (b : TypeBody) → ((xs : List Name) → b ≡ Labels xs → (x : Name) → Contains xs x → is_name x.text ≡ true)
        → list_all (λ (x : Name). is_name x.text) (elim b as (λ _. List Name) [ Alias t ↦ [] | Labels xs ↦ xs ]) ≡ true
    tested (Alias t) h = refl
    tested (Labels xs) h = all-true (λ (x : Name). is_name x.text) xs (h xs refl)

labels-plain : (p : ProgramTree) → HasPlainNames p → list_all (list_all is_name) (map (λ (d : TypeDecl). texts (labels_of d)) p.types) ≡ true
labels-plain p h =
    all-map (λ (d : TypeDecl). texts (labels_of d)) (list_all is_name) p.types
    ∙ all-true (λ (d : TypeDecl). list_all is_name (texts (labels_of d))) p.types (λ d w. type-plain p d h w)

-- a name that stands before is none of names of which none is repeated
not-again : (t : List ℕ) (before xs : List Name) → is_declared before t ≡ true → repeated before xs ≡ [] → IsAmong t (texts xs) → ⊥
not-again t before [] d e a = a
not-again t before (y ∷ ys) d e (inl same) =
    clash (is_declared before y.text) (subst (λ z. is_declared before z ≡ true) same d)
    (both_empty (cond (is_declared before y.text) (DefinedTwice y.at ∷ []) []) (repeated (y ∷ before) ys) e).0
  where
    clash : (b : Bool) → b ≡ true → cond b (DefinedTwice y.at ∷ []) [] ≡ [] → ⊥
    clash true e f = cc
    clash false e f = cc
not-again t before (y ∷ ys) d e (inr a) =
    not-again t (y ∷ before) ys (or_right (is_same y.text t) (is_declared before t) d)
    (both_empty (cond (is_declared before y.text) (DefinedTwice y.at ∷ []) []) (repeated (y ∷ before) ys) e).1 a

texts-differ : (before xs : List Name) → repeated before xs ≡ [] → AreDifferent (texts xs)
texts-differ before [] e = tt
texts-differ before (x ∷ xs) e =
    let rest : repeated (x ∷ before) xs ≡ [] = (both_empty (cond (is_declared before x.text) (DefinedTwice x.at ∷ []) []) (repeated (x ∷ before) xs) e).1 in (
      (λ a. not-again x.text (x ∷ before) xs (or_left (is_same x.text x.text) (is_declared before x.text) (same-itself x.text)) rest a),
      texts-differ (x ∷ before) xs rest,
    )

split : (before xs ys : List Name) → repeated before (xs ++ ys) ≡ [] → (repeated before xs ≡ []) × ((others : List Name) × (repeated others ys ≡ []))
split before [] ys e = (refl, (before, e))
split before (x ∷ xs) ys e =
    let p = both_empty (cond (is_declared before x.text) (DefinedTwice x.at ∷ []) []) (repeated (x ∷ before) (xs ++ ys)) e in
    let r = split (x ∷ before) xs ys p.1 in
    (ap (λ l. l ++ repeated (x ∷ before) xs) p.0 ∙ r.0, r.1)

types-differ : (before : List Name) (ds : List TypeDecl) → repeated before (flat_map labels_of ds) ≡ [] → (e : ℕ)
    → AreDifferent (get_or (map (λ (d : TypeDecl). texts (labels_of d)) ds) e [])
types-differ before [] h e = tt
types-differ before (d ∷ ds) h zero = texts-differ before (labels_of d) (split before (labels_of d) (flat_map labels_of ds) h).0
types-differ before (d ∷ ds) h (suc e) = let r = (split before (labels_of d) (flat_map labels_of ds) h).1 in types-differ r.0 ds r.1 e

labels-apart : (p : ProgramTree) → name_faults p ≡ [] → repeated [] (label_names p) ≡ []
labels-apart p e =
    let uses : List NameFault = (flat_map (alias_use p) p.types ++ flat_map (constant_uses p) p.constants) ++ flat_map (names_in_node p) p.nodes in
    let both_kinds : List NameFault = flat_map (repeated_after (label_names p)) (constant_names p) ++ flat_map (repeated_after (constant_names p))
    (label_names p) in
    let nodes : List NameFault = repeated [] (node_names p) in
    let types : List NameFault = repeated [] (type_names p) in
    let constants : List NameFault = repeated [] (constant_names p) in
    let labels : List NameFault = repeated [] (label_names p) in
    let whole = both_empty (nodes ++ (types ++ repeated_values p)) uses e in
    let spaces = both_empty nodes (types ++ repeated_values p) whole.0 in
    let others = both_empty types (repeated_values p) spaces.1 in
    let values = both_empty (constants ++ labels) both_kinds others.1 in
    (both_empty constants labels values.0).1

-- ---- Counts.
few-all : (ls : List (List (List ℕ))) → facts.all_few 256 ls ≡ true → all_few ls
few-all [] h k d l = absurd (omega (arith, l))
few-all (l ∷ ls) h zero d lt = leb-true (length l) 256 (both_of (nat_le (length l) 256) (facts.all_few 256 ls) h).0
few-all (l ∷ ls) h (suc k) d lt = few-all ls (both_of (nat_le (length l) 256) (facts.all_few 256 ls) h).1 k d (omega (arith, lt))

few-inputs : (p : ProgramTree) (main : Identifier) (f : Flat) → IsSourceTree p → IsNode p main
    → map (λ (i : FlatInput). i.name) f.inputs ≡ names (node_of p main).inputs → length f.inputs ≤ 1048576
few-inputs p main f tree named same =
    let n = node_of p main in
    let bound = tree.bounded.node_flows n (main_in p main named) in
    let a = length-map f.inputs (λ (i : FlatInput). i.name) in
    let b = ap length same in
    let c = length-append (names n.inputs ++ names n.outputs) (names n.locals) in
    let d = length-append (names n.inputs) (names n.outputs) in
    omega (arith, bound, a, b, c, d)

pub is-told : (p : ProgramTree) (main other : Identifier) (t : Typed) (f : Flat) → IsSourceTree p → HasPlainNames p → IsSettled p other t → IsNode p main
    → IsFlatOf p main f → length f.memories < 2 ^ 64 → IsTold f
is-told p main other t f tree plain settled named flat long = record {
  main = subst (λ x. is_name x ≡ true) (sym flat.name) (named-plain p.nodes main plain.nodes named);
  inputs = sym (all-map (λ (i : FlatInput). i.name) is_name f.inputs) ∙ ap (list_all is_name) flat.inputs
      ∙ names-plain p (node_of p main) plain (main_in p main named);
  labels = ap (list_all (list_all is_name)) flat.labels ∙ labels-plain p plain;
  different = λ e. subst (λ ls. AreDifferent (get_or ls e [])) (sym flat.labels) (types-differ [] p.types (labels-apart p settled.names) e);
  few_labels = few-all f.labels f.few_labels;
  few_inputs = few-inputs p main f tree named flat.inputs;
  few_memories = long;
}
