-- Tables and what stands in them.
use Rattle.std.proofs.Common.{◌≡◌, ℕ, ◌+◌, suc, true, false, ◌||◌, cond, List, [], ◌∷◌, ◌++◌, map, flat_map, length, Option, Some, refl, sym, ap, ◌∙◌, arith}
use Rattle.std.proofs.Common.{slice_get, add-one, None as Nothing}
use Rattle.std.proofs.lemmas.Option.{slice_get_past}
use Rattle.std.specs.Option.{option_map}
use Rattle.rv_tree.specs.Places.{Identifier, is_same, index_of}
use Rattle.rv_tree.specs.{declared.tree.Name.Name, declared.tree.TypeDecl.TypeDecl, Tree.NodeTree, Tree.ProgramTree}
use Rattle.rv_types.specs.Kinds.{LabelPlace, number_from, label_from, label_of, node_among}
use Rattle.rv_types.specs.{declared.view.Label.Label, Names.texts, Names.is_declared, Names.labels_of, Names.label_names, Tables.entry_in, Tables.scope_of}
use Rattle.rv_types.specs.{Tables.value_in, Scopes.constant_scope, declared.typed.Kind.Kind, TypeTables.places_among, TypeTables.places_from}

-- a table read from its head
abbrev pub found_in : {A : Type 0} → List Name → List A → Identifier → Option A
found_in [] entries x = Nothing
found_in (n ∷ names) [] x = Nothing
found_in (n ∷ names) (a ∷ entries) x = cond (is_same n.text x) (Some a) (found_in names entries x)

pub entry_found : {A : Type 0} (names : List Name) (entries : List A) (x : Identifier) → entry_in names entries x ≡ found_in names entries x
entry_found [] entries x = refl
entry_found {A = A} (n ∷ names) [] x =
    elim (is_declared (n ∷ names) x) as (λ b. cond b (slice_get {X = A} [] (index_of (texts (n ∷ names)) x)) Nothing ≡ Nothing)
    [ true ↦ slice_get_past [] (index_of (texts (n ∷ names)) x) (omega arith) | false ↦ refl ]
entry_found (n ∷ names) (a ∷ entries) x = elim (is_same n.text x) as
    (λ b. cond (b || is_declared names x) (slice_get (a ∷ entries) (cond b 0 (index_of (texts names) x + 1))) Nothing
    ≡ cond b (Some a) (found_in names entries x)) [
      | true ↦ refl
      | false ↦ ap (λ k. cond (is_declared names x) (slice_get (a ∷ entries) k) Nothing) (add-one (index_of (texts names) x)) ∙ entry_found names entries x
    ]

-- the first where there is one, otherwise the second
abbrev pub either_of : {A : Type 0} → Option A → Option A → Option A
either_of Nothing b = b
either_of (Some a) b = Some a

pub found_after : {A : Type 0} (names more : List Name) (entries others : List A) (x : Identifier) → length names ≡ length entries
    → found_in (names ++ more) (entries ++ others) x ≡ either_of (found_in names entries x) (found_in more others x)
found_after [] more [] others x h = refl
found_after [] more (a ∷ entries) others x h = absurd (omega (arith, h))
found_after (n ∷ names) more [] others x h = absurd (omega (arith, h))
found_after (n ∷ names) more (a ∷ entries) others x h = elim (is_same n.text x) as
    (λ b. cond b (Some a) (found_in (names ++ more) (entries ++ others) x) ≡ either_of (cond b (Some a) (found_in names entries x)) (found_in more others x))
    [ true ↦ refl | false ↦ found_after names more entries others x (omega (arith, h)) ]

-- Labels.

abbrev pub label_at : ℕ → ℕ → Label
label_at i k = record { declaration = i; number = k }

abbrev pub place_of : Label → LabelPlace
place_of l = record { declaration = l.declaration; number = l.number }

among_found : (i k : ℕ) (xs : List Name) (x : Identifier) → found_in xs (places_among i k xs) x ≡ option_map (label_at i) (number_from k xs x)
among_found i k [] x = refl
among_found i k (y ∷ ys) x = elim (is_same y.text x) as
    (λ b. cond b (Some (label_at i k)) (found_in ys (places_among i (k + 1) ys) x) ≡ option_map (label_at i) (cond b (Some k) (number_from (k + 1) ys x)))
    [ true ↦ refl | false ↦ among_found i (k + 1) ys x ]

among-length : (i k : ℕ) (xs : List Name) → length xs ≡ length (places_among i k xs)
among-length i k [] = refl
among-length i k (x ∷ xs) = ap suc (among-length i (k + 1) xs)

from_found : (i : ℕ) (ds : List TypeDecl) (x : Identifier) → label_from i ds x ≡ option_map place_of (found_in (flat_map labels_of ds) (places_from i ds) x)
from_found i [] x = refl
from_found i (d ∷ ds) x = (elim (number_from 0 (labels_of d) x) as
    (λ o. elim o as (λ _. Option LabelPlace) [ Nothing ↦ label_from (i + 1) ds x | Some k ↦ Some (record { declaration = i; number = k }) ]
    ≡ option_map place_of (either_of (option_map (label_at i) o) (found_in (flat_map labels_of ds) (places_from (i + 1) ds) x)))
    [ Nothing ↦ from_found (i + 1) ds x | Some k ↦ refl ])
    ∙ ap (λ o. option_map place_of (either_of o (found_in (flat_map labels_of ds) (places_from (i + 1) ds) x))) (sym (among_found i 0 (labels_of d) x))
    ∙ ap (option_map place_of) (sym (found_after (labels_of d) (flat_map labels_of ds) (places_among i 0 (labels_of d)) (places_from (i + 1) ds) x
    (among-length i 0 (labels_of d))))

pub label_is : (p : ProgramTree) (x : Identifier) → label_of p x ≡ option_map place_of (entry_in (label_names p) (places_from 0 p.types) x)
label_is p x = from_found 0 p.types x ∙ ap (option_map place_of) (sym (entry_found (label_names p) (places_from 0 p.types) x))

-- Nodes.

pub node_found : {A : Type 0} (f : NodeTree → A) (ns : List NodeTree) (x : Identifier)
    → option_map f (node_among ns x) ≡ entry_in (map (λ n. n.name) ns) (map f ns) x
node_found {A = A} f ns x = by ns ∙ sym (entry_found (map (λ n. n.name) ns) (map f ns) x)
  where
    by : (ns : List NodeTree) → option_map f (node_among ns x) ≡ found_in (map (λ n. n.name) ns) (map f ns) x
    by [] = refl
    by (n ∷ ns) = elim (is_same n.name.text x) as
        (λ b. option_map f (cond b (Some n) (node_among ns x)) ≡ cond b (Some (f n)) (found_in (map (λ n. n.name) ns) (map f ns) x))
        [ true ↦ refl | false ↦ by ns ]

-- what stands at the number of a name, also of one that is not there
pub at_number : {A : Type 0} (names : List Name) (entries : List A) (x : Identifier) → length entries ≡ length names
    → slice_get entries (index_of (texts names) x) ≡ entry_in names entries x
at_number {A = A} names entries x h = by names entries h ∙ sym (entry_found names entries x)
  where
    by : (names : List Name) (entries : List A) → length entries ≡ length names → slice_get entries (index_of (texts names) x) ≡ found_in names entries x
    by [] [] h = refl
    by [] (a ∷ entries) h = absurd (omega (arith, h))
    by (n ∷ names) [] h = absurd (omega (arith, h))
    by (n ∷ names) (a ∷ entries) h = elim (is_same n.text x) as
        (λ b. slice_get (a ∷ entries) (cond b 0 (index_of (texts names) x + 1)) ≡ cond b (Some a) (found_in names entries x))
        [ true ↦ refl | false ↦ ap (slice_get (a ∷ entries)) (add-one (index_of (texts names) x)) ∙ by names entries (omega (arith, h)) ]

-- in the body of a constant there are no flows and no nodes
pub empty_scope : (none : List Name) (constants : List Name) (ks kinds : List (Option Kind)) (labels : List Name) (places : List Label) → none ≡ [] → ks ≡ kinds
    → scope_of (record {
      flows = none;
      flow_kinds = [];
      constants = constants;
      constant_kinds = ks;
      labels = labels;
      places = places;
      nodes = none;
      signatures = [];
      moves = false;
    })
    ≡ constant_scope (value_in constants kinds labels places)
empty_scope none constants ks kinds labels places e f = rw (e, f) refl
