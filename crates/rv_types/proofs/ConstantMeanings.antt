-- What the name of a constant or label means is what the tables have.
use Rattle.std.proofs.Common.{◌≡◌, ℕ, ◌≤◌, Bool, true, false, cond, List, [], ◌∷◌, ◌++◌, map, reverse, Option, Some, refl, sym, ap, subst, ◌∙◌, zero, suc}
use Rattle.std.proofs.Common.{slice_get, ◌⊎◌, inl, inr, nat_abs, append-nil, None as Nothing}
use Rattle.std.proofs.lemmas.List.{map-append, reverse-reverse}
use Rattle.std.specs.Option.{option_map}
use Rattle.rv_base.specs.{declared.value.Value.Value, declared.value.Value.TheVariants.Flag, Limits.too_heavy}
use Rattle.rv_base.specs.declared.value.Value.TheVariants as value
use Rattle.rv_tree.specs.Places.{Identifier, is_same, index_of}
use Rattle.rv_tree.specs.{declared.tree.Name.Name, declared.tree.TypeName.TypeName, Tree.ConstantTree, Tree.ProgramTree}
use Rattle.rv_types.specs.Names.{texts, is_declared, type_names, constant_names, label_names, repeated}
use Rattle.rv_types.specs.Scopes.{label_kind, label_value, constant_scope, as_declared, constant_kind_after, constant_value_after, constant_kinds_of}
use Rattle.rv_types.specs.Scopes.{constant_values_of, constant_types_after, constant_types, clash_unless}
use Rattle.rv_types.specs.{declared.typed.Kind.Kind, declared.typed.Kind.TheVariants.Labels, declared.view.Label.Label, declared.fault.NameFault.NameFault}
use Rattle.rv_types.specs.{Parts.offset_of, Kinds.kind_after, Kinds.kind_in_program, Types.kind_of, Types.expression_types, Constants.value_of}
use Rattle.rv_types.specs.{Constants.whole_in, Earliest.first, Earliest.sooner, Tables.entry_in, Tables.type_of_label, Tables.constant_or, Tables.value_in}
use Rattle.rv_types.specs.{TypeTables.declared_kinds, TypeTables.places_from, ValueTables.value_of_label, ValueTables.value_or, ValueTables.known_in}
use Rattle.rv_types.specs.{ValueTables.AreSmall, ConstantTables.AreTablesOf, ConstantTables.as_declared_by, ConstantTables.declared_clash}
use Rattle.rv_types.specs.{ConstantTables.constant_types_by}
use Rattle.rv_types.proofs.LastFirst.{last_of, all_of, front_of, last_is, all_of-map}
use Rattle.rv_types.proofs.{Joined.first_append, TypeMeanings.means, Entries.label_is, Entries.place_of}

abbrev constant_name : ConstantTree → Name
constant_name c = c.name

-- Labels.

label_type : (p : ProgramTree) (x : Identifier) → label_kind p x ≡ type_of_label (entry_in (label_names p) (places_from 0 p.types) x)
label_type p x =
    ap (λ o. elim o as (λ _. Option Kind) [ Nothing ↦ Nothing | Some k ↦ Some (Labels k.declaration) ]) (label_is p x)
    ∙ by (entry_in (label_names p) (places_from 0 p.types) x)
  where
    by : (l : Option Label) → elim (option_map place_of l) as (λ _. Option Kind) [ Nothing ↦ Nothing | Some k ↦ Some (Labels k.declaration) ] ≡ type_of_label l
    by Nothing = refl
    by (Some k) = refl

label_content : (p : ProgramTree) (x : Identifier) → label_value p x ≡ value_of_label (entry_in (label_names p) (places_from 0 p.types) x)
label_content p x =
    ap (λ o. elim o as (λ _. Value) [ Nothing ↦ Flag false | Some k ↦ value.Label k.number ]) (label_is p x)
    ∙ by (entry_in (label_names p) (places_from 0 p.types) x)
  where
    by : (l : Option Label) → elim (option_map place_of l) as (λ _. Value) [ Nothing ↦ Flag false | Some k ↦ value.Label k.number ] ≡ value_of_label l
    by Nothing = refl
    by (Some k) = refl

-- Types of constants.

abbrev kind_meant : ProgramTree → List ConstantTree → ConstantTree → Option Kind
kind_meant p before c = as_declared p c.kind (kind_of (constant_scope (constant_kind_after p before)) c.body)

kinds_all : (p : ProgramTree) (cs : List ConstantTree) → constant_kinds_of p cs ≡ all_of (kind_meant p) cs
kinds_all p [] = refl
kinds_all p (c ∷ cs) = ap (λ ks. ks ++ kind_meant p cs c ∷ []) (kinds_all p cs)

kind_last : (p : ProgramTree) (cs : List ConstantTree) (x : Identifier)
    → constant_kind_after p cs x ≡ constant_or (last_of constant_name (kind_meant p) cs x) (label_kind p x)
kind_last p [] x = refl
kind_last p (c ∷ cs) x = elim (is_same c.name.text x) as (λ b. cond b (kind_meant p cs c) (constant_kind_after p cs x)
    ≡ constant_or (cond b (Some (kind_meant p cs c)) (last_of constant_name (kind_meant p) cs x)) (label_kind p x))
    [ true ↦ refl | false ↦ kind_last p cs x ]

-- the names of all constants are those of some, the last of them first, and others
in_front : (p : ProgramTree) (before rest : List ConstantTree) → p.constants ≡ reverse before ++ rest
    → constant_names p ≡ front_of constant_name before ++ map constant_name rest
in_front p before rest e = ap (map constant_name) e ∙ map-append constant_name (reverse before) rest
    ∙ ap (λ ns. ns ++ map constant_name rest) (sym (all_of-map constant_name before))

pub kinds_known : (p : ProgramTree) (before rest : List ConstantTree) → p.constants ≡ reverse before ++ rest → repeated [] (constant_names p) ≡ []
    → value_in (constant_names p) (constant_kinds_of p before) (label_names p) (places_from 0 p.types) ≡ constant_kind_after p before
kinds_known p before rest e different = λ i x.
    (ap (λ ks. value_in (constant_names p) ks (label_names p) (places_from 0 p.types) x) (kinds_all p before)
    ∙ ap (constant_or (entry_in (constant_names p) (all_of (kind_meant p) before) x)) (sym (label_type p x))
    ∙ ap (λ o. constant_or o (label_kind p x)) (sym (last_is constant_name (kind_meant p) (constant_names p) (map constant_name rest) before
    (in_front p before rest e) different x)) ∙ sym (kind_last p before x)) i

-- Values of constants.

abbrev pub value_meant : ProgramTree → List ConstantTree → ConstantTree → Value
value_meant p before c = value_of (constant_value_after p before) c.body

pub values_all : (p : ProgramTree) (cs : List ConstantTree) → constant_values_of p cs ≡ all_of (value_meant p) cs
values_all p [] = refl
values_all p (c ∷ cs) = ap (λ vs. vs ++ value_meant p cs c ∷ []) (values_all p cs)

value_last : (p : ProgramTree) (cs : List ConstantTree) (x : Identifier)
    → constant_value_after p cs x ≡ value_or (last_of constant_name (value_meant p) cs x) (label_value p x)
value_last p [] x = refl
value_last p (c ∷ cs) x = elim (is_same c.name.text x) as (λ b. cond b (value_meant p cs c) (constant_value_after p cs x)
    ≡ value_or (cond b (Some (value_meant p cs c)) (last_of constant_name (value_meant p) cs x)) (label_value p x))
    [ true ↦ refl | false ↦ value_last p cs x ]

pub values_known : (p : ProgramTree) (before rest : List ConstantTree) → p.constants ≡ reverse before ++ rest → repeated [] (constant_names p) ≡ []
    → known_in (constant_names p) (constant_values_of p before) (label_names p) (places_from 0 p.types) ≡ constant_value_after p before
values_known p before rest e different = λ i x.
    (ap (λ vs. known_in (constant_names p) vs (label_names p) (places_from 0 p.types) x) (values_all p before)
    ∙ ap (value_or (entry_in (constant_names p) (all_of (value_meant p) before) x)) (sym (label_content p x))
    ∙ ap (λ o. value_or o (label_value p x)) (sym (last_is constant_name (value_meant p) (constant_names p) (map constant_name rest) before
    (in_front p before rest e) different x)) ∙ sym (value_last p before x)) i

-- One constant more.

as_same : (p : ProgramTree) (d : Option TypeName) (k : Option Kind) → as_declared_by (kind_after (reverse p.types)) d k ≡ as_declared p d k
as_same p Nothing k = refl
as_same p (Some t) Nothing = refl
as_same p (Some t) (Some k) = refl

clash_same : (p : ProgramTree) (at : ℕ) (d : Option TypeName) (k : Option Kind)
    → declared_clash (kind_after (reverse p.types)) at d k ≡ elim d as (λ _. List NameFault) [ Nothing ↦ [] | Some t ↦ clash_unless at (kind_in_program p t) k ]
clash_same p at Nothing k = refl
clash_same p at (Some t) k = refl

types_same : (p : ProgramTree) (before : List ConstantTree) (c : ConstantTree)
    → constant_types_by (kind_after (reverse p.types)) (constant_scope (constant_kind_after p before)) c ≡ constant_types_after p before c
types_same p before c = ap (λ fs. expression_types (constant_scope (constant_kind_after p before)) c.body ++ fs)
    (clash_same p (offset_of c.body) c.kind (kind_of (constant_scope (constant_kind_after p before)) c.body))

slice_cases : {B : Type 0} (xs : List B) (v : B) (k : ℕ) → (slice_get (xs ++ v ∷ []) k ≡ Some v) ⊎ (slice_get xs k ≡ slice_get (xs ++ v ∷ []) k)
slice_cases [] v zero = inl refl
slice_cases [] v (suc k) = inr refl
slice_cases (x ∷ xs) v zero = inr refl
slice_cases (x ∷ xs) v (suc k) = slice_cases xs v k

pub more_small : (names : List Name) (vs : List Value) (labels : List Name) (places : List Label) (v : Value) → AreSmall (known_in names vs labels places)
    → nat_abs (whole_in v) ≤ too_heavy → AreSmall (known_in names (vs ++ v ∷ []) labels places)
more_small names vs labels places v small h x = by (is_declared names x) (slice_cases vs v (index_of (texts names) x)) (small x)
  where
    label : Value
    label = value_of_label (entry_in labels places x)

    by : (b : Bool) {o q : Option Value} → (q ≡ Some v) ⊎ (o ≡ q) → nat_abs (whole_in (value_or (cond b o Nothing) label)) ≤ too_heavy
        → nat_abs (whole_in (value_or (cond b q Nothing) label)) ≤ too_heavy
    by true (inl e) old = subst (λ q. nat_abs (whole_in (value_or q label)) ≤ too_heavy) (sym e) h
    by false (inl e) old = old
    by b (inr e) old = subst (λ q. nat_abs (whole_in (value_or (cond b q Nothing) label)) ≤ too_heavy) e old

pub types_tabled : (p : ProgramTree) (types : List Name) (kinds : List Kind) → types ≡ type_names p → kinds ≡ declared_kinds (reverse p.types)
    → repeated [] (type_names p) ≡ [] → entry_in types kinds ≡ kind_after (reverse p.types)
types_tabled p types kinds e k different =
    ap (entry_in types) k
    ∙ means p.types (reverse p.types) [] types e (sym (append-nil (reverse (reverse p.types)) ∙ reverse-reverse p.types)) (ap (repeated []) e ∙ different)

module _ (p : ProgramTree) (types : List Name) (kinds : List Kind) (constants labels : List Name) (places : List Label)
    (t : AreTablesOf p types kinds constants labels places) where
  pub types_named : entry_in types kinds ≡ kind_after (reverse p.types)
  types_named = types_tabled p types kinds t.type_table t.kind_table t.different_types

  module _ (before rest : List ConstantTree) (whole : p.constants ≡ reverse before ++ rest) where
    pub kinds_tabled : (ks : List (Option Kind)) → ks ≡ constant_kinds_of p before → value_in constants ks labels places ≡ constant_kind_after p before
    kinds_tabled ks e =
        (λ i. value_in (t.constant_table i) (e i) (t.label_table i) (t.place_table i)) ∙ kinds_known p before rest whole t.different_constants

    pub values_tabled : (vs : List Value) → vs ≡ constant_values_of p before → known_in constants vs labels places ≡ constant_value_after p before
    values_tabled vs e =
        (λ i. known_in (t.constant_table i) (e i) (t.label_table i) (t.place_table i)) ∙ values_known p before rest whole t.different_constants

    pub kinds_more : (ks : List (Option Kind)) → ks ≡ constant_kinds_of p before → (c : ConstantTree) (k : Option Kind)
        → k ≡ as_declared_by (entry_in types kinds) c.kind (kind_of (constant_scope (value_in constants ks labels places)) c.body)
        → ks ++ k ∷ [] ≡ constant_kinds_of p (c ∷ before)
    kinds_more ks e c k is =
        let known = kinds_tabled ks e in
        let same : k ≡ kind_meant p before c = is ∙ (λ i. as_declared_by (types_named i) c.kind (kind_of (constant_scope (known i)) c.body))
        ∙ as_same p c.kind (kind_of (constant_scope (constant_kind_after p before)) c.body) in
        (λ i. e i ++ same i ∷ [])

    pub values_more : (vs : List Value) → vs ≡ constant_values_of p before → (c : ConstantTree) (v : Value)
        → v ≡ value_of (known_in constants vs labels places) c.body → vs ++ v ∷ [] ≡ constant_values_of p (c ∷ before)
    values_more vs e c v is =
        let same : v ≡ value_meant p before c = is ∙ (λ i. value_of (values_tabled vs e i) c.body) in
        (λ i. e i ++ same i ∷ [])

    pub faults_more : (ks : List (Option Kind)) → ks ≡ constant_kinds_of p before → (c : ConstantTree) (f g : Option NameFault)
        → f ≡ first (constant_types p before) → g ≡ first (constant_types_by (entry_in types kinds) (constant_scope (value_in constants ks labels places)) c)
        → sooner f g ≡ first (constant_types p (c ∷ before))
    faults_more ks e c f g so_far is =
        let known = kinds_tabled ks e in
        let same : g ≡ first (constant_types_after p before c) = is ∙ (λ i. first (constant_types_by (types_named i) (constant_scope (known i)) c))
        ∙ ap first (types_same p before c) in
        (λ i. sooner (so_far i) (same i)) ∙ sym (first_append (constant_types p before) (constant_types_after p before c))
