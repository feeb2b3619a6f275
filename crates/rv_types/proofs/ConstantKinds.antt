-- Where no rule of names and types is broken, each constant and label has a type.
use Rattle.std.proofs.Common.{◌≡◌, inl, inr, ℕ, zero, suc, ◌+◌, ◌<◌, ◌≤◌, Bool, true, false, cond, ◌||◌, List, [], ◌∷◌, ◌++◌, map, flat_map, reverse, length}
use Rattle.std.proofs.Common.{get_or, nat_lt, refl, sym, ◌∙◌, ap, subst, arith, Option, Some, is_some, append-nil, append_assoc, None as Nothing}
use Rattle.std.proofs.lemmas.Bool.{le-ltb, or_cases, or_left, or_right}
use Rattle.std.proofs.lemmas.List.{reverse-append, reverse-reverse, map-append, get_or-append-add, length-append}
use Rattle.std.proofs.lemmas.List.Elements.{Contains-append_left, Contains-append_right, Contains-push}
use Rattle.std.specs.List.{Contains}
use Rattle.rv_tree.specs.{declared.tree.Name.Name, declared.tree.TypeDecl.TypeDecl, declared.tree.TypeName.TypeName, Tree.ConstantTree, Tree.ProgramTree}
use Rattle.rv_tree.specs.{Places.Identifier, Places.is_same}
use Rattle.rv_types.specs.{Names.texts, Names.is_declared, Names.stands_before, Names.labels_of, Names.constant_names, Names.label_names, Names.node_names}
use Rattle.rv_types.specs.{Names.is_value_before, Names.is_clock_anyhow, Names.constant_uses, Kinds.LabelPlace, Kinds.number_from, Kinds.label_from}
use Rattle.rv_types.specs.{Kinds.label_of, Kinds.kind_in_program, Scopes.constant_scope, Scopes.label_kind, Scopes.as_declared, Scopes.constant_kind_after}
use Rattle.rv_types.specs.{Scopes.constant_kind, Scopes.constant_types_after, Scopes.constant_types, Scopes.clash_unless, declared.typed.Kind.Kind}
use Rattle.rv_types.specs.{declared.typed.Kind.TheVariants.Labels, declared.fault.NameFault.NameFault, Parts.offset_of, Types.same_kind, Types.kind_of}
use Rattle.rv_types.proofs.Members.{nothing_in, cons_cases, at_head, in_tail, in_map, among_from, among_contains}
use Rattle.rv_types.proofs.{FirstNames.declared_append, FirstNames.before_append, RightNames.both_empty, RightNames.met, NodeFlows.none_of}
use Rattle.rv_types.proofs.ExpressionKinds.{typed}
use Rattle.rv_base.proofs.Lists.{from_map}

-- What stands in a list stands in it turned round.

turned_more : {X : Type 0} (x : X) (xs : List X) → reverse (x ∷ xs) ≡ reverse xs ++ x ∷ []
turned_more x xs = reverse-append (x ∷ []) xs

in_reverse : {X : Type 0} (xs : List X) (x : X) → Contains xs x → Contains (reverse xs) x
in_reverse [] x w = nothing_in x w
in_reverse (y ∷ ys) x w = subst (λ l. Contains l x) (sym (turned_more y ys)) (elim (cons_cases y ys x w) [
  | inl same ↦ subst (Contains (reverse ys ++ y ∷ [])) same (Contains-push (reverse ys) y)
  | inr rest ↦ Contains-append_left (reverse ys) (y ∷ []) x (in_reverse ys x rest)
])

pub of_reverse : {X : Type 0} (xs : List X) (x : X) → Contains (reverse xs) x → Contains xs x
of_reverse xs x w = subst (λ l. Contains l x) (reverse-reverse xs) (in_reverse (reverse xs) x w)

abbrev constant_name : ConstantTree → Name
constant_name c = c.name

-- some constants declare a name, in whatever order
declared_by : (cs ds : List ConstantTree) → ((c : ConstantTree) → Contains cs c → Contains ds c) → (x : Identifier)
    → is_declared (map constant_name cs) x ≡ true → is_declared (map constant_name ds) x ≡ true
declared_by cs ds within x e =
    let a = from_map (λ (y : Name). y.text) (map constant_name cs) x (among_contains (texts (map constant_name cs)) x e) in
    let b = from_map constant_name cs a.0 a.1 in
    among_from (texts (map constant_name ds)) x
    (subst (Contains (texts (map constant_name ds))) (ap (λ (y : Name). y.text) b.2 ∙ a.2)
    (in_map (λ (y : Name). y.text) (map constant_name ds) b.0.name (in_map constant_name ds b.0 (within b.0 b.1))))

-- Names before an offset.

before_declared : (at : ℕ) (xs : List Name) (x : Identifier) → stands_before at xs x ≡ true → is_declared xs x ≡ true
before_declared at [] x e = e
before_declared at (y ∷ ys) x e = (elim (is_same y.text x) as
    (λ b. cond b (nat_lt y.at at) (stands_before at ys x) ≡ true → (b || is_declared ys x) ≡ true)
    [ true ↦ (λ e. refl) | false ↦ (λ e. before_declared at ys x e) ]) e

none_before : (at : ℕ) (xs : List Name) (x : Identifier) → ((y : Name) → Contains xs y → at ≤ y.at) → stands_before at xs x ≡ false
none_before at [] x later = refl
none_before at (y ∷ ys) x later = elim (is_same y.text x) as (λ b. cond b (nat_lt y.at at) (stands_before at ys x) ≡ false)
    [ true ↦ le-ltb y.at at (later y (at_head y ys)) | false ↦ none_before at ys x (λ z w. later z (in_tail y ys z w)) ]

-- Labels.

number_known : (k : ℕ) (xs : List Name) (x : Identifier) → is_declared xs x ≡ true → is_some (number_from k xs x) ≡ true
number_known k [] x e = cc
number_known k (y ∷ ys) x e = (elim (is_same y.text x) as
    (λ b. (b || is_declared ys x) ≡ true → is_some (cond b (Some k) (number_from (k + 1) ys x)) ≡ true)
    [ true ↦ (λ e. refl) | false ↦ (λ e. number_known (k + 1) ys x e) ]) e

label_known : (i : ℕ) (ds : List TypeDecl) (x : Identifier) → is_declared (flat_map labels_of ds) x ≡ true → is_some (label_from i ds x) ≡ true
label_known i [] x e = cc
label_known i (d ∷ ds) x e =
    by (number_from 0 (labels_of d) x) (is_declared (labels_of d) x) (number_known 0 (labels_of d) x)
    (sym (declared_append (labels_of d) (flat_map labels_of ds) x) ∙ e) (label_known (i + 1) ds x)
  where
    by : (o : Option ℕ) (b : Bool) → (b ≡ true → is_some o ≡ true) → (b || is_declared (flat_map labels_of ds) x) ≡ true
        → (is_declared (flat_map labels_of ds) x ≡ true → is_some (label_from (i + 1) ds x) ≡ true)
        → is_some (elim o as (λ _. Option LabelPlace) [ Nothing ↦ label_from (i + 1) ds x | Some k ↦ Some (record { declaration = i; number = k }) ]) ≡ true
    by (Some k) b here e more = refl
    by Nothing true here e more = absurd (let no : false ≡ true = here refl in let f : ⊥ = cc in f)
    by Nothing false here e more = more e

label_typed : (p : ProgramTree) (x : Identifier) → is_declared (label_names p) x ≡ true → is_some (label_kind p x) ≡ true
label_typed p x e = by (label_of p x) (label_known 0 p.types x e)
  where
    by : (o : Option LabelPlace) → is_some o ≡ true → is_some (elim o as (λ _. Option Kind) [ Nothing ↦ Nothing | Some l ↦ Some (Labels l.declaration) ]) ≡ true
    by Nothing e = e
    by (Some l) e = refl

-- a declared type that is met
as_declared_known : (p : ProgramTree) (at : ℕ) (d : Option TypeName) (o : Option Kind) → is_some o ≡ true
    → elim d as (λ _. List NameFault) [ Nothing ↦ [] | Some t ↦ clash_unless at (kind_in_program p t) o ] ≡ [] → is_some (as_declared p d o) ≡ true
as_declared_known p at Nothing o h e = h
as_declared_known p at (Some t) Nothing h e = cc
as_declared_known p at (Some t) (Some k) h e = ap (λ b. is_some (cond b (Some k) Nothing)) (met (same_kind k (kind_in_program p t)) _ e)

-- the constants of a program stand in the order of their offsets
abbrev pub IsRising : ProgramTree → Type 0
IsRising p = (j k : ℕ) (c : ConstantTree) → j < k → k < length p.constants → (get_or p.constants j c).name.at < (get_or p.constants k c).name.at

module _ (p : ProgramTree) (rising : IsRising p) (used : flat_map (constant_uses p) p.constants ≡ []) where
  -- none that stands at or after a constant stands before it
  later : (before rest : List ConstantTree) (c d : ConstantTree) → p.constants ≡ before ++ c ∷ rest → Contains (c ∷ rest) d → c.name.at ≤ d.name.at
  later before rest c d whole w = at w.0 w.1 w.2
    where
      here : (k : ℕ) → get_or p.constants (length before + k) d ≡ get_or (c ∷ rest) k d
      here k = ap (λ l. get_or l (length before + k) d) whole ∙ get_or-append-add before (c ∷ rest) k d

      many : length p.constants ≡ length before + suc (length rest)
      many = ap length whole ∙ length-append before (c ∷ rest)

      at : (k : ℕ) → k < length (c ∷ rest) → get_or (c ∷ rest) k d ≡ d → c.name.at ≤ d.name.at
      at zero lt is = subst (λ (e : ConstantTree). c.name.at ≤ e.name.at) is (omega arith)
      at (suc k) lt is =
          let size = many in
          let less = rising (length before + 0) (length before + suc k) d (omega arith) (omega (arith, size, lt)) in
          let first = ap (λ (e : ConstantTree). e.name.at) (here 0) in
          let second = ap (λ (e : ConstantTree). e.name.at) (here (suc k) ∙ is) in
          omega (arith, less, first, second)

  -- what a constant may refer to is a constant before it or a label
  known_before : (before rest : List ConstantTree) (c : ConstantTree) (x : Identifier) → p.constants ≡ reverse before ++ c ∷ rest
      → is_value_before p c.name.at x ≡ true → (is_declared (map constant_name before) x || is_declared (label_names p) x) ≡ true
  known_before before rest c x whole e = elim (or_cases (stands_before c.name.at (constant_names p) x) (stands_before c.name.at (label_names p) x) e) [
    | inl constant ↦ or_left _ _ (declared_by (reverse before) before (of_reverse before) x (in_front constant))
    | inr label ↦ or_right _ _ (before_declared c.name.at (label_names p) x label)
  ]
    where
      split : constant_names p ≡ map constant_name (reverse before) ++ map constant_name (c ∷ rest)
      split = ap (map constant_name) whole ∙ map-append constant_name (reverse before) (c ∷ rest)

      none : stands_before c.name.at (map constant_name (c ∷ rest)) x ≡ false
      none = none_before c.name.at (map constant_name (c ∷ rest)) x (λ y w. let d = from_map constant_name (c ∷ rest) y w in
          subst (λ (z : Name). c.name.at ≤ z.at) d.2 (later (reverse before) rest c d.0 whole d.1))

      told : (b l r : Bool) → cond b l r ≡ true → r ≡ false → b ≡ true
      told true l r e f = refl
      told false l r e f = cc

      in_front : stands_before c.name.at (constant_names p) x ≡ true → is_declared (map constant_name (reverse before)) x ≡ true
      in_front e =
          told _ _ _
          (sym (before_append c.name.at (map constant_name (reverse before)) (map constant_name (c ∷ rest)) x)
          ∙ sym (ap (λ l. stands_before c.name.at l x) split) ∙ e) none

  -- the body of a constant has a type, and so has the constant
  constant_typed : (before rest : List ConstantTree) (c : ConstantTree) → p.constants ≡ reverse before ++ c ∷ rest → constant_types_after p before c ≡ []
      → ((x : Identifier) → (is_declared (map constant_name before) x || is_declared (label_names p) x) ≡ true
      → is_some (constant_kind_after p before x) ≡ true)
      → is_some (as_declared p c.kind (kind_of (constant_scope (constant_kind_after p before)) c.body)) ≡ true
  constant_typed before rest c whole right earlier =
      as_declared_known p (offset_of c.body) c.kind (kind_of (constant_scope (constant_kind_after p before)) c.body)
      (typed (constant_scope (constant_kind_after p before)) (is_value_before p c.name.at) is_clock_anyhow (is_declared (node_names p))
      (λ x e. earlier x (known_before before rest c x whole e)) (λ x m e. cc) (λ f m e. cc) c.body (both_empty _ _ right).0
      (both_empty _ _ (none_of (constant_uses p) p.constants c used there)).1)
      (both_empty _ _ right).1
    where
      there : Contains p.constants c
      there = subst (λ l. Contains l c) (sym whole) (Contains-append_right (reverse before) (c ∷ rest) c (at_head c rest))

  kinds_known : (cs rest : List ConstantTree) → p.constants ≡ reverse cs ++ rest → constant_types p cs ≡ [] → (x : Identifier)
      → (is_declared (map constant_name cs) x || is_declared (label_names p) x) ≡ true → is_some (constant_kind_after p cs x) ≡ true
  kinds_known [] rest whole right x e = label_typed p x e
  kinds_known (c ∷ before) rest whole right x e =
      let parts = both_empty _ _ right in
      by (is_same c.name.text x) e (constant_typed before rest c next parts.1 (kinds_known before (c ∷ rest) next parts.0))
      (kinds_known before (c ∷ rest) next parts.0 x)
    where
      next : p.constants ≡ reverse before ++ c ∷ rest
      next = whole ∙ ap (λ l. l ++ rest) (turned_more c before) ∙ append_assoc (reverse before) (c ∷ []) rest

      by : (b : Bool) → ((b || is_declared (map constant_name before) x) || is_declared (label_names p) x) ≡ true
          → is_some (as_declared p c.kind (kind_of (constant_scope (constant_kind_after p before)) c.body)) ≡ true
          → ((is_declared (map constant_name before) x || is_declared (label_names p) x) ≡ true → is_some (constant_kind_after p before x) ≡ true)
          → is_some (cond b (as_declared p c.kind (kind_of (constant_scope (constant_kind_after p before)) c.body)) (constant_kind_after p before x)) ≡ true
      by true e here more = here
      by false e here more = more e

  -- each name of a constant or label has a type
  pub constants_known : constant_types p (reverse p.constants) ≡ [] → (x : Identifier)
      → (is_declared (constant_names p) x || is_declared (label_names p) x) ≡ true → is_some (constant_kind p x) ≡ true
  constants_known right x e =
      kinds_known (reverse p.constants) [] (sym (append-nil (reverse (reverse p.constants)) ∙ reverse-reverse p.constants)) right x
      (elim (or_cases (is_declared (constant_names p) x) (is_declared (label_names p) x) e) [
        | inl constant ↦ or_left _ _ (declared_by p.constants (reverse p.constants) (in_reverse p.constants) x constant)
        | inr label ↦ or_right _ _ label
      ])
