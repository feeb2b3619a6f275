-- What is read of an expression has what the expression has, whatever expressions are read as; and its comparisons are its own.
use Rattle.std.proofs.Common.{◌≡◌, ℕ, ◌+◌, ℤ, negsuc, Bool, true, false, not, cond, List, [], ◌∷◌, ◌++◌, map, length, refl, sym, ◌∙◌, ap, unwrap_or, Option}
use Rattle.std.proofs.Common.{Some, None as Nothing}
use Rattle.std.proofs.lemmas.List.{map-append}
use Rattle.std.specs.Prelude.{nat_le, nat_eq}
use Rattle.rv_tree.specs.{declared.tree.Op.Op, Tree.Tree, Tree.Form, Tree.Trees, Tree.ProgramTree, Places.Identifier, Places.Sites, Places.is_flow}
use Rattle.rv_tree.specs.Places.{index_of}
use Rattle.rv_tree.specs.declared.tree.Op.TheVariants as op
use Rattle.rv_tree.specs.Tree as tree
use Rattle.rv_types.specs.Instances.{Instance, place, absolute, clock_of, clock_in, output_place}
use Rattle.rv_types.specs.{declared.typed.Clock.TheVariants.Base, Types.is_constant, Lists.sides_of, Scopes.node_scope, Scopes.constant_value}
use Rattle.rv_agreement.specs.Valuations.{Comparison, is_placed, own, comparisons, form_comparisons, comparisons_of}
use Rattle.rv_agreement.specs.Programs.{FoundAt, operator_place, coefficient, operation, is_there, meant, form_meant, trues_meant, Compared, own_compared}
use Rattle.rv_agreement.specs.Programs.{compared, form_compared, compared_all}
use Rattle.rv_agreement.specs.Translation.{Names, FormNames, AllNames, Numbers, clock_number, tick_number, flat_of, flat_form, flats_of}
use Rattle.rv_agreement.specs.{Trees.FlatTree, Trees.Item, Trees.nth_item, Evaluation.Reads, Evaluation.Found}
use Rattle.rv_agreement.specs.Trees as flat
use Rattle.rv_agreement.specs.Evaluation as by

-- An operator under a function, and with equal parts.
operation_under : {A B : Type 0} (f : A → B) (o : Op) (c p z : A) → f (operation o c p z) ≡ operation o (f c) (f p) (f z)
operation_under f op.Arrow c p z = refl
operation_under f _ c p z = refl

operation_same : {A : Type 0} (o : Op) (c d p q y z : A) → (o ≡ op.Arrow → c ≡ d) → p ≡ q → y ≡ z → operation o c p y ≡ operation o d q z
operation_same op.Arrow c d p q y z choice product other = choice refl
operation_same op.Times c d p q y z choice product other = product
operation_same _ c d p q y z choice product other = other

module _ (V : Type 0) (r : Reads V) (flagged : (b : Bool) → r.truth (r.flag b) ≡ b) (program : ProgramTree) (numbers : Numbers) (found : Found V)
    (row : List (Option V)) (at_place : FoundAt V)
    (cells : Sites → Option V) (agrees : (q : Sites) → by.nth V r row (index_of numbers.flows q) ≡ cells q) (i : Instance) where
  abbrev read : FlatTree → V
  read = by.value V r found row

  abbrev has : Tree → V
  has = meant V r program at_place cells i

  -- the memory at a place, and the tick of a clock, are found by number as by place
  abbrev pub IsKept : Sites → Type 0
  IsKept q = found.kept (index_of numbers.memories q) ≡ at_place.kept q

  abbrev pub IsTick : Option Sites → Type 0
  IsTick k = found.ticked (tick_number numbers k) ≡ at_place.ticked k

  abbrev Any : Identifier → Type 0
  Any x = Unit {0}

  pub on_clock : (k : Option Sites) → by.is_there V r row (clock_number numbers k) ≡ is_there V r program at_place cells k
  on_clock Nothing = refl
  on_clock (Some q) = ap (by.is_on V r) (agrees q)

  name_read : (at : Sites) (x : Identifier) (b : Bool) → by.form_value V r found row at
      (cond b (flat.Flow (index_of numbers.flows (place i x))) (flat.Constant (constant_value program x)))
      ≡ cond b (by.held V r (cells (place i x))) (r.constant (constant_value program x))
  name_read at x true = ap (by.held V r) (agrees (place i x))
  name_read at x false = refl

  scale_read : (at : Sites) (b : Bool) (y z : ℤ) (f g : FlatTree) → by.form_value V r found row at (cond b (flat.Scale y g) (flat.Scale z f)) ≡ cond b
      (r.scale y (read g)) (r.scale z (read f))
  scale_read at true y z f g = refl
  scale_read at false y z f g = refl

  mutual
    pub value_read : (e : Tree) → Names i IsKept IsTick Any e → read (flat_of program numbers i e) ≡ has e
    value_read (tree.Node at site form) names = form_read site form names

    form_read : (site : Option ℕ) (form : Form) → FormNames i IsKept IsTick Any site form
        → read (flat_form program numbers i site form) ≡ form_meant V r program at_place cells i site form
    form_read site (tree.Named x) names = name_read [] x (is_flow i.node x)
    form_read site (tree.Not e) names = ap (λ v. r.flag (not (r.truth v))) (value_read e names)
    form_read site (tree.Minus e) names = ap (r.scale (negsuc 0)) (value_read e names)
    form_read site (tree.Pre e) names = names
    form_read site (tree.Current e) names = λ j. cond (on_clock (clock_in i Base e) j) (value_read e names.1 j) (names.0 j)
    form_read site (tree.When e c) names = value_read e names.1
    form_read site (tree.Binary o a b) names =
        let at = operator_place program i site o a in
        let k = clock_in i Base (tree.Node 0 site (tree.Binary o a b)) in
        let c = is_constant (node_scope program i.node) a in
        let left = value_read a names.1 in
        let right = value_read b names.2 in
        operation_under (by.form_value V r found row at) o _ _ _
        ∙ operation_same o _ _ _ _ _ _
        (λ arrow. λ j. cond ((flagged (found.ticked (tick_number numbers k)) ∙ names.0 arrow) j) (right j) (left j))
        (scale_read at c (coefficient program a) (coefficient program b) (flat_of program numbers i a) (flat_of program numbers i b)
        ∙ (λ j. cond c (r.scale (coefficient program a) (right j)) (r.scale (coefficient program b) (left j))))
        (λ j. r.operate at o (left j) (right j))
    form_read site (tree.If a b c) names = λ j. cond (r.truth (value_read a names.0 j)) (value_read b names.1 j) (value_read c names.2 j)
    form_read site (tree.AtMostOne es) names = ap (λ n. r.flag (nat_le n 1)) (trues_read es names)
    form_read site (tree.Call f args) names = ap (by.held V r) (agrees (output_place program i (unwrap_or site 0) f 0))
    form_read site _ names = refl

    trues_read : (es : Trees) → AllNames i IsKept IsTick Any es → by.trues V r found row (flats_of program numbers i es) ≡ trues_meant V r program at_place
        cells i es
    trues_read tree.None names = refl
    trues_read (tree.More e es) names = λ j. cond (r.truth (value_read e names.0 j)) 1 0 + trues_read es names.1 j

-- The comparisons.

module _ (program : ProgramTree) (numbers : Numbers) (flows : List Item) (i : Instance) where
  -- a comparison of the program in the flat system
  abbrev pub flat_comparison : Compared → Comparison
  flat_comparison c = record {
    at = c.at;
    clock = clock_number numbers c.clock;
    operator = c.operator;
    left = flat_of program numbers c.within c.left;
    right = flat_of program numbers c.within c.right;
  }

  -- the flow of a clock is on the clock of that flow
  abbrev pub IsClock : Identifier → Type 0
  IsClock x = (nth_item flows (index_of numbers.flows (place i x))).clock ≡ clock_number numbers (absolute i (clock_of i.node x))

  abbrev AnyPlace : Sites → Type 0
  AnyPlace q = Unit {0}

  abbrev AnyTick : Option Sites → Type 0
  AnyTick k = Unit {0}

  abbrev found_in : Option Sites → Tree → List Comparison
  found_in k e = comparisons flows (clock_number numbers k) (flat_of program numbers i e)

  named_in : (k : Option ℕ) (at : Sites) (x : Identifier) (b : Bool) → form_comparisons flows k at
      (cond b (flat.Flow (index_of numbers.flows (place i x))) (flat.Constant (constant_value program x))) ≡ []
  named_in k at x true = refl
  named_in k at x false = refl

  scale_in : (k : Option ℕ) (at : Sites) (b : Bool) (y z : ℤ) (f g : FlatTree)
      → form_comparisons flows k at (cond b (flat.Scale y g) (flat.Scale z f)) ≡ cond b (comparisons flows k g) (comparisons flows k f)
  scale_in k at true y z f g = refl
  scale_in k at false y z f g = refl

  map_cond : {A B : Type 0} (f : A → B) (b : Bool) (xs ys : List A) → map f (cond b xs ys) ≡ cond b (map f xs) (map f ys)
  map_cond f true xs ys = refl
  map_cond f false xs ys = refl

  own_read : (o : Op) (c : Compared) → own o (flat_comparison c) ≡ map flat_comparison (own_compared o c)
  own_read o c =
      (λ j. cond (is_placed c.at) (sym (map_cond flat_comparison (nat_eq (length (sides_of o)) 0) [] (c ∷ [])) j) [])
      ∙ sym (map_cond flat_comparison (is_placed c.at) (cond (nat_eq (length (sides_of o)) 0) [] (c ∷ [])) [])

  mutual
    pub compared_read : (k : Option Sites) (e : Tree) → Names i AnyPlace AnyTick IsClock e → found_in k e ≡ map flat_comparison (compared program i k e)
    compared_read k (tree.Node at site form) names = form_read' k site form names

    form_read' : (k : Option Sites) (site : Option ℕ) (form : Form) → FormNames i AnyPlace AnyTick IsClock site form
        → comparisons flows (clock_number numbers k) (flat_form program numbers i site form) ≡ map flat_comparison (form_compared program i k site form)
    form_read' k site (tree.Named x) names = named_in (clock_number numbers k) [] x (is_flow i.node x)
    form_read' k site (tree.Not e) names = compared_read k e names
    form_read' k site (tree.Minus e) names = compared_read k e names
    form_read' k site (tree.When e c) names =
        ap (λ j. comparisons flows j (flat_of program numbers i e)) names.0
        ∙ compared_read (absolute i (clock_of i.node c.text)) e names.1
    form_read' k site (tree.Binary o a b) names =
        let at = operator_place program i site o a in
        let t = clock_in i Base (tree.Node 0 site (tree.Binary o a b)) in
        let c = is_constant (node_scope program i.node) a in
        let n = clock_number numbers k in
        let f = flat_of program numbers i a in
        let g = flat_of program numbers i b in
        let self : Compared = record { at = at; clock = k; operator = o; within = i; left = a; right = b } in
        let left = compared_read k a names.1 in
        let right = compared_read k b names.2 in
        operation_under (form_comparisons flows n at) o _ _ _
        ∙ operation_same o _ _ _ _ _ _
        (λ arrow. (λ j. right j ++ left j) ∙ sym (map-append flat_comparison (compared program i k b) (compared program i k a)))
        (scale_in n at c (coefficient program a) (coefficient program b) f g ∙ (λ j. cond c (right j) (left j))
        ∙ sym (map_cond flat_comparison c (compared program i k b) (compared program i k a)))
        ((λ j. own_read o self j ++ (left j ++ right j))
        ∙ (λ j. map flat_comparison (own_compared o self) ++ sym (map-append flat_comparison (compared program i k a) (compared program i k b)) j)
        ∙ sym (map-append flat_comparison (own_compared o self) (compared program i k a ++ compared program i k b)))
        ∙ sym (operation_under (map flat_comparison) o _ _ _)
    form_read' k site (tree.If a b c) names =
        (λ j. compared_read k a names.0 j ++ (compared_read k b names.1 j ++ compared_read k c names.2 j))
        ∙ (λ j. map flat_comparison (compared program i k a) ++ sym (map-append flat_comparison (compared program i k b) (compared program i k c)) j)
        ∙ sym (map-append flat_comparison (compared program i k a) (compared program i k b ++ compared program i k c))
    form_read' k site (tree.AtMostOne es) names = all_read k es names
    form_read' k site _ names = refl

    all_read : (k : Option Sites) (es : Trees) → AllNames i AnyPlace AnyTick IsClock es
        → comparisons_of flows (clock_number numbers k) (flats_of program numbers i es) ≡ map flat_comparison (compared_all program i k es)
    all_read k tree.None names = refl
    all_read k (tree.More e es) names =
        (λ j. compared_read k e names.0 j ++ all_read k es names.1 j) ∙ sym (map-append flat_comparison (compared program i k e) (compared_all program i k es))
