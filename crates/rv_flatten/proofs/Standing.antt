-- The expressions that stand in a node: right sides, arguments, assertions, and what stands in these.
use Rattle.std.proofs.Common.{◌≡◌, inl, inr, ℕ, suc, List, [], ◌∷◌, ◌++◌, length, arith, refl, sym, ◌∙◌, ap, subst, unwrap_or, Option, flat_map}
use Rattle.std.proofs.lemmas.List.Elements.{Contains-append_left, Contains-append_right, Contains-append_cases}
use Rattle.std.proofs.lemmas.Grind.{flat_map-append}
use Rattle.std.specs.List.{Contains}
use Rattle.rv_tree.specs.Tree.{Tree, Node, Form, Not, Minus, Pre, Current, When, Binary, If, AtMostOne, Call, Trees, None, More, EquationTree, AssertionTree}
use Rattle.rv_tree.specs.Tree.{NodeTree}
use Rattle.rv_tree.specs.Delays.{Delay, delays, delays_of_all, delays_in_equations, delays_in_assertions, node_delays}
use Rattle.rv_tree.specs.{declared.tree.Name.Name, declared.tree.Op.Op, Places.Identifier}
use Rattle.rv_types.specs.Instances.{CallTree, calls_in, calls_in_all, calls_in_equations, calls_in_assertions, calls, Body, Output, IsRight, alone, in_order}
use Rattle.rv_types.specs.Instances.{IsArgument, head, tail}
use Rattle.rv_types.specs.{Names.texts, Variables.parts, Variables.form_parts, Variables.parts_of_all, Variables.node_parts}
use Rattle.rv_instances.specs.Weights.{weighed_of_several, weighed_under, weighed}
use Rattle.rv_types.proofs.Members.{at_head, cons_cases, in_flat_map, in_tail, nothing_in, of_flat_map}
use Rattle.rv_types.proofs.{TypedParts.right_calls, CallsWithin.argument_parts}

-- an operand or argument
pub data IsChild : Tree → Form → Type 0 where
  of_not : {e : Tree} → IsChild e (Not e)
  of_minus : {e : Tree} → IsChild e (Minus e)
  of_pre : {e : Tree} → IsChild e (Pre e)
  of_current : {e : Tree} → IsChild e (Current e)
  of_when : {e : Tree} (c : Name) → IsChild e (When e c)
  of_left : {o : Op} {a b : Tree} → IsChild a (Binary o a b)
  of_right : {o : Op} {a b : Tree} → IsChild b (Binary o a b)
  of_condition : {a b c : Tree} → IsChild a (If a b c)
  of_first : {a b c : Tree} → IsChild b (If a b c)
  of_second : {a b c : Tree} → IsChild c (If a b c)
  of_operand : {es : Trees} {e : Tree} (j : ℕ) → IsArgument es j e → IsChild e (AtMostOne es)
  of_argument : {f : Identifier} {es : Trees} {e : Tree} (j : ℕ) → IsArgument es j e → IsChild e (Call f es)

-- What stands in a node: the right side of an equation, which stands there as a whole or by its arguments, an assertion, and
-- their parts.
pub data Stands (n : NodeTree) : Tree → Type 0 where
  as_right : (q : EquationTree) → Contains n.equations q → weighed_under q.lefts q.right ≡ parts q.right → Stands n q.right
  as_argument : (q : EquationTree) (at j : ℕ) (site : Option ℕ) (f : Identifier) (args : Trees) (e : Tree) → Contains n.equations q
      → q.right ≡ Node at site (Call f args) → IsArgument args j e → Stands n e
  as_assertion : (a : AssertionTree) → Contains n.assertions a → Stands n a.body
  as_child : {at : ℕ} {site : Option ℕ} {form : Form} {e : Tree} → Stands n (Node at site form) → IsChild e form → Stands n e

-- an expression is a part of itself
pub part_itself : (e : Tree) → Contains (parts e) e
part_itself (Node at site form) = at_head (Node at site form) (form_parts form)

part_of_child : (form : Form) (e x : Tree) → IsChild e form → Contains (parts e) x → Contains (form_parts form) x
part_of_child _ e x of_not w = w
part_of_child _ e x of_minus w = w
part_of_child _ e x of_pre w = w
part_of_child _ e x of_current w = w
part_of_child _ e x (of_when c) w = w
part_of_child _ e x (of_left {b = b}) w = Contains-append_left (parts e) (parts b) x w
part_of_child _ e x (of_right {a = a}) w = Contains-append_right (parts a) (parts e) x w
part_of_child _ e x (of_condition {b = b} {c = c}) w = Contains-append_left (parts e) (parts b ++ parts c) x w
part_of_child _ e x (of_first {a = a} {c = c}) w = Contains-append_right (parts a) (parts e ++ parts c) x (Contains-append_left (parts e) (parts c) x w)
part_of_child _ e x (of_second {a = a} {b = b}) w = Contains-append_right (parts a) (parts b ++ parts e) x (Contains-append_right (parts b) (parts e) x w)
part_of_child _ e x (of_operand {es = es} j arg) w = argument_parts es j e x arg w
part_of_child _ e x (of_argument {es = es} j arg) w = argument_parts es j e x arg w

-- The `pre` and `current` of an expression are those that its parts are, and so are its calls.
abbrev own_delays : Tree → List Delay
own_delays (Node at site (Pre e)) = record { site = site; operand = e } ∷ []
own_delays (Node at site (Current e)) = record { site = site; operand = e } ∷ []
own_delays _ = []

abbrev own_calls : Tree → List CallTree
own_calls (Node at site (Call f args)) = record { at = at; site = unwrap_or site 0; name = f; args = args } ∷ []
own_calls _ = []

both_own : {Y : Type 0} (own : Tree → List Y) (xs ys : List Tree) {zs ws : List Y} → zs ≡ flat_map own xs → ws ≡ flat_map own ys
    → zs ++ ws ≡ flat_map own (xs ++ ys)
both_own own xs ys p q = (λ i. p i ++ q i) ∙ sym (flat_map-append own xs ys)

mutual
  delays_are : (e : Tree) → delays e ≡ flat_map own_delays (parts e)
  delays_are (Node at site (Not e)) = delays_are e
  delays_are (Node at site (Minus e)) = delays_are e
  delays_are (Node at site (Pre e)) = ap (λ (l : List Delay). record { site = site; operand = e } ∷ l) (delays_are e)
  delays_are (Node at site (Current e)) = ap (λ (l : List Delay). record { site = site; operand = e } ∷ l) (delays_are e)
  delays_are (Node at site (When e c)) = delays_are e
  delays_are (Node at site (Binary o a b)) = both_own own_delays (parts a) (parts b) (delays_are a) (delays_are b)
  delays_are (Node at site (If a b c)) = both_own own_delays (parts a) (parts b ++ parts c) (delays_are a)
      (both_own own_delays (parts b) (parts c) (delays_are b) (delays_are c))
  delays_are (Node at site (AtMostOne es)) = all_delays_are es
  delays_are (Node at site (Call f es)) = all_delays_are es
  delays_are _ = refl

  all_delays_are : (es : Trees) → delays_of_all es ≡ flat_map own_delays (parts_of_all es)
  all_delays_are None = refl
  all_delays_are (More e es) = both_own own_delays (parts e) (parts_of_all es) (delays_are e) (all_delays_are es)

mutual
  calls_are : (e : Tree) → calls_in e ≡ flat_map own_calls (parts e)
  calls_are (Node at site (Not e)) = calls_are e
  calls_are (Node at site (Minus e)) = calls_are e
  calls_are (Node at site (Pre e)) = calls_are e
  calls_are (Node at site (Current e)) = calls_are e
  calls_are (Node at site (When e c)) = calls_are e
  calls_are (Node at site (Binary o a b)) = both_own own_calls (parts a) (parts b) (calls_are a) (calls_are b)
  calls_are (Node at site (If a b c)) = both_own own_calls (parts a) (parts b ++ parts c) (calls_are a)
      (both_own own_calls (parts b) (parts c) (calls_are b) (calls_are c))
  calls_are (Node at site (AtMostOne es)) = all_calls_are es
  calls_are (Node at site (Call f es)) = ap (λ (l : List CallTree). record { at = at; site = unwrap_or site 0; name = f; args = es } ∷ l) (all_calls_are es)
  calls_are _ = refl

  all_calls_are : (es : Trees) → calls_in_all es ≡ flat_map own_calls (parts_of_all es)
  all_calls_are None = refl
  all_calls_are (More e es) = both_own own_calls (parts e) (parts_of_all es) (calls_are e) (all_calls_are es)

equation_delays : (qs : List EquationTree) → delays_in_equations qs ≡ flat_map own_delays (flat_map (λ (q : EquationTree). parts q.right) qs)
equation_delays [] = refl
equation_delays (q ∷ qs) = both_own own_delays (parts q.right) (flat_map (λ (q : EquationTree). parts q.right) qs) (delays_are q.right) (equation_delays qs)

assertion_delays : (qs : List AssertionTree) → delays_in_assertions qs ≡ flat_map own_delays (flat_map (λ (q : AssertionTree). parts q.body) qs)
assertion_delays [] = refl
assertion_delays (q ∷ qs) = both_own own_delays (parts q.body) (flat_map (λ (q : AssertionTree). parts q.body) qs) (delays_are q.body) (assertion_delays qs)

equation_calls : (qs : List EquationTree) → calls_in_equations qs ≡ flat_map own_calls (flat_map (λ (q : EquationTree). parts q.right) qs)
equation_calls [] = refl
equation_calls (q ∷ qs) = both_own own_calls (parts q.right) (flat_map (λ (q : EquationTree). parts q.right) qs) (calls_are q.right) (equation_calls qs)

assertion_calls : (qs : List AssertionTree) → calls_in_assertions qs ≡ flat_map own_calls (flat_map (λ (q : AssertionTree). parts q.body) qs)
assertion_calls [] = refl
assertion_calls (q ∷ qs) = both_own own_calls (parts q.body) (flat_map (λ (q : AssertionTree). parts q.body) qs) (calls_are q.body) (assertion_calls qs)

-- the arguments of a right side that is a call have a weight
abbrev AreWeighed : List Name → Tree → Trees → Type 0
AreWeighed lefts e args = (x : Tree) → Contains (parts_of_all args) x → Contains (weighed_under lefts e) x

arguments_weighed : (lefts : List Name) (at : ℕ) (site : Option ℕ) (f : Identifier) (args : Trees) → AreWeighed lefts (Node at site (Call f args)) args
arguments_weighed (y ∷ []) at site f args x w = in_tail (Node at site (Call f args)) (parts_of_all args) x w
arguments_weighed _ at site f args x w = w

module _ (n : NodeTree) where
  abbrev weighed_right : EquationTree → List Tree
  weighed_right q = weighed_under q.lefts q.right

  in_right : (q : EquationTree) (x : Tree) → Contains n.equations q → Contains (weighed_right q) x → Contains (weighed n) x
  in_right q x w v = Contains-append_left (flat_map weighed_right n.equations) (flat_map (λ a. parts a.body) n.assertions) x
      (in_flat_map weighed_right n.equations q x w v)

  -- the parts of what stands in a node have a weight
  pub parts_weighed : (e : Tree) → Stands n e → (x : Tree) → Contains (parts e) x → Contains (weighed n) x
  parts_weighed _ (as_right q w is) x v = in_right q x w (subst (λ l. Contains l x) (sym is) v)
  parts_weighed _ (as_argument q at j site f args e w is arg) x v =
      in_right q x w (subst (λ t. Contains (weighed_under q.lefts t) x) (sym is) (arguments_weighed q.lefts at site f args x (argument_parts args j e x arg v)))
  parts_weighed _ (as_assertion a w) x v =
      Contains-append_right (flat_map weighed_right n.equations) (flat_map (λ b. parts b.body) n.assertions) x
      (in_flat_map (λ (b : AssertionTree). parts b.body) n.assertions a x w v)
  parts_weighed _ (as_child {at = at} {site = site} {form = form} {e = e} s c) x v = parts_weighed (Node at site form) s x
      (in_tail (Node at site form) (form_parts form) x (part_of_child form e x c v))

  -- so has the expression itself
  pub stands_weighed : (e : Tree) → Stands n e → Contains (weighed n) e
  stands_weighed e s = parts_weighed e s e (part_itself e)

  -- all expressions of the node
  abbrev rights : List Tree
  rights = flat_map (λ (q : EquationTree). parts q.right) n.equations

  abbrev bodies : List Tree
  bodies = flat_map (λ (a : AssertionTree). parts a.body) n.assertions

  -- it is one of them
  pub parts_in : (e : Tree) → Stands n e → (x : Tree) → Contains (parts e) x → Contains (node_parts n) x
  parts_in _ (as_right q w is) x v = Contains-append_left rights bodies x (in_flat_map (λ (r : EquationTree). parts r.right) n.equations q x w v)
  parts_in _ (as_argument q at j site f args e w is arg) x v = Contains-append_left rights bodies x
      (in_flat_map (λ (r : EquationTree). parts r.right) n.equations q x w
      (subst (λ t. Contains (parts t) x) (sym is) (in_tail (Node at site (Call f args)) (parts_of_all args) x (argument_parts args j e x arg v))))
  parts_in _ (as_assertion a w) x v = Contains-append_right rights bodies x (in_flat_map (λ (b : AssertionTree). parts b.body) n.assertions a x w v)
  parts_in _ (as_child {at = at} {site = site} {form = form} {e = e} s c) x v = parts_in (Node at site form) s x
      (in_tail (Node at site form) (form_parts form) x (part_of_child form e x c v))

  pub stands_in : (e : Tree) → Stands n e → Contains (node_parts n) e
  stands_in e s = parts_in e s e (part_itself e)

  mutual
    -- a part of what stands in the node stands there
    part_stands : (e : Tree) → Stands n e → (x : Tree) → Contains (parts e) x → Stands n x
    part_stands (Node at site form) s x w = elim (cons_cases (Node at site form) (form_parts form) x w) [
      | inl is ↦ subst (Stands n) is s
      | inr rest ↦ form_part_stands at site form s x rest
    ]

    form_part_stands : (at : ℕ) (site : Option ℕ) (form : Form) → Stands n (Node at site form) → (x : Tree) → Contains (form_parts form) x → Stands n x
    form_part_stands at site (Not e) s x w = part_stands e (as_child s of_not) x w
    form_part_stands at site (Minus e) s x w = part_stands e (as_child s of_minus) x w
    form_part_stands at site (Pre e) s x w = part_stands e (as_child s of_pre) x w
    form_part_stands at site (Current e) s x w = part_stands e (as_child s of_current) x w
    form_part_stands at site (When e c) s x w = part_stands e (as_child s (of_when c)) x w
    form_part_stands at site (Binary o a b) s x w = elim (Contains-append_cases (parts a) (parts b) x w) [
      | inl v ↦ part_stands a (as_child s of_left) x v
      | inr v ↦ part_stands b (as_child s of_right) x v
    ]
    form_part_stands at site (If a b c) s x w = elim (Contains-append_cases (parts a) (parts b ++ parts c) x w) [
      | inl v ↦ part_stands a (as_child s of_condition) x v
      | inr v ↦ elim (Contains-append_cases (parts b) (parts c) x v) [
        | inl u ↦ part_stands b (as_child s of_first) x u
        | inr u ↦ part_stands c (as_child s of_second) x u
      ]
    ]
    form_part_stands at site (AtMostOne es) s x w = parts_stand es (λ j e arg. as_child s (of_operand j arg)) x w
    form_part_stands at site (Call f es) s x w = parts_stand es (λ j e arg. as_child s (of_argument j arg)) x w
    form_part_stands at site _ s x w = nothing_in x w

    parts_stand : (es : Trees) → ((j : ℕ) (e : Tree) → IsArgument es j e → Stands n e) → (x : Tree) → Contains (parts_of_all es) x → Stands n x
    parts_stand None s x w = nothing_in x w
    parts_stand (More e es) s x w = elim (Contains-append_cases (parts e) (parts_of_all es) x w) [
      | inl v ↦ part_stands e (s 0 e head) x v
      | inr v ↦ parts_stand es (λ j a arg. s (suc j) a (tail arg)) x v
    ]

  -- the right side of an equation stands in the node, or is a call whose arguments do
  pub data StandsRight (q : EquationTree) : Type 0 where
    whole : Stands n q.right → StandsRight q
    called : (at : ℕ) (site : Option ℕ) (f : Identifier) (args : Trees) → q.right ≡ Node at site (Call f args) → StandsRight q

  pub right_stands : (q : EquationTree) → Contains n.equations q → StandsRight q
  right_stands q w = by q.lefts q.right refl refl
    where
      as_whole : (lefts : List Name) (e : Tree) → weighed_under lefts e ≡ parts e → q.lefts ≡ lefts → q.right ≡ e → StandsRight q
      as_whole lefts e is here there = whole (as_right q w ((λ j. weighed_under (here j) (there j)) ∙ is ∙ ap parts (sym there)))

      of_several : (lefts : List Name) (e : Tree) → ((d : Tree) → weighed_under lefts d ≡ weighed_of_several d) → q.lefts ≡ lefts → q.right ≡ e → StandsRight q
      of_several lefts (Node at site (Call f args)) is here there = called at site f args there
      of_several lefts _ is here there = as_whole lefts _ (is _) here there

      by : (lefts : List Name) (e : Tree) → q.lefts ≡ lefts → q.right ≡ e → StandsRight q
      by [] e here there = of_several [] e (λ d. refl) here there
      by (x ∷ []) e here there = as_whole (x ∷ []) e refl here there
      by (x ∷ y ∷ ys) e here there = of_several (x ∷ y ∷ ys) e (λ d. refl) here there

  -- an expression of the node stands there, or is a call of the node
  pub data IsPart (x : Tree) : Type 0 where
    standing : Stands n x → IsPart x
    calling : (at : ℕ) (site : Option ℕ) (f : Identifier) (args : Trees) → x ≡ Node at site (Call f args)
        → Contains (calls n) (record { at = at; site = unwrap_or site 0; name = f; args = args })
        → ((j : ℕ) (e : Tree) → IsArgument args j e → Stands n e) → IsPart x

  right_part : (q : EquationTree) → Contains n.equations q → (x : Tree) → Contains (parts q.right) x → IsPart x
  right_part q w x v = elim (right_stands q w) [
    | whole s ↦ standing (part_stands q.right s x v)
    | called at site f args is ↦
        let own : CallTree = record { at = at; site = unwrap_or site 0; name = f; args = args } in
        elim (cons_cases (Node at site (Call f args)) (parts_of_all args) x (subst (λ t. Contains (parts t) x) is v)) [
          | inl here ↦ calling at site f args (sym here) (Contains-append_left (calls_in_equations n.equations) (calls_in_assertions n.assertions) own
              (right_calls n.equations q own w (subst (λ t. Contains (calls_in t) own) (sym is) (at_head own (calls_in_all args)))))
              (λ j e arg. as_argument q at j site f args e w is arg)
          | inr rest ↦ standing (parts_stand args (λ j e arg. as_argument q at j site f args e w is arg) x rest)
        ]
  ]

  pub part_is : (x : Tree) → Contains (node_parts n) x → IsPart x
  part_is x w = elim (Contains-append_cases rights bodies x w) [
    | inl v ↦ let r = of_flat_map (λ (q : EquationTree). parts q.right) n.equations x v in right_part r.0 r.1 x r.2
    | inr v ↦ let r = of_flat_map (λ (a : AssertionTree). parts a.body) n.assertions x v in standing (part_stands r.0.body (as_assertion r.0 r.1) x r.2)
  ]

  -- the operand of a `pre` or `current` of the node stands there
  node_delays_are : node_delays n ≡ flat_map own_delays (node_parts n)
  node_delays_are = both_own own_delays rights bodies (equation_delays n.equations) (assertion_delays n.assertions)

  pub operand_stands : (d : Delay) → Contains (node_delays n) d → Stands n d.operand
  operand_stands d w =
      let r = of_flat_map own_delays (node_parts n) d (subst (λ l. Contains l d) node_delays_are w) in
      elim (part_is r.0 r.1) [
        | standing s ↦ by r.0 s r.2
        | calling at site f args is there inside ↦ nothing_in d (subst (λ t. Contains (own_delays t) d) is r.2)
      ]
    where
      of_one : (e : Delay) → Contains (e ∷ []) d → Stands n e.operand → Stands n d.operand
      of_one e v s = elim (cons_cases e [] d v) [ inl is ↦ subst (λ (c : Delay). Stands n c.operand) is s | inr none ↦ nothing_in d none ]

      by : (x : Tree) → Stands n x → Contains (own_delays x) d → Stands n d.operand
      by (Node at site (Pre e)) s v = of_one (record { site = site; operand = e }) v (as_child s of_pre)
      by (Node at site (Current e)) s v = of_one (record { site = site; operand = e }) v (as_child s of_current)
      by _ s v = nothing_in d v

  -- an argument of a call of the node
  node_calls_are : calls n ≡ flat_map own_calls (node_parts n)
  node_calls_are = both_own own_calls rights bodies (equation_calls n.equations) (assertion_calls n.assertions)

  pub argument_stands : (c : CallTree) (j : ℕ) (e : Tree) → Contains (calls n) c → IsArgument c.args j e → Stands n e
  argument_stands c j e w arg =
      let r = of_flat_map own_calls (node_parts n) c (subst (λ l. Contains l c) node_calls_are w) in
      elim (part_is r.0 r.1) [
        | standing s ↦ by r.0 s r.2
        | calling at site f args is there inside ↦ inside j e
            (of_one (record { at = at; site = unwrap_or site 0; name = f; args = args }) (subst (λ t. Contains (own_calls t) c) is r.2))
      ]
    where
      of_one : (d : CallTree) → Contains (d ∷ []) c → IsArgument d.args j e
      of_one d v = elim (cons_cases d [] c v) [ inl is ↦ subst (λ (k : CallTree). IsArgument k.args j e) (sym is) arg | inr none ↦ nothing_in c none ]

      by : (x : Tree) → Stands n x → Contains (own_calls x) c → Stands n e
      by (Node at site (Call f args)) s v = as_child s (of_argument j (of_one (record { at = at; site = unwrap_or site 0; name = f; args = args }) v))
      by _ s v = nothing_in c v

  -- the right side of a flow
  pub body_stands : (x : Identifier) (e : Tree) → IsRight n x (Body e) → Stands n e
  body_stands x _ (alone q w is) = as_right q w (by q.lefts is)
    where
      by : (lefts : List Name) → texts lefts ≡ x ∷ [] → weighed_under lefts q.right ≡ parts q.right
      by [] is = absurd (omega (arith, ap length is))
      by (y ∷ []) is = refl
      by (y ∷ z ∷ zs) is = absurd (omega (arith, ap length is))

  -- what is itself a delay or a call
  delay_there : (x : Tree) (d : Delay) → Stands n x → Contains (own_delays x) d → Contains (node_delays n) d
  delay_there x d s w = subst (λ l. Contains l d) (sym node_delays_are) (in_flat_map own_delays (node_parts n) x d (stands_in x s) w)

  pub own_delay : (at : ℕ) (site : Option ℕ) (e : Tree) → Stands n (Node at site (Pre e)) → Contains (node_delays n) (record { site = site; operand = e })
  own_delay at site e s = delay_there (Node at site (Pre e)) _ s (at_head (record { site = site; operand = e }) [])

  pub own_current : (at : ℕ) (site : Option ℕ) (e : Tree) → Stands n (Node at site (Current e)) → Contains (node_delays n) (record { site = site; operand = e })
  own_current at site e s = delay_there (Node at site (Current e)) _ s (at_head (record { site = site; operand = e }) [])

  pub own_call : (at : ℕ) (site : Option ℕ) (f : Identifier) (args : Trees) → Stands n (Node at site (Call f args))
      → Contains (calls n) (record { at = at; site = unwrap_or site 0; name = f; args = args })
  own_call at site f args s =
      let own : CallTree = record { at = at; site = unwrap_or site 0; name = f; args = args } in
      subst (λ l. Contains l own) (sym node_calls_are)
      (in_flat_map own_calls (node_parts n) (Node at site (Call f args)) own (stands_in (Node at site (Call f args)) s) (at_head own []))

  -- a call with several outputs is one of the node
  pub output_call : (x : Identifier) (c : CallTree) (j : ℕ) → IsRight n x (Output c j) → Contains (calls n) c
  output_call x _ _ (in_order q at site f args j w is several lt name) =
      let own : CallTree = record { at = at; site = site; name = f; args = args } in
      Contains-append_left (calls_in_equations n.equations) (calls_in_assertions n.assertions) own
      (right_calls n.equations q own w (subst (λ t. Contains (calls_in t) own) (sym is) (at_head own (calls_in_all args))))
