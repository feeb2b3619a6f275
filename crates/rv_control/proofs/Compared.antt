-- Each comparison of a program is one of integers that stands in a node.
use Rattle.std.proofs.Common.{◌≡◌, inl, inr, ℕ, ◌<◌, Bool, true, false, cond, nat_eq, List, [], ◌∷◌, ◌++◌, length, refl, sym, subst, flat_map, unwrap_or}
use Rattle.std.proofs.Common.{Option, Some, None as Nothing}
use Rattle.std.proofs.lemmas.Bool.{and_parts}
use Rattle.std.proofs.lemmas.List.Elements.{Contains-append_left, Contains-append_right, Contains-append_cases}
use Rattle.std.specs.List.{Contains}
use Rattle.rv_tree.specs.Tree.{Tree, Node, Form, Not, Minus, Pre, Current, When, Binary, If, AtMostOne, Call, Trees, None, More, EquationTree, AssertionTree}
use Rattle.rv_tree.specs.Tree.{NodeTree, ProgramTree}
use Rattle.rv_tree.specs.Delays.{Delay, delays, form_delays, delays_of_all, delays_in_equations, delays_in_assertions, node_delays}
use Rattle.rv_tree.specs.{declared.tree.Op.Op, Places.Identifier, Places.Sites}
use Rattle.rv_types.specs.Variables.{is_integer, parts, form_parts, parts_of_all, node_parts}
use Rattle.rv_types.specs.Instances.{CallTree, calls_in, form_calls, calls_in_all, calls_in_equations, calls_in_assertions, calls, Right, Body, Output, IsRight}
use Rattle.rv_types.specs.Instances.{alone, in_order, IsArgument, clock_of, Instance, IsInstance}
use Rattle.rv_types.specs.Needs.{Giver, Of, Gives, given, by_equation, by_call}
use Rattle.rv_types.specs.{declared.typed.Clock.Clock, Lists.sides_of, Lists.Compares, Types.is_constant, Types.kind_of, Scopes.node_scope, Values.operand_kind}
use Rattle.rv_types.specs.declared.typed.Kind.TheVariants as kind
use Rattle.rv_agreement.specs.Valuations.{is_placed}
use Rattle.rv_agreement.specs.Programs.{spot, is_test, operator_place, Compared, own_compared, compared, form_compared, compared_all, IsComparison, in_flow}
use Rattle.rv_agreement.specs.Programs.{in_memory, in_assertion}
use Rattle.rv_agreement.proofs.Suited.{either_of, one_of}
use Rattle.rv_types.proofs.Members.{at_head, cons_cases, in_flat_map, in_tail, nothing_in}
use Rattle.rv_types.proofs.{ChainLaws.no_flag, CallsWithin.argument_parts}

mutual
  delay_parts : (t : Tree) (d : Delay) (x : Tree) → Contains (delays t) d → Contains (parts d.operand) x → Contains (parts t) x
  delay_parts (Node at site form) d x w v = in_tail (Node at site form) (form_parts form) x (form_delay_parts site form d x w v)

  form_delay_parts : (site : Option ℕ) (form : Form) (d : Delay) (x : Tree) → Contains (form_delays site form) d → Contains (parts d.operand) x
      → Contains (form_parts form) x
  form_delay_parts site (Not e) d x w v = delay_parts e d x w v
  form_delay_parts site (Minus e) d x w v = delay_parts e d x w v
  form_delay_parts site (Pre e) d x w v = elim (cons_cases (record { site = site; operand = e }) (delays e) d w) [
    | inl is ↦ subst (λ (z : Delay). Contains (parts z.operand) x) (sym is) v
    | inr rest ↦ delay_parts e d x rest v
  ]
  form_delay_parts site (Current e) d x w v = elim (cons_cases (record { site = site; operand = e }) (delays e) d w) [
    | inl is ↦ subst (λ (z : Delay). Contains (parts z.operand) x) (sym is) v
    | inr rest ↦ delay_parts e d x rest v
  ]
  form_delay_parts site (When e c) d x w v = delay_parts e d x w v
  form_delay_parts site (Binary o a b) d x w v = elim (Contains-append_cases (delays a) (delays b) d w) [
    | inl u ↦ Contains-append_left (parts a) (parts b) x (delay_parts a d x u v)
    | inr u ↦ Contains-append_right (parts a) (parts b) x (delay_parts b d x u v)
  ]
  form_delay_parts site (If a b c) d x w v = elim (Contains-append_cases (delays a) (delays b ++ delays c) d w) [
    | inl u ↦ Contains-append_left (parts a) (parts b ++ parts c) x (delay_parts a d x u v)
    | inr rest ↦ Contains-append_right (parts a) (parts b ++ parts c) x (elim (Contains-append_cases (delays b) (delays c) d rest) [
      | inl u ↦ Contains-append_left (parts b) (parts c) x (delay_parts b d x u v)
      | inr u ↦ Contains-append_right (parts b) (parts c) x (delay_parts c d x u v)
    ])
  ]
  form_delay_parts site (AtMostOne es) d x w v = all_delay_parts es d x w v
  form_delay_parts site (Call f es) d x w v = all_delay_parts es d x w v
  form_delay_parts site _ d x w v = nothing_in d w

  all_delay_parts : (es : Trees) (d : Delay) (x : Tree) → Contains (delays_of_all es) d → Contains (parts d.operand) x → Contains (parts_of_all es) x
  all_delay_parts None d x w v = nothing_in d w
  all_delay_parts (More e es) d x w v = elim (Contains-append_cases (delays e) (delays_of_all es) d w) [
    | inl u ↦ Contains-append_left (parts e) (parts_of_all es) x (delay_parts e d x u v)
    | inr u ↦ Contains-append_right (parts e) (parts_of_all es) x (all_delay_parts es d x u v)
  ]

mutual
  call_parts : (t : Tree) (c : CallTree) (x : Tree) → Contains (calls_in t) c → Contains (parts_of_all c.args) x → Contains (parts t) x
  call_parts (Node at site form) c x w v = in_tail (Node at site form) (form_parts form) x (form_call_parts at site form c x w v)

  form_call_parts : (at : ℕ) (site : Option ℕ) (form : Form) (c : CallTree) (x : Tree) → Contains (form_calls at site form) c
      → Contains (parts_of_all c.args) x → Contains (form_parts form) x
  form_call_parts at site (Not e) c x w v = call_parts e c x w v
  form_call_parts at site (Minus e) c x w v = call_parts e c x w v
  form_call_parts at site (Pre e) c x w v = call_parts e c x w v
  form_call_parts at site (Current e) c x w v = call_parts e c x w v
  form_call_parts at site (When e n) c x w v = call_parts e c x w v
  form_call_parts at site (Binary o a b) c x w v = elim (Contains-append_cases (calls_in a) (calls_in b) c w) [
    | inl u ↦ Contains-append_left (parts a) (parts b) x (call_parts a c x u v)
    | inr u ↦ Contains-append_right (parts a) (parts b) x (call_parts b c x u v)
  ]
  form_call_parts at site (If a b t) c x w v = elim (Contains-append_cases (calls_in a) (calls_in b ++ calls_in t) c w) [
    | inl u ↦ Contains-append_left (parts a) (parts b ++ parts t) x (call_parts a c x u v)
    | inr rest ↦ Contains-append_right (parts a) (parts b ++ parts t) x (elim (Contains-append_cases (calls_in b) (calls_in t) c rest) [
      | inl u ↦ Contains-append_left (parts b) (parts t) x (call_parts b c x u v)
      | inr u ↦ Contains-append_right (parts b) (parts t) x (call_parts t c x u v)
    ])
  ]
  form_call_parts at site (AtMostOne es) c x w v = all_call_parts es c x w v
  form_call_parts at site (Call f es) c x w v = elim (cons_cases (record { at = at; site = unwrap_or site 0; name = f; args = es }) (calls_in_all es) c w) [
    | inl is ↦ subst (λ (z : CallTree). Contains (parts_of_all z.args) x) (sym is) v
    | inr rest ↦ all_call_parts es c x rest v
  ]
  form_call_parts at site _ c x w v = nothing_in c w

  all_call_parts : (es : Trees) (c : CallTree) (x : Tree) → Contains (calls_in_all es) c → Contains (parts_of_all c.args) x → Contains (parts_of_all es) x
  all_call_parts None c x w v = nothing_in c w
  all_call_parts (More e es) c x w v = elim (Contains-append_cases (calls_in e) (calls_in_all es) c w) [
    | inl u ↦ Contains-append_left (parts e) (parts_of_all es) x (call_parts e c x u v)
    | inr u ↦ Contains-append_right (parts e) (parts_of_all es) x (all_call_parts es c x u v)
  ]

-- What stands in a node: all its parts are the node's.
module _ (n : NodeTree) where
  abbrev pub StandsIn : Tree → Type 0
  StandsIn e = (x : Tree) → Contains (parts e) x → Contains (node_parts n) x

  abbrev lefts : List Tree
  lefts = flat_map (λ (q : EquationTree). parts q.right) n.equations

  abbrev bodies : List Tree
  bodies = flat_map (λ (a : AssertionTree). parts a.body) n.assertions

  right_stands : (q : EquationTree) → Contains n.equations q → StandsIn q.right
  right_stands q w x v = Contains-append_left lefts bodies x (in_flat_map (λ (r : EquationTree). parts r.right) n.equations q x w v)

  body_stands : (a : AssertionTree) → Contains n.assertions a → StandsIn a.body
  body_stands a w x v = Contains-append_right lefts bodies x (in_flat_map (λ (b : AssertionTree). parts b.body) n.assertions a x w v)

  delays_right : (qs : List EquationTree) (d : Delay) → Contains (delays_in_equations qs) d → (q : EquationTree) × Contains qs q × Contains (delays q.right) d
  delays_right [] d w = nothing_in d w
  delays_right (q ∷ qs) d w = elim (Contains-append_cases (delays q.right) (delays_in_equations qs) d w) [
    | inl u ↦ (q, at_head q qs, u)
    | inr u ↦ let r = delays_right qs d u in (r.0, in_tail q qs r.0 r.1, r.2)
  ]

  delays_body : (qs : List AssertionTree) (d : Delay) → Contains (delays_in_assertions qs) d → (q : AssertionTree) × Contains qs q × Contains (delays q.body) d
  delays_body [] d w = nothing_in d w
  delays_body (q ∷ qs) d w = elim (Contains-append_cases (delays q.body) (delays_in_assertions qs) d w) [
    | inl u ↦ (q, at_head q qs, u)
    | inr u ↦ let r = delays_body qs d u in (r.0, in_tail q qs r.0 r.1, r.2)
  ]

  calls_right : (qs : List EquationTree) (c : CallTree) → Contains (calls_in_equations qs) c
      → (q : EquationTree) × Contains qs q × Contains (calls_in q.right) c
  calls_right [] c w = nothing_in c w
  calls_right (q ∷ qs) c w = elim (Contains-append_cases (calls_in q.right) (calls_in_equations qs) c w) [
    | inl u ↦ (q, at_head q qs, u)
    | inr u ↦ let r = calls_right qs c u in (r.0, in_tail q qs r.0 r.1, r.2)
  ]

  calls_body : (qs : List AssertionTree) (c : CallTree) → Contains (calls_in_assertions qs) c
      → (q : AssertionTree) × Contains qs q × Contains (calls_in q.body) c
  calls_body [] c w = nothing_in c w
  calls_body (q ∷ qs) c w = elim (Contains-append_cases (calls_in q.body) (calls_in_assertions qs) c w) [
    | inl u ↦ (q, at_head q qs, u)
    | inr u ↦ let r = calls_body qs c u in (r.0, in_tail q qs r.0 r.1, r.2)
  ]

  delay_stands : (d : Delay) → Contains (node_delays n) d → StandsIn d.operand
  delay_stands d w x v = elim (Contains-append_cases (delays_in_equations n.equations) (delays_in_assertions n.assertions) d w) [
    | inl u ↦ let r = delays_right n.equations d u in right_stands r.0 r.1 x (delay_parts r.0.right d x r.2 v)
    | inr u ↦ let r = delays_body n.assertions d u in body_stands r.0 r.1 x (delay_parts r.0.body d x r.2 v)
  ]

  argument_stands : (c : CallTree) (j : ℕ) (e : Tree) → Contains (calls n) c → IsArgument c.args j e → StandsIn e
  argument_stands c j e w arg x v =
      let inside = argument_parts c.args j e x arg v in
      elim (Contains-append_cases (calls_in_equations n.equations) (calls_in_assertions n.assertions) c w) [
        | inl u ↦ let r = calls_right n.equations c u in right_stands r.0 r.1 x (call_parts r.0.right c x r.2 inside)
        | inr u ↦ let r = calls_body n.assertions c u in body_stands r.0 r.1 x (call_parts r.0.body c x r.2 inside)
      ]

  abbrev RightStands : Right → Type 0
  RightStands (Body e) = StandsIn e
  RightStands (Output c j) = Unit {0}

  side_stands : (x : Identifier) (r : Right) → IsRight n x r → RightStands r
  side_stands x _ (alone q w is) = right_stands q w
  side_stands x _ (in_order q at site f args j w is more lt name) = tt

module _ (program : ProgramTree) (main : Identifier) where
  abbrev GiverStands : Giver → Type 0
  GiverStands (Of i k (Body e)) = IsInstance program main i × StandsIn i.node e
  GiverStands _ = Unit {0}

  right_gives : (i : Instance) (k : Clock) (r : Right) → IsInstance program main i → RightStands i.node r → GiverStands (Of i k r)
  right_gives i k (Body e) inst stands = (inst, stands)
  right_gives i k (Output c j) inst stands = tt

  giver_stands : (p : Sites) (g : Giver) → Gives program main p g → GiverStands g
  giver_stands p _ (given j lt is) = tt
  giver_stands p _ (by_equation i x r inst right is) = right_gives i (clock_of i.node x) r inst (side_stands i.node x r right)
  giver_stands p _ (by_call i c j e inst w arg is) = (inst, argument_stands i.node c j e w arg)

-- what stands alone where one test holds and another does not
own_told : {X : Type 0} (p b : Bool) (y c : X) → Contains (cond p (cond b [] (y ∷ [])) []) c → (p ≡ true) × (y ≡ c)
own_told true true y c w = nothing_in c w
own_told true false y c w = elim (cons_cases y [] c w) [ inl is ↦ (refl, is) | inr rest ↦ nothing_in c rest ]
own_told false b y c w = nothing_in c w

placed_spot : (t : Bool) (path : Sites) (site : Option ℕ) → is_placed (cond t (spot path site) []) ≡ true
    → (t ≡ true) × (s : ℕ) × (site ≡ Some s) × (cond t (spot path site) [] ≡ path ++ s ∷ [])
placed_spot true path Nothing e = no_flag e
placed_spot true path (Some s) e = (refl, s, refl, refl)
placed_spot false path site e = no_flag e

module _ (program : ProgramTree) (i : Instance) where
  -- A comparison in an expression is one of its parts, of integers, at a place.
  pub record IsFoundIn (ts : List Tree) (c : Compared) : Type 0 where
    pub at : ℕ
    pub site : ℕ
    pub part : Contains ts (Node at (Some site) (Binary c.operator c.left c.right))
    pub place : c.at ≡ i.path ++ site ∷ []
    pub whole : is_integer (operand_kind program i.node c.left) ≡ true

  found_more : (ts us : List Tree) (c : Compared) → ((x : Tree) → Contains ts x → Contains us x) → IsFoundIn ts c → IsFoundIn us c
  found_more ts us c more is = record {
    at = is.at;
    site = is.site;
    part = more (Node is.at (Some is.site) (Binary c.operator c.left c.right)) is.part;
    place = is.place;
    whole = is.whole;
  }

  own_found : (at : ℕ) (k : Option Sites) (site : Option ℕ) (o : Op) (a b : Tree) (c : Compared)
      → Contains (own_compared o (record { at = operator_place program i site o a; clock = k; operator = o; within = i; left = a; right = b })) c
      → IsFoundIn (parts (Node at site (Binary o a b))) c
  own_found at k site o a b c w =
      let y : Compared = record { at = operator_place program i site o a; clock = k; operator = o; within = i; left = a; right = b } in
      let told = own_told (is_placed y.at) (nat_eq (length (sides_of o)) 0) y c w in
      let spots = placed_spot (is_test (node_scope program i.node) o a) i.path site told.0 in
      let whole = (and_parts _ (is_integer (unwrap_or (kind_of (node_scope program i.node) a) kind.Bool)) spots.0).1 in
      subst (IsFoundIn (parts (Node at site (Binary o a b)))) told.1
      (record {
        at = at;
        site = spots.1;
        part = subst (λ s. Contains (parts (Node at site (Binary o a b))) (Node at s (Binary o a b))) spots.2
            (at_head (Node at site (Binary o a b)) (parts a ++ parts b));
        place = spots.3;
        whole = whole;
      })

  below : (at : ℕ) (site : Option ℕ) (form : Form) (ts : List Tree) (c : Compared) → ((x : Tree) → Contains ts x → Contains (form_parts form) x)
      → IsFoundIn ts c → IsFoundIn (parts (Node at site form)) c
  below at site form ts c more is = found_more ts (parts (Node at site form)) c (λ x u. in_tail (Node at site form) (form_parts form) x (more x u)) is

  mutual
    found_part : (k : Option Sites) (e : Tree) (c : Compared) → Contains (compared program i k e) c → IsFoundIn (parts e) c
    found_part k (Node at site form) c w = found_form at k site form c w

    found_form : (at : ℕ) (k : Option Sites) (site : Option ℕ) (form : Form) (c : Compared) → Contains (form_compared program i k site form) c
        → IsFoundIn (parts (Node at site form)) c
    found_form at k site (Not e) c w = below at site (Not e) (parts e) c (λ x u. u) (found_part k e c w)
    found_form at k site (Minus e) c w = below at site (Minus e) (parts e) c (λ x u. u) (found_part k e c w)
    found_form at k site (When e n) c w = below at site (When e n) (parts e) c (λ x u. u) (found_part _ e c w)
    found_form at k site (Binary o a b) c w =
        let y : Compared = record { at = operator_place program i site o a; clock = k; operator = o; within = i; left = a; right = b } in
        let lefts = compared program i k a in
        let rights = compared program i k b in
        let in_left : Contains lefts c → IsFoundIn (parts (Node at site (Binary o a b))) c = λ u. below at site (Binary o a b) (parts a) c
        (λ x v. Contains-append_left (parts a) (parts b) x v) (found_part k a c u) in
        let in_right : Contains rights c → IsFoundIn (parts (Node at site (Binary o a b))) c = λ u. below at site (Binary o a b) (parts b) c
        (λ x v. Contains-append_right (parts a) (parts b) x v) (found_part k b c u) in
        elim (one_of o (rights ++ lefts) (cond (is_constant (node_scope program i.node) a) rights lefts) (own_compared o y ++ (lefts ++ rights)) c w) [
          | inl choice ↦ elim (Contains-append_cases rights lefts c choice) [ inl u ↦ in_right u | inr u ↦ in_left u ]
          | inr other ↦ elim other [
            | inl product ↦ elim (either_of (is_constant (node_scope program i.node) a) rights lefts c product) [ inl u ↦ in_right u | inr u ↦ in_left u ]
            | inr plain ↦ elim (Contains-append_cases (own_compared o y) (lefts ++ rights) c plain) [
              | inl u ↦ own_found at k site o a b c u
              | inr u ↦ elim (Contains-append_cases lefts rights c u) [ inl v ↦ in_left v | inr v ↦ in_right v ]
            ]
          ]
        ]
    found_form at k site (If a b d) c w =
        elim (Contains-append_cases (compared program i k a) (compared program i k b ++ compared program i k d) c w) [
          | inl u ↦ below at site (If a b d) (parts a) c (λ x v. Contains-append_left (parts a) (parts b ++ parts d) x v) (found_part k a c u)
          | inr rest ↦ elim (Contains-append_cases (compared program i k b) (compared program i k d) c rest) [
            | inl u ↦ below at site (If a b d) (parts b) c (λ x v. Contains-append_right (parts a) (parts b ++ parts d) x
                (Contains-append_left (parts b) (parts d) x v)) (found_part k b c u)
            | inr u ↦ below at site (If a b d) (parts d) c (λ x v. Contains-append_right (parts a) (parts b ++ parts d) x
                (Contains-append_right (parts b) (parts d) x v)) (found_part k d c u)
          ]
        ]
    found_form at k site (AtMostOne es) c w = below at site (AtMostOne es) (parts_of_all es) c (λ x u. u) (found_all k es c w)
    found_form at k site _ c w = nothing_in c w

    found_all : (k : Option Sites) (es : Trees) (c : Compared) → Contains (compared_all program i k es) c → IsFoundIn (parts_of_all es) c
    found_all k None c w = nothing_in c w
    found_all k (More e es) c w = elim (Contains-append_cases (compared program i k e) (compared_all program i k es) c w) [
      | inl u ↦ found_more (parts e) (parts e ++ parts_of_all es) c (λ x v. Contains-append_left (parts e) (parts_of_all es) x v) (found_part k e c u)
      | inr u ↦ found_more (parts_of_all es) (parts e ++ parts_of_all es) c (λ x v. Contains-append_right (parts e) (parts_of_all es) x v) (found_all k es c u)
    ]

-- A comparison of a program is one of an instance.
module _ (program : ProgramTree) (main : Identifier) where
  stands_as : (i : Instance) (e : Tree) (c : Compared) → StandsIn i.node e → IsFoundIn program i (parts e) c → 0 < length (sides_of c.operator)
      → (t : Tree) × Contains (node_parts i.node) t × Compares program i t (record { place = c.at; operator = c.operator })
  stands_as i e c stands is some =
      let t = Node is.at (Some is.site) (Binary c.operator c.left c.right) in
      (t, stands t is.part, (is.at, is.site, c.left, c.right, refl, is.whole, some, is.place))

  pub comparison_stands : (c : Compared) → IsComparison program main c → 0 < length (sides_of c.operator)
      → (i : Instance) × IsInstance program main i × (t : Tree) × Contains (node_parts i.node) t × Compares program i t
      (record { place = c.at; operator = c.operator })
  comparison_stands c (in_flow q i k e gives w) some =
      let stands = giver_stands program main q (Of i k (Body e)) gives in
      let r = stands_as i e c stands.1 (found_part program i _ e c w) some in (i, stands.0, r.0, r.1, r.2)
  comparison_stands c (in_memory i d inst there w) some =
      let r = stands_as i d.operand c (delay_stands i.node d there) (found_part program i _ d.operand c w) some in (i, inst, r.0, r.1, r.2)
  comparison_stands c (in_assertion i a inst there w) some =
      let r = stands_as i a.body c (body_stands i.node a there) (found_part program i _ a.body c w) some in (i, inst, r.0, r.1, r.2)
