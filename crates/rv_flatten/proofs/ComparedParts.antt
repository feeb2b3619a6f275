-- The comparisons of integers of a node are those that its parts are, and of one site there is one.
use Rattle.std.proofs.Common.{◌≡◌, inl, inr, ℕ, ◌+◌, ◌≤◌, Bool, true, false, not, ◌&&◌, cond, nat_eq, List, [], ◌∷◌, ◌++◌, length, flat_map, refl, sym, ◌∙◌, ap}
use Rattle.std.proofs.Common.{subst, arith, unwrap_or, Option, Some, None as Nothing}
use Rattle.std.proofs.{lemmas.Bool.Decides.nat_tests, lemmas.Grind.flat_map-append}
use Rattle.std.specs.List.{Contains}
use Rattle.rv_tree.specs.Tree.{Tree, Node, Not, Minus, Pre, Current, When, Binary, If, AtMostOne, Call, Trees, None, More, EquationTree, AssertionTree}
use Rattle.rv_tree.specs.Tree.{NodeTree, ProgramTree}
use Rattle.rv_tree.specs.{declared.tree.Op.Op, Delays.IsNumbered, Sites.is_comparison, SitedParts.SitedPart, SitedParts.part}
use Rattle.rv_tree.specs.declared.tree.Op.TheVariants as op
use Rattle.rv_tree.specs.SitedParts as sited
use Rattle.rv_types.specs.declared.typed.Kind.TheVariants as kind
use Rattle.rv_types.specs.Variables.{total, is_integer, parts, parts_of_all, node_parts}
use Rattle.rv_types.specs.{Scopes.node_scope, Types.Scope, Types.kind_of, Lists.sides_of}
use Rattle.rv_agreement.specs.Programs.{is_test}
use Rattle.rv_instances.specs.Timed.{own_operator, operators_told}
use Rattle.rv_flatten.specs.{declared.comparisons.Tested.Tested, Compared.own_test, Compared.tests_in}
use Rattle.rv_flatten.proofs.Apart.{IsApart, apart_told}
use Rattle.rv_instances.proofs.TimedParts.{node_operators}
use Rattle.rv_types.proofs.Members.{at_head, cons_cases, in_flat_map, in_tail, nothing_in, of_flat_map}
use Rattle.rv_types.proofs.{ChainLaws.no_flag, DifferentPlaces.total_append}
use Rattle.rv_base.proofs.Truths.{both_of}

-- an operator compares where it has order tests
pub sides_told : (o : Op) → is_comparison o ≡ not (nat_eq (length (sides_of o)) 0)
sides_told op.Equal = refl
sides_told _ = refl

-- What is found.

flat_again : {X Y Z : Type 0} (f : X → List Y) (g : Y → List Z) (xs : List X) → flat_map g (flat_map f xs) ≡ flat_map (λ x. flat_map g (f x)) xs
flat_again f g [] = refl
flat_again f g (x ∷ xs) = flat_map-append g (f x) (flat_map f xs) ∙ ap (λ l. flat_map g (f x) ++ l) (flat_again f g xs)

module _ (n : NodeTree) (compares : Op → Tree → Bool) where
  -- the comparison that a part itself is
  abbrev pub own_of : Tree → List Tested
  own_of e = flat_map (own_test compares) (own_operator n e)

  pub node_is : flat_map (own_test compares) (operators_told n) ≡ flat_map own_of (node_parts n)
  node_is = ap (λ l. flat_map (own_test compares) l) (node_operators n) ∙ flat_again (own_operator n) (own_test compares) (node_parts n)

-- An expression that is a comparison of integers.
pub record IsTest (s : Scope) (e : Tree) (t : Tested) : Type 0 where
  pub at : ℕ
  pub left : Tree
  pub right : Tree
  pub is : e ≡ Node at (Some t.site) (Binary t.operator left right)
  pub compares : is_comparison t.operator ≡ true
  pub integer : is_integer (unwrap_or (kind_of s left) kind.Bool) ≡ true

module _ (p : ProgramTree) (n : NodeTree) where
  own_is : (e : Tree) (t : Tested) → Contains (own_of n (is_test (node_scope p n)) e) t → IsTest (node_scope p n) e t
  own_is (Node at Nothing (Binary o a b)) t w = nothing_in t w
  own_is (Node at (Some k) (Binary o a b)) t w = tested (is_comparison o && is_integer (unwrap_or (kind_of (node_scope p n) a) kind.Bool)) refl w
    where
      tested : (x : Bool) → (is_comparison o && is_integer (unwrap_or (kind_of (node_scope p n) a) kind.Bool)) ≡ x
          → Contains {X = Tested} (cond x (record { site = k; operator = o } ∷ []) [] ++ []) t → IsTest (node_scope p n) (Node at (Some k) (Binary o a b)) t
      tested true e w = elim (cons_cases (record { site = k; operator = o }) [] t w) [
        | inl is ↦ subst (λ (t : Tested). IsTest (node_scope p n) (Node at (Some k) (Binary o a b)) t) is
            (let both = both_of (is_comparison o) (is_integer (unwrap_or (kind_of (node_scope p n) a) kind.Bool)) e in
            record { at = at; left = a; right = b; is = refl; compares = both.0; integer = both.1 })
        | inr none ↦ nothing_in t none
      ]
      tested false e w = nothing_in t w
  own_is (Node at site _) t w = nothing_in t w

  pub test_found : (at k : ℕ) (o : Op) (a b : Tree) → Contains (node_parts n) (Node at (Some k) (Binary o a b)) → is_comparison o ≡ true
      → is_integer (unwrap_or (kind_of (node_scope p n) a) kind.Bool) ≡ true → Contains {X = Tested} (tests_in p n) (record { site = k; operator = o })
  test_found at k o a b w c i =
      let t : Tested = record { site = k; operator = o } in
      let own = subst (λ (x : Bool). Contains (cond x (t ∷ []) [] ++ []) t) (λ j. sym c j && sym i j) (at_head t []) in
      subst (λ (l : List Tested). Contains l t) (sym (node_is n (is_test (node_scope p n))))
      (in_flat_map (own_of n (is_test (node_scope p n))) (node_parts n) (Node at (Some k) (Binary o a b)) t w own)

  pub found_test : (t : Tested) → Contains (tests_in p n) t → (e : Tree) × Contains (node_parts n) e × IsTest (node_scope p n) e t
  found_test t w =
      let r = of_flat_map (own_of n (is_test (node_scope p n))) (node_parts n) t
      (subst (λ (l : List Tested). Contains l t) (node_is n (is_test (node_scope p n))) w) in
      (r.0, r.1, own_is r.0 t r.2)

-- The comparisons with a site that is marked are no more than what has such a site.
module _ (marked : Option ℕ → Bool) where
  abbrev pub sited_count : SitedPart → ℕ
  sited_count q = cond (marked q.site) 1 0

  abbrev pub own_count : Tree → ℕ
  own_count (Node at site (Binary o a b)) = total sited_count (sited.comparison o at site)
  own_count _ = 0

  both_counted : (xs ys : List Tree) (ps qs : List SitedPart) → total own_count xs ≤ total sited_count ps → total own_count ys ≤ total sited_count qs
      → total own_count (xs ++ ys) ≤ total sited_count (ps ++ qs)
  both_counted xs ys ps qs h k = omega (arith, h, k, total_append own_count xs ys, total_append sited_count ps qs)

  mutual
    counted : (e : Tree) → total own_count (parts e) ≤ total sited_count (sited.parts e)
    counted (Node at site (Not e)) = omega (arith, counted e)
    counted (Node at site (Minus e)) = omega (arith, counted e)
    counted (Node at site (Pre e)) = omega (arith, counted e)
    counted (Node at site (Current e)) = omega (arith, counted e)
    counted (Node at site (When e c)) = omega (arith, counted e)
    counted (Node at site (Binary o a b)) =
        let own = sited.comparison o at site in
        let sites = total_append sited_count (sited.parts a) (own ++ sited.parts b) in
        omega (arith, counted a, counted b, total_append own_count (parts a) (parts b), sites, total_append sited_count own (sited.parts b))
    counted (Node at site (If a b c)) =
        let h = both_counted (parts a) (parts b ++ parts c) (sited.parts a) (sited.parts b ++ sited.parts c) (counted a)
        (both_counted (parts b) (parts c) (sited.parts b) (sited.parts c) (counted b) (counted c)) in
        omega (arith, h)
    counted (Node at site (AtMostOne es)) = omega (arith, all_counted es)
    counted (Node at site (Call f es)) = omega (arith, all_counted es)
    counted _ = omega arith

    all_counted : (es : Trees) → total own_count (parts_of_all es) ≤ total sited_count (sited.trees_parts es)
    all_counted None = omega arith
    all_counted (More e es) = both_counted (parts e) (parts_of_all es) (sited.parts e) (sited.trees_parts es) (counted e) (all_counted es)

  equations_counted : (qs : List EquationTree)
      → total own_count (flat_map (λ (q : EquationTree). parts q.right) qs) ≤ total sited_count (sited.equation_parts qs)
  equations_counted [] = omega arith
  equations_counted (q ∷ qs) =
      both_counted (parts q.right) (flat_map (λ (q : EquationTree). parts q.right) qs) (sited.parts q.right) (sited.equation_parts qs)
      (counted q.right) (equations_counted qs)

  assertions_counted : (xs : List AssertionTree)
      → total own_count (flat_map (λ (x : AssertionTree). parts x.body) xs) ≤ total sited_count (sited.assertion_parts xs)
  assertions_counted [] = omega arith
  assertions_counted (x ∷ xs) =
      let h = both_counted (parts x.body) (flat_map (λ (x : AssertionTree). parts x.body) xs) (sited.parts x.body) (sited.assertion_parts xs)
      (counted x.body) (assertions_counted xs) in
      omega (arith, h)

  node_counted : (n : NodeTree) → total own_count (node_parts n) ≤ total sited_count (sited.node_parts n)
  node_counted n =
      both_counted (flat_map (λ (q : EquationTree). parts q.right) n.equations) (flat_map (λ (x : AssertionTree). parts x.body) n.assertions)
      (sited.equation_parts n.equations) (sited.assertion_parts n.assertions) (equations_counted n.equations) (assertions_counted n.assertions)

  none_marked : (qs : List SitedPart) → ((q : SitedPart) → Contains qs q → marked q.site ≡ true → ⊥) → total sited_count qs ≡ 0
  none_marked [] not = refl
  none_marked (q ∷ qs) not = by (marked q.site) refl (none_marked qs (λ r w. not r (in_tail q qs r w)))
    where
      by : (b : Bool) → marked q.site ≡ b → total sited_count qs ≡ 0 → cond b 1 0 + total sited_count qs ≡ 0
      by true e h = absurd (not q (at_head q qs) e)
      by false e h = omega (arith, h)

  -- one at most, where sites are apart and one alone is marked
  few_marked : ((s t : Option ℕ) → marked s ≡ true → marked t ≡ true → s ≡ t) → (qs : List SitedPart) → IsApart (λ (q : SitedPart). q.site) qs
      → total sited_count qs ≤ 1
  few_marked alike [] apart = omega arith
  few_marked alike (q ∷ qs) apart = by (marked q.site) refl (few_marked alike qs apart.1)
    where
      by : (b : Bool) → marked q.site ≡ b → total sited_count qs ≤ 1 → cond b 1 0 + total sited_count qs ≤ 1
      by true e h = omega (arith, none_marked qs (λ r w f. apart.0 r w (alike q.site r.site e f)))
      by false e h = omega (arith, h)

  counts : (at : ℕ) (site : Option ℕ) (o : Op) (a b : Tree) → is_comparison o ≡ true → marked site ≡ true → own_count (Node at site (Binary o a b)) ≡ 1
  counts at site o a b compares is = ap (λ (c : Bool). total sited_count (cond c (part at site ∷ []) [])) compares ∙ ap (λ (c : Bool). cond c 1 0 + 0) is

-- what is counted is no more than all
pub counted_among : {X : Type 0} (f : X → ℕ) (xs : List X) (x : X) → Contains xs x → f x ≤ total f xs
counted_among f [] x w = nothing_in x w
counted_among f (y ∷ ys) x w = elim (cons_cases y ys x w) [
  | inl is ↦ omega (arith, ap f is)
  | inr later ↦ omega (arith, counted_among f ys x later)
]

-- where one is counted, those that are counted are one
one_counted : {X : Type 0} (f : X → ℕ) (xs : List X) → total f xs ≤ 1 → (x y : X) → Contains xs x → Contains xs y → f x ≡ 1 → f y ≡ 1 → x ≡ y
one_counted f [] few x y w v p q = nothing_in x w
one_counted f (z ∷ zs) few x y w v p q = elim (cons_cases z zs x w) [
  | inl first ↦ elim (cons_cases z zs y v) [
    | inl second ↦ sym first ∙ second
    | inr later ↦ let e = ap f first in let h = counted_among f zs y later in absurd (omega (arith, few, p, q, e, h))
  ]
  | inr later ↦ elim (cons_cases z zs y v) [
    | inl second ↦ let e = ap f second in let h = counted_among f zs x later in absurd (omega (arith, few, p, q, e, h))
    | inr both ↦ one_counted f zs (omega (arith, few)) x y later both p q
  ]
]

abbrev pub is_site : ℕ → Option ℕ → Bool
is_site k Nothing = false
is_site k (Some m) = nat_eq m k

one_site : (k : ℕ) (s t : Option ℕ) → is_site k s ≡ true → is_site k t ≡ true → s ≡ t
one_site k Nothing t e f = no_flag e
one_site k (Some a) Nothing e f = no_flag f
one_site k (Some a) (Some b) e f = let same : a ≡ b = grind (arith, nat_tests, e, f) in ap Some same

abbrev no_site : Option ℕ → Bool
no_site Nothing = true
no_site (Some m) = false

module _ (n : NodeTree) (numbered : IsNumbered n) where
  pub one_at : (k : ℕ) → total (own_count (is_site k)) (node_parts n) ≤ 1
  one_at k =
      let one = few_marked (is_site k) (one_site k) (sited.node_parts n)
      (apart_told (λ (q : SitedPart). q.site) (sited.node_parts n) (λ i j d lt less same. numbered.apart i j d lt less same)) in
      omega (arith, node_counted (is_site k) n, one)

  -- comparisons with one site are one
  pub one_tree : (j k : ℕ) (s : ℕ) (o q : Op) (a b c d : Tree) → Contains (node_parts n) (Node j (Some s) (Binary o a b))
      → Contains (node_parts n) (Node k (Some s) (Binary q c d))
      → is_comparison o ≡ true → is_comparison q ≡ true → Node j (Some s) (Binary o a b) ≡ Node k (Some s) (Binary q c d)
  one_tree j k s o q a b c d w v is are =
      let same : nat_eq s s ≡ true = grind (arith, nat_tests) in
      one_counted (own_count (is_site s)) (node_parts n) (one_at s) (Node j (Some s) (Binary o a b)) (Node k (Some s) (Binary q c d)) w v
      (counts (is_site s) j (Some s) o a b is same) (counts (is_site s) k (Some s) q c d are same)

  -- so they have one operator
  pub one_operator : (j k : ℕ) (s : ℕ) (o q : Op) (a b c d : Tree) → Contains (node_parts n) (Node j (Some s) (Binary o a b))
      → Contains (node_parts n) (Node k (Some s) (Binary q c d)) → is_comparison o ≡ true → is_comparison q ≡ true → o ≡ q
  one_operator j k s o q a b c d w v is are = let e = one_tree j k s o q a b c d w v is are in cc

  -- a comparison has a site
  pub has_site : (at : ℕ) (site : Option ℕ) (o : Op) (a b : Tree) → Contains (node_parts n) (Node at site (Binary o a b)) → is_comparison o ≡ true
      → (m : ℕ) × (site ≡ Some m)
  has_site at (Some m) o a b w is = (m, refl)
  has_site at Nothing o a b w is =
      let one = counts no_site at Nothing o a b is refl in
      let there = counted_among (own_count no_site) (node_parts n) (Node at Nothing (Binary o a b)) w in
      let few = node_counted no_site n in
      let none = none_marked no_site (sited.node_parts n) (λ q v e. no_flag (sym (ap no_site (numbered.next q v).1) ∙ e)) in
      absurd (omega (arith, one, there, few, none))
