-- The sites of a node of a text are numbered.
use Rattle.std.proofs.Common.{◌≡◌, ℕ, zero, suc, ◌+◌, ◌<◌, ◌≤◌, cond, ltb, List, [], ◌∷◌, ◌++◌, map, length, get_or, refl, sym, ap, ◌∙◌, subst, inl, inr, ◌⊎◌}
use Rattle.std.proofs.Common.{arith}
use Rattle.std.proofs.{lemmas.List.length-map, lemmas.List.map-append, lemmas.List.get_or_default, lemmas.Bool.cases_order, lemmas.Bool.Decides.nat_tests}
use Rattle.std.specs.{Prelude.Option, Prelude.Some, List.Contains}
use Rattle.rv_base.specs.Limits.{source_limit}
use Rattle.rv_tree.specs.Tree.{Tree, Node, Form, Not, Minus, Pre, Current, When, Binary, If, AtMostOne, Call, Trees, None, More, EquationTree, AssertionTree}
use Rattle.rv_tree.specs.Tree.{NodeTree, ProgramTree}
use Rattle.rv_tree.specs.Delays.{Delay, delays, delays_of_all, delays_in_equations, delays_in_assertions, node_delays, IsNumbered}
use Rattle.rv_tree.specs.Sites.{compared, offsets, form_offsets, trees_offsets, equation_offsets, assertion_offsets, node_offsets, earlier, numbered_from}
use Rattle.rv_tree.specs.Sites.{site_at, compared_site, sited, sited_node, sited_trees, sited_equation, sited_assertion, with_sites}
use Rattle.rv_tree.specs.SitedParts.{SitedPart, part, comparison, parts, trees_parts, equation_parts, assertion_parts, node_parts}
use Rattle.rv_tree.specs.{declared.tree.Op.Op, Places.flows}
use Rattle.rv_tree.specs.declared.tree.Op.TheVariants as op
use Rattle.rv_syntax.specs.{ProgramText.IsTextOf, Lexing.tokens}
use Rattle.rv_syntax.proofs.Spelled.{all_of, all_of-append, of_node, tells-program}
use Rattle.rv_syntax.proofs.Bounds.{alone, each, tokens-alone, program-short, one-of, node-weighs}
use Rattle.rv_base.proofs.Lists.{from_map}

-- ---- What the definitions give each part.
-- the part at an offset, with the site that f gives it
abbrev numbered : (ℕ → ℕ) → ℕ → SitedPart
numbered f at = part at (Some (f at))

both : {A : Type 0} (g : ℕ → A) {ps qs : List A} (xs ys : List ℕ) → ps ≡ map g xs → qs ≡ map g ys → ps ++ qs ≡ map g (xs ++ ys)
both g {qs = qs} xs ys p q = ap (λ l. l ++ qs) p ∙ ap (λ l. map g xs ++ l) q ∙ sym (map-append g xs ys)

comparison-numbered : (f : ℕ → ℕ) (o : Op) (at : ℕ) → comparison o at (compared_site o (f at)) ≡ map (numbered f) (compared o at)
comparison-numbered f op.Equal at = refl
comparison-numbered f _ at = refl

mutual
  parts-numbered : (f : ℕ → ℕ) (t : Tree) → parts (sited f t) ≡ map (numbered f) (offsets t)
  parts-numbered f (Node at site form) = form-numbered f at form

  form-numbered : (f : ℕ → ℕ) (at : ℕ) (form : Form) → parts (sited_node f at form) ≡ map (numbered f) (form_offsets at form)
  form-numbered f at (Not t) = parts-numbered f t
  form-numbered f at (Minus t) = parts-numbered f t
  form-numbered f at (Pre t) = ap (λ l. numbered f at ∷ l) (parts-numbered f t)
  form-numbered f at (Current t) = ap (λ l. numbered f at ∷ l) (parts-numbered f t)
  form-numbered f at (When t c) = parts-numbered f t
  form-numbered f at (Binary o a b) = both (numbered f) _ _ (parts-numbered f a) (both (numbered f) _ _ (comparison-numbered f o at) (parts-numbered f b))
  form-numbered f at (If a b c) = both (numbered f) _ _ (parts-numbered f a) (both (numbered f) _ _ (parts-numbered f b) (parts-numbered f c))
  form-numbered f at (AtMostOne ts) = trees-numbered f ts
  form-numbered f at (Call g ts) = ap (λ l. numbered f at ∷ l) (trees-numbered f ts)
  form-numbered f at _ = refl

  trees-numbered : (f : ℕ → ℕ) (ts : Trees) → trees_parts (sited_trees f ts) ≡ map (numbered f) (trees_offsets ts)
  trees-numbered f None = refl
  trees-numbered f (More t ts) = both (numbered f) _ _ (parts-numbered f t) (trees-numbered f ts)

equations-numbered : (f : ℕ → ℕ) (qs : List EquationTree) → equation_parts (map (sited_equation f) qs) ≡ map (numbered f) (equation_offsets qs)
equations-numbered f [] = refl
equations-numbered f (q ∷ qs) = both (numbered f) _ _ (parts-numbered f q.right) (equations-numbered f qs)

assertions-numbered : (f : ℕ → ℕ) (more : List AssertionTree) → assertion_parts (map (sited_assertion f) more) ≡ map (numbered f) (assertion_offsets more)
assertions-numbered f [] = refl
assertions-numbered f (a ∷ more) = ap (λ l. numbered f a.at ∷ l) (both (numbered f) _ _ (parts-numbered f a.body) (assertions-numbered f more))

node-numbered : (n : NodeTree) → node_parts (with_sites n) ≡ map (numbered (site_at n)) (node_offsets n)
node-numbered n = both (numbered (site_at n)) _ _ (equations-numbered (site_at n) n.equations) (assertions-numbered (site_at n) n.assertions)

-- ---- The `pre` and `current` among them.
abbrev mutual
  delayed : Tree → List ℕ
  delayed (Node at site form) = form_delayed at form

  form_delayed : ℕ → Form → List ℕ
  form_delayed at (Not t) = delayed t
  form_delayed at (Minus t) = delayed t
  form_delayed at (Pre t) = at ∷ delayed t
  form_delayed at (Current t) = at ∷ delayed t
  form_delayed at (When t c) = delayed t
  form_delayed at (Binary o a b) = delayed a ++ delayed b
  form_delayed at (If a b c) = delayed a ++ (delayed b ++ delayed c)
  form_delayed at (AtMostOne ts) = trees_delayed ts
  form_delayed at (Call f ts) = trees_delayed ts
  form_delayed at _ = []

  trees_delayed : Trees → List ℕ
  trees_delayed None = []
  trees_delayed (More t ts) = delayed t ++ trees_delayed ts

abbrev equations_delayed : List EquationTree → List ℕ
equations_delayed [] = []
equations_delayed (q ∷ qs) = delayed q.right ++ equations_delayed qs

abbrev assertions_delayed : List AssertionTree → List ℕ
assertions_delayed [] = []
assertions_delayed (a ∷ more) = delayed a.body ++ assertions_delayed more

abbrev node_delayed : NodeTree → List ℕ
node_delayed n = equations_delayed n.equations ++ assertions_delayed n.assertions

abbrev site_had : Delay → Option ℕ
site_had d = d.site

abbrev site_given : (ℕ → ℕ) → ℕ → Option ℕ
site_given f at = Some (f at)

both-given : (f : ℕ → ℕ) (ds es : List Delay) (xs ys : List ℕ) → map site_had ds ≡ map (site_given f) xs → map site_had es ≡ map (site_given f) ys
    → map site_had (ds ++ es) ≡ map (site_given f) (xs ++ ys)
both-given f ds es xs ys p q = map-append site_had ds es ∙ both (site_given f) xs ys p q

-- each has the site that f gives its offset
mutual
  given : (f : ℕ → ℕ) (t : Tree) → map site_had (delays (sited f t)) ≡ map (site_given f) (delayed t)
  given f (Node at site form) = form-given f at form

  form-given : (f : ℕ → ℕ) (at : ℕ) (form : Form) → map site_had (delays (sited_node f at form)) ≡ map (site_given f) (form_delayed at form)
  form-given f at (Not t) = given f t
  form-given f at (Minus t) = given f t
  form-given f at (Pre t) = ap (λ l. Some (f at) ∷ l) (given f t)
  form-given f at (Current t) = ap (λ l. Some (f at) ∷ l) (given f t)
  form-given f at (When t c) = given f t
  form-given f at (Binary o a b) = both-given f _ _ _ _ (given f a) (given f b)
  form-given f at (If a b c) = both-given f _ _ _ _ (given f a) (both-given f _ _ _ _ (given f b) (given f c))
  form-given f at (AtMostOne ts) = trees-given f ts
  form-given f at (Call g ts) = trees-given f ts
  form-given f at _ = refl

  trees-given : (f : ℕ → ℕ) (ts : Trees) → map site_had (delays_of_all (sited_trees f ts)) ≡ map (site_given f) (trees_delayed ts)
  trees-given f None = refl
  trees-given f (More t ts) = both-given f _ _ _ _ (given f t) (trees-given f ts)

equations-given : (f : ℕ → ℕ) (qs : List EquationTree) → map site_had (delays_in_equations (map (sited_equation f) qs)) ≡ map (site_given f)
    (equations_delayed qs)
equations-given f [] = refl
equations-given f (q ∷ qs) = both-given f _ _ _ _ (given f q.right) (equations-given f qs)

assertions-given : (f : ℕ → ℕ) (more : List AssertionTree) → map site_had (delays_in_assertions (map (sited_assertion f) more)) ≡ map (site_given f)
    (assertions_delayed more)
assertions-given f [] = refl
assertions-given f (a ∷ more) = both-given f _ _ _ _ (given f a.body) (assertions-given f more)

node-given : (n : NodeTree) → map site_had (node_delays (with_sites n)) ≡ map (site_given (site_at n)) (node_delayed n)
node-given n = both-given (site_at n) _ _ _ _ (equations-given (site_at n) n.equations) (assertions-given (site_at n) n.assertions)

-- they are some of all
module _ (f : ℕ → ℕ) where
  fewer-both : (xs ys us vs : List ℕ) → all_of f xs ≤ all_of f us → all_of f ys ≤ all_of f vs → all_of f (xs ++ ys) ≤ all_of f (us ++ vs)
  fewer-both xs ys us vs p q = omega (arith, all_of-append f xs ys, all_of-append f us vs)

  fewer-with : (xs us vs : List ℕ) → all_of f xs ≤ all_of f vs → all_of f xs ≤ all_of f (us ++ vs)
  fewer-with xs us vs p = omega (arith, all_of-append f us vs)

  mutual
    fewer : (t : Tree) → all_of f (delayed t) ≤ all_of f (offsets t)
    fewer (Node at site form) = form-fewer at form

    form-fewer : (at : ℕ) (form : Form) → all_of f (form_delayed at form) ≤ all_of f (form_offsets at form)
    form-fewer at (Not t) = fewer t
    form-fewer at (Minus t) = fewer t
    form-fewer at (Pre t) = omega (arith, fewer t)
    form-fewer at (Current t) = omega (arith, fewer t)
    form-fewer at (When t c) = fewer t
    form-fewer at (Binary o a b) = fewer-both _ _ _ _ (fewer a) (fewer-with _ _ _ (fewer b))
    form-fewer at (If a b c) = fewer-both _ _ _ _ (fewer a) (fewer-both _ _ _ _ (fewer b) (fewer c))
    form-fewer at (AtMostOne ts) = trees-fewer ts
    form-fewer at (Call g ts) = omega (arith, trees-fewer ts)
    form-fewer at _ = omega arith

    trees-fewer : (ts : Trees) → all_of f (trees_delayed ts) ≤ all_of f (trees_offsets ts)
    trees-fewer None = omega arith
    trees-fewer (More t ts) = fewer-both _ _ _ _ (fewer t) (trees-fewer ts)

  equations-fewer : (qs : List EquationTree) → all_of f (equations_delayed qs) ≤ all_of f (equation_offsets qs)
  equations-fewer [] = omega arith
  equations-fewer (q ∷ qs) = fewer-both _ _ _ _ (fewer q.right) (equations-fewer qs)

  assertions-fewer : (more : List AssertionTree) → all_of f (assertions_delayed more) ≤ all_of f (assertion_offsets more)
  assertions-fewer [] = omega arith
  assertions-fewer (a ∷ more) =
      let rest : all_of f (delayed a.body ++ assertions_delayed more) ≤ all_of f (offsets a.body ++ assertion_offsets more) =
      fewer-both _ _ _ _ (fewer a.body) (assertions-fewer more) in
      omega (arith, rest)

  node-fewer : (n : NodeTree) → all_of f (node_delayed n) ≤ all_of f (node_offsets n)
  node-fewer n = fewer-both _ _ _ _ (equations-fewer n.equations) (assertions-fewer n.assertions)

-- ---- Offsets, and how many are less.
less-step : (x y z : ℕ) → x < y → cond (ltb z x) 1 0 + alone x z ≤ cond (ltb z y) 1 0
less-step x y z lt = grind (arith, nat_tests)

most-step : (x z : ℕ) → cond (ltb z x) 1 0 + alone x z ≤ 1
most-step x z = grind (arith, nat_tests)

alone-here : (x : ℕ) → alone x x ≡ 1
alone-here x = grind (arith, nat_tests)

-- fewer are less than a lesser one that is there
earlier-less : (x y : ℕ) (xs : List ℕ) → x < y → earlier x xs + all_of (alone x) xs ≤ earlier y xs
earlier-less x y [] lt = omega arith
earlier-less x y (z ∷ xs) lt = omega (arith, less-step x y z lt, earlier-less x y xs lt)

earlier-most : (x : ℕ) (xs : List ℕ) → earlier x xs + all_of (alone x) xs ≤ length xs
earlier-most x [] = omega arith
earlier-most x (z ∷ xs) = omega (arith, most-step x z, earlier-most x xs)

alone-at : (xs : List ℕ) (i : ℕ) (d : ℕ) → i < length xs → 1 ≤ all_of (alone (get_or xs i d)) xs
alone-at [] i d lt = absurd (omega arith)
alone-at (x ∷ xs) zero d lt = omega (arith, alone-here x)
alone-at (x ∷ xs) (suc i) d lt = omega (arith, alone-at xs i d (omega arith))

-- where one stands twice it weighs twice
alone-twice : (xs : List ℕ) (i j : ℕ) (d : ℕ) → i < j → j < length xs → get_or xs i d ≡ get_or xs j d → 2 ≤ all_of (alone (get_or xs j d)) xs
alone-twice [] i j d less lt same = absurd (omega arith)
alone-twice (x ∷ xs) i zero d less lt same = absurd (omega arith)
alone-twice (x ∷ xs) zero (suc j) d less lt same =
    let one : alone (get_or xs j d) x ≡ 1 = ap (λ y. alone (get_or xs j d) y) same ∙ alone-here (get_or xs j d) in
    omega (arith, one, alone-at xs j d (omega arith))
alone-twice (x ∷ xs) (suc i) (suc j) d less lt same = omega (arith, alone-twice xs i j d (omega arith) (omega arith) same)

-- two that are there have the same number only where they are the same
same-offset : (first : ℕ) (xs : List ℕ) (x y : ℕ) → 1 ≤ all_of (alone x) xs → 1 ≤ all_of (alone y) xs → numbered_from first xs x ≡ numbered_from first xs y
    → x ≡ y
same-offset first xs x y p q same = equal (cases_order x y)
  where
    equal : (x ≡ y) ⊎ ((x < y) ⊎ (y < x)) → x ≡ y
    equal (inl is) = is
    equal (inr (inl lt)) = absurd (omega (arith, earlier-less x y xs lt))
    equal (inr (inr lt)) = absurd (omega (arith, earlier-less y x xs lt))

get-map : {A B : Type 0} (g : A → B) (xs : List A) (i : ℕ) (a : A) (b : B) → i < length xs → get_or (map g xs) i b ≡ g (get_or xs i a)
get-map g [] i a b lt = absurd (omega arith)
get-map g (x ∷ xs) zero a b lt = refl
get-map g (x ∷ xs) (suc i) a b lt = get-map g xs i a b (omega arith)

-- ---- A node no two of whose offsets are the same.
module _ (m : NodeTree) (once : (x : ℕ) → all_of (alone x) (node_offsets m) ≤ 1) where
  -- each part is one of the offsets, with its site
  part-from : (p : SitedPart) → Contains (node_parts (with_sites m)) p → (x : ℕ) × (1 ≤ all_of (alone x) (node_offsets m)) × (numbered (site_at m) x ≡ p)
  part-from p h =
      let from = from_map (numbered (site_at m)) (node_offsets m) p (subst (λ l. Contains l p) (node-numbered m) h) in
      let some : alone from.0 from.0 ≤ all_of (alone from.0) (node_offsets m) = one-of (alone from.0) (node_offsets m) from.0 from.1 in
      (from.0, omega (arith, some, alone-here from.0), from.2)

  length-parts : length (node_parts (with_sites m)) ≡ length (node_offsets m)
  length-parts = ap length (node-numbered m) ∙ length-map (node_offsets m) (numbered (site_at m))

  next-site : (p : SitedPart) → Contains (node_parts (with_sites m)) p
      → (s : ℕ) × (p.site ≡ Some s) × (length (flows m) ≤ s) × (s < length (flows m) + length (node_parts (with_sites m)))
  next-site p h =
      let from = part-from p h in
      let most : earlier from.0 (node_offsets m) + all_of (alone from.0) (node_offsets m) ≤ length (node_offsets m) = earlier-most from.0 (node_offsets m) in
      (site_at m from.0, ap (λ (q : SitedPart). q.site) (sym from.2), omega arith, omega (arith, length-parts, most, from.1))

  rising-sites : (p q : SitedPart) (s t : ℕ) → Contains (node_parts (with_sites m)) p → Contains (node_parts (with_sites m)) q → p.at < q.at → p.site ≡ Some s
      → q.site ≡ Some t → s < t
  rising-sites p q s t hp hq less sp sq =
      let one = part-from p hp in
      let two = part-from q hq in
      let at_one : one.0 ≡ p.at = ap (λ (r : SitedPart). r.at) one.2 in
      let at_two : two.0 ≡ q.at = ap (λ (r : SitedPart). r.at) two.2 in
      let lt : one.0 < two.0 = omega arith in
      let some_one : Some (site_at m one.0) ≡ Some s = ap (λ (r : SitedPart). r.site) one.2 ∙ sp in
      let some_two : Some (site_at m two.0) ≡ Some t = ap (λ (r : SitedPart). r.site) two.2 ∙ sq in
      let is_one : site_at m one.0 ≡ s = cc in
      let is_two : site_at m two.0 ≡ t = cc in
      let step : earlier one.0 (node_offsets m) + all_of (alone one.0) (node_offsets m) ≤ earlier two.0 (node_offsets m) = earlier-less one.0 two.0
      (node_offsets m) lt in
      omega (arith, is_one, is_two, step, one.1)

  part-site : (i : ℕ) (p : SitedPart) → i < length (node_offsets m) → (get_or (node_parts (with_sites m)) i p).site ≡ Some
      (site_at m (get_or (node_offsets m) i 0))
  part-site i p lt =
      ap (λ (l : List SitedPart). (get_or l i p).site) (node-numbered m)
      ∙ ap (λ (r : SitedPart). r.site) (get-map (numbered (site_at m)) (node_offsets m) i 0 p lt)

  apart-sites : (i j : ℕ) (p : SitedPart) → i < j → j < length (node_parts (with_sites m))
      → (get_or (node_parts (with_sites m)) i p).site ≡ (get_or (node_parts (with_sites m)) j p).site → ⊥
  apart-sites i j p less lt same =
      let xs : List ℕ = node_offsets m in
      let lt_j : j < length xs = omega (arith, length-parts) in
      let lt_i : i < length xs = omega arith in
      let there : Some (site_at m (get_or xs i 0)) ≡ Some (site_at m (get_or xs j 0)) = sym (part-site i p lt_i) ∙ same ∙ part-site j p lt_j in
      let numbers : site_at m (get_or xs i 0) ≡ site_at m (get_or xs j 0) = cc in
      let is : get_or xs i 0 ≡ get_or xs j 0 = same-offset (length (flows m)) xs (get_or xs i 0) (get_or xs j 0) (alone-at xs i 0 lt_i)
      (alone-at xs j 0 lt_j) numbers in
      omega (arith, alone-twice xs i j 0 less lt_j is, once (get_or xs j 0))

  -- the same of each `pre` and `current`
  length-delays : length (node_delays (with_sites m)) ≡ length (node_delayed m)
  length-delays =
      sym (length-map (node_delays (with_sites m)) site_had) ∙ ap length (node-given m) ∙ length-map (node_delayed m) (site_given (site_at m))

  delay-site : (d : Delay) (h : Contains (node_delays (with_sites m)) d) → d.site ≡ Some (site_at m (get_or (node_delayed m) h.0 0))
  delay-site d h =
      let lt : h.0 < length (node_delayed m) = omega (arith, length-delays, h.1) in
      ap site_had (sym h.2)
      ∙ sym (get-map site_had (node_delays (with_sites m)) h.0 d d.site h.1)
      ∙ ap (λ l. get_or l h.0 d.site) (node-given m)
      ∙ get-map (site_given (site_at m)) (node_delayed m) h.0 0 d.site lt

  one-place : (i j : ℕ) → i < length (node_delayed m) → j < length (node_delayed m)
      → site_at m (get_or (node_delayed m) i 0) ≡ site_at m (get_or (node_delayed m) j 0) → i ≡ j
  one-place i j lt_i lt_j numbers = equal (cases_order i j)
    where
      is : get_or (node_delayed m) i 0 ≡ get_or (node_delayed m) j 0
      is =
          let x : ℕ = get_or (node_delayed m) i 0 in
          let y : ℕ = get_or (node_delayed m) j 0 in
          same-offset (length (flows m)) (node_offsets m) x y
          (omega (arith, alone-at (node_delayed m) i 0 lt_i, node-fewer (alone x) m))
          (omega (arith, alone-at (node_delayed m) j 0 lt_j, node-fewer (alone y) m)) numbers

      equal : (i ≡ j) ⊎ ((i < j) ⊎ (j < i)) → i ≡ j
      equal (inl e) = e
      equal (inr (inl less)) =
          let y : ℕ = get_or (node_delayed m) j 0 in
          absurd (omega (arith, alone-twice (node_delayed m) i j 0 less lt_j is, node-fewer (alone y) m, once y))
      equal (inr (inr less)) =
          let x : ℕ = get_or (node_delayed m) i 0 in
          absurd (omega (arith, alone-twice (node_delayed m) j i 0 less lt_i (sym is), node-fewer (alone x) m, once x))

  own-site : (d e : Delay) → Contains (node_delays (with_sites m)) d → Contains (node_delays (with_sites m)) e → d.site ≡ e.site → d ≡ e
  own-site d e h g same =
      let there : Some (site_at m (get_or (node_delayed m) h.0 0)) ≡ Some (site_at m (get_or (node_delayed m) g.0 0)) = sym (delay-site d h) ∙ same
      ∙ delay-site e g in
      let numbers : site_at m (get_or (node_delayed m) h.0 0) ≡ site_at m (get_or (node_delayed m) g.0 0) = cc in
      let place : h.0 ≡ g.0 = one-place h.0 g.0 (omega (arith, length-delays, h.1)) (omega (arith, length-delays, g.1)) numbers in
      sym h.2 ∙ get_or_default (node_delays (with_sites m)) h.0 d e h.1 ∙ ap (λ i. get_or (node_delays (with_sites m)) i e) place ∙ g.2

  node-is-numbered : length (flows m) ≤ source_limit → IsNumbered (with_sites m)
  node-is-numbered few = record {
    few = few;
    beyond = λ d h. (site_at m (get_or (node_delayed m) h.0 0), delay-site d h, omega arith);
    own = own-site;
    next = next-site;
    in_order = rising-sites;
    apart = apart-sites;
  }

pub numbered-text : (bytes : List ℕ) (t : ProgramTree) (n : NodeTree) → length bytes ≤ source_limit → IsTextOf bytes t → Contains t.nodes n → IsNumbered n
numbered-text bytes t n le x h =
    let p : ProgramTree = x.0 in
    let from = from_map with_sites p.nodes n (subst (λ (u : ProgramTree). Contains u.nodes n) x.1 h) in
    let m : NodeTree = from.0 in
    let few : length (flows m) ≤ source_limit = omega (arith, node-weighs m, one-of (of_node each) p.nodes m from.1, program-short bytes p x.2) in
    let once : (y : ℕ) → all_of (alone y) (node_offsets m) ≤ 1 = λ y.
    omega (
      arith,
      all_of-append (alone y) (equation_offsets m.equations) (assertion_offsets m.assertions),
      one-of (of_node (alone y)) p.nodes m from.1,
      tells-program (alone y) p (tokens bytes) x.2,
      tokens-alone y bytes,
    ) in
    subst IsNumbered from.2 (node-is-numbered m once few)
