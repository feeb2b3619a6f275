-- Where a valuation spells what an instant finds, and its present tests tell the truth, the symbolic instant gives at the point
-- what the instant in whole numbers gives.
use Rattle.std.proofs.Common.{◌≡◌, ℕ, suc, ◌+◌, ◌<◌, ◌≤◌, ℤ, ◌*ℤ◌, Bool, true, false, not, cond, List, [], ◌∷◌, ◌++◌, length, refl, sym, ◌∙◌, ap, subst, arith}
use Rattle.std.proofs.Common.{inl, inr, Option, None as Nothing, Some, ⊎_elim}
use Rattle.std.proofs.lemmas.List.Elements.{Contains-append_left, Contains-append_right, Contains-append_cases, Contains-get_or}
use Rattle.std.proofs.{lemmas.Bool.ne_eqb, lemmas.List.length-map, lemmas.List.get_or_default}
use Rattle.std.specs.{Prelude.nat_le, Prelude.nat_eq, List.Contains}
use Rattle.rv_base.specs.{declared.value.Value.Value, declared.value.Value.TheVariants.Flag, declared.value.Value.TheVariants.Whole}
use Rattle.rv_tree.specs.{declared.tree.Op.Op, Places.Sites}
use Rattle.rv_types.specs.{declared.typed.Kind.Kind, Variables.is_integer, Lists.Side, Lists.sides_of}
use Rattle.rv_types.specs.declared.typed.Kind.TheVariants as kind
use Rattle.rv_meaning.specs.Meaning.{is_true, number, operate}
use Rattle.rv_agreement.specs.Trees.{FlatTree, Node, TreeForm, FlatTrees, Constant, Flow, Memory, Ticked, Input, Not, Binary, Scale, If, AtMostOne, When}
use Rattle.rv_agreement.specs.Trees.{Current, None, More, Item, nth_item, no_item, System, memory_items, memory_kinds, kind_at}
use Rattle.rv_agreement.specs.Evaluation.{nth, is_on, held, is_there, value, form_value, trues, item_value, after, is_met, integers}
use Rattle.rv_agreement.specs.Valuations.{Valuation, Reading, at_point, holds_true, reads_at, found_at, width, IsSymbolic, Comparison, is_placed, own}
use Rattle.rv_agreement.specs.Valuations.{comparisons, form_comparisons, comparisons_of, item_comparisons, all_items, all_comparisons, is_of_integers}
use Rattle.rv_agreement.specs.Valuations.{is_linear, read}
use Rattle.rv_agreement.specs.Agreement.{State, found_in, IsWholeInstant, value_there, IsRule, IsPlaced, IsNamed, Fits, FormFits, AllFit, ItemFits, IsWell}
use Rattle.rv_agreement.proofs.Operators.{truth_at, on_at, constant_at, scaled_at, operated_at}
use Rattle.rv_agreement.proofs.{LinearLemmas.told, Controls.of_integers, Controls.never_linear, Controls.clock_there}
use Rattle.rv_meaning.proofs.{Below.each_below, NameLemmas.of_first, NameLemmas.of_second}
use Rattle.rv_types.proofs.Members.{cons_cases, in_flat_map, nothing_in, of_flat_map}

-- Lists.

-- what follows from an element of each part of a joined list follows from one of the whole
pub of_two : {X P : Type 0} (xs ys : List X) (x : X) → Contains (xs ++ ys) x → (Contains xs x → P) → (Contains ys x → P) → P
of_two xs ys x w p q = ⊎_elim p q (Contains-append_cases xs ys x w)

pub of_three : {X P : Type 0} (xs ys zs : List X) (x : X) → Contains (xs ++ (ys ++ zs)) x → (Contains xs x → P) → (Contains ys x → P) → (Contains zs x → P) → P
of_three xs ys zs x w p q r = of_two xs (ys ++ zs) x w p (λ v. of_two ys zs x v q r)

-- an element of the list of one is it
pub only_one : {X : Type 0} (y x : X) → Contains (y ∷ []) x → y ≡ x
only_one y x w = elim (cons_cases y [] x w) [ inl is ↦ is | inr rest ↦ nothing_in x rest ]

chosen_at : (x : List ℤ) (b : Bool) (p q : Reading) → cond b (at_point x p) (at_point x q) ≡ at_point x (cond b p q)
chosen_at x true p q = refl
chosen_at x false p q = refl

pub some_side : {X : Type 0} (xs : List X) (x : X) → Contains xs x → nat_eq (length xs) 0 ≡ false
some_side [] x w = nothing_in x w
some_side (y ∷ ys) x w = ne_eqb (suc (length ys)) 0 (λ e. absurd (omega (arith, e)))

some_sides : {X : Type 0} (xs : List X) (x : X) → Contains xs x → 0 < length xs
some_sides xs x w = omega (arith, w.1)

-- a comparison with a place and a test is its own
pub own_there : (o : Op) (c : Comparison) (side : Side) → is_placed c.at ≡ true → Contains (sides_of o) side → Contains (own o c) c
own_there o c side placed w =
    subst (λ cs. Contains cs c)
    (sym ((λ t. cond (placed t) (cond (some_side (sides_of o) side w t) [] (c ∷ [])) [])))
    (0, omega arith, refl)

-- an element that a list contains, by its number
pub read_in : (xs : List Item) (y : Item) (w : Contains xs y) → nth_item xs w.0 ≡ y
read_in xs y w = get_or_default xs w.0 no_item y w.1 ∙ w.2

-- what stands alone where one test holds and another does not
pub in_own : {X : Type 0} (p b : Bool) (y c : X) → Contains (cond p (cond b [] (y ∷ [])) []) c → y ≡ c
in_own true true y c w = nothing_in c w
in_own true false y c w = only_one y c w
in_own false b y c w = nothing_in c w

module _ (s : System) where
  -- the items of a system by their numbers
  pub flow_in : (k : ℕ) → k < length s.flows → Contains (all_items s) (nth_item s.flows k)
  flow_in k lt = Contains-append_left s.flows _ _ (Contains-get_or s.flows k no_item lt)

  pub memory_in : (m : ℕ) → m < length s.memories → Contains (all_items s) (nth_item (memory_items s) m)
  memory_in m lt = Contains-append_right s.flows _ _ (Contains-append_left (memory_items s) _ _ (Contains-get_or (memory_items s) m no_item (rw length-map lt)))

  assertion_in : (k : ℕ) → k < length s.assertions → Contains (all_items s) (nth_item s.assertions k)
  assertion_in k lt = Contains-append_right s.flows _ _ (Contains-append_right (memory_items s) _ _ (Contains-get_or s.assertions k no_item lt))

  -- what is over the first flows is over more
  wider_clock : (n more : ℕ) → n ≤ more → (k : Option ℕ) → IsNamed n k → IsNamed more k
  wider_clock n more le Nothing fit = fit
  wider_clock n more le (Some k) fit = omega (arith, fit)

  module _ (n more : ℕ) (le : n ≤ more) where
    mutual
      wider : (k : Option ℕ) (j : Kind) (e : FlatTree) → Fits s n k j e → Fits s more k j e
      wider k j (Node at form) fit = wider_form k j at form fit

      wider_form : (k : Option ℕ) (j : Kind) (at : Sites) (form : TreeForm) → FormFits s n k j at form → FormFits s more k j at form
      wider_form k j at (Flow c) fit = (omega (arith, fit.0), fit.1, fit.2)
      wider_form k j at (Not e) fit = (fit.0, wider k kind.Bool e fit.1)
      wider_form k j at (Binary o a b) fit = (fit.0, fit.1, fit.2, wider k fit.0 a fit.3, wider k fit.0 b fit.4)
      wider_form k j at (Scale z e) fit = (fit.0, wider k kind.Int e fit.1)
      wider_form k j at (If c a b) fit = (wider k kind.Bool c fit.0, wider k j a fit.1, wider k j b fit.2)
      wider_form k j at (AtMostOne es) fit = (fit.0, wider_all k es fit.1)
      wider_form k j at (When c e) fit = (fit.0, omega (arith, fit.1), wider (nth_item s.flows c).clock j e fit.2)
      wider_form k j at (Current m i e) fit = (fit.0, fit.1, fit.2, wider_clock n more le i fit.3, wider i j e fit.4)
      wider_form k j at _ fit = fit

      wider_all : (k : Option ℕ) (es : FlatTrees) → AllFit s n k es → AllFit s more k es
      wider_all k None fit = fit
      wider_all k (More e es) fit = (wider k kind.Bool e fit.0, wider_all k es fit.1)

  pub wider_item : (n more : ℕ) → n ≤ more → (j : Kind) (y : Item) → ItemFits s n j y → ItemFits s more j y
  wider_item n more le j y fit = (wider_clock n more le y.clock fit.0, wider n more le y.clock j y.body fit.1)

  -- The operands of a comparison are on its clock, and what is true of all comparisons about it is true of those in them.
  pub record Inside (P : Comparison → Type 0) (n : ℕ) (c : Comparison) : Type 0 where
    pub named : IsNamed n c.clock
    pub operand : Kind
    pub left : Fits s n c.clock operand c.left
    pub right : Fits s n c.clock operand c.right
    pub left_all : (d : Comparison) → Contains (comparisons s.flows c.clock c.left) d → P d
    pub right_all : (d : Comparison) → Contains (comparisons s.flows c.clock c.right) d → P d

  module _ (P : Comparison → Type 0) (n : ℕ) (clocks : (j : ℕ) → j < n → IsNamed n (nth_item s.flows j).clock) where
    mutual
      pub inside : (k : Option ℕ) (j : Kind) (e : FlatTree) → IsNamed n k → Fits s n k j e → ((d : Comparison) → Contains (comparisons s.flows k e) d → P d)
          → (c : Comparison) → Contains (comparisons s.flows k e) c → Inside P n c
      inside k j (Node at form) named fit all c w = inside_form k j at form named fit all c w

      inside_form : (k : Option ℕ) (j : Kind) (at : Sites) (form : TreeForm) → IsNamed n k → FormFits s n k j at form
          → ((d : Comparison) → Contains (form_comparisons s.flows k at form) d → P d)
          → (c : Comparison) → Contains (form_comparisons s.flows k at form) c → Inside P n c
      inside_form k j at (Not e) named fit all c w = inside k kind.Bool e named fit.1 all c w
      inside_form k j at (Binary o a b) named fit all c w =
          let y : Comparison = record { at = at; clock = k; operator = o; left = a; right = b } in
          let lefts = comparisons s.flows k a in
          let rights = comparisons s.flows k b in
          let parts : (d : Comparison) → Contains (lefts ++ rights) d → P d = of_second (own o y) (lefts ++ rights) all in
          let in_left : (d : Comparison) → Contains lefts d → P d = of_first lefts rights parts in
          let in_right : (d : Comparison) → Contains rights d → P d = of_second lefts rights parts in
          elim (Contains-append_cases (own o y) (lefts ++ rights) c w) [
            | inl here ↦ subst (Inside P n) (in_own (is_placed at) (nat_eq (length (sides_of o)) 0) y c here)
                (record { named = named; operand = fit.0; left = fit.3; right = fit.4; left_all = in_left; right_all = in_right })
            | inr rest ↦ elim (Contains-append_cases lefts rights c rest) [
              | inl u ↦ inside k fit.0 a named fit.3 in_left c u
              | inr u ↦ inside k fit.0 b named fit.4 in_right c u
            ]
          ]
      inside_form k j at (Scale z e) named fit all c w = inside k kind.Int e named fit.1 all c w
      inside_form k j at (If t a b) named fit all c w =
          let tests = comparisons s.flows k t in
          let lefts = comparisons s.flows k a in
          let rights = comparisons s.flows k b in
          let parts : (d : Comparison) → Contains (lefts ++ rights) d → P d = of_second tests (lefts ++ rights) all in
          of_three tests lefts rights c w (inside k kind.Bool t named fit.0 (of_first tests (lefts ++ rights) all) c)
          (inside k j a named fit.1 (of_first lefts rights parts) c) (inside k j b named fit.2 (of_second lefts rights parts) c)
      inside_form k j at (AtMostOne es) named fit all c w = inside_all k es named fit.1 all c w
      inside_form k j at (When x e) named fit all c w = inside (nth_item s.flows x).clock j e (clocks x fit.1) fit.2 all c w
      inside_form k j at _ named fit all c w = nothing_in c w

      inside_all : (k : Option ℕ) (es : FlatTrees) → IsNamed n k → AllFit s n k es → ((d : Comparison) → Contains (comparisons_of s.flows k es) d → P d)
          → (c : Comparison) → Contains (comparisons_of s.flows k es) c → Inside P n c
      inside_all k None named fit all c w = nothing_in c w
      inside_all k (More e es) named fit all c w =
          let lefts = comparisons s.flows k e in
          let rights = comparisons_of s.flows k es in
          of_two lefts rights c w (inside k kind.Bool e named fit.0 (of_first lefts rights all) c) (inside_all k es named fit.1 (of_second lefts rights all) c)

module _ (s : System) (v : Valuation) (now : State) (inputs : List Value) (row : List (Option Value)) (symbolic : List (Option Reading)) (x : List ℤ) where
  -- what an expression has in whole numbers
  abbrev pub whole : FlatTree → Value
  whole e = value Value integers (found_in now inputs) row e

  abbrev pub reading : FlatTree → Reading
  reading e = read s v symbolic e

  abbrev pub there : Option ℕ → Bool
  there k = is_there Reading (reads_at s v) symbolic k

  -- what the instant finds is what the valuation and the point spell
  pub record IsFound : Type 0 where
    pub ticked : (k : ℕ) → k < length s.ticks → (found_in now inputs).ticked k ≡ (found_at s v).ticked k
    pub kept : (m : ℕ) → m < length s.memories → (found_in now inputs).kept m ≡ at_point x ((found_at s v).kept m)
    pub given : (j : ℕ) → j < length s.inputs → (found_in now inputs).given j ≡ at_point x ((found_at s v).given j)

  -- the operands of a comparison have the same
  abbrev pub AreMatched : Comparison → Type 0
  AreMatched c = (whole c.left ≡ at_point x (reading c.left)) × (whole c.right ≡ at_point x (reading c.right))

  -- where a comparison is present and its operands have the same, its tests tell the truth
  abbrev pub IsTold : Comparison → Type 0
  IsTold c = there c.clock ≡ true → AreMatched c → is_of_integers c.operator (reading c.left) (reading c.right) ≡ true
      → (side : Side) → Contains (sides_of c.operator) side → v.test c.at side ≡ told side (number (whole c.left)) (number (whole c.right))

  module _ (well : IsWell s) (found : IsFound) (instant : IsSymbolic s v symbolic) (tell : (c : Comparison) → Contains (all_comparisons s) c → IsTold c) where
    held_at : (o : Option Reading) → held Value integers (value_there x o) ≡ at_point x (held Reading (reads_at s v) o)
    held_at Nothing = refl
    held_at (Some a) = refl

    memory_told : (m : ℕ) (c : Comparison) → m < length s.memories → Contains (item_comparisons s.flows (nth_item (memory_items s) m)) c → IsTold c
    memory_told m c lt w = tell c (in_flat_map (item_comparisons s.flows) (all_items s) (nth_item (memory_items s) m) c (memory_in s m lt) w)

    item_told : (y : Item) → Contains (all_items s) y → (c : Comparison) → Contains (comparisons s.flows y.clock y.body) c → IsTold c
    item_told y w c inside = tell c (in_flat_map (item_comparisons s.flows) (all_items s) y c w inside)

    module _ (n : ℕ) (most : n ≤ length s.flows) (agree : (k : ℕ) → k < n → nth Value integers row k ≡ value_there x (nth Reading (reads_at s v) symbolic k))
      where
        there_at : (k : Option ℕ) → IsNamed n k → is_there Value integers row k ≡ there k
        there_at Nothing fit = refl
        there_at (Some k) fit = ap (is_on Value integers) (agree k fit) ∙ on_at x (width s) v.test (nth Reading (reads_at s v) symbolic k)

        match_binary : (k : Option ℕ) (at : Sites) (o : Op) (i j : Kind) (a b : FlatTree) → IsRule o i j → IsPlaced at o i
            → (is_integer i ≡ false → is_linear (reading a) ≡ false)
            → whole a ≡ at_point x (reading a) → whole b ≡ at_point x (reading b) → there k ≡ true
            → ((c : Comparison) → Contains (form_comparisons s.flows k at (Binary o a b)) c → IsTold c)
            → operate o false (whole a) (whole b) ≡ at_point x (form_value Reading (reads_at s v) (found_at s v) symbolic at (Binary o a b))
        match_binary k at o i j a b rule placed control left right on say =
            (λ t. operate o false (left t) (right t))
            ∙ operated_at x (width s) v.test at o i j (reading a) (reading b) rule
            (λ integral side w.
            let c : Comparison = record { at = at; clock = k; operator = o; left = a; right = b } in
            let there_is : is_placed at ≡ true = placed (some_sides (sides_of o) side w)
            ∙ of_integers o i j (reading a) (reading b) side rule control integral w in
            say c (Contains-append_left (own o c) (comparisons s.flows k a ++ comparisons s.flows k b) c (own_there o c side there_is w)) on
            (left, right) integral side w
            ∙ (λ t. told side (number (left t)) (number (right t))))

        truth_of : (e : FlatTree) → whole e ≡ at_point x (reading e) → is_true (whole e) ≡ holds_true (reading e)
        truth_of e is = ap is_true is ∙ truth_at x (reading e)

        current_of : (m : ℕ) (j : Option ℕ) (e : FlatTree) (b : Bool) → there j ≡ b → (there j ≡ true → whole e ≡ at_point x (reading e))
            → m < length s.memories
            → cond b (whole e) ((found_in now inputs).kept m) ≡ at_point x (cond b (reading e) ((found_at s v).kept m))
        current_of m j e true is shown lt = shown is
        current_of m j e false is shown lt = found.kept m lt

        mutual
          match : (k : Option ℕ) (j : Kind) (e : FlatTree) → Fits s n k j e → there k ≡ true
              → ((c : Comparison) → Contains (comparisons s.flows k e) c → IsTold c) → whole e ≡ at_point x (reading e)
          match k j (Node at form) fit on told = match_form k j at form fit on told

          match_form : (k : Option ℕ) (j : Kind) (at : Sites) (form : TreeForm) → FormFits s n k j at form → there k ≡ true
              → ((c : Comparison) → Contains (form_comparisons s.flows k at form) c → IsTold c)
              → form_value Value integers (found_in now inputs) row at form ≡ at_point x (form_value Reading (reads_at s v) (found_at s v) symbolic at form)
          match_form k j at (Constant c) fit on told = constant_at x (width s) v.test c
          match_form k j at (Flow c) fit on told = ap (held Value integers) (agree c fit.0) ∙ held_at (nth Reading (reads_at s v) symbolic c)
          match_form k j at (Memory m) fit on told = found.kept m fit.0
          match_form k j at (Ticked t) fit on told = ap Flag (found.ticked t fit.0)
          match_form k j at (Input i) fit on told = found.given i fit.0
          match_form k j at (Not e) fit on told = ap (λ t. Flag (not t)) (truth_of e (match k kind.Bool e fit.1 on told))
          match_form k j at (Binary o a b) fit on told =
              let lefts = comparisons s.flows k a in
              let rights = comparisons s.flows k b in
              let y : Comparison = record { at = at; clock = k; operator = o; left = a; right = b } in
              let parts : (c : Comparison) → Contains (lefts ++ rights) c → IsTold c = of_second (own o y) (lefts ++ rights) told in
              match_binary k at o fit.0 j a b fit.1 fit.2 (never_linear s v symbolic well instant n most k fit.0 a fit.3)
              (match k fit.0 a fit.3 on (of_first lefts rights parts)) (match k fit.0 b fit.4 on (of_second lefts rights parts)) on told
          match_form k j at (Scale z e) fit on told = ap (λ u. Whole (z *ℤ number u)) (match k kind.Int e fit.1 on told)
              ∙ scaled_at x (width s) v.test z (reading e)
          match_form k j at (If c a b) fit on told =
              let tests = comparisons s.flows k c in
              let lefts = comparisons s.flows k a in
              let rights = comparisons s.flows k b in
              let parts : (d : Comparison) → Contains (lefts ++ rights) d → IsTold d = of_second tests (lefts ++ rights) told in
              (λ i. cond (truth_of c (match k kind.Bool c fit.0 on (of_first tests (lefts ++ rights) told)) i)
              (match k j a fit.1 on (of_first lefts rights parts) i) (match k j b fit.2 on (of_second lefts rights parts) i))
              ∙ chosen_at x (holds_true (reading c)) (reading a) (reading b)
          match_form k j at (AtMostOne es) fit on told = ap (λ t. Flag (nat_le t 1)) (match_trues k es fit.1 on told)
          match_form k j at (When c e) fit on told =
              match (nth_item s.flows c).clock j e fit.2 (clock_there s v symbolic well instant c (omega (arith, fit.1)) (ap there (sym fit.0) ∙ on)) told
          match_form k j at (Current m i e) fit on told =
              ap (λ b. cond b (whole e) ((found_in now inputs).kept m)) (there_at i fit.3)
              ∙ current_of m i e (there i) refl (λ is. match i j e fit.4 is
              (λ c w. memory_told m c fit.0 (subst (λ y. Contains (item_comparisons s.flows y) c) (sym fit.2) w))) fit.0

          match_trues : (k : Option ℕ) (es : FlatTrees) → AllFit s n k es → there k ≡ true
              → ((c : Comparison) → Contains (comparisons_of s.flows k es) c → IsTold c)
              → trues Value integers (found_in now inputs) row es ≡ trues Reading (reads_at s v) (found_at s v) symbolic es
          match_trues k None fit on told = refl
          match_trues k (More e es) fit on told = λ i.
              cond (truth_of e (match k kind.Bool e fit.0 on (of_first (comparisons s.flows k e) (comparisons_of s.flows k es) told)) i) 1 0
              + match_trues k es fit.1 on (of_second (comparisons s.flows k e) (comparisons_of s.flows k es) told) i

        -- an item has the same
        body_match : (j : Kind) (y : Item) → ItemFits s n j y → Contains (all_items s) y → there y.clock ≡ true → whole y.body ≡ at_point x (reading y.body)
        body_match j y fit w on = match y.clock j y.body fit.1 on (item_told y w)

        item_match : (j : Kind) (y : Item) → ItemFits s n j y → Contains (all_items s) y
            → item_value Value integers (found_in now inputs) row y ≡ value_there x (item_value Reading (reads_at s v) (found_at s v) symbolic y)
        item_match j y fit w = ap (λ b. cond b (Some (whole y.body)) Nothing) (there_at y.clock fit.0)
            ∙ (elim (there y.clock)
            as (λ b. there y.clock ≡ b → cond b (Some (whole y.body)) Nothing ≡ value_there x (cond b (Some (reading y.body)) Nothing))
            [ true ↦ λ is. ap Some (body_match j y fit w is) | false ↦ λ is. refl ] refl)

        met_match : (j : Kind) (y : Item) → ItemFits s n j y → Contains (all_items s) y
            → is_met Value integers (found_in now inputs) row y ≡ is_met Reading (reads_at s v) (found_at s v) symbolic y
        met_match j y fit w = ap (λ b. cond b (is_true (whole y.body)) true) (there_at y.clock fit.0)
            ∙ (elim (there y.clock) as (λ b. there y.clock ≡ b → cond b (is_true (whole y.body)) true ≡ cond b (holds_true (reading y.body)) true)
            [ true ↦ λ is. truth_of y.body (body_match j y fit w is) | false ↦ λ is. refl ] refl)

        after_match : (j : Kind) (y : Item) (m : ℕ) → ItemFits s n j y → Contains (all_items s) y → m < length s.memories
            → after Value integers (found_in now inputs) row y m ≡ at_point x (after Reading (reads_at s v) (found_at s v) symbolic y m)
        after_match j y m fit w lt =
            ap (λ b. cond b (whole y.body) ((found_in now inputs).kept m)) (there_at y.clock fit.0)
            ∙ current_of m y.clock y.body (there y.clock) refl (body_match j y fit w) lt

    module _ (rows : IsWholeInstant s now inputs row) where
      -- the flows have the same
      pub flow_same : (k : ℕ) → k < length s.flows → nth Value integers row k ≡ value_there x (nth Reading (reads_at s v) symbolic k)
      flow_same = each_below (λ k. nth Value integers row k ≡ value_there x (nth Reading (reads_at s v) symbolic k)) (length s.flows) (λ n lt before.
          rows.holds n lt ∙ item_match n (omega arith) before (kind_at s.kinds n) (nth_item s.flows n) (well.flows n lt) (flow_in s n lt)
          ∙ ap (value_there x) (sym (instant.holds n lt)))

      pub there_same : (k : Option ℕ) → IsNamed (length s.flows) k → is_there Value integers row k ≡ there k
      there_same = there_at (length s.flows) (omega arith) flow_same

      pub assertion_same : (k : ℕ) → k < length s.assertions
          → is_met Value integers (found_in now inputs) row (nth_item s.assertions k) ≡ is_met Reading (reads_at s v) (found_at s v) symbolic
          (nth_item s.assertions k)
      assertion_same k lt = met_match (length s.flows) (omega arith) flow_same kind.Bool (nth_item s.assertions k) (well.assertions k lt) (assertion_in s k lt)

      pub memory_same : (m : ℕ) → m < length s.memories
          → after Value integers (found_in now inputs) row (nth_item (memory_items s) m) m ≡ at_point x
          (after Reading (reads_at s v) (found_at s v) symbolic (nth_item (memory_items s) m) m)
      memory_same m lt = after_match (length s.flows) (omega arith) flow_same (kind_at (memory_kinds s) m) (nth_item (memory_items s) m) m (well.memories m lt)
          (memory_in s m lt) lt

      -- each item is over the flows
      fits_all : (y : Item) → Contains (all_items s) y → (j : Kind) × ItemFits s (length s.flows) j y
      fits_all y w = elim (Contains-append_cases s.flows (memory_items s ++ s.assertions) y w) [
        | inl flow ↦
            let j = kind_at s.kinds flow.0 in
            let fit = wider_item s flow.0 (length s.flows) (omega (arith, flow.1)) j (nth_item s.flows flow.0) (well.flows flow.0 flow.1) in
            (j, subst (ItemFits s (length s.flows) j) (read_in s.flows y flow) fit)
        | inr rest ↦ elim (Contains-append_cases (memory_items s) s.assertions y rest) [
          | inl memory ↦
              let j = kind_at (memory_kinds s) memory.0 in
              let lt : memory.0 < length (memory_items s) = memory.1 in
              (j, subst (ItemFits s (length s.flows) j) (read_in (memory_items s) y memory) (well.memories memory.0 (simp length-map at lt)))
          | inr assertion ↦
              (kind.Bool, subst (ItemFits s (length s.flows) kind.Bool) (read_in s.assertions y assertion) (well.assertions assertion.0 assertion.1))
        ]
      ]

      clocks_named : (j : ℕ) → j < length s.flows → IsNamed (length s.flows) (nth_item s.flows j).clock
      clocks_named j lt = (wider_item s j (length s.flows) (omega (arith, lt)) (kind_at s.kinds j) (nth_item s.flows j) (well.flows j lt)).0

      -- the operands of a comparison are on its clock, which is that of a flow
      within : (c : Comparison) → Contains (all_comparisons s) c → Inside s IsTold (length s.flows) c
      within c w =
          let y = of_flat_map (item_comparisons s.flows) (all_items s) c w in
          let f = fits_all y.0 y.1 in
          inside s IsTold (length s.flows) clocks_named y.0.clock f.0 y.0.body f.1.0 f.1.1 (item_told y.0 y.1) c y.2

      pub clock_named : (c : Comparison) → Contains (all_comparisons s) c → IsNamed (length s.flows) c.clock
      clock_named c w = (within c w).named

      -- the operands of a present comparison have the same
      pub operands_same : (c : Comparison) → Contains (all_comparisons s) c → there c.clock ≡ true → AreMatched c
      operands_same c w on =
          let i = within c w in
          let same = match (length s.flows) (omega arith) flow_same c.clock i.operand in
          (same c.left i.left on i.left_all, same c.right i.right on i.right_all)
