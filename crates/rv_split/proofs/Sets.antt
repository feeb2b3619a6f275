-- A set by a test, in a store and by itself.
use Rattle.std.proofs.Common.{ℕ, zero, suc, ◌+◌, ◌<◌, ◌≡◌, ◌⊎◌, inl, inr, Bool, true, false, not, ◌&&◌, cond, List, [], ◌∷◌}
use Rattle.std.proofs.Common.{length, refl, sym, ap, ◌∙◌, subst, ⊎_elim, arith, get_or, Result, Ok, Err, IfOk}
use Rattle.std.proofs.lemmas.Bool.{cases_eq, cases_Bool, both_ways, and_parts, and_from, not-true, not_from_false}
use Rattle.std.specs.Prelude.{MatchBool}
use Rattle.rv_diagram.specs.Nodes.{Valuation, Diagrams, Answers, value_of, IsMeant, IsRef, IsOrderedOver, IsPlaced, choice, node_at, put}
use Rattle.rv_diagram.specs.Several.{Ignores, UsesNeeded}
use Rattle.rv_diagram.specs.{declared.Triple.Triple, declared.frozen.Frozen.Frozen}
use Rattle.rv_diagram.proofs.{Several.unused_ignored, Meaning.value_of-node, Meaning.value_of-constant}
use Rattle.rv_proofs.specs.Scopes.{IsIn}
use Rattle.rv_split.specs.Partitions.{IsStateSet, IsListed}
use Rattle.rv_split.specs.Splits.{IsCut, IsDivided, IsEven}
use Rattle.rv_split.specs.Steps.{IsMet}
use Rattle.rv_diagram.specs.Growing.{Extends}
use Rattle.rv_diagram.proofs.Growing.{extends_trans, grows_extends}

-- a variable is listed, or it is not
pub listed_or_not : (bits : List ℕ) (x : ℕ) → IsListed bits x ⊎ (IsListed bits x → ⊥)
listed_or_not [] x = inr (λ h. let lt : h.0 < 0 = h.1 in omega arith)
listed_or_not (y ∷ ys) x = go (cases_eq y x) (listed_or_not ys x)
  where
    go : (y ≡ x) ⊎ (y ≡ x → ⊥) → IsListed ys x ⊎ (IsListed ys x → ⊥) → IsListed (y ∷ ys) x ⊎ (IsListed (y ∷ ys) x → ⊥)
    go (inl e) r = inl (0, omega arith, e)
    go (inr ne) (inl (i, lt, e)) = inl (suc i, omega arith, e)
    go (inr ne) (inr none) = inr (λ (i, lt, e). miss i lt e)
      where
        miss : (i : ℕ) → i < suc (length ys) → get_or (y ∷ ys) i 0 ≡ x → ⊥
        miss zero lt e = ne e
        miss (suc i) lt e = none (i, omega arith, e)

-- a set of control states depends on miss variable that is not listed
pub set_ignores : (m : ℕ) (state : List ℕ) (set : Frozen) → IsStateSet m state set → (x : ℕ) → (IsListed state x → ⊥)
    → Ignores (value_of set.nodes set.root) x
set_ignores m state set is x none = unused_ignored set.nodes set.root x (λ i lt e. none (subst (λ (y : ℕ). IsListed state y) e (is.states i lt)))

pub state_set : (m : ℕ) (state : List ℕ) (f : Frozen) (meaning : Valuation → Bool) → IsOrderedOver m f → UsesNeeded f.nodes meaning
    → ((x : ℕ) → (IsListed state x → ⊥) → Ignores meaning x) → IsStateSet m state f
state_set m state f meaning ordered needed ignores = record {
  ordered = ordered;
  states = λ n lt. ⊎_elim
      (λ h. h)
      (λ none. absurd (needed (node_at f.nodes n).var (ignores (node_at f.nodes n).var none) n lt refl))
      (listed_or_not state (node_at f.nodes n).var);
}

pub needed_same : (nodes : List Triple) (f g : Valuation → Bool) → ((v : Valuation) → f v ≡ g v) → UsesNeeded nodes f → UsesNeeded nodes g
needed_same nodes f g same needed x ignored = needed x (λ v. same (put v x false) ∙ ignored v ∙ sym (same (put v x true)))

yes-is : (s t n : Bool) → n ≡ false → cond t s n ≡ (s && t)
yes-is true true n e = refl
yes-is false true n e = refl
yes-is true false n e = e
yes-is false false n e = e

no-is : (s t n : Bool) → n ≡ false → cond t n s ≡ (s && not t)
no-is true true n e = e
no-is false true n e = e
no-is true false n e = refl
no-is false false n e = refl

-- what the two choices mean
module _ (s0 s1 s2 s3 s4 : Diagrams) (set test : Frozen) (whole by never hit miss : ℕ) (p : Answers s0 s1 (value_of set.nodes set.root) whole)
    (q : Answers s1 s2 (value_of test.nodes test.root) by) (found : IsRef s2.nodes never) (none : (v : Valuation) → value_of s2.nodes never v ≡ false)
    (r : Answers s2 s3 (choice s2.nodes by whole never) hit) (t : Answers s3 s4 (choice s3.nodes by never whole) miss) where
  in_two : (v : Valuation) → value_of s2.nodes whole v ≡ value_of set.nodes set.root v
  in_two v = q.grows.kept whole p.found v ∙ p.means v

  found_two : IsRef s2.nodes whole
  found_two = omega (arith, p.found, q.grows.longer)

  pub sides_extend : Extends s0 s4
  sides_extend = extends_trans s0 s2 s4 (extends_trans s0 s1 s2 (grows_extends s0 s1 p.grows) (grows_extends s1 s2 q.grows))
      (extends_trans s2 s3 s4 (grows_extends s2 s3 r.grows) (grows_extends s3 s4 t.grows))

  pub side_yes : IsMeant s4.nodes (λ v. value_of set.nodes set.root v && value_of test.nodes test.root v) hit
  side_yes = (
    omega (arith, r.found, t.grows.longer),
    λ v. t.grows.kept hit r.found v ∙ r.means v
        ∙ yes-is (value_of s2.nodes whole v) (value_of s2.nodes by v) (value_of s2.nodes never v) (none v)
        ∙ ap (λ b. b && value_of s2.nodes by v) (in_two v) ∙ ap (λ b. value_of set.nodes set.root v && b) (q.means v),
  )

  pub side_no : IsMeant s4.nodes (λ v. value_of set.nodes set.root v && not (value_of test.nodes test.root v)) miss
  side_no = (
    t.found,
    λ v. t.means v
        ∙ no-is (value_of s3.nodes whole v) (value_of s3.nodes by v) (value_of s3.nodes never v) (r.grows.kept never found v ∙ none v)
        ∙ ap (λ b. b && not (value_of s3.nodes by v)) (r.grows.kept whole found_two v ∙ in_two v)
        ∙ ap (λ b. value_of set.nodes set.root v && not b) (r.grows.kept by q.found v ∙ q.means v),
  )

-- whether both sides have a valuation
pub divided_by : (nodes : List Triple) (set test : Frozen) (hit miss : ℕ) (a b : Bool)
    → IsMeant nodes (λ v. value_of set.nodes set.root v && value_of test.nodes test.root v) hit
    → IsMeant nodes (λ v. value_of set.nodes set.root v && not (value_of test.nodes test.root v)) miss
    → IsMet nodes hit a → IsMet nodes miss b
    → MatchBool (a && b) (IsDivided set (value_of test.nodes test.root)) (IsEven set (value_of test.nodes test.root))
divided_by nodes set test hit miss true true p q (v, on) (w, off) =
    let here : (value_of set.nodes set.root v ≡ true) × (value_of test.nodes test.root v ≡ true) =
    and_parts (value_of set.nodes set.root v) (value_of test.nodes test.root v) (sym (p.1 v) ∙ on) in
    let there : (value_of set.nodes set.root w ≡ true) × (not (value_of test.nodes test.root w) ≡ true) =
    and_parts (value_of set.nodes set.root w) (not (value_of test.nodes test.root w)) (sym (q.1 w) ∙ off) in
    record {
      here = v;
      in_here = here.0;
      holds = here.1;
      there = w;
      in_there = there.0;
      fails = not-true (value_of test.nodes test.root w) there.1;
    }
divided_by nodes set test hit miss true false p q (v, on) none = λ x y ix iy.
    let all : (u : Valuation) → IsIn set u → value_of test.nodes test.root u ≡ true = λ u iu. ⊎_elim
    (λ e. e)
    (λ e. absurd (both_ways (value_of nodes miss u) (none u) (q.1 u ∙ and_from (value_of set.nodes set.root u) (not (value_of test.nodes test.root u)) iu
    (not_from_false (value_of test.nodes test.root u) e))))
    (cases_Bool (value_of test.nodes test.root u)) in
    all x ix ∙ sym (all y iy)
divided_by nodes set test hit miss false b p q none met = λ x y ix iy.
    let all : (u : Valuation) → IsIn set u → value_of test.nodes test.root u ≡ false = λ u iu. ⊎_elim
    (λ e. absurd (both_ways (value_of nodes hit u) (none u) (p.1 u ∙ and_from (value_of set.nodes set.root u) (value_of test.nodes test.root u) iu e)))
    (λ e. e)
    (cases_Bool (value_of test.nodes test.root u)) in
    all x ix ∙ sym (all y iy)

pub cut_made : (nodes : List Triple) (set test f g : Frozen) (hit miss : ℕ)
    → IsMeant nodes (λ v. value_of set.nodes set.root v && value_of test.nodes test.root v) hit
    → IsMeant nodes (λ v. value_of set.nodes set.root v && not (value_of test.nodes test.root v)) miss
    → ((v : Valuation) → value_of f.nodes f.root v ≡ value_of nodes hit v) → ((v : Valuation) → value_of g.nodes g.root v ≡ value_of nodes miss v)
    → IsDivided set (value_of test.nodes test.root) → IsCut set (value_of test.nodes test.root) f g
cut_made nodes set test f g hit miss p q fm gm d = record {
  yes_exact = λ v. (
    λ h. and_parts (value_of set.nodes set.root v) (value_of test.nodes test.root v) (sym (fm v ∙ p.1 v) ∙ h),
    λ (a, b). fm v ∙ p.1 v ∙ and_from (value_of set.nodes set.root v) (value_of test.nodes test.root v) a b,
  );
  no_exact = λ v. (
    λ h. let parts : (value_of set.nodes set.root v ≡ true) × (not (value_of test.nodes test.root v) ≡ true) =
        and_parts (value_of set.nodes set.root v) (not (value_of test.nodes test.root v)) (sym (gm v ∙ q.1 v) ∙ h) in
        (parts.0, not-true (value_of test.nodes test.root v) parts.1),
    λ (a, b). gm v ∙ q.1 v ∙ and_from (value_of set.nodes set.root v) (not (value_of test.nodes test.root v)) a
        (not_from_false (value_of test.nodes test.root v) b),
  );
  some_yes = (d.here, fm d.here ∙ p.1 d.here ∙ and_from (value_of set.nodes set.root d.here) (value_of test.nodes test.root d.here) d.in_here d.holds);
  some_no = (
    d.there,
    gm d.there ∙ q.1 d.there ∙ and_from (value_of set.nodes set.root d.there) (not (value_of test.nodes test.root d.there)) d.in_there
        (not_from_false (value_of test.nodes test.root d.there) d.fails),
  );
}

pub states_yes : (m : ℕ) (state : List ℕ) (nodes : List Triple) (set test f : Frozen) (hit : ℕ) → IsStateSet m state set → IsStateSet m state test
    → IsMeant nodes (λ v. value_of set.nodes set.root v && value_of test.nodes test.root v) hit → IsOrderedOver m f
    → UsesNeeded f.nodes (value_of nodes hit) → IsStateSet m state f
states_yes m state nodes set test f hit s t p ordered needed =
    state_set m state f (λ v. value_of set.nodes set.root v && value_of test.nodes test.root v) ordered
    (needed_same f.nodes (value_of nodes hit) (λ v. value_of set.nodes set.root v && value_of test.nodes test.root v) p.1 needed)
    (λ x none v. ap (λ b. b && value_of test.nodes test.root (put v x false)) (set_ignores m state set s x none v)
    ∙ ap (λ b. value_of set.nodes set.root (put v x true) && b) (set_ignores m state test t x none v))

pub states_no : (m : ℕ) (state : List ℕ) (nodes : List Triple) (set test f : Frozen) (miss : ℕ) → IsStateSet m state set → IsStateSet m state test
    → IsMeant nodes (λ v. value_of set.nodes set.root v && not (value_of test.nodes test.root v)) miss → IsOrderedOver m f
    → UsesNeeded f.nodes (value_of nodes miss) → IsStateSet m state f
states_no m state nodes set test f miss s t p ordered needed =
    state_set m state f (λ v. value_of set.nodes set.root v && not (value_of test.nodes test.root v)) ordered
    (needed_same f.nodes (value_of nodes miss) (λ v. value_of set.nodes set.root v && not (value_of test.nodes test.root v)) p.1 needed)
    (λ x none v. ap (λ b. b && not (value_of test.nodes test.root (put v x false))) (set_ignores m state set s x none v)
    ∙ ap (λ b. value_of set.nodes set.root (put v x true) && not b) (set_ignores m state test t x none v))

-- the diagram of one variable
pub variable_means : (x : ℕ) (v : Valuation) → value_of (record { var = x; lo = 0; hi = 1 } ∷ []) 2 v ≡ v x
variable_means x v =
    let nodes : List Triple = record { var = x; lo = 0; hi = 1 } ∷ [] in
    value_of-node (record { var = x; lo = 0; hi = 1 } ∷ []) v 0 (omega arith) (omega arith) (omega arith)
    ∙ ap (λ b. cond (v x) b (value_of (record { var = x; lo = 0; hi = 1 } ∷ []) 0 v))
    (value_of-constant (record { var = x; lo = 0; hi = 1 } ∷ []) v 1 (omega arith))
    ∙ ap (λ b. cond (v x) true b) (value_of-constant (record { var = x; lo = 0; hi = 1 } ∷ []) v 0 (omega arith))
    ∙ itself (v x)
  where
    itself : (b : Bool) → cond b true false ≡ b
    itself true = refl
    itself false = refl

pub variable_set : (x m : ℕ) (state : List ℕ) → x < m → IsListed state x
    → IsStateSet m state (record { nodes = record { var = x; lo = 0; hi = 1 } ∷ []; root = 2 })
variable_set x m state low listed = record {
  ordered = record { placed = placed; low = below; root = (let h : 2 < 1 + 2 = omega arith in h) };
  states = here;
}
  where
    placed : (i : ℕ) → i < 1 → IsPlaced (record { var = x; lo = 0; hi = 1 } ∷ []) i
    placed zero lt = record {
      lo_earlier = omega arith;
      hi_earlier = omega arith;
      lo_greater = λ two. absurd (omega arith);
      hi_greater = λ two. absurd (omega arith);
    }
    placed (suc i) lt = absurd (omega arith)

    below : (i : ℕ) → i < 1 → (node_at (record { var = x; lo = 0; hi = 1 } ∷ []) i).var < m
    below zero lt = low
    below (suc i) lt = absurd (omega arith)

    here : (i : ℕ) → i < 1 → IsListed state (node_at (record { var = x; lo = 0; hi = 1 } ∷ []) i).var
    here zero lt = listed
    here (suc i) lt = absurd (omega arith)

pub map_ok : {A E : Type 0} (o : Result A E) (P Q : A → Type 0) → ((r : A) → P r → Q r) → IfOk o P → IfOk o Q
map_ok (Ok r) P Q f h = f r h
map_ok (Err e) P Q f h = h

pub copied_state : (m : ℕ) (state : List ℕ) (nodes : List Triple) (set f : Frozen) (r : ℕ) → IsStateSet m state set
    → ((v : Valuation) → value_of nodes r v ≡ value_of set.nodes set.root v) → IsOrderedOver m f → UsesNeeded f.nodes (value_of nodes r)
    → IsStateSet m state f
copied_state m state nodes set f r s means ordered needed =
    state_set m state f (value_of set.nodes set.root) ordered (needed_same f.nodes (value_of nodes r) (value_of set.nodes set.root) means needed)
    (set_ignores m state set s)
