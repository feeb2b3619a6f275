-- The valuation that a state and an instant in whole numbers choose.
use Rattle.std.proofs.Common.{◌≡◌, ℕ, zero, suc, ◌<◌, Bool, true, false, ◌&&◌, cond, List, [], ◌∷◌, length, map, get_or, nat_eq, refl, sym, ◌∙◌, ap, subst}
use Rattle.std.proofs.Common.{arith, Option, None as Nothing, Some}
use Rattle.std.proofs.{lemmas.Bool.eqb-true, lemmas.Bool.eq-eqb, lemmas.Bool.and_parts, lemmas.List.length-map, lemmas.List.get_or-map}
use Rattle.std.proofs.{lemmas.List.get_or_default, lemmas.List.Elements.Contains-get_or}
use Rattle.std.specs.{Prelude.slice_index_or, List.Contains}
use Rattle.rv_base.specs.{declared.value.Value.Value, declared.value.Value.TheVariants.Flag}
use Rattle.rv_tree.specs.declared.tree.Op.TheVariants as op
use Rattle.rv_tree.specs.Places.{Sites}
use Rattle.rv_types.specs.Lists.{Side}
use Rattle.rv_meaning.specs.Meaning.{number}
use Rattle.rv_agreement.specs.Trees.{FlatTree, Node, Constant, System, memory_kinds, memory_places, kind_at}
use Rattle.rv_agreement.specs.Valuations.{Valuation, Comparison, all_comparisons, IsCoded, IsCodedAs}
use Rattle.rv_agreement.specs.Agreement.{State, found_in, IsTyped, IsSpelled, Spells, IsWell}
use Rattle.rv_agreement.specs.{Evaluation.value, Evaluation.integers, Checks.same_sites, Checks.same_flow}
use Rattle.rv_agreement.proofs.{LinearLemmas.told, Spelled.bits_of, Spelled.is_spelled, Spelled.is_coded_as}
use Rattle.rv_types.proofs.ChainLaws.{no_flag}

pub sites_told : (p q : Sites) → same_sites p q ≡ true → p ≡ q
sites_told [] [] e = refl
sites_told (p ∷ ps) (q ∷ qs) e = let h = and_parts (nat_eq p q) (same_sites ps qs) e in λ i. eqb-true p q h.0 i ∷ sites_told ps qs h.1 i
sites_told _ _ e = no_flag e

pub sites_itself : (p : Sites) → same_sites p p ≡ true
sites_itself [] = refl
sites_itself (p ∷ ps) = (λ i. eq-eqb p p refl i && sites_itself ps i)

pub flow_told : (p q : Option Sites) → same_flow p q ≡ true → p ≡ q
flow_told Nothing Nothing e = refl
flow_told (Some p) (Some q) e = ap Some (sites_told p q e)
flow_told _ _ e = no_flag e

pub flow_itself : (p : Option Sites) → same_flow p p ≡ true
flow_itself Nothing = refl
flow_itself (Some p) = sites_itself p

module _ (K B : Type 0) (same : K → K → Bool) (sound : (p q : K) → same p q ≡ true → p ≡ q) (itself : (p : K) → same p p ≡ true) (no : B) where
  -- what stands under a key, by its number
  abbrev look : List K → (ℕ → B) → K → B
  look [] f p = no
  look (k ∷ ks) f p = cond (same k p) (f 0) (look ks (λ j. f (suc j)) p)

  look_at : (ks : List K) (f : ℕ → B) (j : ℕ) (d : K) → j < length ks → ((i : ℕ) → i < length ks → get_or ks i d ≡ get_or ks j d → f i ≡ f j)
      → look ks f (get_or ks j d) ≡ f j
  look_at [] f j d lt alone = absurd (omega arith)
  look_at (k ∷ ks) f zero d lt alone = ap (λ b. cond b (f 0) (look ks (λ i. f (suc i)) k)) (itself k)
  look_at (k ∷ ks) f (suc j) d lt alone = elim (same k (get_or ks j d))
      as (λ b. same k (get_or ks j d) ≡ b → cond b (f 0) (look ks (λ i. f (suc i)) (get_or ks j d)) ≡ f (suc j)) [
        | true ↦ λ e. alone 0 (omega arith) (sound k (get_or ks j d) e)
        | false ↦ λ e. look_at ks (λ i. f (suc i)) j d (omega arith) (λ i lt same. alone (suc i) (omega arith) same)
      ] refl

abbrev pub no_comparison : Comparison
no_comparison = record { at = []; clock = Nothing; operator = op.And; left = Node [] (Constant (Flag false)); right = Node [] (Constant (Flag false)) }

module _ (s : System) (now : State) (inputs : List Value) (row : List (Option Value)) where
  abbrev whole : FlatTree → Value
  whole e = value Value integers (found_in now inputs) row e

  -- the truth of a test
  test_of : Side → Comparison → Bool
  test_of side c = told side (number (whole c.left)) (number (whole c.right))

  pub chosen : Valuation
  chosen = record {
    ticked = look (Option Sites) Bool same_flow flow_told flow_itself false s.ticks (λ k. slice_index_or now.ticked k false);
    kept = λ p. bits_of (look Sites Value same_sites sites_told sites_itself (Flag false) (memory_places s) (λ m. slice_index_or now.kept m (Flag false)) p);
    input = λ j. bits_of (slice_index_or inputs j (Flag false));
    test = λ p side. look Sites Bool same_sites sites_told sites_itself false (map (λ c. c.at) (all_comparisons s))
        (λ j. test_of side (slice_index_or (all_comparisons s) j no_comparison)) p;
  }

  module _ (well : IsWell s) (typed : IsTyped s now inputs) where
    tick_is : (k : ℕ) → k < length s.ticks → chosen.ticked (slice_index_or s.ticks k Nothing) ≡ slice_index_or now.ticked k false
    unfolding chosen
    tick_is k lt = look_at (Option Sites) Bool same_flow flow_told flow_itself false s.ticks (λ j. slice_index_or now.ticked j false) k Nothing lt
        (λ i less same. ap (λ j. slice_index_or now.ticked j false) (well.ticks_apart i k less lt same))

    kept_is : (m : ℕ) → m < length s.memories → chosen.kept (slice_index_or (memory_places s) m []) ≡ bits_of (slice_index_or now.kept m (Flag false))
    unfolding chosen
    kept_is m lt = ap bits_of (look_at Sites Value same_sites sites_told sites_itself (Flag false) (memory_places s)
        (λ j. slice_index_or now.kept j (Flag false)) m [] (rw length-map lt)
        (λ i less same. ap (λ j. slice_index_or now.kept j (Flag false))
        (well.memories_apart i m (let l : i < length (memory_places s) = less in simp length-map at l) lt same)))

    pub spells : Spells s chosen now inputs
    unfolding chosen
    spells = record {
      ticks = λ k lt. sym (tick_is k lt);
      memories = λ m lt. subst (λ bits. IsSpelled s.labels (kind_at (memory_kinds s) m) bits (slice_index_or now.kept m (Flag false))) (sym (kept_is m lt))
          (is_spelled s.labels (kind_at (memory_kinds s) m) (slice_index_or now.kept m (Flag false)) (typed.memories.each m (rw length-map lt)));
      given = λ j lt. is_spelled s.labels (kind_at s.inputs j) (slice_index_or inputs j (Flag false)) (typed.given.each j lt);
    }

    pub is_coded : IsCoded s chosen
    unfolding chosen
    is_coded = record {
      memories = λ m lt. subst (λ bits. IsCodedAs s.labels (kind_at (memory_kinds s) m) bits) (sym (kept_is m lt))
          (is_coded_as s.labels (kind_at (memory_kinds s) m) (slice_index_or now.kept m (Flag false)) (typed.memories.each m (rw length-map lt)));
      inputs = λ j lt. is_coded_as s.labels (kind_at s.inputs j) (slice_index_or inputs j (Flag false)) (typed.given.each j lt);
    }

    comparison_at : (c : Comparison) (w : Contains (all_comparisons s) c) → slice_index_or (all_comparisons s) w.0 no_comparison ≡ c
    comparison_at c w = get_or_default (all_comparisons s) w.0 no_comparison c w.1 ∙ w.2

    place_at : (i : ℕ) → i < length (all_comparisons s) → get_or (map (λ d. d.at) (all_comparisons s)) i
        [] ≡ (slice_index_or (all_comparisons s) i no_comparison).at
    place_at i lt = get_or-map (λ d. d.at) (all_comparisons s) i no_comparison [] lt

    same_test : (side : Side) (i j : ℕ) → i < length (all_comparisons s) → j < length (all_comparisons s)
        → get_or (map (λ d. d.at) (all_comparisons s)) i [] ≡ get_or (map (λ d. d.at) (all_comparisons s)) j []
        → test_of side (slice_index_or (all_comparisons s) i no_comparison) ≡ test_of side (slice_index_or (all_comparisons s) j no_comparison)
    unfolding test_of
    same_test side i j less lt same =
        let operands = well.apart (slice_index_or (all_comparisons s) i no_comparison) (slice_index_or (all_comparisons s) j no_comparison)
        (Contains-get_or (all_comparisons s) i no_comparison less) (Contains-get_or (all_comparisons s) j no_comparison lt)
        (sym (place_at i less) ∙ same ∙ place_at j lt) in
        λ t. told side (number (whole (operands.0 t))) (number (whole (operands.1 t)))

    -- its tests tell the truth
    pub test_is : (c : Comparison) → Contains (all_comparisons s) c → (side : Side)
        → chosen.test c.at side ≡ told side (number (whole c.left)) (number (whole c.right))
    unfolding chosen test_of
    test_is c w side =
        let places = map (λ d. d.at) (all_comparisons s) in
        let within : w.0 < length places = rw length-map w.1 in
        let here : get_or places w.0 [] ≡ c.at = place_at w.0 w.1 ∙ ap (λ d. d.at) (comparison_at c w) in
        ap (λ p. chosen.test p side) (sym here)
        ∙ look_at Sites Bool same_sites sites_told sites_itself false places
        (λ j. test_of side (slice_index_or (all_comparisons s) j no_comparison)) w.0 [] within
        (λ i less same. same_test side i w.0 (let l : i < length (map (λ d. d.at) (all_comparisons s)) = less in simp length-map at l) w.1 same)
        ∙ ap (test_of side) (comparison_at c w)
