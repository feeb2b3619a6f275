-- Where the flows of instances begin.
use Rattle.std.proofs.Common.{◌≡◌, ℕ, zero, suc, ◌+◌, ◌*◌, ◌<◌, ◌≤◌, inl, inr, List, [], ◌∷◌, ◌++◌, length, get_or, refl, sym, ◌∙◌, ap, subst, arith}
use Rattle.std.proofs.lemmas.List.{get_or_append_left, get_or-append-add, get_or_push, length-append, length-map, length_push}
use Rattle.std.proofs.{Math.Nat.suc-mul, lemmas.Bool.cases_eq}
use Rattle.std.specs.List.{Contains}
use Rattle.rv_tree.specs.{Tree.NodeTree, Tree.ProgramTree, Places.flows}
use Rattle.rv_instances.specs.Flowing.{flow_count, flow_sites, flows_below, flows_to}
use Rattle.rv_instances.specs.Layouts.{flows_before, laid_at, all_laid, all_places, path_at, IsPlaced}
use Rattle.rv_instances.specs.{declared.answer.Instance.Instance as Numbered, declared.layout.Laid.Laid, declared.flows.Flow.Flow}
use Rattle.rv_instances.proofs.{Known.map_at, Lists.length_map}

pub inputs_among : (n : NodeTree) → length n.inputs ≤ length (flows n)
inputs_among n =
    let many : length (flows n) ≡ length n.inputs + length n.outputs + length n.locals = simp (length-append, length-map) in
    omega (arith, many)

-- so many instances, each with so few flows
pub few_before : (count : ℕ → ℕ) (most m : ℕ) → ((k : ℕ) → k < m → count k ≤ most) → flows_before count m ≤ m * most
few_before count most zero few = omega arith
few_before count most (suc m) few =
    let h = few_before count most m (λ k lt. few k (omega (arith, lt))) in
    omega (arith, h, few m (omega arith), suc-mul m most)

-- an instance has its flows before those of a later one
before_rises : (count : ℕ → ℕ) (n m : ℕ) → m < n → flows_before count m + count m ≤ flows_before count n
before_rises count zero m lt = absurd (omega (arith, lt))
before_rises count (suc n) m lt = elim (cases_eq m n) [
  | inl same ↦ let e = ap (λ k. flows_before count k + count k) same in omega (arith, e)
  | inr other ↦ omega (arith, before_rises count n m (omega (arith, lt, other)))
]

-- Lists that grow by one element after the other.
module _ {X : Type 0} (item : ℕ → X) (items : ℕ → List X) (none : items 0 ≡ []) (more : (n : ℕ) → items (suc n) ≡ items n ++ item n ∷ []) where
  items_size : (n : ℕ) → length (items n) ≡ n
  items_size zero = ap length none
  items_size (suc n) = let size = ap length (more n) ∙ length_push (items n) (item n) in omega (arith, size, items_size n)

  item_at : (n m : ℕ) (d : X) → m < n → get_or (items n) m d ≡ item m
  item_at zero m d lt = absurd (omega (arith, lt))
  item_at (suc n) m d lt = ap (λ l. get_or l m d) (more n) ∙ elim (cases_eq m n) [
    | inl same ↦ get_or_push (items n) (item n) d m (items_size n ∙ sym same) ∙ ap item (sym same)
    | inr other ↦ get_or_append_left (items n) (item n ∷ []) d m (omega (arith, lt, other, items_size n)) ∙ item_at n m d (omega (arith, lt, other))
  ]

module _ (p : ProgramTree) (instances : List Numbered) where
  pub laid_size : (n : ℕ) → length (all_laid p instances n) ≡ n
  laid_size = items_size (laid_at p instances) (all_laid p instances) refl (λ n. refl)

  pub laid_is : (n m : ℕ) (d : Laid) → m < n → get_or (all_laid p instances n) m d ≡ laid_at p instances m
  laid_is = item_at (laid_at p instances) (all_laid p instances) refl (λ n. refl)

-- The numbers of flows.

pub below_size : (i n : ℕ) → length (flows_below i n) ≡ n
below_size i = items_size (λ s. record { instance = i; site = s }) (flows_below i) refl (λ n. refl)

pub below_is : (i n s : ℕ) (d : Flow) → s < n → get_or (flows_below i n) s d ≡ record { instance = i; site = s }
below_is i = item_at (λ s. record { instance = i; site = s }) (flows_below i) refl (λ n. refl)

to_size : (count : ℕ → ℕ) (n : ℕ) → length (flows_to count n) ≡ flows_before count n
to_size count zero = refl
to_size count (suc n) = omega (arith, to_size count n, length-append (flows_to count n) (flows_below n (count n)), below_size n (count n))

to_is : (count : ℕ → ℕ) (n m s : ℕ) (d : Flow) → m < n → s < count m
    → get_or (flows_to count n) (flows_before count m + s) d ≡ record { instance = m; site = s }
to_is count zero m s d lt less = absurd (omega (arith, lt))
to_is count (suc n) m s d lt less = elim (cases_eq m n) [
  | inl same ↦
      ap (λ k. get_or (flows_to count n ++ flows_below n (count n)) (k + s) d) (ap (flows_before count) same ∙ sym (to_size count n))
      ∙ get_or-append-add (flows_to count n) (flows_below n (count n)) s d ∙ below_is n (count n) s d (subst (λ k. s < count k) same less)
      ∙ ap (λ k. record { instance = k; site = s }) (sym same)
  | inr other ↦
      let before : m < n = omega (arith, lt, other) in
      get_or_append_left (flows_to count n) (flows_below n (count n)) d (flows_before count m + s)
      (omega (arith, less, to_size count n, before_rises count n m before)) ∙ to_is count n m s d before less
]

-- each flow is listed
pub in_flows : (count : ℕ → ℕ) (n i s : ℕ) → i < n → s < count i → Contains (flows_to count n) (record { instance = i; site = s })
in_flows count n i s lt less =
    (flows_before count i + s, omega (arith, less, to_size count n, before_rises count n i lt), to_is count n i s (record { instance = i; site = s }) lt less)

module _ (p : ProgramTree) (instances : List Numbered) where
  pub places_size : length (all_places p instances) ≡ flows_before (flow_count p instances) (length instances)
  places_size = length_map (flow_sites instances) (flows_to (flow_count p instances) (length instances)) ∙ to_size (flow_count p instances) (length instances)

  -- the flow with a site of the instance with a number
  pub flow_placed : (m s : ℕ) → m < length instances → s < flow_count p instances m
      → IsPlaced (all_places p instances) (flows_before (flow_count p instances) m + s) (path_at instances m ++ s ∷ [])
  unfolding in_flows
  flow_placed m s lt less =
      let at = in_flows (flow_count p instances) (length instances) m s lt less in
      let within = at.1 in
      let same = to_size (flow_count p instances) (length instances) in (
        omega (arith, within, places_size, same),
        map_at (flow_sites instances) (flows_to (flow_count p instances) (length instances)) at.0 [] (record { instance = m; site = s }) within
            ∙ ap (flow_sites instances) at.2,
      )
