-- The instances that a walk comes to are all instances, in the order of their paths.
use Rattle.std.proofs.Common.{◌≡◌, ℕ, zero, suc, ◌+◌, ◌-◌, ◌<◌, ◌≤◌, inl, inr, List, [], ◌∷◌, ◌++◌, length, get_or, refl, sym, ◌∙◌, ap, subst, arith}
use Rattle.std.proofs.lemmas.List.{append_assoc, append-nil, get_or_past, Elements.Contains-get_or, Sums.sum_by-cons}
use Rattle.std.proofs.lemmas.List.Sorted.{Contains-permutation, IsPermutation-sym, sum_by-IsPermutation}
use Rattle.std.proofs.lemmas.Bool.{cases_eq, cases_lt, cases_order}
use Rattle.std.specs.List.{Contains, flat_map, sum_by}
use Rattle.rv_tree.specs.{Tree.None, Tree.NodeTree, Tree.ProgramTree, Places.Identifier, Places.index_of}
use Rattle.rv_types.specs.Instances.{CallTree, calls, Instance, no_node, callee, unrolled, main_instance, IsInstance, is_main, is_callee, name_at}
use Rattle.rv_types.specs.{Names.name_faults, Needs.IsBefore, WellFormed.AreSited, WellFormed.HasSites}
use Rattle.rv_instances.specs.{declared.answer.Instance.Instance as Numbered, AllInstances.names_of, AllInstances.AreInstances, AllInstances.numbered}
use Rattle.rv_calls.specs.Listing.{listed, all_listed, AreSorted, AreAllSorted}
use Rattle.rv_calls.specs.{declared.calls.Calling.Calling, Reach.HasNoRecursion, Callings.calling, Callings.callings, Callings.callings_of}
use Rattle.rv_instances.proofs.Lists.{length_map, beside, before_longer}
use Rattle.rv_instances.proofs.Ordered.{AreInOrder, in_order_at, in_order_flat, in_order_from}
use Rattle.rv_instances.proofs.Known.{map_at, called, calls_declared, number_of_node, node_of_number, name_declared}
use Rattle.rv_calls.proofs.{Recursions.table_at, Recursions.table_size, Recursions.tabled, Recursions.untabled, AllInstances.all_found}
use Rattle.rv_types.proofs.Members.{at_head, cons_cases, in_flat_map, in_tail, nothing_in, of_flat_map}

-- Instances in the order of their paths, and calls in that of their sites.

abbrev PathsRise : Numbered → Numbered → Type 0
PathsRise x y = IsBefore x.path y.path

abbrev SitesRise : Calling → Calling → Type 0
SitesRise c d = c.site < d.site

-- what is listed below a path begins with that
under : (t : List (List Calling)) (levels : ℕ) (path : List ℕ) (k : ℕ) (x : Numbered) → Contains (listed t levels path k) x
    → (rest : List ℕ) × (x.path ≡ path ++ rest)
under t zero path k x w = nothing_in x w
under t (suc levels) path k x w = elim (cons_cases (record { path = path; node = k })
    (flat_map (λ (c : Calling). listed t levels (path ++ c.site ∷ []) c.callee) (get_or t k [])) x w) [
      | inl same ↦ ([], ap (λ (n : Numbered). n.path) (sym same) ∙ sym (append-nil path))
      | inr rest ↦
          let c = of_flat_map (λ (c : Calling). listed t levels (path ++ c.site ∷ []) c.callee) (get_or t k []) x rest in
          let u = under t levels (path ++ c.0.site ∷ []) c.0.callee x c.2 in
          (c.0.site ∷ u.0, u.1 ∙ append_assoc path (c.0.site ∷ []) u.0)
    ]

-- and what is listed below a call goes on with its site
under_call : (t : List (List Calling)) (levels : ℕ) (path : List ℕ) (c : Calling) (x : Numbered) → Contains (listed t levels (path ++ c.site ∷ []) c.callee) x
    → (rest : List ℕ) × (x.path ≡ path ++ c.site ∷ rest)
under_call t levels path c x w = let u = under t levels (path ++ c.site ∷ []) c.callee x w in (u.0, u.1 ∙ append_assoc path (c.site ∷ []) u.0)

rising_listed : (t : List (List Calling)) → ((k : ℕ) → AreInOrder SitesRise (get_or t k [])) → (levels : ℕ) (path : List ℕ) (k : ℕ)
    → AreInOrder PathsRise (listed t levels path k)
rising_listed t sites zero path k = tt
rising_listed t sites (suc levels) path k = (
  λ y w.
      let c = of_flat_map (λ (c : Calling). listed t levels (path ++ c.site ∷ []) c.callee) (get_or t k []) y w in
      let u = under_call t levels path c.0 y c.2 in
      subst (IsBefore path) (sym u.1) (before_longer path c.0.site u.0),
  in_order_flat PathsRise SitesRise (λ (c : Calling). listed t levels (path ++ c.site ∷ []) c.callee)
      (λ c. rising_listed t sites levels (path ++ c.site ∷ []) c.callee)
      (λ c d less x y w v.
      let a = under_call t levels path c x w in
      let b = under_call t levels path d y v in
      subst (λ l. IsBefore l y.path) (sym a.1) (subst (IsBefore (path ++ c.site ∷ a.0)) (sym b.1) (beside path c.site d.site a.0 b.0 less)))
      (get_or t k []) (sites k),
)

-- How many calls have a site.

abbrev one : ℕ → Calling → ℕ
one s c = 1 - ((c.site - s) + (s - c.site))

count_in : (s : ℕ) (cs : List Calling) (k : ℕ) (d : Calling) → k < length cs → (get_or cs k d).site ≡ s → 1 ≤ sum_by (one s) cs
count_in s [] k d lt e = absurd (omega (arith, lt))
count_in s (c ∷ cs) zero d lt e = omega (arith, e, sum_by-cons (one s) c cs)
count_in s (c ∷ cs) (suc k) d lt e = omega (arith, count_in s cs k d (omega (arith, lt)) e, sum_by-cons (one s) c cs)

count_two : (s : ℕ) (cs : List Calling) (i j : ℕ) (d : Calling) → i < j → j < length cs → (get_or cs i d).site ≡ s → (get_or cs j d).site ≡ s
    → 2 ≤ sum_by (one s) cs
count_two s [] i j d less lt e f = absurd (omega (arith, lt))
count_two s (c ∷ cs) i zero d less lt e f = absurd (omega (arith, less))
count_two s (c ∷ cs) zero (suc j) d less lt e f = omega (arith, e, count_in s cs j d (omega (arith, lt)) f, sum_by-cons (one s) c cs)
count_two s (c ∷ cs) (suc i) (suc j) d less lt e f = omega (arith, count_two s cs i j d (omega (arith, less)) (omega (arith, lt)) e f, sum_by-cons (one s) c cs)

count_none : (s : ℕ) (cs : List Calling) → ((k : ℕ) (d : Calling) → k < length cs → (get_or cs k d).site ≡ s → ⊥) → sum_by (one s) cs ≡ 0
count_none s [] none = refl
count_none s (c ∷ cs) none = omega (arith, none 0 c (omega arith), count_none s cs (λ k d lt. none (suc k) d (omega (arith, lt))), sum_by-cons (one s) c cs)

abbrev AreApart : List Calling → Type 0
AreApart cs = (i j : ℕ) (d : Calling) → i < j → j < length cs → (get_or cs i d).site ≡ (get_or cs j d).site → ⊥

count_one : (s : ℕ) (cs : List Calling) → AreApart cs → sum_by (one s) cs ≤ 1
count_one s [] apart = omega arith
count_one s (c ∷ cs) apart = elim (cases_eq c.site s) [
  | inl same ↦
      let none = count_none s cs (λ k d lt e. apart 0 (suc k) d (omega arith) (omega (arith, lt)) (same ∙ sym e)) in
      omega (arith, same, none, sum_by-cons (one s) c cs)
  | inr other ↦
      let more = count_one s cs (λ i j d less lt. apart (suc i) (suc j) d (omega (arith, less)) (omega (arith, lt))) in
      omega (arith, other, more, sum_by-cons (one s) c cs)
]

-- what is sorted and apart rises
sorted_rising : (calls sorted : List Calling) → AreApart calls → AreSorted calls sorted → AreInOrder SitesRise sorted
sorted_rising calls sorted apart are = in_order_from SitesRise sorted (λ i j d less lt.
    let s = (get_or sorted j d).site in
    elim (cases_order (get_or sorted i d).site s) [
      | inl same ↦
          absurd (omega (arith, count_two s sorted i j d less lt same refl, count_one s calls apart, sum_by-IsPermutation (one s) calls sorted are.same))
      | inr (inl below) ↦ below
      | inr (inr above) ↦ absurd (omega (arith, above, are.rising i j d (omega (arith, less)) lt))
    ])

callings_apart : (names : List Identifier) (n : NodeTree) → HasSites n → AreApart (callings names (calls n))
callings_apart names n has i j d less lt e =
    let within : j < length (calls n) = omega (arith, length_map (calling names) (calls n), lt) in
    has.apart i j no_call less within
    (sym (ap (λ (c : Calling). c.site) (map_at (calling names) (calls n) i d no_call (omega (arith, less, within))))
    ∙ e ∙ ap (λ (c : Calling). c.site) (map_at (calling names) (calls n) j d no_call within))
  where
    no_call : CallTree
    no_call = record { at = 0; site = 0; name = []; args = None }

module _ (p : ProgramTree) (named : name_faults p ≡ []) (sited : AreSited p) (sorted : List (List Calling)) (are : AreAllSorted (callings_of p) sorted) where
  sites_of_sorted : (k : ℕ) → AreInOrder SitesRise (get_or sorted k [])
  sites_of_sorted k = elim (cases_lt k (length p.nodes)) [
    | inl lt ↦ sorted_rising (callings (names_of p) (calls (get_or p.nodes k no_node))) (get_or sorted k [])
        (callings_apart (names_of p) (get_or p.nodes k no_node) (sited (get_or p.nodes k no_node) (Contains-get_or p.nodes k no_node lt)))
        (subst (λ cs. AreSorted cs (get_or sorted k [])) (table_at p named k lt) (are.each k (omega (arith, table_size p named, lt))))
    | inr le ↦ subst (AreInOrder SitesRise) (sym (get_or_past sorted k [] (omega (arith, table_size p named, are.size, le)))) tt
  ]

  -- a call, sorted
  in_sorted : (k : ℕ) (c : CallTree) → k < length p.nodes → Contains (calls (get_or p.nodes k no_node)) c
      → Contains (get_or sorted k []) (calling (names_of p) c)
  in_sorted k c lt w =
      Contains-permutation (get_or (callings_of p) k []) (get_or sorted k []) (calling (names_of p) c)
      (are.each k (omega (arith, table_size p named, lt))).same (tabled p named k c lt w)

  of_sorted : (k : ℕ) (c : Calling) → k < length p.nodes → Contains (get_or sorted k []) c
      → (d : CallTree) × Contains (calls (get_or p.nodes k no_node)) d × (calling (names_of p) d ≡ c)
  of_sorted k c lt w =
      untabled p named k c lt
      (Contains-permutation (get_or sorted k []) (get_or (callings_of p) k []) c
      (IsPermutation-sym (get_or (callings_of p) k []) (get_or sorted k []) (are.each k (omega (arith, table_size p named, lt))).same) w)

  number_is : (k : ℕ) (i : Instance) → k < length p.nodes → i.node ≡ get_or p.nodes k no_node → numbered p i ≡ record { path = i.path; node = k }
  number_is k i lt is = ap (λ n. record { path = i.path; node = n }) (ap (λ (n : NodeTree). index_of (names_of p) n.name.text) is ∙ number_of_node p named k lt)

  listed_all : (levels : ℕ) (a : Instance) (k : ℕ) (i : Instance) → k < length p.nodes → a.node ≡ get_or p.nodes k no_node → Contains (unrolled p levels a) i
      → Contains (listed sorted levels a.path k) (numbered p i)
  listed_all zero a k i lt is w = nothing_in i w
  listed_all (suc levels) a k i lt is w = elim (cons_cases a (flat_map (λ (c : CallTree). unrolled p levels (callee p a c)) (calls a.node)) i w) [
    | inl same ↦ subst (λ (j : Instance). Contains (listed sorted (suc levels) a.path k) (numbered p j)) same
        (subst (λ (x : Numbered). Contains (listed sorted (suc levels) a.path k) x) (sym (number_is k a lt is))
        (at_head (record { path = a.path; node = k }) (flat_map (λ (c : Calling). listed sorted levels (a.path ++ c.site ∷ []) c.callee) (get_or sorted k []))))
    | inr rest ↦
        let c = of_flat_map (λ (c : CallTree). unrolled p levels (callee p a c)) (calls a.node) i rest in
        let here = subst (λ (n : NodeTree). Contains (calls n) c.0) is c.1 in
        let to = called p named c.0.name (calls_declared p named (get_or p.nodes k no_node) c.0 (Contains-get_or p.nodes k no_node lt) here) in
        in_tail (record { path = a.path; node = k })
        (flat_map (λ (c : Calling). listed sorted levels (a.path ++ c.site ∷ []) c.callee) (get_or sorted k [])) (numbered p i)
        (in_flat_map (λ (c : Calling). listed sorted levels (a.path ++ c.site ∷ []) c.callee) (get_or sorted k []) (calling (names_of p) c.0) (numbered p i)
        (in_sorted k c.0 lt here) (listed_all levels (callee p a c.0) (index_of (names_of p) c.0.name) i to.0 to.1 c.2))
  ]

  module _ (main : Identifier) where
    listed_only : (levels : ℕ) (a : Instance) (k : ℕ) (x : Numbered) → IsInstance p main a → k < length p.nodes → a.node ≡ get_or p.nodes k no_node
        → Contains (listed sorted levels a.path k) x → (i : Instance) × IsInstance p main i × (x ≡ numbered p i)
    listed_only zero a k x inst lt is w = nothing_in x w
    listed_only (suc levels) a k x inst lt is w = elim (cons_cases (record { path = a.path; node = k })
        (flat_map (λ (c : Calling). listed sorted levels (a.path ++ c.site ∷ []) c.callee) (get_or sorted k [])) x w) [
          | inl same ↦ (a, inst, sym same ∙ sym (number_is k a lt is))
          | inr rest ↦
              let c = of_flat_map (λ (c : Calling). listed sorted levels (a.path ++ c.site ∷ []) c.callee) (get_or sorted k []) x rest in
              let d = of_sorted k c.0 lt c.1 in
              let to = called p named d.0.name (calls_declared p named (get_or p.nodes k no_node) d.0 (Contains-get_or p.nodes k no_node lt) d.1) in
              listed_only levels (callee p a d.0) (index_of (names_of p) d.0.name) x
              (is_callee d.0 inst (subst (λ (n : NodeTree). Contains (calls n) d.0) (sym is) d.1)) to.0 to.1
              (subst (λ (e : Calling). Contains (listed sorted levels (a.path ++ e.site ∷ []) e.callee) x) (sym d.2) c.2)
        ]

  pub instances_listed : (main : ℕ) → main < length p.nodes → HasNoRecursion p → AreInstances p (name_at p main) (all_listed sorted [] main)
  instances_listed main lt none =
      let name = name_at p main in
      let root = main_instance p name in
      let is : root.node ≡ get_or p.nodes main no_node = node_of_number p named main lt in
      let levels : length sorted ≡ length p.nodes = omega (arith, table_size p named, are.size) in
      record {
        rising = in_order_at PathsRise (all_listed sorted [] main) (rising_listed sorted sites_of_sorted (length sorted) [] main);
        all = λ i inst. listed_all (length sorted) root main i lt is
            (subst (λ n. Contains (unrolled p n root) i) (sym levels) (all_found p name named none (name_declared p named main lt) i inst));
        only = λ x w. listed_only name (length sorted) root main x is_main lt is w;
      }
