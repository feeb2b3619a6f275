-- The chain of instances from main to the one that a walk over all has come to, and which call gives each.
use Rattle.std.proofs.Common.{◌≡◌, ℕ, zero, suc, ◌+◌, ◌<◌, ◌≤◌, ◌⊎◌, inl, inr, true, false, ◌&&◌, cond, nat_eq, List, [], ◌∷◌, ◌++◌, length, get_or, take, Some}
use Rattle.std.proofs.Common.{refl, sym, ◌∙◌, ap, subst, arith, length-append, add-one}
use Rattle.std.proofs.lemmas.List.{append-nil, get_or_append_left, get_or_push, get_or-take, length_push, length-take-le, take-append-le}
use Rattle.std.proofs.{Math.Seq.take-append_seam, Math.Seq.take-length, lemmas.Bool.cases_eq, lemmas.Bool.cases_order, lemmas.Bool.Decides.eqb_tells}
use Rattle.rv_tree.specs.Places.{Sites}
use Rattle.rv_types.specs.Needs.{IsBefore}
use Rattle.rv_instances.specs.{declared.answer.Instance.Instance as Numbered, Callees.callee_in, Layouts.path_at, Layouts.ArePaths, Layouts.AreCallees}
use Rattle.rv_instances.proofs.{Lists.before_longer, Lists.one_number, FlowPlaces.not_empty, FlowPlaces.snoc_parts, FlowPlaces.snoc_view}
use Rattle.rv_types.proofs.PlaceOrders.{not_both, not_itself}

-- what stands between a place and one that is longer by a site begins with the place
begins : (q r : Sites) (s : ℕ) → IsBefore q r → IsBefore r (q ++ s ∷ []) → (rest : Sites) × (r ≡ q ++ rest)
begins [] r s h k = (r, refl)
begins (x ∷ q) [] s h k = absurd h
begins (x ∷ q) (y ∷ r) s (inl lt) (inl less) = absurd (omega (arith, lt, less))
begins (x ∷ q) (y ∷ r) s (inl lt) (inr w) = absurd (omega (arith, lt, w.0))
begins (x ∷ q) (y ∷ r) s (inr v) (inl less) = absurd (omega (arith, less, v.0))
begins (x ∷ q) (y ∷ r) s (inr v) (inr w) = let rec = begins q r s v.1 w.1 in let same : y ≡ x = sym v.0 in (rec.0, λ i. same i ∷ rec.1 i)

-- the path of the instance before one, and how many stand on the chain to that
abbrev pub path_before : List Numbered → ℕ → Sites
path_before instances zero = []
path_before instances (suc t) = path_at instances t

abbrev pub chain_size : List Numbered → ℕ → ℕ
chain_size instances zero = 0
chain_size instances (suc t) = length (path_at instances t) + 1

-- The chain from main to the instance before one: each by its number.
pub record IsChained (instances : List Numbered) (t : ℕ) (chain : List ℕ) : Type 0 where
  pub sized : length chain ≡ chain_size instances t
  pub on : (d : ℕ) → d < length chain → (get_or chain d 0 < t) × (path_at instances (get_or chain d 0) ≡ take d (path_before instances t))

-- Of the first instances it is told which call gives each.
pub record AreToldTo (instances : List Numbered) (t : ℕ) (table : List ((ℕ × ℕ) × ℕ)) : Type 0 where
  pub found : (m s k : ℕ) → m < length instances → k < t → path_at instances k ≡ path_at instances m ++ s ∷ [] → callee_in table m s ≡ Some k
  pub within : (m s k : ℕ) → callee_in table m s ≡ Some k → k < t

-- both tests hold, or one does not
both_tell : (a b c d : ℕ) → (((nat_eq a b && nat_eq c d) ≡ true) × (a ≡ b) × (c ≡ d)) ⊎ (((nat_eq a b && nat_eq c d) ≡ false) × (a ≡ b → c ≡ d → ⊥))
both_tell a b c d = elim (eqb_tells a b) [
  | inl v ↦ elim (eqb_tells c d) [ inl w ↦ inl ((λ i. v.0 i && w.0 i), v.1, w.1) | inr w ↦ inr ((λ i. v.0 i && w.0 i), λ e f. w.1 f) ]
  | inr v ↦ inr ((λ i. v.0 i && nat_eq c d), λ e f. v.1 e)
]

module _ (instances : List Numbered) (paths : ArePaths instances) where
  one_path : (j k : ℕ) → j < length instances → k < length instances → path_at instances j ≡ path_at instances k → j ≡ k
  one_path = one_number (path_at instances) (length instances) paths.rising

  -- what calls an instance stands before it
  pub caller_before : (t s : ℕ) (q : Sites) → t < length instances → path_at instances t ≡ q ++ s ∷ [] → (j : ℕ) × (j < t) × (path_at instances j ≡ q)
  caller_before t s q lt e =
      let w = paths.closed t s q lt e in
      elim (cases_order w.0 t) [
        | inl same ↦ absurd (not_itself q (subst (IsBefore q) (sym e ∙ ap (path_at instances) (sym same) ∙ w.2) (before_longer q s [])))
        | inr (inl less) ↦ (w.0, less, w.2)
        | inr (inr after) ↦ absurd (not_both q (q ++ s ∷ []) (before_longer q s [])
            (subst (IsBefore (q ++ s ∷ [])) w.2 (subst (λ r. IsBefore r (path_at instances w.0)) e (paths.rising t w.0 after w.1))))
      ]

  -- the instance before one begins with the path of what calls that one
  before_begins : (t s : ℕ) (q : Sites) → t < length instances → path_at instances t ≡ q ++ s ∷ []
      → (rest : Sites) × (path_before instances t ≡ q ++ rest) × (chain_size instances t ≡ length q + length rest + 1)
  before_begins zero s q lt e = absurd (omega (arith, (caller_before 0 s q lt e).1))
  before_begins (suc t) s q lt e =
      let w = caller_before (suc t) s q lt e in
      let found : (rest : Sites) × (path_at instances t ≡ q ++ rest) = elim (cases_eq w.0 t) [
        | inl same ↦ ([], ap (path_at instances) (sym same) ∙ w.2 ∙ sym (append-nil q))
        | inr other ↦
            begins q (path_at instances t) s
            (subst (λ r. IsBefore r (path_at instances t)) w.2 (paths.rising w.0 t (omega (arith, w.1, other)) (omega (arith, lt))))
            (subst (IsBefore (path_at instances t)) e (paths.rising t (suc t) (omega arith) lt))
      ] in
      (found.0, found.1, omega (arith, ap length found.1, length-append q found.0))

  module _ (t : ℕ) (chain : List ℕ) (lt : t < length instances) (chained : IsChained instances t chain) where
    -- what calls the next instance is on the chain
    pub on_chain : (q : Sites) (s : ℕ) → path_at instances t ≡ q ++ s ∷ []
        → (length q < length chain) × (get_or chain (length q) 0 < t) × (path_at instances (get_or chain (length q) 0) ≡ q)
    on_chain q s e =
        let b = before_begins t s q lt e in
        let within : length q < length chain = omega (arith, chained.sized, b.2) in
        let on = chained.on (length q) within in
        (within, on.0, on.1 ∙ ap (take (length q)) b.1 ∙ take-append_seam q b.0)

    pub deep_enough : length (path_at instances t) ≤ length chain
    deep_enough = elim (snoc_view (path_at instances t)) [
      | inl none ↦ omega (arith, ap length none)
      | inr v ↦ omega (arith, ap length v.2, length-append v.0 (v.1 ∷ []), (on_chain v.0 v.1 v.2).0)
    ]

    -- the chain to the next instance
    pub next_chain : (new : List ℕ) → new ≡ take (length (path_at instances t)) chain ++ t ∷ [] → IsChained instances (t + 1) new
    next_chain new is =
        let depth = length (path_at instances t) in
        let front : length (take depth chain) ≡ depth = length-take-le depth chain deep_enough in
        let pushed = ap length is ∙ length_push (take depth chain) t in
        let size : length new ≡ depth + 1 = omega (arith, front, pushed) in
        subst (λ n. IsChained instances n new) (sym (add-one t)) (record {
          sized = size;
          on = λ d less. elim (cases_eq d depth) [
            | inl same ↦
                let last : get_or new d 0 ≡ t = ap (λ l. get_or l d 0) is ∙ get_or_push (take depth chain) t 0 d (front ∙ sym same) in
                (omega (arith, last), ap (path_at instances) last ∙ sym (take-length (path_at instances t)) ∙ ap (λ k. take k (path_at instances t)) (sym same))
            | inr other ↦
                let below : d < depth = omega (arith, less, size, other) in
                let kept : get_or new d 0 ≡ get_or chain d 0 = ap (λ l. get_or l d 0) is
                ∙ get_or_append_left (take depth chain) (t ∷ []) 0 d (omega (arith, below, front)) ∙ get_or-take depth chain d 0 below in
                let on = chained.on d (omega (arith, below, deep_enough)) in
                (omega (arith, kept, on.0), ap (path_at instances) kept ∙ on.1 ∙ shared d below)
          ];
        })
      where
        -- both paths begin with the same sites
        shared : (d : ℕ) → d < length (path_at instances t) → take d (path_before instances t) ≡ take d (path_at instances t)
        shared d below = elim (snoc_view (path_at instances t)) [
          | inl none ↦ absurd (omega (arith, ap length none, below))
          | inr v ↦
              let b = before_begins t v.1 v.0 lt v.2 in
              let le : d ≤ length v.0 = omega (arith, ap length v.2, length-append v.0 (v.1 ∷ []), below) in
              ap (take d) b.1 ∙ take-append-le d v.0 b.0 le ∙ sym (take-append-le d v.0 (v.1 ∷ []) le) ∙ ap (take d) (sym v.2)
        ]

    -- one more is told of
    pub next_told : (old new : List ((ℕ × ℕ) × ℕ)) → AreToldTo instances t old → (path_at instances t ≡ [] → new ≡ old)
        → ((q : Sites) (s m u : ℕ) → path_at instances t ≡ q ++ s ∷ []
        → callee_in new m u ≡ cond (nat_eq (get_or chain (length q) 0) m && nat_eq s u) (Some t) (callee_in old m u)) → AreToldTo instances (t + 1) new
    next_told old new told main called = elim (snoc_view (path_at instances t)) [
      | inl none ↦
          let kept = main none in
          record {
            found = λ m s k less below e. elim (cases_eq k t) [
              | inl same ↦ absurd (not_empty (path_at instances m) s [] (sym none ∙ ap (path_at instances) (sym same) ∙ e))
              | inr other ↦ ap (λ l. callee_in l m s) kept ∙ told.found m s k less (omega (arith, below, other)) e
            ];
            within = λ m s k e. let h = told.within m s k (ap (λ l. callee_in l m s) (sym kept) ∙ e) in omega (arith, h);
          }
      | inr v ↦
          let q = v.0 in
          let site = v.1 in
          let chained_at = on_chain q site v.2 in
          let caller = get_or chain (length q) 0 in
          let caller_path : path_at instances caller ≡ q = chained_at.2 in
          record {
            found = λ m s k less below e. elim (both_tell caller m site s) [
              | inl both ↦
                  let same : k ≡ t = one_path k t (omega (arith, below, lt)) lt
                  (e ∙ ap (λ j. path_at instances j ++ s ∷ []) (sym both.1) ∙ ap (λ r. r ++ s ∷ []) caller_path ∙ ap (λ u. q ++ u ∷ []) (sym both.2)
                  ∙ sym v.2) in
                  called q site m s v.2 ∙ ap (λ b. cond b (Some t) (callee_in old m s)) both.0 ∙ ap (λ j. Some j) (sym same)
              | inr apart ↦
                  called q site m s v.2 ∙ ap (λ b. cond b (Some t) (callee_in old m s)) apart.0 ∙ told.found m s k less
                  (elim (cases_eq k t) [
                    | inl same ↦
                        let parts = snoc_parts q (path_at instances m) site s (sym v.2 ∙ ap (path_at instances) (sym same) ∙ e) in
                        absurd (apart.1 (one_path caller m (omega (arith, chained_at.1, lt)) less (caller_path ∙ parts.0)) parts.1)
                    | inr other ↦ omega (arith, below, other)
                  ]) e
            ];
            within = λ m s k e. elim (both_tell caller m site s) [
              | inl both ↦ let same : Some t ≡ Some k = sym (called q site m s v.2 ∙ ap (λ b. cond b (Some t) (callee_in old m s)) both.0)
                  ∙ e in some_same k same
              | inr apart ↦ let h = told.within m s k (sym (called q site m s v.2 ∙ ap (λ b. cond b (Some t) (callee_in old m s)) apart.0) ∙ e) in
                  omega (arith, h)
            ];
          }
    ]
      where
        some_same : (k : ℕ) → Some t ≡ Some k → k < t + 1
        some_same k e = let same : t ≡ k = cc in omega (arith, same)

  pub all_told : (n : ℕ) (table : List ((ℕ × ℕ) × ℕ)) → n ≡ length instances → AreToldTo instances n table → AreCallees instances table
  all_told n table is told = record {
    found = λ m s k lt less e. told.found m s k lt (omega (arith, less, is)) e;
    within = λ m s k e. omega (arith, told.within m s k e, is);
  }
