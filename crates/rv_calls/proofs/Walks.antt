-- How a search in depth goes on.
use Rattle.std.proofs.Common.{◌≡◌, ℕ, zero, suc, ◌+◌, ◌-◌, ◌<◌, ◌≤◌, ◌⊎◌, inl, inr, Bool, true, false, List, [], ◌∷◌, ◌++◌, length, get_or, set, take, drop}
use Rattle.std.proofs.Common.{replicate, refl, sym, ◌∙◌, ap, subst, arith, add-one, length-take-le, Some, None as Nothing}
use Rattle.std.proofs.lemmas.List.{length-replicate, length-set, length_push, get_or-set_same, get_or-set_other, get_or-take, get_or_append_left, get_or_push}
use Rattle.std.proofs.{lemmas.Bool.cases_eq, lemmas.Bool.cases_lt, lemmas.Bool.false_from_ne_true}
use Rattle.std.proofs.lemmas.List.Elements.{Contains-append_left, Contains-push}
use Rattle.std.specs.List.{Contains}
use Rattle.rv_calls.specs.Graphs.{Graph, edges, IsGraph, Follows, IsLoop, IsWalk, IsNext, Keeps, falses}
use Rattle.rv_calls.specs.declared.graph.Walk.{Walk}
use Rattle.rv_instances.proofs.Lists.{contains_at, at_contains, equal_at, put_cases}
use Rattle.rv_base.proofs.Lists.{set_keeps}

-- no two are the same
abbrev pub AllDiffer : List ℕ → Type 0
AllDiffer xs = (i j : ℕ) → i < j → j < length xs → get_or xs i 0 ≡ get_or xs j 0 → ⊥

-- A list with one more.

snoc_at : (xs : List ℕ) (y i : ℕ) → i < length (xs ++ y ∷ []) → ((i < length xs) × (get_or (xs ++ y ∷ []) i 0 ≡ get_or xs i 0))
    ⊎ ((i ≡ length xs) × (get_or (xs ++ y ∷ []) i 0 ≡ y))
snoc_at xs y i lt = elim (cases_lt i (length xs)) [
  | inl less ↦ inl (less, get_or_append_left xs (y ∷ []) 0 i less)
  | inr more ↦ let last : i ≡ length xs = omega (arith, more, length_push xs y) in inr (last, get_or_push xs y 0 i (sym last))
]

snoc_front : (xs : List ℕ) (y i : ℕ) → i < length xs → get_or (xs ++ y ∷ []) i 0 ≡ get_or xs i 0
snoc_front xs y i lt = get_or_append_left xs (y ∷ []) 0 i lt

-- what holds of each element and of the last
pub snoc_each : (P : ℕ → Type 0) (xs : List ℕ) (y : ℕ) → ((i : ℕ) → i < length xs → P (get_or xs i 0)) → P y
    → (i : ℕ) → i < length (xs ++ y ∷ []) → P (get_or (xs ++ y ∷ []) i 0)
snoc_each P xs y each last i lt = elim (snoc_at xs y i lt) [ inl s ↦ subst P (sym s.1) (each i s.0) | inr s ↦ subst P (sym s.1) last ]

-- a new element differs from all
pub snoc_differ : (xs : List ℕ) (y : ℕ) → AllDiffer xs → ((i : ℕ) → i < length xs → get_or xs i 0 ≡ y → ⊥) → AllDiffer (xs ++ y ∷ [])
snoc_differ xs y differ new i j less lt e =
    let before : i < length xs = omega (arith, less, lt, length_push xs y) in
    let kept = snoc_front xs y i before in
    elim (snoc_at xs y j lt) [ inl s ↦ differ i j less s.0 (sym kept ∙ e ∙ s.1) | inr s ↦ new i before (sym kept ∙ e ∙ s.1) ]

-- The front of a list.

front_at : (xs : List ℕ) (i : ℕ) → i < length (take (length xs - 1) xs) → (i < length xs - 1) × (get_or (take (length xs - 1) xs) i 0 ≡ get_or xs i 0)
front_at xs i lt =
    let below : i < length xs - 1 = omega (arith, lt, length-take-le (length xs - 1) xs (omega arith)) in
    (below, get_or-take (length xs - 1) xs i 0 below)

pub front_each : (P : ℕ → Type 0) (xs : List ℕ) → ((i : ℕ) → i < length xs → P (get_or xs i 0))
    → (i : ℕ) → i < length (take (length xs - 1) xs) → P (get_or (take (length xs - 1) xs) i 0)
front_each P xs each i lt = let h = front_at xs i lt in subst P (sym h.1) (each i (omega (arith, h.0)))

-- Flags of which one is set.

set_cases : (xs : List Bool) (k j : ℕ) → get_or (set xs k true) j false ≡ true → (j ≡ k) ⊎ (get_or xs j false ≡ true)
set_cases xs k j e = elim (put_cases xs k true j false) [ inl same ↦ inl (sym same) | inr other ↦ inr (sym other ∙ e) ]

pub set_falses : (xs : List Bool) (k : ℕ) → k < length xs → get_or xs k false ≡ false → falses (set xs k true) + 1 ≡ falses xs
set_falses [] k lt e = absurd (omega arith)
set_falses (false ∷ xs) zero lt e = omega arith
set_falses (true ∷ xs) zero lt e = cc
set_falses (false ∷ xs) (suc k) lt e = omega (arith, set_falses xs k (omega arith) e)
set_falses (true ∷ xs) (suc k) lt e = set_falses xs k (omega arith) e

pub all_false : (n : ℕ) → falses (replicate n false) ≡ n
all_false zero = refl
all_false (suc n) = omega (arith, all_false n)

no_bool : {G : Type 0} (b : Bool) → b ≡ true → b ≡ false → G
no_bool b e f = cc

set_unset : (xs : List Bool) (k j : ℕ) → get_or (set xs k true) j false ≡ false → get_or xs j false ≡ false
set_unset xs k j e = false_from_ne_true (get_or xs j false) (λ is. no_bool (get_or (set xs k true) j false) (set_keeps xs k j is) e)

module _ (g : Graph) (w : Walk) (walk : IsWalk g w) where
  -- an edge of the vertex u, which has the number i on a path, leads to a finished vertex or to the next one
  abbrev IsSeen : List Bool → List ℕ → ℕ → ℕ → ℕ → Type 0
  IsSeen finished path i u j = (get_or finished (get_or (edges g u) j 0) false ≡ true)
      ⊎ ((i + 1 < length path) × (get_or path (i + 1) 0 ≡ get_or (edges g u) j 0))

  -- a vertex that has not been entered is not on the path
  fresh : (v : ℕ) → get_or w.entered v false ≡ false → (i : ℕ) → i < length w.path → get_or w.path i 0 ≡ v → ⊥
  fresh v not i lt e = no_bool (get_or w.entered v false) (subst (λ u. get_or w.entered u false ≡ true) e (walk.path_entered i lt)) not

  -- the path goes on to a vertex
  pushed : (v : ℕ) (cursor : List ℕ) → v < length g → get_or w.entered v false ≡ false
      → (0 < length w.path → Contains (edges g (get_or w.path (length w.path - 1) 0)) v) → length cursor ≡ length g → get_or cursor v 0 ≡ 0
      → ((i j : ℕ) → i < length w.path → j < get_or cursor (get_or w.path i 0) 0 → j < length (edges g (get_or w.path i 0))
      → IsSeen w.finished (w.path ++ v ∷ []) i (get_or w.path i 0) j)
      → IsWalk g (record w { entered = set w.entered v true; cursor = cursor; path = w.path ++ v ∷ [] })
  pushed v cursor within not link size start seen = record {
    entered_size = length-set w.entered v true ∙ walk.entered_size;
    finished_size = walk.finished_size;
    cursor_size = size;
    path_in = snoc_each (λ u. u < length g) w.path v walk.path_in within;
    path_entered = snoc_each (λ u. get_or (set w.entered v true) u false ≡ true) w.path v
        (λ i lt. set_keeps w.entered v (get_or w.path i 0) (walk.path_entered i lt))
        (get_or-set_same w.entered v true false (subst (λ n. v < n) (sym walk.entered_size) within));
    path_unfinished = snoc_each (λ u. get_or w.finished u false ≡ false) w.path v walk.path_unfinished
        (false_from_ne_true (get_or w.finished v false) (λ e. no_bool (get_or w.entered v false) (walk.finished_entered v within e) not));
    on_path = λ k lt is unfin. elim (set_cases w.entered v k is) [
      | inl same ↦ subst (Contains (w.path ++ v ∷ [])) (sym same) (Contains-push w.path v)
      | inr old ↦ Contains-append_left w.path (v ∷ []) k (walk.on_path k lt old unfin)
    ];
    path_once = snoc_differ w.path v walk.path_once (fresh v not);
    linked = λ i lt.
        subst (λ u. Contains (edges g u) (get_or (w.path ++ v ∷ []) (i + 1) 0)) (sym (snoc_front w.path v i (omega (arith, lt, length_push w.path v))))
        (elim (snoc_at w.path v (i + 1) lt) [
          | inl s ↦ subst (Contains (edges g (get_or w.path i 0))) (sym s.1) (walk.linked i s.0)
          | inr s ↦
              let last : length w.path - 1 ≡ i = omega (arith, s.0) in
              subst (Contains (edges g (get_or w.path i 0))) (sym s.1)
              (subst (λ k. Contains (edges g (get_or w.path k 0)) v) last (link (omega (arith, s.0))))
        ]);
    seen = λ i j lt below inside. elim (snoc_at w.path v i lt) [
      | inl s ↦
          subst (λ u. IsSeen w.finished (w.path ++ v ∷ []) i u j) (sym s.1)
          (seen i j s.0 (subst (λ u. j < get_or cursor u 0) s.1 below) (subst (λ u. j < length (edges g u)) s.1 inside))
      | inr s ↦ absurd (omega (arith, start, subst (λ u. j < get_or cursor u 0) s.1 below))
    ];
    finished_entered = λ k lt is. set_keeps w.entered v k (walk.finished_entered k lt is);
    listed = walk.listed;
    count = walk.count;
    order_in = walk.order_in;
    order_finished = walk.order_finished;
    order_once = walk.order_once;
    order_after = walk.order_after;
  }

  -- The path goes on from its last vertex to the next unfinished one.
  went_on : (v child next : ℕ) → 0 < length w.path → get_or w.path (length w.path - 1) 0 ≡ v
      → next < length (edges g v) → get_or (edges g v) next 0 ≡ child → child < length g → get_or w.entered child false ≡ false
      → ((j : ℕ) → get_or w.cursor v 0 ≤ j → j < next → get_or w.finished (get_or (edges g v) j 0) false ≡ true)
      → IsWalk g (record w { entered = set w.entered child true; cursor = set (set w.cursor v (next + 1)) child 0; path = w.path ++ child ∷ [] })
  went_on v child next some last before is within not all =
      let moved = set w.cursor v (next + 1) in
      let size : length moved ≡ length g = length-set w.cursor v (next + 1) ∙ walk.cursor_size in
      pushed child (set moved child 0) within not (λ _. subst (λ u. Contains (edges g u) child) (sym last) (at_contains (edges g v) child next before is))
      (length-set moved child 0 ∙ size) (get_or-set_same moved child 0 0 (omega (arith, size, within)))
      (λ i j lt below inside.
      let u = get_or w.path i 0 in
      let other : get_or (set moved child 0) u 0 ≡ get_or moved u 0 = get_or-set_other moved child u 0 0 (fresh child not i lt) in
      let old : j < get_or w.cursor u 0 → IsSeen w.finished (w.path ++ child ∷ []) i u j = λ less. elim (walk.seen i j lt less inside) [
        | inl done ↦ inl done
        | inr on ↦ inr (omega (arith, on.0, length_push w.path child), snoc_front w.path child (i + 1) on.0 ∙ on.1)
      ] in
      elim (cases_eq u v) [
        | inl e ↦
            let v_within : v < length w.cursor = omega (arith, walk.cursor_size, subst (λ x. x < length g) e (walk.path_in i lt)) in
            let now : get_or moved u 0 ≡ next + 1 = ap (λ x. get_or moved x 0) e ∙ get_or-set_same w.cursor v (next + 1) 0 v_within in
            elim (cases_lt j (get_or w.cursor u 0)) [
              | inl less ↦ old less
              | inr more ↦ elim (cases_eq j next) [
                | inl here ↦
                    let end : length w.path ≡ i + 1 = elim (cases_eq i (length w.path - 1)) [
                      | inl same ↦ omega (arith, some, same)
                      | inr differ ↦ absurd (walk.path_once i (length w.path - 1) (omega (arith, lt, differ)) (omega arith) (e ∙ sym last))
                    ] in
                    let at = get_or_push w.path child 0 (i + 1) end in
                    let same = ap (λ x. get_or (edges g x) j 0) e ∙ ap (λ k. get_or (edges g v) k 0) here ∙ is in
                    inr (omega (arith, end, length_push w.path child), at ∙ sym same)
                | inr away ↦ inl (subst (λ x. get_or w.finished (get_or (edges g x) j 0) false ≡ true) (sym e)
                    (all j (subst (λ x. get_or w.cursor x 0 ≤ j) e more) (omega (arith, other, now, below, away))))
              ]
            ]
        | inr apart ↦ old (subst (λ n. j < n) (other ∙ get_or-set_other w.cursor v u (next + 1) 0 apart) below)
      ])

  -- a root is entered
  began : (v : ℕ) → w.path ≡ [] → v < length g → get_or w.entered v false ≡ false
      → IsWalk g (record w { entered = set w.entered v true; cursor = set w.cursor v 0; path = w.path ++ v ∷ [] })
  began v none within not =
      pushed v (set w.cursor v 0) within not (λ some. absurd (omega (arith, some, ap length none))) (length-set w.cursor v 0 ∙ walk.cursor_size)
      (get_or-set_same w.cursor v 0 0 (subst (λ n. v < n) (sym walk.cursor_size) within)) (λ i j lt below inside. absurd (omega (arith, lt, ap length none)))

  -- A vertex is finished where all that it points to is.
  finished : (v : ℕ) → 0 < length w.path → get_or w.path (length w.path - 1) 0 ≡ v
      → ((j : ℕ) → j < length (edges g v) → get_or w.finished (get_or (edges g v) j 0) false ≡ true) → IsGraph g
      → IsWalk g (record w { finished = set w.finished v true; path = take (length w.path - 1) w.path; order = w.order ++ v ∷ [] })
  finished v some last all graph = record {
    entered_size = walk.entered_size;
    finished_size = length-set w.finished v true ∙ walk.finished_size;
    cursor_size = walk.cursor_size;
    path_in = front_each (λ u. u < length g) w.path walk.path_in;
    path_entered = front_each (λ u. get_or w.entered u false ≡ true) w.path walk.path_entered;
    path_unfinished = λ i lt.
        let h = front_at w.path i lt in
        let before : i < length w.path = omega (arith, h.0) in
        subst (λ u. get_or (set w.finished v true) u false ≡ false) (sym h.1)
        (get_or-set_other w.finished v (get_or w.path i 0) true false
        (λ e. walk.path_once i (length w.path - 1) h.0 (omega arith) (e ∙ sym last)) ∙ walk.path_unfinished i before);
    on_path = λ k lt is unfin.
        let there = contains_at w.path k (walk.on_path k lt is (set_unset w.finished v k unfin)) in
        elim (cases_eq there.0 (length w.path - 1)) [
          | inl end ↦ no_bool (get_or (set w.finished v true) k false)
              (ap (λ u. get_or (set w.finished v true) u false) (sym there.2 ∙ ap (λ z. get_or w.path z 0) end ∙ last) ∙ now) unfin
          | inr before ↦
              let cut : there.0 < length (take (length w.path - 1) w.path) = omega (arith, shorter, there.1, before) in
              at_contains (take (length w.path - 1) w.path) k there.0 cut ((front_at w.path there.0 cut).1 ∙ there.2)
        ];
    path_once = λ i j less lt e.
        let h = front_at w.path j lt in
        walk.path_once i j less (omega (arith, h.0)) (sym (front_at w.path i (omega (arith, less, lt))).1 ∙ e ∙ h.1);
    linked = λ i lt.
        let next = front_at w.path (i + 1) lt in
        subst (λ u. Contains (edges g u) (get_or (take (length w.path - 1) w.path) (i + 1) 0)) (sym (front_at w.path i (omega (arith, lt))).1)
        (subst (Contains (edges g (get_or w.path i 0))) (sym next.1) (walk.linked i (omega (arith, next.0))));
    seen = λ i j lt below inside.
        let h = front_at w.path i lt in
        subst (λ u. IsSeen (set w.finished v true) (take (length w.path - 1) w.path) i u j) (sym h.1)
        (elim (walk.seen i j (omega (arith, h.0)) (subst (λ u. j < get_or w.cursor u 0) h.1 below) (subst (λ u. j < length (edges g u)) h.1 inside)) [
          | inl done ↦ inl (set_keeps w.finished v (get_or (edges g (get_or w.path i 0)) j 0) done)
          | inr on ↦ elim (cases_eq (i + 1) (length w.path - 1)) [
            | inl end ↦ inl (ap (λ u. get_or (set w.finished v true) u false) (sym on.1 ∙ ap (λ z. get_or w.path z 0) end ∙ last) ∙ now)
            | inr before ↦
                let cut : i + 1 < length (take (length w.path - 1) w.path) = omega (arith, shorter, on.0, before) in
                inr (cut, (front_at w.path (i + 1) cut).1 ∙ on.1)
          ]
        ]);
    finished_entered = λ k lt is. elim (set_cases w.finished v k is) [
      | inl same ↦ subst (λ u. get_or w.entered u false ≡ true) (last ∙ sym same) (walk.path_entered (length w.path - 1) (omega arith))
      | inr old ↦ walk.finished_entered k lt old
    ];
    listed = λ k lt is. elim (set_cases w.finished v k is) [
      | inl same ↦ subst (Contains (w.order ++ v ∷ [])) (sym same) (Contains-push w.order v)
      | inr old ↦ Contains-append_left w.order (v ∷ []) k (walk.listed k lt old)
    ];
    count = omega (arith, set_falses w.finished v in_range unfinished, length_push w.order v, walk.count);
    order_in = snoc_each (λ u. u < length g) w.order v walk.order_in in_graph;
    order_finished = snoc_each (λ u. get_or (set w.finished v true) u false ≡ true) w.order v
        (λ i lt. set_keeps w.finished v (get_or w.order i 0) (walk.order_finished i lt)) now;
    order_once = snoc_differ w.order v walk.order_once
        (λ i lt e. no_bool (get_or w.finished v false) (subst (λ u. get_or w.finished u false ≡ true) e (walk.order_finished i lt)) unfinished);
    order_after = λ k j lt inside. elim (snoc_at w.order v k lt) [
      | inl s ↦
          let old = walk.order_after k j s.0 (subst (λ u. j < length (edges g u)) s.1 inside) in
          (old.0, old.1, snoc_front w.order v old.0 (omega (arith, old.1, s.0)) ∙ old.2 ∙ ap (λ u. get_or (edges g u) j 0) (sym s.1))
      | inr s ↦
          let inside_v = subst (λ u. j < length (edges g u)) s.1 inside in
          let there = contains_at w.order (get_or (edges g v) j 0) (walk.listed (get_or (edges g v) j 0) (graph v j in_graph inside_v) (all j inside_v)) in
          (there.0, omega (arith, there.1, s.0), snoc_front w.order v there.0 there.1 ∙ there.2 ∙ ap (λ u. get_or (edges g u) j 0) (sym s.1))
    ];
  }
    where
      shorter : length (take (length w.path - 1) w.path) ≡ length w.path - 1
      shorter = length-take-le (length w.path - 1) w.path (omega arith)

      in_graph : v < length g
      in_graph = subst (λ u. u < length g) last (walk.path_in (length w.path - 1) (omega arith))

      in_range : v < length w.finished
      in_range = subst (λ n. v < n) (sym walk.finished_size) in_graph

      unfinished : get_or w.finished v false ≡ false
      unfinished = subst (λ u. get_or w.finished u false ≡ false) last (walk.path_unfinished (length w.path - 1) (omega arith))

      now : get_or (set w.finished v true) v false ≡ true
      now = get_or-set_same w.finished v true false in_range

  -- where the cursor has passed all edges of the last vertex, what it points to is finished
  all_seen : (v : ℕ) → 0 < length w.path → get_or w.path (length w.path - 1) 0 ≡ v
      → ((j : ℕ) → get_or w.cursor v 0 ≤ j → j < length (edges g v) → get_or w.finished (get_or (edges g v) j 0) false ≡ true)
      → (j : ℕ) → j < length (edges g v) → get_or w.finished (get_or (edges g v) j 0) false ≡ true
  all_seen v some last rest j inside = elim (cases_lt j (get_or w.cursor v 0)) [
    | inl less ↦ elim (walk.seen (length w.path - 1) j (omega arith) (subst (λ u. j < get_or w.cursor u 0) (sym last) less)
        (subst (λ u. j < length (edges g u)) (sym last) inside)) [
          | inl done ↦ subst (λ u. get_or w.finished (get_or (edges g u) j 0) false ≡ true) last done
          | inr on ↦ absurd (omega (arith, on.0))
        ]
    | inr more ↦ rest j more inside
  ]

  -- where the last vertex points to one on the path, the path from there on is a loop
  looped : (v child i next : ℕ) → 0 < length w.path → get_or w.path (length w.path - 1) 0 ≡ v → next < length (edges g v) → get_or (edges g v) next 0 ≡ child
      → i < length w.path → get_or w.path i 0 ≡ child → IsLoop g (drop i w.path)
  looped v child i next some last before is lt here =
      closes w.path i (length w.path - 1) lt (omega arith)
      (λ k less. subst (λ m. Contains (edges g (get_or w.path k 0)) (get_or w.path m 0)) (add-one k) (walk.linked k (omega (arith, less))))
      (subst (Contains (edges g (get_or w.path (length w.path - 1) 0))) (sym here)
      (subst (λ u. Contains (edges g u) child) (sym last) (at_contains (edges g v) child next before is))) (walk.path_in i lt)
    where
      chain : (xs : List ℕ) (x q : ℕ) → ((i : ℕ) → suc i < length (x ∷ xs) → Contains (edges g (get_or (x ∷ xs) i 0)) (get_or xs i 0))
          → Contains (edges g (get_or (x ∷ xs) (length xs) 0)) q → Follows g x xs q
      chain [] x q linked to = to
      chain (y ∷ ys) x q linked to = (linked 0 (omega arith), chain ys y q (λ i lt. linked (suc i) (omega (arith, lt))) to)

      closes : (xs : List ℕ) (i n : ℕ) → i < length xs → length xs ≡ suc n
          → ((i : ℕ) → suc i < length xs → Contains (edges g (get_or xs i 0)) (get_or xs (suc i) 0))
          → Contains (edges g (get_or xs n 0)) (get_or xs i 0) → get_or xs i 0 < length g → IsLoop g (drop i xs)
      closes [] i n lt size linked to within = absurd (omega (arith, lt))
      closes (x ∷ xs) zero n lt size linked to within =
          (within, chain xs x x linked (subst (λ k. Contains (edges g (get_or (x ∷ xs) k 0)) x) (let e : n ≡ length xs = omega (arith, size) in e) to))
      closes (x ∷ xs) (suc i) zero lt size linked to within = absurd (omega (arith, lt, size))
      closes (x ∷ xs) (suc i) (suc n) lt size linked to within =
          closes xs i n (omega (arith, lt)) (omega (arith, size)) (λ k less. linked (suc k) (omega (arith, less))) to within

-- One step of the search, from the walk w over what `next_unfinished` leaves to the next walk.
module _ (g : Graph) (graph : IsGraph g) (w : Walk) (walk : IsWalk g w) (v : ℕ) (some : 0 < length w.path) (last : get_or w.path (length w.path - 1) 0 ≡ v)
  where
    abbrev pub IsStep : Walk → Type 0
    IsStep m = IsWalk g m × Keeps w m × (falses m.entered + falses m.finished < falses w.entered + falses w.finished)

    v_within : v < length g
    v_within = subst (λ u. u < length g) last (walk.path_in (length w.path - 1) (omega arith))

    pub left_step : (mid new : Walk) → IsNext g w v mid Nothing
        → new ≡ record mid { finished = set mid.finished v true; path = take (length mid.path - 1) mid.path; order = mid.order ++ v ∷ [] } → IsStep new
    left_step mid new next is =
        subst IsStep (sym (is ∙ ap (λ (m : Walk). record m {
          finished = set m.finished v true;
          path = take (length m.path - 1) m.path;
          order = m.order ++ v ∷ [];
        }) next.0)) (finished g w walk v some last (all_seen g w walk v some last next.1) graph, (λ k e. e), omega (arith, one))
      where
        one : falses (set w.finished v true) + 1 ≡ falses w.finished
        one = set_falses w.finished v (subst (λ n. v < n) (sym walk.finished_size) v_within)
            (subst (λ u. get_or w.finished u false ≡ false) last (walk.path_unfinished (length w.path - 1) (omega arith)))

    pub went_step : (mid new : Walk) (child : ℕ) → IsNext g w v mid (Some child) → get_or mid.entered child false ≡ false
        → new ≡ record mid { entered = set mid.entered child true; cursor = set mid.cursor child 0; path = mid.path ++ child ∷ [] } → IsStep new
    went_step mid new child next not is =
        let fresh : get_or w.entered child false ≡ false = subst (λ (m : Walk). get_or m.entered child false ≡ false) next.5 not in
        let inside : child < length g = subst (λ u. u < length g) next.2 (graph v next.0 v_within next.1) in
        let one = set_falses w.entered child (subst (λ n. child < n) (sym walk.entered_size) inside) fresh in
        subst IsStep (sym (is ∙ ap (λ (m : Walk). record m {
          entered = set m.entered child true;
          cursor = set m.cursor child 0;
          path = m.path ++ child ∷ [];
        }) next.5)) (went_on g w walk v child next.0 some last next.1 next.2 inside fresh next.4, (λ k e. set_keeps w.entered child k e), omega (arith, one))

    -- a vertex that has been entered and is not finished is on the path, and closes a loop
    pub met : (mid : Walk) (child : ℕ) → IsNext g w v mid (Some child) → get_or mid.entered child false ≡ true → Contains mid.path child
    met mid child next is =
        let entered : get_or w.entered child false ≡ true = subst (λ (m : Walk). get_or m.entered child false ≡ true) next.5 is in
        let inside : child < length g = subst (λ u. u < length g) next.2 (graph v next.0 v_within next.1) in
        subst (λ (m : Walk). Contains m.path child) (sym next.5) (walk.on_path child inside entered next.3)

    pub loop_step : (mid : Walk) (child i : ℕ) (xs : List ℕ) → IsNext g w v mid (Some child) → i < length mid.path → get_or mid.path i 0 ≡ child
        → xs ≡ drop i mid.path → IsLoop g xs
    loop_step mid child i xs next lt is from =
        let path : mid.path ≡ w.path = ap (λ (m : Walk). m.path) next.5 in
        subst (λ l. IsLoop g l) (sym (from ∙ ap (drop i) path))
        (looped g w walk v child i next.0 some last next.1 next.2 (subst (λ l. i < length l) path lt) (subst (λ l. get_or l i 0 ≡ child) path is))

-- the search at its start
pub at_start : (g : Graph) (w : Walk) → (w.entered ≡ replicate (length g) false) × (w.finished ≡ replicate (length g) false)
    × (w.cursor ≡ replicate (length g) 0) × (w.path ≡ []) × (w.order ≡ []) → IsWalk g w
at_start g w e = subst (IsWalk g) (sym same) empty
  where
    same : w ≡ record { entered = replicate (length g) false; finished = replicate (length g) false; cursor = replicate (length g) 0; path = []; order = [] }
    same = λ i. record { entered = e.0 i; finished = e.1 i; cursor = e.2 i; path = e.3 i; order = e.4 i }

    none : (k : ℕ) → get_or (replicate (length g) false) k false ≡ true → ⊥
    none k is = no_bool (get_or (replicate (length g) false) k false) is (equal_at (length g) k false)

    empty : IsWalk g (record
        { entered = replicate (length g) false; finished = replicate (length g) false; cursor = replicate (length g) 0; path = []; order = [] })
    empty = record {
      entered_size = length-replicate (length g) false;
      finished_size = length-replicate (length g) false;
      cursor_size = length-replicate (length g) 0;
      path_in = λ i lt. absurd (omega arith);
      path_entered = λ i lt. absurd (omega arith);
      path_unfinished = λ i lt. absurd (omega arith);
      on_path = λ k lt is unfin. absurd (none k is);
      path_once = λ i j less lt e. absurd (omega arith);
      linked = λ i lt. absurd (omega arith);
      seen = λ i j lt. absurd (omega arith);
      finished_entered = λ k lt is. absurd (none k is);
      listed = λ k lt is. absurd (none k is);
      count = omega (arith, all_false (length g));
      order_in = λ i lt. absurd (omega arith);
      order_finished = λ i lt. absurd (omega arith);
      order_once = λ i j less lt e. absurd (omega arith);
      order_after = λ k j lt. absurd (omega arith);
    }

-- the first vertex of a search is entered
pub root_step : (g : Graph) (w new : Walk) (v : ℕ) → IsWalk g w → w.path ≡ [] → v < length g → get_or w.entered v false ≡ false
    → new ≡ record w { entered = set w.entered v true; cursor = set w.cursor v 0; path = w.path ++ v ∷ [] }
    → IsWalk g new × Keeps w new × (get_or new.entered v false ≡ true)
root_step g w new v walk none within not is =
    let IsEntered : Walk → Type 0 = λ m. IsWalk g m × Keeps w m × (get_or m.entered v false ≡ true) in
    subst IsEntered (sym is) (
      began g w walk v none within not,
      (λ k e. set_keeps w.entered v k e),
      get_or-set_same w.entered v true false (subst (λ n. v < n) (sym walk.entered_size) within),
    )
