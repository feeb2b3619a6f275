-- How marks spread over the vertices of a graph that are allowed.
use Rattle.std.proofs.Common.{◌≡◌, ℕ, zero, suc, ◌+◌, ◌<◌, inl, inr, List, [], ◌∷◌, ◌++◌, length, get_or, set, cond, nat_eq, refl, sym, ◌∙◌, ap, subst}
use Rattle.std.proofs.Common.{arith, rules, true, false, Option, Some, None as Nothing}
use Rattle.std.proofs.lemmas.List.Elements.{Contains-append_left, Contains-append_right, Contains-append_cases, Contains-push, Contains-push_cases}
use Rattle.std.proofs.{lemmas.List.get_or-set_same, lemmas.List.length-set, lemmas.List.length_push, lemmas.Bool.Decides.nat_tests}
use Rattle.std.specs.List.{Contains}
use Rattle.rv_calls.specs.Components.{Marks, mark_of, IsReached, IsSearch, IsSpread, unmarked}
use Rattle.rv_calls.specs.{Graphs.Graph, Graphs.edges, Graphs.IsGraph, Callings.LeadsTo, Callings.there, Callings.over}
use Rattle.rv_instances.proofs.Lists.{contains_at, put_cases}
use Rattle.rv_types.proofs.Members.{at_head, cons_cases, nothing_in}

-- a vertex leads on to what another leads to
pub lead_on : (g : Graph) (v a b : ℕ) → LeadsTo g v a → Contains (edges g v) b → LeadsTo g b a
lead_on g v _ b there w = let at = contains_at (edges g v) b w in over v at.0 at.1 (subst (λ u. LeadsTo g b u) (sym at.2) there)
lead_on g v _ b (over a i less rest) w = over a i less (lead_on g v (get_or (edges g a) i 0) b rest w)

pub only_one : (v k : ℕ) → Contains (v ∷ []) k → v ≡ k
only_one v k w = elim (cons_cases v [] k w) [ inl same ↦ same | inr none ↦ nothing_in k none ]

equal_itself : (r : ℕ) → nat_eq r r ≡ true
equal_itself r = search rules

not_equal : (s r : ℕ) → (s ≡ r → ⊥) → nat_eq s r ≡ false
not_equal s r apart = grind (arith, nat_tests)

put_count : (r : ℕ) (ms : Marks) (v : ℕ) → v < length ms → (mark_of ms v ≡ Some r → ⊥) → unmarked r (set ms v (Some r)) + 1 ≡ unmarked r ms
put_count r [] v lt not = absurd (omega arith)
put_count r (Nothing ∷ ms) zero lt not = ap (λ b. cond b (unmarked r ms) (unmarked r ms + 1) + 1) (equal_itself r)
put_count r (Some s ∷ ms) zero lt not =
    ap (λ b. cond b (unmarked r ms) (unmarked r ms + 1) + 1) (equal_itself r)
    ∙ ap (λ b. cond b (unmarked r ms) (unmarked r ms + 1)) (sym (not_equal s r (λ e. not (ap Some e))))
put_count r (Nothing ∷ ms) (suc v) lt not = omega (arith, put_count r ms v (omega (arith, lt)) not)
put_count r (Some s ∷ ms) (suc v) lt not =
    let again = put_count r ms v (omega (arith, lt)) not in
    elim (nat_eq s r) as (λ b. cond b (unmarked r (set ms v (Some r))) (unmarked r (set ms v (Some r)) + 1) + 1 ≡ cond b (unmarked r ms) (unmarked r ms + 1)) [
      | true ↦ again
      | false ↦ omega (arith, again)
    ]

module _ (allowed : Marks) (wanted : Option ℕ) (from : ℕ) where
  -- vertices that are not allowed, or are marked already
  pub spread_not : (vs : List ℕ) (marks : Marks) (waiting : List ℕ)
      → ((k : ℕ) → Contains vs k → mark_of allowed k ≡ wanted → mark_of marks k ≡ Some from) → IsSpread allowed wanted from vs marks waiting marks waiting
  spread_not vs marks waiting is = record {
    size = refl;
    kept = λ k. inl refl;
    marked = is;
    only = λ k e. inl e;
    waits = λ k w. w;
    waits_only = λ k w. inl w;
    count = refl;
  }

  -- a vertex that is marked now
  pub spread_one : (v : ℕ) (marks : Marks) (waiting : List ℕ) → v < length marks → mark_of allowed v ≡ wanted → (mark_of marks v ≡ Some from → ⊥)
      → IsSpread allowed wanted from (v ∷ []) marks waiting (set marks v (Some from)) (waiting ++ v ∷ [])
  spread_one v marks waiting within ok not = record {
    size = length-set marks v (Some from);
    kept = λ k. elim (put_cases marks v (Some from) k Nothing) [
      | inl same ↦ inr (subst (λ u. mark_of (set marks v (Some from)) u ≡ Some from) same put)
      | inr old ↦ inl old
    ];
    marked = λ k w e. subst (λ u. mark_of (set marks v (Some from)) u ≡ Some from) (only_one v k w) put;
    only = λ k e. elim (put_cases marks v (Some from) k Nothing) [
      | inl same ↦ inr (subst (λ u. Contains (v ∷ []) u × Contains (waiting ++ v ∷ []) u × (mark_of allowed u ≡ wanted)) same
          (at_head v [], Contains-push waiting v, ok))
      | inr old ↦ inl (sym old ∙ e)
    ];
    waits = λ k w. Contains-append_left waiting (v ∷ []) k w;
    waits_only = λ k w. elim (Contains-push_cases waiting v k w) [
      | inl old ↦ inl old
      | inr new ↦ inr (subst (λ u. mark_of (set marks v (Some from)) u ≡ Some from) new put)
    ];
    count = omega (arith, put_count from marks v within not, length_push waiting v);
  }
    where
      put : mark_of (set marks v (Some from)) v ≡ Some from
      put = get_or-set_same marks v (Some from) Nothing within

  -- some, and then others
  pub spread_more : (xs ys : List ℕ) (m1 m2 m3 : Marks) (w1 w2 w3 : List ℕ) → IsSpread allowed wanted from xs m1 w1 m2 w2
      → IsSpread allowed wanted from ys m2 w2 m3 w3 → IsSpread allowed wanted from (xs ++ ys) m1 w1 m3 w3
  spread_more xs ys m1 m2 m3 w1 w2 w3 p q = record {
    size = q.size ∙ p.size;
    kept = λ k. elim (q.kept k) [ inl e ↦ elim (p.kept k) [ inl old ↦ inl (e ∙ old) | inr new ↦ inr (e ∙ new) ] | inr new ↦ inr new ];
    marked = λ k w e. elim (Contains-append_cases xs ys k w) [ inl front ↦ still k (p.marked k front e) | inr back ↦ q.marked k back e ];
    only = λ k e. elim (q.only k e) [
      | inl old ↦ elim (p.only k old) [ inl older ↦ inl older | inr w ↦ inr (Contains-append_left xs ys k w.0, q.waits k w.1, w.2) ]
      | inr w ↦ inr (Contains-append_right xs ys k w.0, w.1, w.2)
    ];
    waits = λ k w. q.waits k (p.waits k w);
    waits_only = λ k w. elim (q.waits_only k w) [ inl old ↦ elim (p.waits_only k old) [ inl older ↦ inl older | inr e ↦ inr (still k e) ] | inr e ↦ inr e ];
    count = q.count ∙ p.count;
  }
    where
      still : (k : ℕ) → mark_of m2 k ≡ Some from → mark_of m3 k ≡ Some from
      still k e = elim (q.kept k) [ inl same ↦ same ∙ e | inr new ↦ new ]

  module _ (g : Graph) (graph : IsGraph g) (old : Marks) where
    -- the search at its start
    pub search_start : from < length g → length old ≡ length g → mark_of allowed from ≡ wanted → ((k : ℕ) → mark_of old k ≡ Some from → ⊥)
        → IsSearch g allowed wanted from old (set old from (Some from)) (from ∷ [])
    search_start within size ok fresh = record {
      size = length-set old from (Some from);
      start = put;
      sound = λ k e. subst (λ u. LeadsTo g u from) (same k e) there;
      within = λ k e. subst (λ u. (u < length g) × (mark_of allowed u ≡ wanted)) (same k e) (within, ok);
      closed = λ a b e w _. inr (subst (Contains (from ∷ [])) (same a e) (at_head from []));
      kept = λ k. elim (put_cases old from (Some from) k Nothing) [
        | inl is ↦ inr (subst (λ u. mark_of (set old from (Some from)) u ≡ Some from) is put)
        | inr e ↦ inl e
      ];
      waits = λ k w. subst (λ u. mark_of (set old from (Some from)) u ≡ Some from) (only_one from k w) put;
    }
      where
        put : mark_of (set old from (Some from)) from ≡ Some from
        put = get_or-set_same old from (Some from) Nothing (omega (arith, within, size))

        same : (k : ℕ) → mark_of (set old from (Some from)) k ≡ Some from → from ≡ k
        same k e = elim (put_cases old from (Some from) k Nothing) [ inl is ↦ is | inr before ↦ absurd (fresh k (sym before ∙ e)) ]

    -- the last that waits is a vertex
    pub search_last : (marks : Marks) (waiting rest : List ℕ) (v : ℕ) → IsSearch g allowed wanted from old marks waiting → waiting ≡ rest ++ v ∷ []
        → v < length g
    search_last marks waiting rest v s is = (s.within v (s.waits v (subst (λ l. Contains l v) (sym is) (Contains-push rest v)))).0

    -- and what it points to
    pub search_edge : (marks : Marks) (waiting rest : List ℕ) (v u : ℕ) → IsSearch g allowed wanted from old marks waiting → waiting ≡ rest ++ v ∷ []
        → Contains (edges g v) u → u < length g
    search_edge marks waiting rest v u s is w =
        let at = contains_at (edges g v) u w in
        subst (λ u. u < length g) at.2 (graph v at.0 (search_last marks waiting rest v s is) at.1)

    -- what the last waiting vertex points to is marked
    pub search_step : (marks new_marks : Marks) (waiting rest new_waiting : List ℕ) (v : ℕ) → IsSearch g allowed wanted from old marks waiting
        → waiting ≡ rest ++ v ∷ [] → IsSpread allowed wanted from (edges g v) marks rest new_marks new_waiting
        → IsSearch g allowed wanted from old new_marks new_waiting × (unmarked from new_marks + length new_waiting < unmarked from marks + length waiting)
    search_step marks new_marks waiting rest new_waiting v s is spread = (
      record {
        size = spread.size ∙ s.size;
        start = still from s.start;
        sound = λ k e. elim (spread.only k e) [ inl before ↦ s.sound k before | inr w ↦ lead_on g v from k (s.sound v v_marked) w.0 ];
        within = λ k e. elim (spread.only k e) [ inl before ↦ s.within k before | inr w ↦ (search_edge marks waiting rest v k s is w.0, w.2) ];
        closed = λ a b e w ok. elim (spread.only a e) [
          | inl before ↦ elim (s.closed a b before w ok) [
            | inl done ↦ inl (still b done)
            | inr waits ↦ elim (Contains-push_cases rest v a (subst (λ l. Contains l a) is waits)) [
              | inl front ↦ inr (spread.waits a front)
              | inr last ↦ inl (spread.marked b (subst (λ u. Contains (edges g u) b) (sym last) w) ok)
            ]
          ]
          | inr new ↦ inr new.1
        ];
        kept = λ k. elim (spread.kept k) [ inl e ↦ elim (s.kept k) [ inl before ↦ inl (e ∙ before) | inr new ↦ inr (e ∙ new) ] | inr new ↦ inr new ];
        waits = λ k w. elim (spread.waits_only k w) [
          | inl before ↦ still k (s.waits k (subst (λ l. Contains l k) (sym is) (Contains-append_left rest (v ∷ []) k before)))
          | inr new ↦ new
        ];
      },
      omega (arith, ap length is, length_push rest v, spread.count),
    )
      where
        still : (k : ℕ) → mark_of marks k ≡ Some from → mark_of new_marks k ≡ Some from
        still k e = elim (spread.kept k) [ inl same ↦ same ∙ e | inr new ↦ new ]

        v_marked : mark_of marks v ≡ Some from
        v_marked = s.waits v (subst (λ l. Contains l v) (sym is) (Contains-push rest v))

    -- nothing waits any more
    pub search_end : (marks : Marks) (waiting : List ℕ) → IsSearch g allowed wanted from old marks waiting → waiting ≡ []
        → IsReached g allowed wanted from old marks
    search_end marks waiting s none = record {
      size = s.size;
      start = s.start;
      sound = s.sound;
      within = s.within;
      closed = λ a b e w ok. elim (s.closed a b e w ok) [ inl done ↦ done | inr waits ↦ nothing_in a (subst (λ l. Contains l a) none waits) ];
      kept = s.kept;
    }
