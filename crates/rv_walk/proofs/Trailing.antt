-- From bad layers back to a run that falsifies.
use Rattle.std.proofs.Common.{ℕ, ◌+◌, ◌-◌, ◌<◌, ◌≤◌, ◌≡◌, Bool, false, cond, List, [], ◌∷◌, ◌++◌, length, zero, suc, refl, sym, ap, ◌∙◌, subst, ⊎_elim, arith}
use Rattle.std.proofs.Common.{slice_get, Some, None, Option, ℤ, IsTrue, get_or, length-append}
use Rattle.std.proofs.lemmas.Bool.{cases_lt, cases_eq, cases_Bool, eq-eqb, ne_eqb}
use Rattle.std.proofs.{lemmas.List.get_or_append_left, lemmas.List.get_or-reverse, lemmas.List.length-reverse, lemmas.Option.get_or_from_slice_get}
use Rattle.std.proofs.{lemmas.Option.slice_get-get_or, lemmas.Option.slice_get_within, Math.Seq.get_or-append_seam}
use Rattle.rv_diagram.specs.{Nodes.Valuation, Nodes.valuation_of, declared.frozen.Frozen.Frozen}
use Rattle.rv_proofs.specs.{Systems.System, Systems.HasSameState, Scopes.IsIn, Ranges.IsControlSet, Cases.IsInitialSet, Boxes.BoxClaim, Boxes.IsOpen}
use Rattle.rv_proofs.specs.{Reached.HasNoIntegers, Reached.Reaches, Reached.IsFirstReached, Reached.AreLayers, Reached.unbounded, declared.report.Layers.Layers}
use Rattle.rv_symbolic.specs.Words.{IsLeastWord, LeadsTo}
use Rattle.rv_walk.specs.Trails.{layer_at, AreControlSets, IsFirstFailing, IsTrail, IsBroken, IsTurned, IsPathThrough}
use Rattle.rv_walk.specs.{Ends.AreBadLayers, Walks.IsReached, Walks.set_at, Walks.no_set, Falsified.IsFalsifyingRun, Paths.at_instant, Paths.IsFalsifyingPath}
use Rattle.rv_walk.specs.{Paths.IsShortestPath}
use Rattle.rv_walk.proofs.{Stages.reached_in, Ending.reaches_from}

-- LAYERS

pub layer_first : (first : Frozen) (sets : List Frozen) (t : ℕ) → t ≡ 0 → layer_at first sets t ≡ first
layer_first first sets t e = ap (λ b. cond b first (set_at sets t)) (eq-eqb t 0 e)

pub layer_later : (first : Frozen) (sets : List Frozen) (t : ℕ) → (t ≡ 0 → ⊥) → layer_at first sets t ≡ set_at sets t
layer_later first sets t off = ap (λ b. cond b first (set_at sets t)) (ne_eqb t 0 off)

pub layer_got : (first : Frozen) (sets : List Frozen) (t : ℕ) (set : Frozen) → (t ≡ 0 → ⊥) → slice_get sets t ≡ Some set → layer_at first sets t ≡ set
layer_got first sets t set off got = layer_later first sets t off ∙ get_or_from_slice_get sets t set no_set got

pub layer_control : (s : System) (first : Frozen) (sets : List Frozen) (t : ℕ) → AreControlSets s first sets → t < length sets
    → IsControlSet s (layer_at first sets t)
layer_control s first sets t are low = ⊎_elim
    (λ e. subst (IsControlSet s) (sym (layer_first first sets t e)) are.initial.control)
    (λ off. subst (IsControlSet s) (sym (layer_later first sets t off)) (are.each t (set_at sets t) (slice_get-get_or sets t no_set low)))
    (cases_eq t 0)

-- TRAILS

module _ (s : System) (first : Frozen) (sets : List Frozen) (last back : ℕ) (words : List (List Bool)) (count : length words ≡ back + 1) (low : back < last)
    (t : IsTrail s first sets last words) where
  pub trail_more : (word : List Bool) → IsLeastWord s (LeadsTo s (layer_at first sets (last - 1 - back)) (get_or words back [])) word
      → IsTrail s first sets last (words ++ word ∷ [])
  trail_more word least =
      let more : List (List Bool) = words ++ word ∷ [] in
      let longer : length more ≡ length words + 1 = length-append words (word ∷ []) in
      let old : (k : ℕ) → k < length words → get_or more k [] ≡ get_or words k [] = λ k less. get_or_append_left words (word ∷ []) [] k less in
      let new : (k : ℕ) → length words ≡ k → get_or more k [] ≡ word = λ k e. subst (λ (n : ℕ). get_or more n [] ≡ word) e
      (get_or-append_seam words word [] []) in
      let at_old : (k : ℕ) → k < length words → at_instant words k ≡ at_instant more k = λ k less. sym (ap valuation_of (old k less)) in
      let at_new : (k : ℕ) → length words ≡ k → valuation_of word ≡ at_instant more k = λ k e. sym (ap valuation_of (new k e)) in
      record {
        sizes = λ k less. ⊎_elim
            (λ lt. ap length (old k lt) ∙ t.sizes k lt)
            (λ ge. ap length (new k (omega (arith, longer))) ∙ least.size)
            (cases_lt k (length words));
        allowed = λ k less. ⊎_elim
            (λ lt. subst (λ (v : Valuation). IsTrue (s.allowed v)) (at_old k lt) (t.allowed k lt))
            (λ ge. subst (λ (v : Valuation). IsTrue (s.allowed v)) (at_new k (omega (arith, longer))) least.here.allowed)
            (cases_lt k (length words));
        inside = λ k less. ⊎_elim
            (λ lt. subst (IsIn (layer_at first sets (last - k))) (at_old k lt) (t.inside k lt))
            (λ ge. let e : last - 1 - back ≡ last - k = omega (arith, longer) in
            subst (IsIn (layer_at first sets (last - k))) (at_new k (omega (arith, longer)))
            (subst (λ (n : ℕ). IsIn (layer_at first sets n) (valuation_of word)) e least.here.inside))
            (cases_lt k (length words));
        steps = λ k less. ⊎_elim
            (λ lt. subst (λ (v : Valuation). HasSameState s (s.next (at_instant more (k + 1))) v) (at_old k (omega arith))
            (subst (λ (v : Valuation). HasSameState s (s.next v) (at_instant words k)) (at_old (k + 1) lt) (t.steps k lt)))
            (λ ge. let e : back ≡ k = omega (arith, longer) in
            subst (λ (v : Valuation). HasSameState s (s.next (at_instant more (k + 1))) v) (at_old k (omega (arith, longer)))
            (subst (λ (v : Valuation). HasSameState s (s.next v) (at_instant words k)) (at_new (k + 1) (omega (arith, longer)))
            (subst (λ (n : ℕ). HasSameState s (s.next (valuation_of word)) (at_instant words n)) e least.here.next)))
            (cases_lt (k + 1) (length words));
        fails = subst (λ (v : Valuation). s.observer v ≡ false) (at_old 0 (omega arith)) t.fails;
      }

  pub trail_broken : last < length sets → ((v : Valuation) → ¬ LeadsTo s (layer_at first sets (last - 1 - back)) (get_or words back []) v)
      → IsBroken s first sets
  trail_broken within none = record {
    at = last - 1 - back;
    low = omega arith;
    word = get_or words back [];
    inside = let e : last - back ≡ last - 1 - back + 1 = omega arith in subst (λ (n : ℕ). IsIn (layer_at first sets n) (at_instant words back)) e
        (t.inside back (omega arith));
    none = none;
  }

-- RUNS

module _ (s : System) (first : Frozen) (sets : List Frozen) (without : HasNoIntegers s) (are : AreControlSets s first sets) where
  pub falsified : (words : List (List Bool)) → IsTurned s first sets words → IsFalsifyingPath s words
  falsified words r =
      let last : ℕ = r.last in
      let t : IsTrail s first sets r.last r.back = r.trail in
      let size : length words ≡ length r.back = ap length r.turned ∙ length-reverse r.back in
      let word_at : (k : ℕ) → k ≤ last → get_or words k [] ≡ get_or r.back (last - k) [] = λ k le.
      ap (λ (l : List (List Bool)). get_or l k []) r.turned ∙ get_or-reverse r.back k [] (omega (arith, r.count))
      ∙ ap (λ (n : ℕ). get_or r.back n []) (let e : length r.back - 1 - k ≡ last - k = omega (arith, r.count) in e) in
      let at : (k : ℕ) → k ≤ last → at_instant r.back (last - k) ≡ at_instant words k = λ k le. sym (ap valuation_of (word_at k le)) in
      let allowed : (k : ℕ) → k ≤ last → IsTrue (s.allowed (at_instant words k)) = λ k le.
      subst (λ (v : Valuation). IsTrue (s.allowed v)) (at k le) (t.allowed (last - k) (omega (arith, r.count))) in
      let inside : (k : ℕ) → k ≤ last → IsIn (layer_at first sets k) (at_instant words k) = λ k le.
      let e : last - (last - k) ≡ k = omega arith in
      subst (IsIn (layer_at first sets k)) (at k le) (subst (λ (n : ℕ). IsIn (layer_at first sets n) (at_instant r.back (last - k))) e
      (t.inside (last - k) (omega (arith, r.count)))) in
      record {
        last = last;
        count = size ∙ r.count;
        sizes = λ k word got.
            let less : k < length words = slice_get_within words k word got in
            ap length (sym (get_or_from_slice_get words k word [] got) ∙ word_at k (omega (arith, size, r.count)))
            ∙ t.sizes (last - k) (omega (arith, r.count));
        run = record {
          run = record {
            start = (are.initial.exact (at_instant words 0)).0 (subst (λ (f : Frozen). IsIn f (at_instant words 0)) (layer_first first sets 0 refl)
                (inside 0 (omega arith)));
            agrees = λ k low. record { size = sym without.columns; rows = λ n row less e. absurd (omega (arith, less, without.tests)) };
            control = λ k low.
                let e : last - (k + 1) + 1 ≡ last - k = omega arith in
                let step : HasSameState s (s.next (at_instant r.back (last - (k + 1) + 1))) (at_instant r.back (last - (k + 1))) =
                t.steps (last - (k + 1)) (omega (arith, r.count)) in
                subst (λ (v : Valuation). HasSameState s (s.next v) (at_instant words (k + 1))) (at k (omega arith))
                (subst (λ (n : ℕ). HasSameState s (s.next (at_instant r.back n)) (at_instant words (k + 1))) e
                (subst (HasSameState s (s.next (at_instant r.back (last - (k + 1) + 1)))) (at (k + 1) (omega arith)) step));
            memories = λ k n low less. absurd (omega (arith, less, without.memories));
          };
          allowed = λ k low. allowed k (omega arith);
          fails = subst (λ (v : Valuation). s.observer v ≡ false) (at last (omega arith))
              (let e : 0 ≡ last - last = omega arith in subst (λ (n : ℕ). s.observer (at_instant r.back n) ≡ false) e t.fails);
        };
        before = λ k less. ⊎_elim
            (λ on. on)
            (λ off. absurd (r.failing.before k less (at_instant words k)
            (record { allowed = allowed k (omega arith); inside = inside k (omega arith); fails = off })))
            (cases_Bool (s.observer (at_instant words k)));
      }

-- BAD LAYERS

module _ (s : System) (c : BoxClaim) (first : Frozen) (sets : List Frozen) (initial : IsInitialSet s first) (layers : AreLayers s c sets) where
  to_layer : (t : ℕ) (set : Frozen) (v : Valuation) → slice_get sets t ≡ Some set → IsIn set v → IsIn (layer_at first sets t) v
  to_layer t set v got on = ⊎_elim
      (λ e. let r : Reaches s c t v = (((layers.each t set got).exact v).0 on).reached in
      subst (λ (f : Frozen). IsIn f v) (sym (layer_first first sets t e)) ((initial.exact v).1 (subst (λ (n : ℕ). Reaches s c n v) e r)))
      (λ off. subst (λ (f : Frozen). IsIn f v) (sym (layer_got first sets t set off got)) on)
      (cases_eq t 0)

  pub some_failing : (v : Valuation) → IsTrue (s.allowed v) → IsTrue (c.reached v) → s.observer v ≡ false → IsFirstFailing s first sets None → ⊥
  some_failing v allowed reached off none =
      let b : (t : ℕ) × (set : Frozen) × (slice_get sets t ≡ Some set) × IsIn set v = (layers.all v).0 reached in
      none b.0 (slice_get_within sets b.0 b.1 b.2) v (record { allowed = allowed; inside = to_layer b.0 b.1 v b.2 b.3; fails = off })

  pub unbroken : IsBroken s first sets → ⊥
  unbroken b =
      let set : Frozen = set_at sets (b.at + 1) in
      let got : slice_get sets (b.at + 1) ≡ Some set = slice_get-get_or sets (b.at + 1) no_set b.low in
      let v : Valuation = valuation_of b.word in
      let next : b.at + 1 ≡ suc b.at = omega arith in
      let on : IsIn set v = subst (λ (f : Frozen). IsIn f v) (layer_later first sets (b.at + 1) (λ e. omega arith)) b.inside in
      let f : IsFirstReached s c (b.at + 1) v = ((layers.each (b.at + 1) set got).exact v).0 on in
      let r : Reaches s c (suc b.at) v = subst (λ (n : ℕ). Reaches s c n v) next f.reached in
      let low : b.at < length sets = omega (arith, b.low) in
      let before : Frozen = set_at sets b.at in
      let got_before : slice_get sets b.at ≡ Some before = slice_get-get_or sets b.at no_set low in
      let here : IsFirstReached s c b.at r.0 = record {
        reached = r.1;
        first = λ u less sooner. let e : suc u ≡ u + 1 = omega arith in f.first (u + 1) (omega arith)
            (subst (λ (n : ℕ). Reaches s c n v) e (r.0, sooner, r.2, r.3));
      } in
      b.none r.0 (record {
        allowed = r.2.allowed;
        inside = to_layer b.at before r.0 got_before (((layers.each b.at before got_before).exact r.0).1 here);
        next = r.3;
      })

-- each instant of a run is reached by as many steps
run_reaches : (s : System) (t : ℕ) (vs : ℕ → Valuation) (points : ℕ → List ℤ) → IsFalsifyingRun s t vs points → (u : ℕ) → u ≤ t → IsReached s u (vs u)
run_reaches s t vs points r zero le = r.run.start
run_reaches s t vs points r (suc u) le =
    let e : u + 1 ≡ suc u = omega arith in (
      vs u,
      run_reaches s t vs points r u (omega arith),
      r.allowed u (omega arith),
      subst (λ (n : ℕ). HasSameState s (s.next (vs u)) (vs n)) e (r.run.control u (omega arith)),
    )

pub shortest : (s : System) (l : Layers) (first : Frozen) (words : List (List Bool)) → ((c : BoxClaim) (v : Valuation) → IsOpen s c v) → AreBadLayers s l
    → IsInitialSet s first → IsTurned s first l.sets words → IsShortestPath s words
shortest s l first words opens bad initial r t vs points run =
    let v : Valuation = vs t in
    let reached : IsReached s t v = run_reaches s t vs points run t (omega arith) in
    let b : (u : ℕ) × (set : Frozen) × (slice_get l.sets u ≡ Some set) × IsIn set v =
    (bad.layers.all v).0 (reached_in s bad.reached bad.least.closed t v reached) in
    let f : IsFirstReached s (unbounded bad.reached) b.0 v = ((bad.layers.each b.0 b.1 b.2).exact v).0 b.3 in
    let size : length words ≡ r.last + 1 = ap length r.turned ∙ length-reverse r.back ∙ r.count in
    ⊎_elim
    (λ lt. absurd (f.first t lt (reaches_from s opens bad.reached bad.least.closed t v reached)))
    (λ le. ⊎_elim
    (λ lt. absurd (r.failing.before b.0 lt v (record {
      allowed = run.allowed t (omega arith);
      inside = to_layer s (unbounded bad.reached) first l.sets initial bad.layers b.0 b.1 v b.2 b.3;
      fails = run.fails;
    })))
    (λ ge. omega (arith, size))
    (cases_lt b.0 r.last))
    (cases_lt t b.0)

-- where the layers are bad a path is found
pub always_found : (s : System) (l : Layers) (first : Frozen) (o : Option (List (List Bool))) → AreBadLayers s l → IsInitialSet s first
    → IsPathThrough s first l.sets o → o ≡ None → ⊥
always_found s l first None bad initial p e = ⊎_elim
    (λ none. some_failing s (unbounded bad.reached) first l.sets initial bad.layers bad.bad.0 bad.bad.1 bad.bad.2 bad.bad.3 none)
    (λ broken. unbroken s (unbounded bad.reached) first l.sets initial bad.layers broken)
    p
always_found s l first (Some words) bad initial p e = absurd (cc)
