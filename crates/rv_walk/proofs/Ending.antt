-- What a walk shows when it ends: the least claim, its layers, and runs through them.
use Rattle.std.proofs.Common.{ℕ, ◌+◌, ◌-◌, ◌<◌, ◌≤◌, ◌≡◌, ◌↔◌, Bool, true, false, nat_lt, cond, List, [], length, zero, suc, refl, sym, ap, ◌∙◌, subst, ⊎_elim}
use Rattle.std.proofs.Common.{arith, slice_get, Some, ℤ, IsTrue}
use Rattle.std.proofs.lemmas.Bool.{cases_lt, lt-ltb, le-ltb, both_ways}
use Rattle.std.proofs.lemmas.Option.{get_or_from_slice_get, slice_get-get_or, slice_get_within}
use Rattle.rv_diagram.specs.{Nodes.Valuation, declared.frozen.Frozen.Frozen}
use Rattle.rv_proofs.specs.Boxes.{BoxClaim, IsOpen, IsTaken, HasGoodBox}
use Rattle.rv_proofs.specs.Reached.{HasNoIntegers, Reaches, IsFirstReached, IsLayer, AreLayers, IsControlClosed, HasGoodControl, unbounded}
use Rattle.rv_proofs.specs.{Systems.System, Systems.HasSameState, Ranges.IsControlSet, Scopes.IsIn, Accepted.IsAccepted, Runs.IsSafeSystem, Cases.AreCases}
use Rattle.rv_proofs.specs.{declared.certificate.Certificate.Certificate, declared.report.Case.Case}
use Rattle.rv_walk.specs.Walks.{IsReached, IsFirst, IsStage, IsDone, set_at, no_set, location_of, certificate_of}
use Rattle.rv_walk.specs.{declared.end.BoxEnd.BoxEnd, declared.end.BoxEnd.TheVariants.Good, declared.end.BoxEnd.TheVariants.Bad, Ends.has, Ends.IsLeastControl}
use Rattle.rv_walk.specs.{Ends.IsGoodCertificate, Ends.AreBadLayers, Ends.IsEnd, Ends.IsGoodEnd, Falsified.IsFalsifyingRun, Falsified.GoesThrough}
use Rattle.rv_walk.proofs.{Certifying.accepted, Stages.done_closed, Stages.done_least, Stages.reached_in}

-- LAYERS

module _ (s : System) (opens : (c : BoxClaim) (v : Valuation) → IsOpen s c v) where
  taken_here : (c : BoxClaim) (v : Valuation) → IsTrue (s.allowed v) → IsTrue (c.reached v) → IsTaken s c v
  taken_here c v allowed reached = record { allowed = allowed; reached = reached; is_open = opens c v }

  pub reaches_from : (reached : Valuation → Bool) → IsControlClosed s reached → (t : ℕ) (v : Valuation) → IsReached s t v → Reaches s (unbounded reached) t v
  reaches_from reached closed zero v r = r
  reaches_from reached closed (suc t) v (w, r, allowed, same) =
      (w, reaches_from reached closed t w r, taken_here (unbounded reached) w allowed (reached_in s reached closed t w r), same)

pub reached_from : (s : System) (c : BoxClaim) (t : ℕ) (v : Valuation) → Reaches s c t v → IsReached s t v
reached_from s c zero v r = r
reached_from s c (suc t) v (w, r, taken, same) = (w, reached_from s c t w r, taken.allowed, same)

layer_of : (s : System) (reached : Valuation → Bool) (t : ℕ) (set : Frozen) → ((c : BoxClaim) (v : Valuation) → IsOpen s c v)
    → IsControlClosed s reached → IsStage s t set
    → IsLayer s (unbounded reached) t set
layer_of s reached t set opens closed stage = record {
  control = stage.control;
  exact = λ v. (
    λ h. let f : IsFirst s t v = (stage.exact v).0 h in record {
      reached = reaches_from s opens reached closed t v f.0;
      first = λ u less r. f.1 u less (reached_from s (unbounded reached) u v r);
    },
    λ f. (stage.exact v).1 (reached_from s (unbounded reached) t v f.reached, λ u less r. f.first u less (reaches_from s opens reached closed u v r)),
  );
}

pub done_layers : (s : System) (sets : List Frozen) (reached : Valuation → Bool) (good : Bool) → ((c : BoxClaim) (v : Valuation) → IsOpen s c v)
    → IsDone s sets reached good
    → AreLayers s (unbounded reached) sets
done_layers s sets reached good opens d =
    let closed : IsControlClosed s reached = done_closed s sets reached good d in
    let got : (t : ℕ) → t < length sets → slice_get sets t ≡ Some (set_at sets t) = λ t low. slice_get-get_or sets t no_set low in
    record {
      some = d.some;
      each = λ t set h. layer_of s reached t set opens closed (subst (IsStage s t) (get_or_from_slice_get sets t set no_set h) (d.layers t
          (slice_get_within sets t set h)));
      all = λ v. (
        λ h. let b : (t : ℕ) × (t < length sets) × (has (set_at sets t) v ≡ true) = d.held v h in (b.0, set_at sets b.0, got b.0 b.1, b.2),
        λ (t, set, h, on).
            let low : t < length sets = slice_get_within sets t set h in
            let stage : IsStage s t set = subst (IsStage s t) (get_or_from_slice_get sets t set no_set h) (d.layers t low) in
            reached_in s reached closed t v ((stage.exact v).0 on).0,
      );
    }

pub done_bad : (s : System) (sets : List Frozen) (reached : Valuation → Bool) (good : Bool) → ((c : BoxClaim) (v : Valuation) → IsOpen s c v)
    → IsDone s sets reached good → good ≡ false
    → AreBadLayers s (record { sets = sets })
done_bad s sets reached good opens d bad = record {
  reached = reached;
  least = done_least s sets reached good d;
  layers = done_layers s sets reached good opens d;
  bad = d.is_bad bad;
}

-- RUNS

-- a path to a control state, one step an instant
record IsPath (s : System) (c : BoxClaim) (t : ℕ) (v : Valuation) (vs : ℕ → Valuation) : Type 0 where
  start : IsTrue (s.initial (vs 0))
  taken : (u : ℕ) → u < t → IsTaken s c (vs u)
  steps : (u : ℕ) → u < t → HasSameState s (s.next (vs u)) (vs (u + 1))
  last : vs t ≡ v
  through : (u : ℕ) → u ≤ t → Reaches s c u (vs u)

path_longer : (s : System) (c : BoxClaim) (t : ℕ) (w v : Valuation) (old : ℕ → Valuation) → IsPath s c t w old → IsTaken s c w
    → HasSameState s (s.next w) v → Reaches s c (suc t) v
    → IsPath s c (suc t) v (λ u. cond (nat_lt u (suc t)) (old u) v)
path_longer s c t w v old p taken same whole =
    let vs : ℕ → Valuation = λ u. cond (nat_lt u (suc t)) (old u) v in
    let before : (u : ℕ) → u < suc t → vs u ≡ old u = λ u low. ap (λ b. cond b (old u) v) (lt-ltb u (suc t) low) in
    let end : (u : ℕ) → u ≡ suc t → vs u ≡ v = λ u e. ap (λ b. cond b (old u) v) (le-ltb u (suc t) (omega (arith, e))) in
    let at : (u : ℕ) → u ≡ t → vs u ≡ w = λ u e. before u (omega (arith, e)) ∙ ap old e ∙ p.last in
    record {
      start = ap s.initial (before 0 (omega arith)) ∙ p.start;
      taken = λ u low. ⊎_elim
          (λ lt. subst (IsTaken s c) (sym (before u low)) (p.taken u lt))
          (λ ge. subst (IsTaken s c) (sym (at u (omega arith))) taken)
          (cases_lt u t);
      steps = λ u low. ⊎_elim
          (λ lt. subst (λ (x : Valuation). HasSameState s (s.next x) (vs (u + 1))) (sym (before u low)) (subst (HasSameState s (s.next (old u)))
          (sym (before (u + 1) (omega arith))) (p.steps u lt)))
          (λ ge. subst (λ (x : Valuation). HasSameState s (s.next x) (vs (u + 1))) (sym (at u (omega arith))) (subst (HasSameState s (s.next w))
          (sym (end (u + 1) (omega arith))) same))
          (cases_lt u t);
      last = end (suc t) refl;
      through = λ u le. ⊎_elim
          (λ lt. subst (Reaches s c u) (sym (before u lt)) (p.through u (omega arith)))
          (λ ge. let e : u ≡ suc t = omega arith in subst (λ (x : ℕ). Reaches s c x (vs u)) (sym e) (subst (Reaches s c (suc t)) (sym (end u e)) whole))
          (cases_lt u (suc t));
    }

path_to : (s : System) (c : BoxClaim) (t : ℕ) (v : Valuation) → Reaches s c t v → (vs : ℕ → Valuation) × IsPath s c t v vs
path_to s c zero v r = (
  λ u. v,
  record {
    start = r;
    taken = λ u low. absurd (omega arith);
    steps = λ u low. absurd (omega arith);
    last = refl;
    through = λ u le. let z : 0 ≡ u = omega arith in subst (λ (x : ℕ). Reaches s c x v) z r;
  },
)
path_to s c (suc t) v (w, r, taken, same) =
    let p : (vs : ℕ → Valuation) × IsPath s c t w vs = path_to s c t w r in
    (λ u. cond (nat_lt u (suc t)) (p.0 u) v, path_longer s c t w v p.0 p.1 taken same (w, r, taken, same))

-- a control state of the path that is reached sooner has those after it reached sooner
sooner : (s : System) (c : BoxClaim) (t : ℕ) (v : Valuation) (vs : ℕ → Valuation) → IsPath s c t v vs → (u k j : ℕ) → u + j ≤ t
    → Reaches s c k (vs u) → Reaches s c (k + j) (vs (u + j))
sooner s c t v vs p u k zero le r =
    let e : k ≡ k + 0 = omega arith in let f : u ≡ u + 0 = omega arith in
    subst (λ (x : ℕ). Reaches s c x (vs (u + 0))) e (subst (λ (x : ℕ). Reaches s c k (vs x)) f r)
sooner s c t v vs p u k (suc j) le r =
    let e : suc (k + j) ≡ k + suc j = omega arith in let f : u + j + 1 ≡ u + suc j = omega arith in
    subst (λ (x : ℕ). Reaches s c x (vs (u + suc j))) e (subst (λ (x : ℕ). Reaches s c (suc (k + j)) (vs x)) f
    (vs (u + j), sooner s c t v vs p u k j (omega arith) r, p.taken (u + j) (omega arith), p.steps (u + j) (omega arith)))

pub falsify : (s : System) (c : BoxClaim) (sets : List Frozen) (t : ℕ) (set : Frozen) (v : Valuation) → HasNoIntegers s → AreLayers s c sets
    → slice_get sets t ≡ Some set
    → IsIn set v → IsTrue (s.allowed v) → s.observer v ≡ false → (vs : ℕ → Valuation) × (points : ℕ → List ℤ) × IsFalsifyingRun s t vs points
    × GoesThrough sets t vs × (vs t ≡ v)
falsify s c sets t set v without layers got on allowed off =
    let f : IsFirstReached s c t v = ((layers.each t set got).exact v).0 on in
    let p : (vs : ℕ → Valuation) × IsPath s c t v vs = path_to s c t v f.reached in
    let at : (u : ℕ) → u ≡ t → p.0 u ≡ v = λ u e. ap p.0 e ∙ p.1.last in (
      p.0,
      λ u. [],
      record {
        run = record {
          start = p.1.start;
          agrees = λ u low. record { size = sym without.columns; rows = λ n r less e. absurd (omega (arith, less, without.tests)) };
          control = λ u low. p.1.steps u (omega arith);
          memories = λ u k low less. absurd (omega (arith, less, without.memories));
        };
        allowed = λ u low. ⊎_elim (λ lt. (p.1.taken u lt).allowed) (λ ge. subst (λ (x : Valuation). IsTrue (s.allowed x)) (sym (at u
            (omega arith))) allowed) (cases_lt u t);
        fails = ap s.observer p.1.last ∙ off;
      },
      λ u x le h. ((layers.each u x h).exact (p.0 u)).1 (record {
        reached = p.1.through u le;
        first = λ k less r.
            let e : u + (t - u) ≡ t = omega arith in
            f.first (k + (t - u)) (omega arith) (subst (Reaches s c (k + (t - u))) (at (u + (t - u)) e) (sooner s c t v p.0 p.1 u k (t - u) (omega arith) r));
      }),
      p.1.last,
    )

pub unsafe : (s : System) (t : ℕ) (vs : ℕ → Valuation) (points : ℕ → List ℤ) → IsFalsifyingRun s t vs points → IsSafeSystem s → ⊥
unsafe s t vs points r safe = both_ways (s.observer (vs t)) r.fails (safe (t + 1) t vs points r.run (omega arith) r.allowed)

-- ENDS

pub good_exactly : (s : System) (thresholds : List ℤ) (e : BoxEnd) → HasGoodBox s thresholds ↔ HasGoodControl s → IsEnd s e
    → IsGoodEnd e ↔ HasGoodBox s thresholds
good_exactly s thresholds (Good c) same end = (λ yes. same.1 (has end.location.control, end.least.closed, end.good), λ h. tt)
good_exactly s thresholds (Bad l) same end = (
  λ no. absurd no,
  λ h. let g : HasGoodControl s = same.0 h in
      both_ways (s.observer end.bad.0) end.bad.3 (g.2 end.bad.0 end.bad.1 (end.least.least g.0 g.1 end.bad.0 end.bad.2)),
)

pub good_decides : (s : System) (e : BoxEnd) → HasNoIntegers s → ((c : Certificate) → IsAccepted s c → IsSafeSystem s) → IsEnd s e
    → IsGoodEnd e ↔ IsSafeSystem s
good_decides s (Good c) without safe end = (λ yes. safe c end.accepted, λ h. tt)
good_decides s (Bad l) without safe end = (
  λ no. absurd no,
  λ is. let b : (t : ℕ) × (set : Frozen) × (slice_get l.sets t ≡ Some set) × IsIn set end.bad.0 = (end.layers.all end.bad.0).0 end.bad.2 in
      let f = falsify s (unbounded end.reached) l.sets b.0 b.1 end.bad.0 without end.layers b.2 b.3 end.bad.1 end.bad.3 in
      unsafe s b.0 f.0 f.1 f.2 is,
)

pub done_good : (s : System) (sets : List Frozen) (reached : Frozen) (cases : List Case) → IsControlSet s reached → IsDone s sets (has reached) true
    → AreCases s reached cases
    → length cases ≤ 2
    → IsGoodCertificate s (certificate_of reached cases)
done_good s sets reached cases control d parts few =
    let least : IsLeastControl s (has reached) = done_least s sets (has reached) true d in
    record {
      accepted = accepted s reached cases control least.closed (d.is_good refl) parts few;
      location = location_of reached cases;
      one = refl;
      least = least;
      good = d.is_good refl;
    }
