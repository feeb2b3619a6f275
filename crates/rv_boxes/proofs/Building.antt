-- A closed good claim gives an accepted certificate.
use Rattle.std.proofs.Common.{◌≡◌, ◌≢◌, ℕ, zero, suc, ◌+◌, ◌-◌, ◌<◌, ◌≤◌, ℤ, pos, negsuc, ◌+ℤ◌, ◌-ℤ◌, ◌*ℤ◌, ◌≤ℤ◌, ◌<ℤ◌, List, [], ◌∷◌, ◌++◌, length, get_or}
use Rattle.std.proofs.Common.{true, false, Bool, All, Some, IsTrue, slice_get, arith, lit≤, refl, sym, ap, ◌∙◌, subst, ◌⊎◌, inl, inr, None as Nothing}
use Rattle.std.proofs.lemmas.List.{get_or_append_left, get_or-append-add, length-append, get_or_past, get_or-map}
use Rattle.std.proofs.{lemmas.Int.ints, lemmas.Bool.cases_lt, lemmas.Option.slice_get_within, lemmas.Option.get_or_from_slice_get, lemmas.Option.same_Some}
use Rattle.std.proofs.{lemmas.List.Elements.All-nil, lemmas.List.Elements.All-cons, lemmas.List.Elements.All-contains}
use Rattle.std.specs.List.{Contains}
use Rattle.rv_diagram.specs.Nodes.{Valuation}
use Rattle.rv_rows.specs.{declared.linear.Row.Row, declared.linear.Form.Form, declared.farkas.Weight.Weight, declared.farkas.Multipliers.Multipliers, Rows.dot}
use Rattle.rv_rows.specs.{Rows.Holds, Rows.coefficient, Rows.row_at, Forms.number, Forms.value, Forms.values, Forms.IsSubstituted, Multipliers.weighted}
use Rattle.rv_rows.specs.{Multipliers.Proves, Tight.Fits}
use Rattle.rv_rows.proofs.FormLemmas.{substituted_same}
use Rattle.rv_proofs.specs.Scopes.{IsIn, IsInScope, IsSettledTest, IsSettledUpdate, refutation, after, Implication, each, rows_into, implications}
use Rattle.rv_proofs.specs.Accepted.{IsAccepted, IsEntry, IsStepKind, AreImplied, Leads, IsIncluded}
use Rattle.rv_proofs.specs.Boxes.{BoxClaim, IsInBox, IsOpen, IsTaken, IsClosed, IsGood, HasOneColumn, IsUnitAt}
use Rattle.rv_proofs.specs.{Systems.System, Systems.IsSystem, Counts.HasLoop, Counts.IsLoopKind, Counts.HasKindCounts, Ranges.IsInRange, Ranges.IsRecord}
use Rattle.rv_proofs.specs.{Ranges.HasDivisor, Ranges.AreKept, Implied.AreTestRows, Implied.AreForms, Implied.IsImplied, Implied.form_at, Samples.by_one}
use Rattle.rv_proofs.specs.{declared.certificate.Certificate.Certificate, declared.certificate.Location.Location, declared.certificate.Entry.Entry}
use Rattle.rv_proofs.specs.{declared.certificate.EntryKind.EntryKind, declared.certificate.EntryKind.TheVariants.Dead}
use Rattle.rv_proofs.specs.{declared.certificate.EntryKind.TheVariants.Go, declared.certificate.EntryKind.TheVariants.Loop}
use Rattle.rv_proofs.proofs.{Settling.settled_from_implied, Sampling.prove_one}
use Rattle.rv_walk.specs.Plain.{ArePlain}
use Rattle.rv_boxes.specs.Built.{nothing, IsUpperRow, IsLowerRow, AreBounds, IsReached, IsBuiltKind, IsToldCase, IsClaimedAt, AreBoundsAt, IsBuiltEntry}
use Rattle.rv_boxes.specs.Built.{IsBuiltLocation, IsBuilt}
use Rattle.rv_boxes.specs.{declared.peaks.Peak.Peak, Boxed.IsBoxed, Boxed.IsOpenBox, Boxed.IsGreatest, Boxed.IsUnbounded, Boxed.IsVoid}
use Rattle.rv_boxes.proofs.{Shutting.record_from, Shutting.IsRanged, BoxLemmas.unit_value, BoxLemmas.unit_has_one}

-- premises of lists and of tests
pub test_at : (given rows : List Row) (t : ℕ) → row_at (given ++ rows) (length given + t) ≡ row_at rows t
test_at given rows t = get_or-append-add given rows t nothing

given_at : (given rows : List Row) (p : ℕ) → p < length given → row_at (given ++ rows) p ≡ row_at given p
given_at given rows p l = get_or_append_left given rows nothing p l

all_each : (P : Implication → Type 0) (given rows : List Row) (by : List Multipliers)
    → ((n : ℕ) (r : Row) (m : Multipliers) → slice_get rows n ≡ Some r → slice_get by n ≡ Some m → P (record { given = given; wanted = after r; by = m }))
    → All P (each after given rows by)
all_each P given [] by h = All-nil P
all_each P given (r ∷ rs) [] h = All-nil P
all_each P given (r ∷ rs) (m ∷ ms) h = All-cons P (record { given = given; wanted = after r; by = m }) (each after given rs ms) (h 0 r m refl refl)
    (all_each P given rs ms (λ n. h (suc n)))

module _ (s : System) (c : BoxClaim) (l : Location) (e : Entry) (built : IsToldCase s e) (claimed : IsClaimedAt s c l) where
  -- a point of the premises' box is one of the valuation's
  pub in_box : (v : Valuation) → IsIn e.condition v → IsIn l.control v → (point : List ℤ) → IsBoxed s.columns (l.state ++ built.tests) point
      → IsInBox s c v point
  in_box v i inside point b = record {
    size = b.size;
    lower = λ on k x k_in at. lower k x at ((claimed.bounds v inside on).lower k x k_in at);
    upper = λ on k x k_in at. upper k x at ((claimed.bounds v inside on).upper k x k_in at);
    narrow = λ t r t_in at one. narrow t r t_in at one (built.told.told t t_in);
  }
    where
      among : (p : ℕ) → p < length l.state → p < length (l.state ++ built.tests)
      among p m = let a = length-append l.state built.tests in omega arith

      holds : (p k : ℕ) (z : ℤ) → z ≢ pos 0 → p < length l.state → IsUnitAt (row_at l.state p) k z
          → dot (row_at l.state p).coefficients point ≤ℤ (row_at l.state p).bound
      holds p k z ne m u =
          let q = given_at l.state built.tests p m in
          let one : HasOneColumn (row_at (l.state ++ built.tests) p) = subst HasOneColumn (sym q) (unit_has_one (row_at l.state p) k z ne u) in
          subst (λ (r : Row). Holds r point) q (b.holds p (among p m) one)

      upper : (k : ℕ) (x : ℤ) → c.upper k ≡ Some x → (p : ℕ) × (p < length l.state) × IsUpperRow c k (row_at l.state p) → number k point ≤ℤ x
      upper k x at (p, m, (u, is_bound)) =
          below (dot (row_at l.state p).coefficients point) (number k point) (row_at l.state p).bound x
          (unit_value (row_at l.state p) k (pos 1) point u) (holds p k (pos 1) (λ (q : pos 1 ≡ pos 0). omega (arith, ints)) m u)
          (same_Some (row_at l.state p).bound x (sym is_bound ∙ at))
        where
          below : (d n b x : ℤ) → d ≡ pos 1 *ℤ n → d ≤ℤ b → b ≡ x → n ≤ℤ x
          below d n b x f g h = omega (arith, ints)

      lower : (k : ℕ) (x : ℤ) → c.lower k ≡ Some x → (p : ℕ) × (p < length l.state) × IsLowerRow c k (row_at l.state p) → x ≤ℤ number k point
      lower k x at (p, m, (u, (y, is_y, is_bound))) =
          above (dot (row_at l.state p).coefficients point) (number k point) (row_at l.state p).bound y x
          (unit_value (row_at l.state p) k (negsuc 0) point u) (holds p k (negsuc 0) (λ (q : negsuc 0 ≡ pos 0). omega (arith, ints)) m u)
          is_bound (same_Some y x (sym is_y ∙ at))
        where
          above : (d n b y x : ℤ) → d ≡ negsuc 0 *ℤ n → d ≤ℤ b → b ≡ pos 0 -ℤ y → y ≡ x → x ≤ℤ n
          above d n b y x f g h i = omega (arith, ints)

      narrow : (t : ℕ) (r : Row) → t < s.tests → s.row v t ≡ Some r → HasOneColumn r
          → ((w : Valuation) → IsIn e.condition w → s.row w t ≡ Some (row_at built.tests t))
          ⊎ (((w : Valuation) → IsIn e.condition w → s.row w t ≡ Nothing) × (row_at built.tests t ≡ nothing)) → Holds r point
      narrow t r t_in at one (inl same) =
          let q : r ≡ row_at built.tests t = same_Some r (row_at built.tests t) (sym at ∙ same v i) in
          let z = built.told.size in
          let a = length-append l.state built.tests in
          let f : row_at (l.state ++ built.tests) (length l.state + t) ≡ r = test_at l.state built.tests t ∙ sym q in
          subst (λ (u : Row). Holds u point) f (b.holds (length l.state + t) (omega arith) (subst HasOneColumn (sym f) one))
      narrow t r t_in at one (inr (absent, void)) = absurd (some_none r (sym at ∙ absent v i))
        where
          some_none : (r : Row) → Some r ≡ Nothing → ⊥
          some_none r f = cc

  pub taken : IsOpenBox s.columns (l.state ++ built.tests) → (v : Valuation) → IsIn e.condition v → IsIn l.control v → IsTaken s c v
  taken o v i inside = record {
    allowed = built.allowed v i;
    reached = claimed.reached v inside;
    is_open = record {
      some = (o.some.0, in_box v i inside o.some.0 o.some.1);
      rows = λ t r t_in at. rows t r t_in at (built.told.told t t_in);
    };
  }
    where
      rows : (t : ℕ) (r : Row) → t < s.tests → s.row v t ≡ Some r
          → ((w : Valuation) → IsIn e.condition w → s.row w t ≡ Some (row_at built.tests t))
          ⊎ (((w : Valuation) → IsIn e.condition w → s.row w t ≡ Nothing) × (row_at built.tests t ≡ nothing))
          → (point : List ℤ) × IsInBox s c v point × Holds r point
      rows t r t_in at (inl same) =
          let q : r ≡ row_at built.tests t = same_Some r (row_at built.tests t) (sym at ∙ same v i) in
          let z = built.told.size in
          let a = length-append l.state built.tests in
          let f : row_at (l.state ++ built.tests) (length l.state + t) ≡ r = test_at l.state built.tests t ∙ sym q in
          let (point, b, h) = o.each (length l.state + t) (omega arith) in
          (point, in_box v i inside point b, subst (λ (u : Row). Holds u point) f h)
      rows t r t_in at (inr (absent, void)) = absurd (some_none r (sym at ∙ absent v i))
        where
          some_none : (r : Row) → Some r ≡ Nothing → ⊥
          some_none r f = cc

  -- and the other way
  module _ (v : Valuation) (i : IsIn e.condition v) (at : AreBoundsAt s c l v) where
    private_split : (p : ℕ) → p < length (l.state ++ built.tests) → (p < length l.state) ⊎ ((t : ℕ) × (t < s.tests) × (p ≡ length l.state + t))
    private_split p m = go (cases_lt p (length l.state))
      where
        go : (p < length l.state) ⊎ (length l.state ≤ p) → (p < length l.state) ⊎ ((t : ℕ) × (t < s.tests) × (p ≡ length l.state + t))
        go (inl less) = inl less
        go (inr more) = let a = length-append l.state built.tests in let z = built.told.size in inr (p - length l.state, omega arith, omega arith)

    bound_holds : (point : List ℤ) → IsInBox s c v point → (p : ℕ) → p < length l.state → Holds (row_at l.state p) point
    bound_holds point b p m = go (at p m)
      where
        go : (v 0 ≡ true) × ((k : ℕ) × (k < s.memories) × (IsUpperRow c k (row_at l.state p) ⊎ IsLowerRow c k (row_at l.state p)))
            → Holds (row_at l.state p) point
        go (on, (k, known, inl (u, is_bound))) =
            less (dot (row_at l.state p).coefficients point) (number k point) (row_at l.state p).bound
            (unit_value (row_at l.state p) k (pos 1) point u) (b.upper on k (row_at l.state p).bound known is_bound)
          where
            less : (d n b : ℤ) → d ≡ pos 1 *ℤ n → n ≤ℤ b → d ≤ℤ b
            less d n b f h = omega (arith, ints)
        go (on, (k, known, inr (u, (y, is_y, is_bound)))) =
            less (dot (row_at l.state p).coefficients point) (number k point) (row_at l.state p).bound y
            (unit_value (row_at l.state p) k (negsuc 0) point u) is_bound (b.lower on k y known is_y)
          where
            less : (d n b y : ℤ) → d ≡ negsuc 0 *ℤ n → b ≡ pos 0 -ℤ y → y ≤ℤ n → d ≤ℤ b
            less d n b y f g h = omega (arith, ints)

    pub boxed_back : (point : List ℤ) → IsInBox s c v point → IsBoxed s.columns (l.state ++ built.tests) point
    boxed_back point b = record { size = b.size; holds = λ p m one. go p one (private_split p m) }
      where
        test : (t : ℕ) → t < s.tests → HasOneColumn (row_at built.tests t)
            → ((w : Valuation) → IsIn e.condition w → s.row w t ≡ Some (row_at built.tests t))
            ⊎ (((w : Valuation) → IsIn e.condition w → s.row w t ≡ Nothing) × (row_at built.tests t ≡ nothing)) → Holds (row_at built.tests t) point
        test t t_in one (inl same) = b.narrow t (row_at built.tests t) t_in (same v i) one
        test t t_in one (inr (absent, void)) = rw void (omega (arith, ints))

        go : (p : ℕ) → HasOneColumn (row_at (l.state ++ built.tests) p) → (p < length l.state) ⊎ ((t : ℕ) × (t < s.tests) × (p ≡ length l.state + t))
            → Holds (row_at (l.state ++ built.tests) p) point
        go p one (inl m) = subst (λ (r : Row). Holds r point) (sym (given_at l.state built.tests p m)) (bound_holds point b p m)
        go p one (inr (t, t_in, e)) =
            let f : row_at (l.state ++ built.tests) p ≡ row_at built.tests t = ap (row_at (l.state ++ built.tests)) e ∙ test_at l.state built.tests t in
            subst (λ (r : Row). Holds r point) (sym f) (test t t_in (subst HasOneColumn f one) (built.told.told t t_in))

    pub open_back : IsOpen s c v → IsOpenBox s.columns (l.state ++ built.tests)
    open_back o = record {
      some = (o.some.0, boxed_back o.some.0 o.some.1);
      each = λ p m. go p (private_split p m);
    }
      where
        test : (t : ℕ) → t < s.tests
            → ((w : Valuation) → IsIn e.condition w → s.row w t ≡ Some (row_at built.tests t))
            ⊎ (((w : Valuation) → IsIn e.condition w → s.row w t ≡ Nothing) × (row_at built.tests t ≡ nothing))
            → (point : List ℤ) × IsBoxed s.columns (l.state ++ built.tests) point × Holds (row_at built.tests t) point
        test t t_in (inl same) = let (point, b, h) = o.rows t (row_at built.tests t) t_in (same v i) in (point, boxed_back point b, h)
        test t t_in (inr (absent, void)) = (o.some.0, boxed_back o.some.0 o.some.1, rw void (omega (arith, ints)))

        go : (p : ℕ) → (p < length l.state) ⊎ ((t : ℕ) × (t < s.tests) × (p ≡ length l.state + t)) → (point : List ℤ)
            × IsBoxed s.columns (l.state ++ built.tests) point × Holds (row_at (l.state ++ built.tests) p) point
        go p (inl m) = (
          o.some.0,
          boxed_back o.some.0 o.some.1,
          subst (λ (r : Row). Holds r o.some.0) (sym (given_at l.state built.tests p m))
              (bound_holds o.some.0 o.some.1 p m),
        )
        go p (inr (t, t_in, q)) =
            let f : row_at (l.state ++ built.tests) p ≡ row_at built.tests t = ap (row_at (l.state ++ built.tests)) q ∙ test_at l.state built.tests t in
            let (point, b, h) = test t t_in (built.told.told t t_in) in
            (point, b, subst (λ (r : Row). Holds r point) (sym f) h)

module _ (s : System) (is : IsSystem s) (c : BoxClaim) (closed : IsClosed s c) (l : Location) (wanted : List Row) (e : Entry)
    (built : IsToldCase s e) (control : (v : Valuation) → IsIn e.condition v → IsIn l.control v) (claimed : IsClaimedAt s c l) where
  -- a premise of a test that multipliers name is settled
  test_rows : (i : Implication) → i.given ≡ l.state → All (λ w. (w.premise < length (l.state ++ built.tests))
      × ¬ IsVoid (row_at (l.state ++ built.tests) w.premise)) i.by.weights → AreTestRows s l e i built.tests
  test_rows i given useful = record {
    size = built.told.size;
    settled = λ t (w, has, at). settled t w has at
        (All-contains (λ u. (u.premise < length (l.state ++ built.tests)) × ¬ IsVoid (row_at (l.state ++ built.tests) u.premise)) i.by.weights w useful has);
  }
    where
      settled : (t : ℕ) (w : Weight) → Contains i.by.weights w → w.premise ≡ length i.given + t → (w.premise < length (l.state ++ built.tests))
          × ¬ IsVoid (row_at (l.state ++ built.tests) w.premise) → IsSettledTest s l e t (row_at built.tests t)
      settled t w has at (there, not_void) =
          let z = built.told.size in
          let a = length-append l.state built.tests in
          let g : length i.given ≡ length l.state = ap length given in
          let inside : t < s.tests = omega arith in
          let place : w.premise ≡ length l.state + t = omega arith in
          let f : row_at (l.state ++ built.tests) w.premise ≡ row_at built.tests t = ap (row_at (l.state ++ built.tests)) place
          ∙ test_at l.state built.tests t in
          record { known = inside; some = (built.some.0, scope_some); same = λ v sc. same v sc f (built.told.told t inside) }
        where
          scope_some : IsInScope s l e built.some.0
          scope_some = record { allowed = built.allowed built.some.0 built.some.1; control = control built.some.0 built.some.1; condition = built.some.1 }

          same : (v : Valuation) → IsInScope s l e v → row_at (l.state ++ built.tests) w.premise ≡ row_at built.tests t
              → ((u : Valuation) → IsIn e.condition u → s.row u t ≡ Some (row_at built.tests t))
              ⊎ (((u : Valuation) → IsIn e.condition u → s.row u t ≡ Nothing) × (row_at built.tests t ≡ nothing))
              → s.row v t ≡ Some (row_at built.tests t)
          same v sc f (inl told) = told v sc.condition
          same v sc f (inr (absent, void)) = absurd (not_void (subst IsVoid (sym (f ∙ void)) (record { zeros = λ k. refl; bound = omega (arith, ints) })))

  scope_some : IsInScope s l e built.some.0
  scope_some = record { allowed = built.allowed built.some.0 built.some.1; control = control built.some.0 built.some.1; condition = built.some.1 }

  are_forms : (r : Row) → length r.coefficients ≡ s.memories → AreForms s l e (after r) built.forms
  are_forms r size = record { size = built.size; settled = λ k need. settled k need (cases_lt k s.memories) }
    where
      settled : (k : ℕ) → coefficient k r ≢ pos 0 → (k < s.memories) ⊎ (s.memories ≤ k) → IsSettledUpdate s l e k (form_at built.forms k)
      settled k need (inl known) = record { known = known; some = (built.some.0, scope_some); same = λ v sc. built.updates v k sc.condition known }
      settled k need (inr past) = absurd (need (get_or_past r.coefficients k (pos 0) (omega arith)))

  -- a wanted row holds after the updates at each point of an open box
  closed_holds : IsOpenBox s.columns (l.state ++ built.tests) → (r : Row) (k : ℕ) → k < s.memories → IsUpperRow c k r ⊎ IsLowerRow c k r
      → (new : Row) → IsSubstituted r built.forms new → (point : List ℤ) → IsBoxed s.columns (l.state ++ built.tests) point → Holds new point
  closed_holds o r k known side new sub point boxed = (substituted_same r new built.forms sub point).1 (after_holds side)
    where
      updated : number k (values built.forms point) ≡ value (s.update built.some.0 k) point
      updated =
          let n = built.size in
          get_or-map (λ f. value f point) built.forms k (record { coefficients = []; constant = pos 0 }) (pos 0) (omega arith)
          ∙ ap (λ f. value f point) (sym (built.updates built.some.0 k built.some.1 known))

      after_holds : IsUpperRow c k r ⊎ IsLowerRow c k r → Holds r (values built.forms point)
      after_holds (inl (u, at)) =
          let m = closed.upper built.some.0 (taken s c l e built claimed o built.some.0 built.some.1 (control built.some.0 built.some.1)) k r.bound known at
          point
          (in_box s c l e built claimed built.some.0 built.some.1 (control built.some.0 built.some.1) point boxed) in
          less _ _ _ _ (unit_value r k (pos 1) (values built.forms point) u) updated m
        where
          less : (d n y b : ℤ) → d ≡ pos 1 *ℤ n → n ≡ y → y ≤ℤ b → d ≤ℤ b
          less d n y b e f h = omega (arith, ints)
      after_holds (inr (u, (b, at, is_bound))) =
          let m = closed.lower built.some.0 (taken s c l e built claimed o built.some.0 built.some.1 (control built.some.0 built.some.1)) k b known at point
          (in_box s c l e built claimed built.some.0 built.some.1 (control built.some.0 built.some.1) point boxed) in
          less _ _ _ _ _ (unit_value r k (negsuc 0) (values built.forms point) u) updated is_bound m
        where
          less : (d n y b x : ℤ) → d ≡ negsuc 0 *ℤ n → n ≡ y → x ≡ pos 0 -ℤ b → b ≤ℤ y → d ≤ℤ x
          less d n y b x e f g h = omega (arith, ints)

  -- so its left side has a greatest value there
  pub closed_bounded : IsOpenBox s.columns (l.state ++ built.tests) → (r : Row) (k : ℕ) → k < s.memories → IsUpperRow c k r ⊎ IsLowerRow c k r
      → (new : Row) → IsSubstituted r built.forms new → ¬ IsUnbounded s.columns (l.state ++ built.tests) new.coefficients
  closed_bounded o r k known side new sub far =
      let (point, boxed, past) = far (new.bound +ℤ pos 1) in
      let h = closed_holds o r k known side new sub point boxed in
      more (dot new.coefficients point) new.bound h past
    where
      more : (d b : ℤ) → d ≤ℤ b → (b +ℤ pos 1) ≤ℤ d → ⊥
      more d b h p = omega (arith, ints)

  -- the multipliers of a greatest value prove the wanted row
  go_proves : IsOpenBox s.columns (l.state ++ built.tests) → (r : Row) (k : ℕ) → k < s.memories → IsUpperRow c k r ⊎ IsLowerRow c k r
      → (new : Row) (g : Peak) → IsSubstituted r built.forms new → IsGreatest s.columns (l.state ++ built.tests) new.coefficients g
      → Proves (l.state ++ built.tests) new (record { divisor = pos 1; weights = g.weights })
  go_proves o r k known side new g sub great = record {
    positive = omega (arith, ints);
    none_negative = λ j d i. let w = great.weights j d i in let a = w.0 in omega (arith, ints);
    sides = λ n. great.sides n ∙ one_times (coefficient n new);
    bounds = below (weighted (λ u. u.bound) (l.state ++ built.tests) g.weights) g.bound (dot new.coefficients great.reached.0) new.bound great.bound
        great.reached.2
        (closed_holds o r k known side new sub great.reached.0 great.reached.1);
  }
    where
      one_times : (z : ℤ) → z ≡ pos 1 *ℤ z
      one_times z = omega (arith, ints)

      below : (s g d b : ℤ) → s ≡ g → d ≡ g → d ≤ℤ b → s <ℤ (pos 1 *ℤ (b +ℤ pos 1))
      below s g d b e f h = omega (arith, ints)

  one_says : (r : Row) → HasOneColumn r → ¬ IsVoid r
  one_says r (k, ne, only) v = ne (v.zeros k)

  implied : (certificate : Certificate) (rest : Location) → slice_get certificate.locations 1 ≡ Some rest → wanted ≡ rest.entry → AreBounds s c wanted
      → (kind : EntryKind) → IsBuiltKind s.columns (l.state ++ built.tests) built.forms wanted kind → All (IsImplied s l e) (implications certificate l kind)
  implied certificate rest at want are (Dead m) refutes =
      let i : Implication = record { given = l.state; wanted = refutation; by = m } in
      let doc = refutes.record_of in
      All-cons (IsImplied s l e) i [] (built.tests, test_rows i refl (λ j d n. (doc.there j d n, refutes.useful j d n)), refutes.refutes)
      (All-nil (IsImplied s l e))
  implied certificate rest at want are (Go target reach) (one, o, count, proofs) =
      let into : rows_into (slice_get certificate.locations target) ≡ wanted = ap (λ (n : ℕ). rows_into (slice_get certificate.locations n)) one
      ∙ ap rows_into at ∙ sym want in
      subst (λ (rows : List Row). All (IsImplied s l e) (each after l.state rows reach)) (sym into)
      (all_each (IsImplied s l e) l.state wanted reach (λ n r m r_at m_at. row r m (are n r r_at) (proofs n r m r_at m_at)))
    where
      row : (r : Row) (m : Multipliers) → (length r.coefficients ≡ s.memories) × ((k : ℕ) × (k < s.memories) × (IsUpperRow c k r ⊎ IsLowerRow c k r))
          → IsReached s.columns (l.state ++ built.tests) built.forms r m
          → IsImplied s l e (record { given = l.state; wanted = after r; by = m })
      row r m (size, (k, known, side)) (new, g, narrow, sub, great, is_m) = (
        built.tests,
        test_rows (record { given = l.state; wanted = after r; by = m }) refl
            (subst (λ (x : Multipliers). All (λ w. (w.premise < length (l.state ++ built.tests))
            × ¬ IsVoid (row_at (l.state ++ built.tests) w.premise)) x.weights) (sym is_m)
            (λ j d n. let u = great.units j d n in (u.0, one_says (row_at (l.state ++ built.tests) (get_or g.weights j d).premise) u.1))),
        (
          built.forms,
          new,
          are_forms r size,
          sub,
          subst (λ (x : Multipliers). Proves (l.state ++ built.tests) new x) (sym is_m)
              (go_proves o r k known side new g sub great),
        ),
      )
  implied certificate rest at want are (Loop first before_all around state) h = absurd h

  premises_long : length (l.state ++ built.tests) ≡ length l.state + s.tests
  premises_long = length-append l.state built.tests ∙ ap (λ n. length l.state + n) built.told.size

  -- the implications have the ranges of a document
  ranged : (certificate : Certificate) (rest : Location) → slice_get certificate.locations 1 ≡ Some rest → wanted ≡ rest.entry
      → (kind : EntryKind) → IsBuiltKind s.columns (l.state ++ built.tests) built.forms wanted kind
      → All (λ i. IsRecord (length i.given + s.tests) i.by × HasDivisor i.wanted i.by.divisor) (implications certificate l kind)
  ranged certificate rest at want (Dead m) refutes =
      let proof = refutes.refutes in
      All-cons (λ (i : Implication). IsRecord (length i.given + s.tests) i.by × HasDivisor i.wanted i.by.divisor)
      (record { given = l.state; wanted = refutation; by = m }) []
      (subst (λ (n : ℕ). IsRecord n m) premises_long refutes.record_of, proof.divisor)
      (All-nil (λ (i : Implication). IsRecord (length i.given + s.tests) i.by × HasDivisor i.wanted i.by.divisor))
  ranged certificate rest at want (Go target reach) (one, o, count, proofs) =
      let into : rows_into (slice_get certificate.locations target) ≡ wanted = ap (λ (n : ℕ). rows_into (slice_get certificate.locations n)) one
      ∙ ap rows_into at ∙ sym want in
      subst (λ (rows : List Row). All (λ i. IsRecord (length i.given + s.tests) i.by
      × HasDivisor i.wanted i.by.divisor) (each after l.state rows reach)) (sym into)
      (all_each (λ i. IsRecord (length i.given + s.tests) i.by × HasDivisor i.wanted i.by.divisor) l.state wanted reach
      (λ n r m r_at m_at. (row r m (proofs n r m r_at m_at), tt)))
    where
      row : (r : Row) (m : Multipliers) → IsReached s.columns (l.state ++ built.tests) built.forms r m → IsRecord (length l.state + s.tests) m
      row r m (new, g, narrow, sub, great, is_m) =
          subst (λ (x : Multipliers). IsRecord (length l.state + s.tests) x) (sym is_m)
          (subst (λ (n : ℕ). IsRecord n (record { divisor = pos 1; weights = g.weights })) premises_long
          (record_from (length (l.state ++ built.tests)) (record { divisor = pos 1; weights = g.weights }) refl (let k = great.count in omega arith)
          (λ j d n. ((great.units j d n).0, great.weights j d n)) great.rises))
  ranged certificate rest at want (Loop first before_all around state) h = absurd h

  counted : (certificate : Certificate) (rest : Location) → slice_get certificate.locations 1 ≡ Some rest → wanted ≡ rest.entry
      → (kind : EntryKind) → IsBuiltKind s.columns (l.state ++ built.tests) built.forms wanted kind → HasKindCounts certificate l kind
  counted certificate rest at want (Dead m) h = tt
  counted certificate rest at want (Go target reach) (one, o, count, proofs) = (rest, ap (slice_get certificate.locations) one ∙ at, count ∙ ap length want)
  counted certificate rest at want (Loop first before_all around state) h = absurd h

  -- a step leads into the rest, and its observer is true
  leads : IsGood s c → (certificate : Certificate) (rest : Location) → slice_get certificate.locations 1 ≡ Some rest
      → ((v : Valuation) → IsTrue (c.reached v) → ¬ IsTrue (s.initial v) → IsIn rest.control v)
      → (kind : EntryKind) → IsBuiltKind s.columns (l.state ++ built.tests) built.forms wanted kind → Leads s certificate l e kind
  leads good certificate rest at others (Dead m) h = tt
  leads good certificate rest at others (Go target reach) (one, o, count, proofs) = (
    rest,
    ap (slice_get certificate.locations) one ∙ at,
    λ v sc. others (s.next v) (closed.next v (taken s c l e built claimed o v sc.condition (control v sc.condition)))
        (λ starts. clash (s.next v 0) (is.unticked (s.next v) starts) (is.ticks v)),
  )
    where
      clash : (b : Bool) → b ≡ false → b ≡ true → ⊥
      clash true f g = cc
      clash false f g = cc
  leads good certificate rest at others (Loop first before_all around state) h = absurd h

  observed : IsGood s c → (kind : EntryKind) → IsBuiltKind s.columns (l.state ++ built.tests) built.forms wanted kind → IsStepKind kind
      → (v : Valuation) → IsInScope s l e v → IsTrue (s.observer v)
  observed good (Dead m) h step v sc = absurd step
  observed good (Go target reach) (one, o, count, proofs) step v sc = good v (taken s c l e built claimed o v sc.condition (control v sc.condition))
  observed good (Loop first before_all around state) h step v sc = absurd h

-- no entry is a loop
no_loop : (s : System) (l : Location) (wanted : List Row) → ((j : ℕ) (e : Entry) → slice_get l.entries j ≡ Some e → IsBuiltEntry s l wanted e) → ¬ HasLoop l
no_loop s l wanted entries (j, e, at, loop) = let b = entries j e at in go (l.state ++ b.here.tests) b.here.forms e.kind b.kind loop
  where
    go : (ps : List Row) (forms : List Form) (kind : EntryKind) → IsBuiltKind s.columns ps forms wanted kind → IsLoopKind kind → ⊥
    go ps forms (Dead m) h x = x
    go ps forms (Go target reach) h x = x
    go ps forms (Loop a b c d) h x = h

module _ (s : System) (is : IsSystem s) (c : BoxClaim) (closed : IsClosed s c) (good : IsGood s c) (certificate : Certificate)
    (built : IsBuilt s c certificate) where
  second : slice_get certificate.locations 1 ≡ Some built.rest
  second = ap (λ (ls : List Location). slice_get ls 1) built.locations

  zeroth : slice_get certificate.locations 0 ≡ Some built.initial
  zeroth = ap (λ (ls : List Location). slice_get ls 0) built.locations

  location : (k : ℕ) (l : Location) → slice_get certificate.locations k ≡ Some l → IsBuiltLocation s c built.rest.entry l
  location k l at = go k (sym (ap (λ (ls : List Location). slice_get ls k) built.locations) ∙ at)
    where
      go : (k : ℕ) → slice_get (built.initial ∷ built.rest ∷ []) k ≡ Some l → IsBuiltLocation s c built.rest.entry l
      go zero f = subst (IsBuiltLocation s c built.rest.entry) (same_Some built.initial l f) built.initial_is
      go (suc zero) f = subst (IsBuiltLocation s c built.rest.entry) (same_Some built.rest l f) built.rest_is
      go (suc (suc k)) f = cc

  pub plain : ArePlain certificate
  plain k l at = let b = location k l at in record { no_loop = no_loop s l built.rest.entry b.entries; no_first = b.first; no_around = b.around }

  range : IsInRange s certificate
  range = record {
    counts = λ k l at. let b = location k l at in record {
      by_entry = b.count;
      by_first = record { some = λ loop. absurd (no_loop s l built.rest.entry b.entries loop); none = λ _. b.by_first };
      entries = λ j e at_e. let h = b.entries j e at_e in counted s is c closed l built.rest.entry e h.here h.control b.claimed certificate built.rest second
          refl e.kind h.kind;
    };
    few = rw built.locations (lit≤ tt);
    locations = λ k l at. let b = location k l at in record {
      control = b.control;
      entry = b.kept;
      first = rw b.first none_kept;
      around = rw b.around none_kept;
      state = rw b.state b.kept;
      by_entry = λ j d n. unit_record l b j d n;
      by_first = rw b.by_first (All-nil (IsRecord (length l.first)));
      few = b.few;
      entries = λ j e at_e. let h = b.entries j e at_e in record {
        condition = h.here.condition;
        by = ranged s is c closed l built.rest.entry e h.here h.control b.claimed certificate built.rest second refl e.kind h.kind;
      };
    };
  }
    where
      none_kept : AreKept s []
      none_kept = (All-nil (λ r. (length r.coefficients ≡ s.memories) × Fits r), lit≤ tt)

      unit_record : (l : Location) → IsBuiltLocation s c built.rest.entry l → (j : ℕ) (d : Multipliers) → j < length l.by_entry
          → IsRecord (length l.entry) (get_or l.by_entry j d)
      unit_record l b j d n =
          let size = b.count in
          let same : length l.state ≡ length l.entry = ap length b.state in
          let e : get_or l.by_entry j d ≡ by_one j = get_or_from_slice_get l.by_entry j (by_one j) d (b.by_entry j (omega arith)) in
          subst (IsRecord (length l.entry)) (sym e)
          (record_from (length l.entry) (by_one j) refl (lit≤ tt)
          (All-cons (IsRanged (length l.entry)) (record { premise = j; by = pos 1 }) [] (omega arith, (omega (arith, ints), omega (arith, ints)))
          (All-nil (IsRanged (length l.entry))))
          (All-nil (λ u. j < u.premise), tt))

  included : (k : ℕ) (l : Location) → slice_get certificate.locations k ≡ Some l → IsIncluded l
  included k l at =
      let b = location k l at in
      record {
        entry = λ n r r_at. let inside = slice_get_within l.state n r r_at in
            (by_one n, b.by_entry n inside, prove_one l.entry r n (λ j. ap (coefficient j) (row_same b.state n r r_at)) (bound_same b.state n r r_at));
        first = λ loop. absurd (no_loop s l built.rest.entry b.entries loop);
        no_first = λ _. b.first;
        no_around = λ _. b.around;
      }
    where
      row_same : l.state ≡ l.entry → (n : ℕ) (r : Row) → slice_get l.state n ≡ Some r → row_at l.entry n ≡ r
      row_same q n r r_at = get_or_from_slice_get l.entry n r nothing (ap (λ (rows : List Row). slice_get rows n) (sym q) ∙ r_at)

      bound_same : l.state ≡ l.entry → (n : ℕ) (r : Row) → slice_get l.state n ≡ Some r → (row_at l.entry n).bound ≤ℤ r.bound
      bound_same q n r r_at = rw (row_same q n r r_at) (omega (arith, ints))

  all_implied : (k j : ℕ) (l : Location) (e : Entry) → IsEntry certificate k j l e → AreImplied s certificate l e
  all_implied k j l e at =
      let b = location k l at.location in
      let h = b.entries j e at.entry in
      implied s is c closed l built.rest.entry e h.here h.control b.claimed certificate built.rest second refl built.bounds e.kind h.kind

  pub accepted : IsAccepted s certificate
  accepted = record {
    partition = record {
      in_range = range;
      initial = λ v starts. (0, built.initial, zeroth, built.no_rows, built.starts v starts);
      included = included;
      covered = λ k l at. (location k l at).covered;
      settled = λ k j l e at. settled_from_implied s certificate l e (all_implied k j l e at);
      leads = λ k j l e at. let b = location k l at.location in let h = b.entries j e at.entry in
          leads s is c closed l built.rest.entry e h.here h.control b.claimed good certificate built.rest second built.others e.kind h.kind;
      steps = λ k j l e at step. all_implied k j l e at;
    };
    observed = λ k j l e at step. let b = location k l at.location in let h = b.entries j e at.entry in
        observed s is c closed l built.rest.entry e h.here h.control b.claimed good e.kind h.kind step;
    dead = λ k j l e at step. all_implied k j l e at;
  }
