-- The certificate of a closed row claim, put together from its parts.
use Rattle.std.proofs.Common.{◌≡◌, ℕ, zero, suc, ◌+◌, ◌<◌, ◌^◌, ◌≤ℤ◌, Bool, true, false, cond, List, [], ◌∷◌, ◌++◌, length, get_or, All, Some, IsTrue}
use Rattle.std.proofs.Common.{slice_get, arith, lit≤, refl, sym, ap, ◌∙◌, subst, append-nil, ◌⊎◌, inl, inr, None as Nothing}
use Rattle.std.proofs.lemmas.Option.{slice_get_within, slice_get-get_or, get_or_from_slice_get, same_Some}
use Rattle.std.proofs.{lemmas.Int.ints, lemmas.Bool.cases_Bool, lemmas.List.Elements.All-nil, lemmas.List.Elements.All-cons}
use Rattle.rv_diagram.specs.{Nodes.Valuation, declared.frozen.Frozen.Frozen}
use Rattle.rv_rows.specs.Rows.{coefficient, row_at}
use Rattle.rv_rows.specs.{declared.linear.Row.Row, declared.linear.Form.Form, declared.farkas.Multipliers.Multipliers, Tight.Fits}
use Rattle.rv_proofs.specs.Scopes.{IsIn, refutation, after, Implication, Wanted, each, rows_into, implications}
use Rattle.rv_proofs.specs.Ranges.{IsRecord, HasDivisor, IsControlSet, IsCondition, AreKept, IsInRange}
use Rattle.rv_proofs.specs.{Systems.System, Systems.rows_of, Counts.HasLoop, Counts.IsLoopKind, Counts.HasKindCounts, Samples.by_one, Cases.IsCaseOf}
use Rattle.rv_proofs.specs.{Cases.AreCases, Cases.IsInitialSet, RowClaims.RowClaim, RowClaims.IsRowTaken, RowClaims.IsRowGood}
use Rattle.rv_proofs.specs.{declared.certificate.Certificate.Certificate, declared.certificate.Location.Location, declared.certificate.Entry.Entry}
use Rattle.rv_proofs.specs.{declared.certificate.EntryKind.EntryKind, declared.certificate.EntryKind.TheVariants.Dead}
use Rattle.rv_proofs.specs.{declared.certificate.EntryKind.TheVariants.Go, declared.certificate.EntryKind.TheVariants.Loop, declared.report.Case.Case}
use Rattle.rv_proofs.proofs.{Sampling.prove_one, Sampling.record_one, Claims.update_at}
use Rattle.rv_walk.specs.{Ends.has, Plain.ArePlain}
use Rattle.rv_claims.specs.Certify.{IsUniform, IsClaimKind, IsClaimLocation, IsClaimCertificate}
use Rattle.rv_claims.specs.{declared.claim.Claim.Claim, Claiming.claim_of}
use Rattle.rv_claims.proofs.Certifying.{claim-accepted}
use Rattle.rv_claimed.specs.Certifying.{IsSetting, IsRangedKind, IsEntryOf, AreEntriesOf, IsLocationOf}
use Rattle.rv_claimed.specs.Building.{ArePartsOf, IsRangedLocation, IsPlaceOf, IsProof}
use Rattle.rv_claimed.specs.declared.locations.Part.{Part}
use Rattle.rv_claimed.proofs.{Pairing.no_row, Entering.no_form}
use Rattle.rv_walk.proofs.Stages.{rest_from, rest_parts}
use Rattle.rv_base.proofs.{Lists.found_or_not, Lists.item_at, Truths.clash}

all_each : (P : Implication → Type 0) (want : Row → Wanted) (given rows : List Row) (by : List Multipliers)
    → ((n : ℕ) (r : Row) (m : Multipliers) → slice_get rows n ≡ Some r → slice_get by n ≡ Some m
    → P (record { given = given; wanted = want r; by = m }))
    → All P (each want given rows by)
all_each P want given [] by h = All-nil P
all_each P want given (r ∷ rs) [] h = All-nil P
all_each P want given (r ∷ rs) (m ∷ ms) h = All-cons P (record { given = given; wanted = want r; by = m }) (each want given rs ms) (h 0 r m refl refl)
    (all_each P want given rs ms (λ n. h (suc n)))

-- throughout a case the tests and the updates are the same
module _ (s : System) (case : Case) (is : IsCaseOf s case) (v w : Valuation) (v_in : IsIn case.condition v) (w_in : IsIn case.condition w) where
  rows_alike : (t : ℕ) → t < s.tests → s.row w t ≡ s.row v t
  rows_alike t known = go (found_or_not case.tests t)
    where
      go : ((i : ℕ) × (slice_get case.tests i ≡ Some t)) ⊎ ((i : ℕ) → slice_get case.tests i ≡ Some t → ⊥) → s.row w t ≡ s.row v t
      go (inl (i, at)) =
          let x = is.tests in
          let counts = x.counts in
          let inside : i < length case.tests = slice_get_within case.tests i t at in
          let r_at = slice_get-get_or case.rows i no_row (omega (arith, counts, inside)) in
          x.present i t (row_at case.rows i) w at r_at w_in ∙ sym (x.present i t (row_at case.rows i) v at r_at v_in)
      go (inr none) = x_absent w w_in ∙ sym (x_absent v v_in)
        where
          x_absent : (u : Valuation) → IsIn case.condition u → s.row u t ≡ Nothing
          x_absent u on = let x = is.tests in x.absent t u known (λ (k, l, e). none k (slice_get-get_or case.tests k t l ∙ ap Some e)) on

  updates_alike : (k : ℕ) → k < s.memories → s.update w k ≡ s.update v k
  updates_alike k known =
      sym (update_at s w no_form s.memories k known)
      ∙ ap (λ (fs : List Form). get_or fs k no_form) (is.updates w w_in ∙ sym (is.updates v v_in))
      ∙ update_at s v no_form s.memories k known

module _ (s : System) (c : RowClaim) (from : Frozen) (rows : List Row) (setting : IsSetting s c from rows) (cases : List Case)
    (are : AreCases s from cases) (few : length cases < 2 ^ 32) (es : List Entry) (entries : AreEntriesOf s c rows cases es) (l : Location)
    (is : IsLocationOf from rows es l) where
  in_from : (v : Valuation) → IsIn l.control v → IsIn from v
  in_from v i = subst (λ (f : Frozen). IsIn f v) is.control i

  -- an entry and its case
  record HasCase (j : ℕ) (e : Entry) : Type 0 where
    pub case : Case
    pub at : slice_get cases j ≡ Some case
    pub is_case : IsCaseOf s case
    pub entry : IsEntryOf s c rows case e

  case_of : (j : ℕ) (e : Entry) → slice_get l.entries j ≡ Some e → HasCase j e
  case_of j e at =
      let there : slice_get es j ≡ Some e = ap (λ (xs : List Entry). slice_get xs j) (sym is.entries) ∙ at in
      let size = entries.size in
      let (case, case_at) = item_at cases j (omega (arith, slice_get_within es j e there, size)) in
      record { case = case; at = case_at; is_case = are.each j case case_at; entry = entries.each j case e case_at there }

  entry_there : (j : ℕ) → j < length cases → (e : Entry) × (slice_get es j ≡ Some e)
  entry_there j m = let size = entries.size in item_at es j (omega (arith, m, size))

  within : (j : ℕ) (e : Entry) (h : HasCase j e) (v : Valuation) → IsIn e.condition v → IsIn h.case.condition v
  within j e h v i = let r = h.entry in subst (λ (f : Frozen). IsIn f v) r.condition i

  claimed_entry : (j : ℕ) (e : Entry) → HasCase j e → (v : Valuation) × IsUniform s l e v × IsClaimKind s c rows v e.kind
  claimed_entry j e h =
      let x = h.is_case in
      let r = h.entry in
      let v = x.some.0 in
      let on = x.some.1 in (
        v,
        record {
          scope = record {
            allowed = x.given.allowed v on;
            control = subst (λ (f : Frozen). IsIn f v) (sym is.control) (are.within j h.case v h.at on);
            condition = subst (λ (f : Frozen). IsIn f v) (sym r.condition) on;
          };
          rows = λ w scope. rows_alike s h.case x v w on (within j e h w scope.condition);
          updates = λ w scope. updates_alike s h.case x v w on (within j e h w scope.condition);
        },
        r.kind v on,
      )

  covered_case : (v : Valuation) → (j : ℕ) × (x : Case) × (slice_get cases j ≡ Some x) × IsIn x.condition v → (j : ℕ) × (e : Entry)
      × (slice_get l.entries j ≡ Some e) × IsIn e.condition v
  covered_case v (j, x, at, on) =
      let (e, there) = entry_there j (slice_get_within cases j x at) in
      let r = entries.each j x e at there in
      (j, e, ap (λ (xs : List Entry). slice_get xs j) is.entries ∙ there, subst (λ (f : Frozen). IsIn f v) (sym r.condition) on)

  good_case : (v : Valuation) → IsRowTaken s c v → (j : ℕ) × (x : Case) × (slice_get cases j ≡ Some x) × IsIn x.condition v → IsTrue (s.observer v)
  good_case v t (j, x, at, on) =
      let (e, there) = entry_there j (slice_get_within cases j x at) in
      let r = entries.each j x e at there in
      r.good v on t

  proved_rows : (n : ℕ) (r : Row) → slice_get l.state n ≡ Some r → n < length rows
  proved_rows n r at = omega (arith, slice_get_within l.state n r at, ap length is.state)

  same_rows : l.state ≡ l.entry
  same_rows = is.state ∙ sym is.entry

  row_same : (n : ℕ) (r : Row) → slice_get l.state n ≡ Some r → row_at l.entry n ≡ r
  row_same n r at = get_or_from_slice_get l.entry n r no_row (ap (λ (rs : List Row). slice_get rs n) (sym same_rows) ∙ at)

  bound_same : (n : ℕ) (r : Row) → slice_get l.state n ≡ Some r → (row_at l.entry n).bound ≤ℤ r.bound
  bound_same n r at = rw (row_same n r at) (omega (arith, ints))

  claimed : IsClaimLocation s c rows l
  claimed = record {
    entry = is.entry;
    state = is.state;
    first = is.first;
    around = is.around;
    by_entry = λ n r at. (
      by_one n,
      is.by_entry n (proved_rows n r at),
      prove_one l.entry r n (λ k. ap (coefficient k) (row_same n r at)) (bound_same n r at),
    );
    covered = λ v a i. covered_case v (are.covered v a (in_from v i));
    entries = λ j e at. claimed_entry j e (case_of j e at);
  }

  in_range : IsRangedLocation s rows (length c.rows) l
  in_range = record {
    control = subst (λ (f : Frozen). IsControlSet s f) (sym is.control) setting.control;
    kept = setting.kept;
    few = let size = entries.size in omega (arith, few, size, ap length is.entries);
    count = is.count;
    by_entry = λ j d m. one j d m;
    by_first = is.by_first;
    conditions = λ j e at. let h = case_of j e at in condition_of j e h;
    kinds = λ j e at. let h = case_of j e at in let r = h.entry in r.ranged;
  }
    where
      one : (j : ℕ) (d : Multipliers) → j < length l.by_entry → IsRecord (length rows) (get_or l.by_entry j d)
      one j d m =
          let inside : j < length rows = omega (arith, m, is.count) in
          subst (IsRecord (length rows)) (sym (get_or_from_slice_get l.by_entry j (by_one j) d (is.by_entry j inside))) (record_one (length rows) j inside)

      condition_of : (j : ℕ) (e : Entry) → HasCase j e → IsCondition s e.condition
      condition_of j e h =
          let x = h.is_case in
          let r = h.entry in
          subst (λ (f : Frozen). IsCondition s f) (sym r.condition) x.given.condition

  pub place_of : IsPlaceOf s c from rows l
  place_of = record {
    control = is.control;
    claimed = claimed;
    ranged = in_range;
    good = λ v i t. good_case v t (are.covered v t.allowed i);
  }

if_true : (b : Bool) (xs ys : List Row) → b ≡ true → cond b xs ys ≡ xs
if_true true xs ys e = refl
if_true false xs ys e = cc

if_false : (b : Bool) (xs ys : List Row) → b ≡ false → cond b xs ys ≡ ys
if_false true xs ys e = cc
if_false false xs ys e = refl

none_kept : (s : System) → AreKept s []
none_kept s = (All-nil (λ (r : Row). (length r.coefficients ≡ s.memories) × Fits r), lit≤ tt)

module _ (s : System) (many : ℕ) (c : Claim) (start others : Part) (are : ArePartsOf s many c start others) where
  initial_set : IsInitialSet s start.control
  initial_set = let st = are.is_start in st.initial

  started : (v : Valuation) → IsIn start.control v → IsTrue (s.initial v)
  started v i = (initial_set.exact v).0 i

  unticked : (v : Valuation) → IsIn start.control v → v 0 ≡ false
  unticked v i = let j = are.judge in let y = j.system in y.unticked v (started v i)

  apart : (v : Valuation) → IsIn others.control v → (has c.reached v ≡ true) × (has start.control v ≡ false)
  apart v i = let o = are.are_others in rest_parts (has c.reached v) (has start.control v) (sym (o.exact v) ∙ i)

  in_others : (v : Valuation) → has c.reached v ≡ true → has start.control v ≡ false → IsIn others.control v
  in_others v r n = let o = are.are_others in o.exact v ∙ rest_from (has c.reached v) (has start.control v) r n

  ticked : (v : Valuation) → IsIn others.control v → v 0 ≡ true
  ticked v i = let k = are.kept in go (k.ticked v (apart v i).0)
    where
      go : IsTrue (s.initial v) ⊎ (v 0 ≡ true) → v 0 ≡ true
      go (inl starts) = absurd (clash (has start.control v) ((initial_set.exact v).1 starts) (apart v i).1)
      go (inr on) = on

  not_started : (v : Valuation) → v 0 ≡ true → has start.control v ≡ false
  not_started v on = go (cases_Bool (has start.control v))
    where
      go : (has start.control v ≡ true) ⊎ (has start.control v ≡ false) → has start.control v ≡ false
      go (inl i) = absurd (clash (v 0) on (unticked v i))
      go (inr n) = n

  -- the initial control states, without rows
  pub first_setting : IsSetting s (claim_of c) start.control []
  first_setting = record {
    control = initial_set.control;
    reached = λ v i. let k = are.kept in k.initial v (started v i);
    premises = λ v i. if_false (v 0) (rows_of s v ++ c.rows) (rows_of s v) (unticked v i) ∙ sym (append-nil (rows_of s v));
    kept = none_kept s;
    few = let j = are.judge in let y = j.system in let l = y.limits in let t = l.tests in omega (arith, t);
  }

  -- the others, with the rows of the claim
  pub others_setting : IsSetting s (claim_of c) others.control c.rows
  others_setting = let o = are.are_others in let j = are.judge in record {
    control = o.control;
    reached = λ v i. (apart v i).0;
    premises = λ v i. if_true (v 0) (rows_of s v ++ c.rows) (rows_of s v) (ticked v i);
    kept = j.kept;
    few = j.few;
  }

  module _ (initial rest : Location) (one : IsPlaceOf s (claim_of c) start.control [] initial)
      (two : IsPlaceOf s (claim_of c) others.control c.rows rest) where
    good_claim : IsRowGood s (claim_of c)
    good_claim v t = go (cases_Bool (has start.control v))
      where
        go : (has start.control v ≡ true) ⊎ (has start.control v ≡ false) → IsTrue (s.observer v)
        go (inl i) = one.good v i t
        go (inr n) = two.good v (in_others v t.reached n) t

    module _ (x : Certificate) (is : x.locations ≡ initial ∷ rest ∷ []) where
      zeroth : slice_get x.locations 0 ≡ Some initial
      zeroth = ap (λ (ls : List Location). slice_get ls 0) is

      second : slice_get x.locations 1 ≡ Some rest
      second = ap (λ (ls : List Location). slice_get ls 1) is

      rest_rows : rest.entry ≡ c.rows
      rest_rows = let w = two.claimed in w.entry

      -- each location is one of the two
      record IsEither (l : Location) : Type 0 where
        pub given : List Row
        pub claimed : IsClaimLocation s (claim_of c) given l
        pub ranged : IsRangedLocation s given (length c.rows) l

      either : (k : ℕ) (l : Location) → slice_get x.locations k ≡ Some l → IsEither l
      either k l at = go k (sym (ap (λ (ls : List Location). slice_get ls k) is) ∙ at)
        where
          go : (k : ℕ) → slice_get (initial ∷ rest ∷ []) k ≡ Some l → IsEither l
          go zero f = subst IsEither (same_Some initial l f) (record { given = []; claimed = one.claimed; ranged = one.ranged })
          go (suc zero) f = subst IsEither (same_Some rest l f) (record { given = c.rows; claimed = two.claimed; ranged = two.ranged })
          go (suc (suc k)) f = cc

      not_loop : (n w : ℕ) (kind : EntryKind) → IsRangedKind n w kind → IsLoopKind kind → ⊥
      not_loop n w (Loop a b d e) h loop = h
      not_loop n w _ h loop = loop

      no_loop : (l : Location) → IsEither l → ¬ HasLoop l
      no_loop l u (j, e, at, loop) =
          let r = u.ranged in not_loop (length u.given + s.tests) (length c.rows) e.kind (r.kinds j e at) loop

      plain : ArePlain x
      plain k l at = let u = either k l at in let w = u.claimed in record { no_loop = no_loop l u; no_first = w.first; no_around = w.around }

      counted : (l : Location) (n : ℕ) (kind : EntryKind) → IsRangedKind n (length c.rows) kind → HasKindCounts x l kind
      counted l n (Dead m) h = tt
      counted l n (Go target reach) (at_one, size, all) = (
        rest,
        ap (slice_get x.locations) at_one ∙ second,
        size ∙ ap length (sym rest_rows),
      )
      counted l n (Loop a b d e) h = absurd h

      abbrev IsRanged : Implication → Type 0
      IsRanged i = IsRecord (length i.given + s.tests) i.by × HasDivisor i.wanted i.by.divisor

      ranged : (l : Location) (given : List Row) → l.state ≡ given → (kind : EntryKind) → IsRangedKind (length given + s.tests) (length c.rows) kind
          → All IsRanged (implications x l kind)
      ranged l given same (Dead m) (ranges, divisor) =
          All-cons IsRanged (record { given = l.state; wanted = refutation; by = m }) []
          (subst (λ (rs : List Row). IsRecord (length rs + s.tests) m) (sym same) ranges, divisor) (All-nil IsRanged)
      ranged l given same (Go target reach) (at_one, size, all) =
          let into : rows_into (slice_get x.locations target) ≡ c.rows = ap (λ (n : ℕ). rows_into (slice_get x.locations n)) at_one
          ∙ ap rows_into second ∙ rest_rows in
          subst (λ (rows : List Row). All IsRanged (each after l.state rows reach)) (sym into)
          (all_each IsRanged after l.state c.rows reach (λ n r m r_at m_at. (row n m m_at, tt)))
        where
          row : (n : ℕ) (m : Multipliers) → slice_get reach n ≡ Some m → IsRecord (length l.state + s.tests) m
          row n m m_at =
              subst (λ (rs : List Row). IsRecord (length rs + s.tests) m) (sym same)
              (subst (IsRecord (length given + s.tests)) (get_or_from_slice_get reach n m m m_at) (all n m (slice_get_within reach n m m_at)))
      ranged l given same (Loop a b d e) h = absurd h

      kept_as : (rows given : List Row) → rows ≡ given → AreKept s given → AreKept s rows
      kept_as rows given e k = subst (AreKept s) (sym e) k

      in_range_of : IsInRange s x
      in_range_of = record {
        counts = λ k l at. let u = either k l at in let w = u.claimed in let r = u.ranged in record {
          by_entry = r.count ∙ ap length (sym w.state);
          by_first = record { some = λ loop. absurd (no_loop l u loop); none = λ _. r.by_first };
          entries = λ j e at_e. counted l (length u.given + s.tests) e.kind (r.kinds j e at_e);
        };
        few = rw is (lit≤ tt);
        locations = λ k l at. let u = either k l at in let w = u.claimed in let r = u.ranged in record {
          control = r.control;
          entry = kept_as l.entry u.given w.entry r.kept;
          first = kept_as l.first [] w.first (none_kept s);
          around = kept_as l.around [] w.around (none_kept s);
          state = kept_as l.state u.given w.state r.kept;
          by_entry = subst (λ (rs : List Row). All (IsRecord (length rs)) l.by_entry) (sym w.entry) r.by_entry;
          by_first = subst (λ (ms : List Multipliers). All (IsRecord (length l.first)) ms) (sym r.by_first) (All-nil (IsRecord (length l.first)));
          few = r.few;
          entries = λ j e at_e. record { condition = r.conditions j e at_e; by = ranged l u.given w.state e.kind (r.kinds j e at_e) };
        };
      }

      made : IsClaimCertificate s (claim_of c) x initial rest
      made = record {
        count = ap length is;
        first = zeroth;
        second = second;
        initial = λ v. (
          λ i. started v (subst (λ (f : Frozen). IsIn f v) one.control i),
          λ i. subst (λ (f : Frozen). IsIn f v) (sym one.control) ((initial_set.exact v).1 i),
        );
        reached = λ v. (
          λ i. let j = subst (λ (f : Frozen). IsIn f v) two.control i in ((apart v j).0, ticked v j),
          λ (r, on). subst (λ (f : Frozen). IsIn f v) (sym two.control) (in_others v r (not_started v on)),
        );
        start_is = one.claimed;
        later_is = two.claimed;
        in_range = in_range_of;
      }

      pub proof_of : IsProof s (claim_of c) x
      proof_of = let k = are.kept in let j = are.judge in record {
        plain = plain;
        accepted = claim-accepted s are.thresholds (claim_of c) x initial rest j.system k.claim j.closed good_claim made;
        good = good_claim;
      }
