-- The entry of a case in the certificate of a closed row claim.
use Rattle.std.proofs.Common.{◌≡◌, ℕ, zero, suc, ◌+◌, ◌<◌, ◌≤◌, ◌^◌, pos, negsuc, false, IsTrue, List, [], ◌++◌, length, get_or, All, Option}
use Rattle.std.proofs.Common.{Some, slice_get, arith, refl, sym, ap, ◌∙◌, subst, None as Nothing}
use Rattle.std.proofs.{lemmas.Option.slice_get_within, lemmas.Option.slice_get-get_or, lemmas.Option.get_or_from_slice_get, lemmas.List.length-append}
use Rattle.std.proofs.{lemmas.List.Elements.All-append, lemmas.List.Elements.All-from_get_or, lemmas.List.Elements.All-weaker}
use Rattle.std.specs.{List.Contains, Prelude.MatchOption}
use Rattle.rv_diagram.specs.{Nodes.Valuation, declared.frozen.Frozen.Frozen}
use Rattle.rv_rows.specs.{declared.linear.Row.Row, declared.linear.Form.Form, declared.farkas.Multipliers.Multipliers, Rows.row_at, Rows.RowWithin}
use Rattle.rv_rows.specs.{Forms.IsSubstituted, Multipliers.ShowsAtOnce, Multipliers.AreShutAtOnce, Tight.Fits}
use Rattle.rv_proofs.specs.Systems.{System, IsUpdate, rows_among, held_row, updates_of}
use Rattle.rv_proofs.specs.declared.certificate.EntryKind.TheVariants.{Dead, Go, Loop}
use Rattle.rv_proofs.specs.{Scopes.IsIn, Ranges.IsRecord, Cases.AreCases, RowClaims.IsRowTaken, RowClaims.premises_at}
use Rattle.rv_proofs.specs.{declared.certificate.EntryKind.EntryKind, declared.report.Case.Case}
use Rattle.rv_proofs.proofs.Rooms.{has_room, stays_small, premise_of_test, premise_of_kept}
use Rattle.rv_proofs.proofs.{CaseRows.case_rows, Claims.update_at, Claims.updates_long}
use Rattle.rv_claims.specs.{declared.claim.Claim.Claim, Claiming.claim_of, Certify.IsClaimKind}
use Rattle.rv_claimed.specs.Placing.{IsPairOf}
use Rattle.rv_claimed.specs.Certifying.{CanShow, premises_in, IsReached, IsShut, IsMadeKind, IsJudgeable, IsSetting, IsCaseIn, AreCasesIn, IsRangedKind}
use Rattle.rv_claimed.specs.Certifying.{IsBad, IsEntryOf}
use Rattle.rv_claimed.proofs.Pairing.{no_row, pair_to, shows_same, shows_swapped}
use Rattle.rv_claimed.proofs.Placed.{pair_divisor, pair_record, reached_shown, shut_refuted}

pub cases_in : (s : System) (from : Frozen) (cases : List Case) → AreCases s from cases → AreCasesIn s from cases
cases_in s from cases are j c at = record { case = are.each j c at; within = λ v i. are.within j c v at i }

-- a refutation shows that the premises are shut at once
pub shut_shows : (many : ℕ) (given : List Row) (case : Case) (m : Multipliers) → IsShut many given case m → AreShutAtOnce (premises_in given case)
shut_shows many given case m pair = pair_to (premises_in given case) (record { coefficients = []; bound = negsuc 0 }) pair.first pair.second
    (λ (e : pair.first ≡ pair.second). let l = pair.order in omega (arith, l, e)) pair.shows

-- a pair of the premises, however they are named
pub reached_from : (many n : ℕ) (given premises : List Row) (case : Case) (r new : Row) (m : Multipliers) → n ≡ length given
    → premises ≡ premises_in given case → IsSubstituted r case.updates new → IsPairOf n many case.tests premises new m → IsReached many given case r m
reached_from many n given premises case r new m e is sub pair = (
  new,
  sub,
  subst (λ (ps : List Row). IsPairOf (length given) many case.tests ps new m) is (subst (λ (k : ℕ). IsPairOf k many case.tests premises new m) e pair),
)

pub shut_from : (many n : ℕ) (given premises : List Row) (case : Case) (m : Multipliers) → n ≡ length given → premises ≡ premises_in given case
    → IsPairOf n many case.tests premises (record { coefficients = []; bound = negsuc 0 }) m → IsShut many given case m
shut_from many n given premises case m e is pair =
    subst (λ (ps : List Row). IsPairOf (length given) many case.tests ps (record { coefficients = []; bound = negsuc 0 }) m) is
    (subst (λ (k : ℕ). IsPairOf k many case.tests premises (record { coefficients = []; bound = negsuc 0 }) m) e pair)

-- what a step of a case that is not shut says of the case
pub failing_here : (P : EntryKind → Type 0) (premises given : List Row) (case : Case) → premises ≡ premises_in given case → ¬ AreShutAtOnce premises
    → (o : Option EntryKind) → MatchOption o (case.observer ≡ false) P
    → MatchOption o ((case.observer ≡ false) × (¬ AreShutAtOnce (premises_in given case))) P
failing_here P premises given case is opened Nothing off = (off, subst (λ (ps : List Row). ¬ AreShutAtOnce ps) is opened)
failing_here P premises given case is opened (Some kind) made = made

-- there are at most as many rows as tests
rows_few : (s : System) (v : Valuation) (n : ℕ) → length (rows_among s v n) ≤ n
rows_few s v zero = omega arith
rows_few s v (suc n) = let m = rows_few s v n in omega (arith, length-append (rows_among s v n) (held_row (s.row v n)), one (s.row v n), m)
  where
    one : (o : Option Row) → length (held_row o) ≤ 1
    one Nothing = omega arith
    one (Some r) = omega arith

abbrev pub no_form : Form
no_form = record { coefficients = []; constant = pos 0 }

module _ (s : System) (many : ℕ) (c : Claim) (judge : IsJudgeable s many c) (from : Frozen) (given : List Row)
    (setting : IsSetting s (claim_of c) from given) (case : Case) (of : IsCaseIn s from case) where
  abbrev here : List Row
  here = premises_in given case

  abbrev some : Valuation
  some = of.case.some.0

  some_in : IsIn case.condition some
  some_in = of.case.some.1

  -- the premises of the claim, in the other order
  rows_are : (v : Valuation) → IsIn case.condition v → premises_at s (claim_of c) v ≡ case.rows ++ given
  rows_are v on = setting.premises v (of.within v on) ∙ ap (λ (rs : List Row). rs ++ given) (case_rows s case v of.case on)

  pub shown_here : (v : Valuation) → IsIn case.condition v → (r : Row) → ShowsAtOnce (premises_at s (claim_of c) v) r → ShowsAtOnce here r
  shown_here v on r h = shows_swapped case.rows given r (subst (λ (ps : List Row). ShowsAtOnce ps r) (rows_are v on) h)

  pub shown_there : (v : Valuation) → IsIn case.condition v → (r : Row) → ShowsAtOnce here r → ShowsAtOnce (premises_at s (claim_of c) v) r
  shown_there v on r h = subst (λ (ps : List Row). ShowsAtOnce ps r) (sym (rows_are v on)) (shows_swapped given case.rows r h)

  abbrev shut_row : Row
  shut_row = record { coefficients = []; bound = negsuc 0 }

  -- a valuation of the case is taken exactly where its premises are not shut at once
  pub taken_there : ¬ AreShutAtOnce here → (v : Valuation) → IsIn case.condition v → IsRowTaken s (claim_of c) v
  taken_there o v on = record {
    allowed = of.case.given.allowed v on;
    reached = setting.reached v (of.within v on);
    is_open = λ shut. o (shown_here v on shut_row shut);
  }

  pub taken_opens : (v : Valuation) → IsIn case.condition v → IsRowTaken s (claim_of c) v → ¬ AreShutAtOnce here
  taken_opens v on t shut = t.is_open (shown_there v on shut_row shut)

  -- its updates and its rows
  many_updates : length case.updates ≡ s.memories
  many_updates = ap length (sym (of.case.updates some some_in)) ∙ updates_long s some s.memories

  updates : All (IsUpdate s) case.updates
  updates = All-from_get_or (IsUpdate s) case.updates no_form (λ k l.
      let known : k < s.memories = omega (arith, l, many_updates) in
      let y = judge.system in
      subst (IsUpdate s)
      (sym (update_at s some no_form s.memories k known) ∙ ap (λ (fs : List Form). get_or fs k no_form) (of.case.updates some some_in))
      (y.updates some k known))

  case_within : All (RowWithin (2 ^ 60)) case.rows
  case_within = All-from_get_or (RowWithin (2 ^ 60)) case.rows no_row (λ i l.
      let x = of.case.tests in
      let counts = x.counts in
      let inside : i < length case.tests = omega (arith, l, counts) in
      let at = slice_get-get_or case.tests i 0 inside in
      let r_at = slice_get-get_or case.rows i no_row l in
      let y = judge.system in
      premise_of_test s (row_at case.rows i)
      (y.rows some (get_or case.tests i 0) (row_at case.rows i) (x.known i (get_or case.tests i 0) at)
      (x.present i (get_or case.tests i 0) (row_at case.rows i) some at r_at some_in)))

  given_within : All (RowWithin (2 ^ 60)) given
  given_within = All-weaker (λ (r : Row). (length r.coefficients ≡ s.memories) × Fits r) (RowWithin (2 ^ 60)) (λ r h. premise_of_kept r h.1) given
      setting.kept.0

  pub premises_within : All (RowWithin (2 ^ 60)) here
  premises_within = All-append (RowWithin (2 ^ 60)) given case.rows given_within case_within

  pub premises_few : length here < 2 ^ 32
  premises_few =
      let few = setting.few in
      omega (arith, length-append given case.rows, ap length (case_rows s case some of.case some_in), rows_few s some s.tests, few)

  pub numbers_few : length given + many < 2 ^ 32
  numbers_few = let few = setting.few in let e = judge.tests in omega (arith, few, e)

  -- where the premises are not shut each row of the claim can be shown
  pub can_show : ¬ AreShutAtOnce here → (n : ℕ) (r : Row) → slice_get c.rows n ≡ Some r → CanShow here case.updates r
  can_show o n r at = record {
    room = has_room s judge.system r case.updates size fits many_updates updates;
    small = stays_small s judge.system r case.updates size fits many_updates updates;
    shown = λ new sub. let k = judge.closed in shown new sub (k.rows some (taken_there o some some_in) r listed);
  }
    where
      same_row : get_or c.rows n r ≡ r
      same_row = get_or_from_slice_get c.rows n r r at

      listed : Contains c.rows r
      listed = (n, slice_get_within c.rows n r at, same_row)

      kept : (length r.coefficients ≡ s.memories) × Fits r
      kept = let k = judge.kept.0 n r (slice_get_within c.rows n r at) in subst (λ (x : Row). (length x.coefficients ≡ s.memories) × Fits x) same_row k

      size : length r.coefficients ≡ s.memories
      size = kept.0

      fits : Fits r
      fits = kept.1

      shown : (new : Row) → IsSubstituted r case.updates new
          → (old : Row) × IsSubstituted r (updates_of s some) old × ShowsAtOnce (premises_at s (claim_of c) some) old → ShowsAtOnce here new
      shown new sub (old, by, shows) =
          let also : IsSubstituted r case.updates old = subst (λ (fs : List Form). IsSubstituted r fs old) (of.case.updates some some_in) by in
          shows_same here old new (λ k. sub.coefficients k ∙ sym (also.coefficients k)) (sub.bound ∙ sym also.bound) (shown_here some some_in old shows)

  -- what happens in the case is what the claim asks for
  made_there : (kind : EntryKind) → IsMadeKind many given c.rows case kind → IsMadeKind s.tests given c.rows case kind
  made_there kind made = subst (λ (n : ℕ). IsMadeKind n given c.rows case kind) judge.tests made

  kind_at : (kind : EntryKind) → IsMadeKind s.tests given c.rows case kind → (v : Valuation) → IsIn case.condition v
      → IsClaimKind s (claim_of c) given v kind
  kind_at (Dead m) shut v on = shut_refuted s case of.case v on given m shut
  kind_at (Go target reach) (one, holds, o, are) v on = (
    one,
    taken_there o v on,
    λ n r m r_at m_at. reached_shown s case of.case v on given r m (are.each n r m r_at m_at),
  )
  kind_at (Loop first before around state) h v on = absurd h

  ranged : (kind : EntryKind) → IsMadeKind s.tests given c.rows case kind → IsRangedKind (length given + s.tests) (length c.rows) kind
  ranged (Dead m) pair = (pair_record s case of.case some some_in given shut_row m pair, pair_divisor s case of.case some some_in given shut_row m pair)
  ranged (Go target reach) (one, holds, o, are) = (one, are.size, λ j d l. each j d l)
    where
      record_of : (r : Row) (m : Multipliers) → IsReached s.tests given case r m → IsRecord (length given + s.tests) m
      record_of r m (new, sub, pair) = pair_record s case of.case some some_in given new m pair

      each : (j : ℕ) (d : Multipliers) → j < length reach → IsRecord (length given + s.tests) (get_or reach j d)
      each j d l =
          let size = are.size in
          record_of (row_at c.rows j) (get_or reach j d)
          (are.each j (row_at c.rows j) (get_or reach j d) (slice_get-get_or c.rows j no_row (omega (arith, l, size))) (slice_get-get_or reach j d l))
  ranged (Loop first before around state) h = absurd h

  -- the observer is true at a step
  good_case : (kind : EntryKind) → IsMadeKind many given c.rows case kind → (v : Valuation) → IsIn case.condition v → IsRowTaken s (claim_of c) v
      → IsTrue (s.observer v)
  good_case (Dead m) shut v on t = absurd (taken_opens v on t (shut_shows many given case m shut))
  good_case (Go target reach) (one, holds, o, are) v on t = of.case.observer v on ∙ holds
  good_case (Loop first before around state) h v on t = absurd h

  pub made_entry : (kind : EntryKind) → IsMadeKind many given c.rows case kind
      → IsEntryOf s (claim_of c) given case (record { condition = case.condition; kind = kind })
  made_entry kind made = record {
    condition = refl;
    kind = kind_at kind (made_there kind made);
    ranged = ranged kind (made_there kind made);
    good = good_case kind made;
  }

  -- a case that is not shut, where the observer is false
  pub bad_case : case.observer ≡ false → ¬ AreShutAtOnce here → IsBad s (claim_of c)
  bad_case off o = (some, taken_there o some some_in, of.case.observer some some_in ∙ off)

  -- the same of premises that are these
  module _ (premises : List Row) (is : premises ≡ here) where
    pub within_of : All (RowWithin (2 ^ 60)) premises
    within_of = subst (λ (ps : List Row). All (RowWithin (2 ^ 60)) ps) (sym is) premises_within

    pub few_of : length premises < 2 ^ 32
    few_of = let few = premises_few in omega (arith, few, ap length is)

    pub show_of : ¬ AreShutAtOnce premises → (n : ℕ) (r : Row) → slice_get c.rows n ≡ Some r → CanShow premises case.updates r
    show_of o n r at = subst (λ (ps : List Row). CanShow ps case.updates r) (sym is) (can_show opens n r at)
      where
        opens : ¬ AreShutAtOnce here
        opens shut = o (subst (λ (ps : List Row). AreShutAtOnce ps) (sym is) shut)
