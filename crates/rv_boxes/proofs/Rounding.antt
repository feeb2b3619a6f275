-- The rows of a claim's bounds, its cases, and the claim that a pass begins with.
use Rattle.std.proofs.Common.{◌≡◌, ◌≢◌, ℕ, ◌+◌, ◌-◌, ◌*◌, ◌^◌, ◌<◌, ◌≤◌, ℤ, pos, negsuc, ◌-ℤ◌, ◌*ℤ◌, ◌≤ℤ◌, ◌<ℤ◌, Bool, true, false, cond, List, [], length}
use Rattle.std.proofs.Common.{get_or, All, Option, Some, IsTrue, arith, lit≤, refl, sym, ap, ◌∙◌, subst, ◌⊎◌, inl, inr, None as Nothing}
use Rattle.std.proofs.lemmas.Option.{same_Some, none-some, slice_get_within, get_or_from_slice_get}
use Rattle.std.proofs.lemmas.List.{get_or_append_left, get_or-append-add, length-append, get_or_read, get_or_default, get_or_past}
use Rattle.std.proofs.{lemmas.Int.ints, lemmas.Bool.cases_lt, lemmas.Bool.cases_eq, lemmas.Bool.cases_Bool, lemmas.List.Elements.All-nil}
use Rattle.std.proofs.{lemmas.List.Elements.All-contains, lemmas.List.Elements.All-from_get_or}
use Rattle.std.specs.{List.Contains, Int.RustNames.unsigned_abs}
use Rattle.rv_diagram.specs.{Nodes.Valuation, declared.frozen.Frozen.Frozen}
use Rattle.rv_rows.specs.{declared.linear.Row.Row, Rows.coefficient, Rows.row_at, Forms.number, Tight.Fits}
use Rattle.rv_proofs.specs.{Systems.System, Systems.IsSystem, Systems.HasSameState, Scopes.IsIn, Ranges.AreKept, Boxes.BoxClaim, Boxes.IsBoxClaim}
use Rattle.rv_proofs.specs.{Boxes.IsTaken, Boxes.IsUnitAt, Cases.AreCases, Cases.IsInitialSet, declared.report.Case.Case}
use Rattle.rv_proofs.proofs.ControlReads.{control_same}
use Rattle.rv_walk.specs.Ends.{has}
use Rattle.rv_boxes.specs.Rounds.{IsSetting, IsKeptClaim, IsInCases, IsRest, AreFirst, left_of}
use Rattle.rv_boxes.specs.{declared.frame.Frame.Frame, declared.claim.Claim.Claim, Built.nothing, Built.IsUpperRow, Built.IsLowerRow, Built.AreBounds}
use Rattle.rv_boxes.specs.{Built.HasBounds, Bounding.IsLimitRow, Bounding.AreBothRows, Orders.IsBelowClosed, Orders.IsLeastAbove, Limits.limit_at}
use Rattle.rv_boxes.specs.{Limits.AreAmong, Opening.IsFrameOf, Opening.AreOpposite, Claiming.turned, Claiming.claim_with, Claiming.claim_of}
use Rattle.rv_boxes.proofs.{Composing.turned_back, Stepping.opposite_in}
use Rattle.rv_walk.proofs.Stages.{rest_from, rest_parts}
use Rattle.rv_base.proofs.Truths.{clash}
use Rattle.rv_diagram.proofs.Several.{same_truth}

-- the rows of both lists are those of the claim's bounds
module _ (s : System) (reached : Valuation → Bool) (upper lower : List (Option ℤ)) (rows : List Row) (are : AreBothRows upper lower s.memories rows) where
  abbrev c : BoxClaim
  c = claim_with reached upper lower

  at_first : (p : ℕ) → p < length are.first → row_at rows p ≡ row_at are.first p
  at_first p l = ap (λ (rs : List Row). row_at rs p) are.are ∙ get_or_append_left are.first are.second nothing p l

  at_second : (p : ℕ) → row_at rows (length are.first + p) ≡ row_at are.second p
  at_second p = ap (λ (rs : List Row). row_at rs (length are.first + p)) are.are ∙ get_or-append-add are.first are.second p nothing

  long : length rows ≡ length are.first + length are.second
  long = ap length are.are ∙ length-append are.first are.second

  abbrev IsSide : Row → Type 0
  IsSide r = IsLimitRow upper s.memories (pos 1) r ⊎ IsLimitRow lower s.memories (negsuc 0) r

  side : (p : ℕ) → p < length rows → IsSide (row_at rows p)
  side p l = go (cases_lt p (length are.first))
    where
      go : (p < length are.first) ⊎ (length are.first ≤ p) → IsSide (row_at rows p)
      go (inl m) = let u = are.uppers in inl (subst (IsLimitRow upper s.memories (pos 1)) (sym (at_first p m)) (u.each p m))
      go (inr m) =
          let q = p - length are.first in
          let e : p ≡ length are.first + q = omega (arith, m) in
          let inside : q < length are.second = omega (arith, l, long, e) in
          let w = are.lowers in
          inr (subst (IsLimitRow lower s.memories (negsuc 0)) (sym (ap (row_at rows) e ∙ at_second q)) (w.each q inside))

  pub rows_bounds : AreBounds s c rows
  rows_bounds n r at =
      let inside = slice_get_within rows n r at in
      let same : row_at rows n ≡ r = get_or_from_slice_get rows n r nothing at in
      subst (λ (x : Row). (length x.coefficients ≡ s.memories) × ((k : ℕ) × (k < s.memories)
      × (IsUpperRow c k x ⊎ IsLowerRow c k x))) same (go (row_at rows n) (side n inside))
    where
      go : (x : Row) → IsSide x → (length x.coefficients ≡ s.memories) × ((k : ℕ) × (k < s.memories) × (IsUpperRow c k x ⊎ IsLowerRow c k x))
      go x (inl u) = (u.width, (u.memory, u.known, inl (u.unit, u.limit)))
      go x (inr u) = (u.width, (u.memory, u.known, inr (u.unit, (pos 0 -ℤ x.bound, ap turned u.limit, back x.bound))))
        where
          back : (b : ℤ) → b ≡ pos 0 -ℤ (pos 0 -ℤ b)
          back b = omega (arith, ints)

  pub rows_has : HasBounds s c rows
  rows_has = record {
    upper = λ k b known at.
        let u = are.uppers in
        let (p, l, unit, is) = u.some k b known at in
        (p, omega (arith, long, l), subst (IsUpperRow c k) (sym (at_first p l)) (unit, at ∙ ap Some (sym is)));
    lower = λ k b known at.
        let w = are.lowers in
        let (p, l, unit, is) = w.some k (pos 0 -ℤ b) known (turned_back (limit_at lower k) b at) in
        (length are.first + p, omega (arith, long, l), subst (IsLowerRow c k) (sym (at_second p)) (unit, (b, at, is)));
  }

  pub rows_few : length rows ≤ 2 * s.memories
  rows_few = let u = are.uppers in let w = are.lowers in let m = u.few in let n = w.few in omega (arith, long, m, n)

  module _ (thresholds opposites : List ℤ) (small : All (λ t. unsigned_abs t ≤ 2 ^ 41) thresholds) (turned_small : All (λ t. unsigned_abs t ≤ 2 ^ 41) opposites)
      (upper_among : AreAmong thresholds upper) (lower_among : AreAmong opposites lower) where
    fit : (r : Row) (k : ℕ) (z : ℤ) → unsigned_abs z ≤ 1 → IsUnitAt r k z → unsigned_abs r.bound ≤ 2 ^ 41 → Fits r
    fit r k z one u m = record {
      coefficients = All-from_get_or (λ (x : ℤ). unsigned_abs x ≤ 2 ^ 30) r.coefficients (pos 0) (λ n l. at n (cases_eq n k));
      bound = omega (arith, m);
    }
      where
        at : (n : ℕ) → (n ≡ k) ⊎ (n ≢ k) → unsigned_abs (coefficient n r) ≤ 2 ^ 30
        at n (inl e) = let q : coefficient n r ≡ z = ap (λ (j : ℕ). coefficient j r) e ∙ u.here in rw q (omega (arith, one))
        at n (inr ne) = let q : coefficient n r ≡ pos 0 = u.others n ne in rw q (omega arith)

    row_kept : (r : Row) → IsSide r → (length r.coefficients ≡ s.memories) × Fits r
    row_kept r (inl u) = (
      u.width,
      fit r u.memory (pos 1) (omega arith) u.unit (All-contains (λ (t : ℤ). unsigned_abs t ≤ 2 ^ 41) thresholds r.bound
          small (upper_among u.memory r.bound u.limit)),
    )
    row_kept r (inr u) = (
      u.width,
      fit r u.memory (negsuc 0) (omega arith) u.unit
          (All-contains (λ (t : ℤ). unsigned_abs t ≤ 2 ^ 41) opposites r.bound turned_small (lower_among u.memory r.bound u.limit)),
    )

    pub rows_kept : s.memories ≤ 64 → AreKept s rows
    rows_kept few = (
      All-from_get_or (λ (r : Row). (length r.coefficients ≡ s.memories) × Fits r) rows nothing (λ p l. row_kept (row_at rows p) (side p l)),
      omega (arith, rows_few, few),
    )

none_kept : (s : System) → AreKept s []
none_kept s = (All-nil (λ (r : Row). (length r.coefficients ≡ s.memories) × Fits r), lit≤ tt)

module _ (s : System) (is : IsSystem s) (f : Frame) (frame : IsFrameOf s f) (c : Claim) (kept : IsKeptClaim s f c) (first : Frozen)
    (initial : IsInitialSet s first) where
  first_started : (v : Valuation) → IsIn first v → IsTrue (s.initial v)
  first_started v i = (initial.exact v).0 i

  -- the initial control states, without rows
  pub setting_first : IsSetting s (claim_of c) first []
  setting_first = record {
    control = initial.control;
    claimed = record {
      reached = λ v i. kept.initial v (first_started v i);
      bounds = λ v i on. absurd (clash (v 0) on (is.unticked v (first_started v i)));
    };
    ticked = λ v i. inl refl;
    states = λ v i. kept.states v (kept.initial v (first_started v i));
    bounds = λ n r at. absurd (none r at);
    kept = none_kept s;
    few = lit≤ tt;
  }
    where
      none : (r : Row) → Nothing ≡ Some r → ⊥
      none r e = cc

  module _ (control : Frozen) (given : List Row) (rest : IsRest s first c control given) where
    apart : (v : Valuation) → IsIn control v → (has c.reached v ≡ true) × (has first v ≡ false)
    apart v i = rest_parts (has c.reached v) (has first v) (sym (rest.exact v) ∙ i)

    both_rows : AreBothRows c.upper c.lower s.memories given
    both_rows = subst (λ (m : ℕ). AreBothRows c.upper c.lower m given) kept.uppers rest.rows

    -- the others, with the rows of the bounds
    pub setting_others : IsSetting s (claim_of c) control given
    setting_others = record {
      control = rest.control;
      claimed = record {
        reached = λ v i. (apart v i).0;
        bounds = λ v i on. rows_has s (has c.reached) c.upper c.lower given both_rows;
      };
      ticked = λ v i. inr (ticked v i (kept.ticked v (apart v i).0));
      states = λ v i. kept.states v (apart v i).0;
      bounds = rows_bounds s (has c.reached) c.upper c.lower given both_rows;
      kept = rows_kept s (has c.reached) c.upper c.lower given both_rows f.thresholds f.opposites frame.small frame.turned_small kept.upper_among
          kept.lower_among few;
      few = let n = rows_few s (has c.reached) c.upper c.lower given both_rows in omega (arith, n, few);
    }
      where
        few : s.memories ≤ 64
        few = let l = is.limits in l.memories

        ticked : (v : Valuation) → IsIn control v → IsTrue (s.initial v) ⊎ (v 0 ≡ true) → v 0 ≡ true
        ticked v i (inl starts) = absurd (clash (has first v) ((initial.exact v).1 starts) (apart v i).1)
        ticked v i (inr on) = on

    module _ (from : Frozen) (known : List Case) (are : AreCases s from known) (within : (v : Valuation) → IsIn control v → IsIn from v) where
      in_known : (v : Valuation) → IsTaken s (claim_of c) v → has first v ≡ false → IsInCases known (length known) v × IsIn control v
      in_known v t n =
          let i : has control v ≡ true = rest.exact v ∙ rest_from (has c.reached v) (has first v) t.reached n in
          let (j, d, at, on) = are.covered v t.allowed (within v i) in ((j, d, slice_get_within known j d at, at, on), i)

      -- each taken valuation is in a case of one of the two, and its control state in its set
      pub in_a_case : (from_first : List Case) → AreCases s first from_first → (v : Valuation) → IsTaken s (claim_of c) v
          → (IsInCases from_first (length from_first) v × IsIn first v) ⊎ (IsInCases known (length known) v × IsIn control v)
      in_a_case from_first cases v t = go (cases_Bool (has first v))
        where
          go : (has first v ≡ true) ⊎ (has first v ≡ false)
              → (IsInCases from_first (length from_first) v × IsIn first v) ⊎ (IsInCases known (length known) v × IsIn control v)
          go (inl i) = let (j, d, at, on) = cases.covered v t.allowed i in inl ((j, d, slice_get_within from_first j d at, at, on), i)
          go (inr n) = inr (in_known v t n)

-- a threshold is one whose opposite is an opposite
opposite_out : (numbers opposites : List ℤ) → AreOpposite numbers opposites → (b : ℤ) → Contains opposites (pos 0 -ℤ b) → Contains numbers b
opposite_out numbers opposites are b (k, l, at) =
    let size = are.size in
    let inside : k < length numbers = omega (arith, l, size) in
    let one : get_or opposites k (pos 0) ≡ pos 0 -ℤ b = sym (get_or_read opposites k (pos 0 -ℤ b) l (sym at) (pos 0)) in
    (k, inside, get_or_default numbers k b (pos 0) inside ∙ flip (number k numbers) (number k opposites) b (are.each k) one)
  where
    flip : (n o b : ℤ) → o ≡ negsuc 0 *ℤ n → o ≡ pos 0 -ℤ b → n ≡ b
    flip n o b e d = omega (arith, ints)

pub kept_claim : (s : System) (f : Frame) → IsFrameOf s f → (c : Claim) → IsKeptClaim s f c → IsBoxClaim s f.thresholds (claim_of c)
kept_claim s f frame c kept = record {
  reached = λ v w same. same_truth (has c.reached v) (has c.reached w) (λ i. control_same s c.reached v w kept.control same i)
      (λ i. control_same s c.reached w v kept.control (λ x state. sym (same x state)) i);
  lower = λ k b known at. opposite_out f.thresholds f.opposites frame.turned b (kept.lower_among k (pos 0 -ℤ b) (turned_back (limit_at c.lower k) b at));
  upper = λ k b known at. kept.upper_among k b at;
}

-- the claim that the pass begins with
pub first_states : (s : System) → IsSystem s → (v : Valuation) → IsTrue (s.initial v) → 0 < s.states
first_states s is v starts = go (cases_lt 0 s.states)
  where
    all : Valuation
    all x = true

    go : (0 < s.states) ⊎ (s.states ≤ 0) → 0 < s.states
    go (inl l) = l
    go (inr m) =
        let same : HasSameState s v all = λ x (i, l, e). absurd (omega (arith, m, l)) in
        absurd (clash true refl (is.unticked all (sym (is.initial v all same) ∙ starts)))

pub first_claimed : (s : System) → IsSystem s → (f : Frame) → IsFrameOf s f → (c : Claim) → IsInitialSet s c.reached → AreFirst f.thresholds s.memories c.upper
    → AreFirst f.opposites s.memories c.lower → IsKeptClaim s f c × IsBelowClosed s f.thresholds (claim_of c)
first_claimed s is f frame c initial upper lower = (
  record {
    control = initial.control;
    initial = λ v i. (initial.exact v).1 i;
    ticked = λ v i. inl ((initial.exact v).0 i);
    states = λ v i. first_states s is v ((initial.exact v).0 i);
    uppers = upper.size;
    lowers = lower.size;
    upper_among = upper.among;
    lower_among = lower.among;
  },
  λ d claim closed. record {
    reached = λ v i. closed.initial v ((initial.exact v).0 i);
    lower = λ k b known at. turn k b (lower.least k (pos 0 -ℤ b) known (opposite_in f.thresholds f.opposites frame.turned b (claim.lower k b known at)));
    upper = λ k b known at. upper.least k b known (claim.upper k b known at);
  },
)
  where
    flip : (a b : ℤ) → a ≤ℤ (pos 0 -ℤ b) → b ≤ℤ (pos 0 -ℤ a)
    flip a b l = omega (arith, ints)

    turn : (k : ℕ) (b : ℤ) → (a : ℤ) × (limit_at c.lower k ≡ Some a) × (a ≤ℤ (pos 0 -ℤ b)) → (a : ℤ) × (turned (limit_at c.lower k) ≡ Some a) × (b ≤ℤ a)
    turn k b (a, e, l) = (pos 0 -ℤ a, ap turned e, flip a b l)

-- the limits that the pass begins with
pub first_are : (thresholds : List ℤ) (memories : ℕ) (limits : List (Option ℤ)) (o : Option ℤ) → All (λ t. unsigned_abs t ≤ 2 ^ 41) thresholds
    → IsLeastAbove thresholds (negsuc 2199023255551) o → length limits ≡ memories → ((k : ℕ) → k < memories → limit_at limits k ≡ o)
    → AreFirst thresholds memories limits
first_are thresholds memories limits o small above size each = record {
  size = size;
  among = λ k b at. among k b at (cases_lt k memories);
  least = λ k t known has. least k t known has o refl above;
}
  where
    of : (x : Option ℤ) (b : ℤ) → x ≡ Some b → IsLeastAbove thresholds (negsuc 2199023255551) x → Contains thresholds b
    of (Some a) b e h = subst (Contains thresholds) (same_Some a b e) h.some.0
    of Nothing b e h = cc

    among : (k : ℕ) (b : ℤ) → limit_at limits k ≡ Some b → (k < memories) ⊎ (memories ≤ k) → Contains thresholds b
    among k b at (inl l) = of o b (sym (each k l) ∙ at) above
    among k b at (inr m) = absurd (none-some b (sym (get_or_past limits k Nothing (omega (arith, m, size))) ∙ at))

    low : (t : ℤ) → unsigned_abs t ≤ 2 ^ 41 → negsuc 2199023255551 ≤ℤ t
    low t l = omega (arith, ints)

    least : (k : ℕ) (t : ℤ) → k < memories → Contains thresholds t → (x : Option ℤ) → o ≡ x → IsLeastAbove thresholds (negsuc 2199023255551) x
        → (b : ℤ) × (limit_at limits k ≡ Some b) × (b ≤ℤ t)
    least k t known has (Some b) e h = (b, each k known ∙ e, h.some.2 t has (low t (All-contains (λ (z : ℤ). unsigned_abs z ≤ 2 ^ 41) thresholds t small has)))
    least k t known has Nothing e h = absurd (apart t (low t (All-contains (λ (z : ℤ). unsigned_abs z ≤ 2 ^ 41) thresholds t small has)) (h.none t has))
      where
        apart : (t : ℤ) → negsuc 2199023255551 ≤ℤ t → t <ℤ negsuc 2199023255551 → ⊥
        apart t l m = omega (arith, ints)
