-- The claim at which rounds begin, and the one at which they end.
use Rattle.std.proofs.Common.{◌≡◌, ℕ, ◌^◌, ◌<◌, ◌≤◌, ℤ, negsuc, ◌≤ℤ◌, ◌<ℤ◌, true, List, length, All, Option, Some, IsTrue}
use Rattle.std.proofs.Common.{arith, refl, sym, ap, ◌∙◌, subst, ◌⊎◌, inl, inr, None as Nothing}
use Rattle.std.proofs.{lemmas.Option.same_Some, lemmas.Option.none-some, lemmas.Int.ints, lemmas.Bool.cases_lt}
use Rattle.std.proofs.{lemmas.List.get_or_past, lemmas.List.Elements.All-contains}
use Rattle.std.specs.{List.Contains, Int.RustNames.unsigned_abs}
use Rattle.rv_diagram.specs.{Nodes.Valuation}
use Rattle.rv_rows.specs.{declared.linear.Row.Row, Rows.row_at}
use Rattle.rv_seek.specs.Least.{bounded}
use Rattle.rv_proofs.specs.Systems.{System, IsSystem, HasSameState}
use Rattle.rv_proofs.specs.RowClaims.{HasOne, HasTwo, IsCandidate, IsRowClaim, IsRowClosed, HasTighter}
use Rattle.rv_proofs.specs.{Cases.IsInitialSet}
use Rattle.rv_proofs.proofs.ControlReads.{control_same}
use Rattle.rv_walk.specs.Ends.{has}
use Rattle.rv_claims.specs.Order.{IsBelowClosed}
use Rattle.rv_ends.specs.Thresholds.{IsLeastAbove}
use Rattle.rv_rise.specs.Rounds.{IsFrameOf, IsKeptRisen, IsLeastRisen, claim_in}
use Rattle.rv_rise.specs.{declared.frame.Frame.Frame, declared.risen.Risen.Risen, Limits.limit_at, Limits.AreFirst, Sides.rows_with}
use Rattle.rv_rise.proofs.{Listing.IsRowAt, Listing.rows_with-has, Listing.rows_with-from, Listing.rows_with-different}
use Rattle.rv_base.proofs.Truths.{clash}
use Rattle.rv_diagram.proofs.Several.{same_truth}

-- a row with the left side of a candidate is a candidate
same_shape : (s : System) (side r : Row) → r.coefficients ≡ side.coefficients → HasOne s side ⊎ HasTwo s side → HasOne s r ⊎ HasTwo s r
same_shape s side r e shape = subst (λ (cs : List ℤ). HasOne s (bounded cs r.bound) ⊎ HasTwo s (bounded cs r.bound)) (sym e) (there shape)
  where
    there : HasOne s side ⊎ HasTwo s side → HasOne s (bounded side.coefficients r.bound) ⊎ HasTwo s (bounded side.coefficients r.bound)
    there (inl one) = inl (record { column = one.column; there = one.there; one = one.one; others = one.others })
    there (inr two) = inr (record {
      few = two.few;
      first = two.first;
      second = two.second;
      different = two.different;
      there = two.there;
      one = two.one;
      other = two.other;
      others = two.others;
    })

pub claim_kept : (s : System) (f : Frame) → IsFrameOf s f → (c : Risen) → IsKeptRisen s f c → IsRowClaim s f.thresholds (claim_in f c)
claim_kept s f frame c kept = record {
  reached = λ v w same. same_truth (has c.reached v) (has c.reached w) (λ i. control_same s c.reached v w kept.control same i)
      (λ i. control_same s c.reached w v kept.control (λ x state. sym (same x state)) i);
  rows = λ r known. candidate r (rows_with-from f.sides c.limits r known);
  different = rows_with-different f.sides c.limits (let sides = frame.sides in sides.different);
}
  where
    candidate : (r : Row) → IsRowAt f.sides c.limits r → IsCandidate s f.thresholds r
    candidate r at =
        let sides = frame.sides in
        let side = sides.each at.place at.there in
        record {
          size = ap length at.side ∙ side.size;
          bound = kept.among at.place r.bound at.limit;
          shape = same_shape s (row_at f.sides at.place) r at.side side.shape;
        }

pub least_of : (s : System) (f : Frame) → IsFrameOf s f → (c : Risen) → IsKeptRisen s f c → IsBelowClosed s f.thresholds (claim_in f c)
    → IsRowClosed s (claim_in f c) → IsLeastRisen s f c
least_of s f frame c kept below closed = record {
  kept = kept;
  least = record { claim = claim_kept s f frame c kept; closed = closed; least = below };
}

-- the claim that the search begins with
pub first_states : (s : System) → IsSystem s → (v : Valuation) → IsTrue (s.initial v) → 0 < s.states
first_states s is v starts = go (cases_lt 0 s.states)
  where
    all : Valuation
    all x = true

    go : (0 < s.states) ⊎ (s.states ≤ 0) → 0 < s.states
    go (inl l) = l
    go (inr m) =
        let same : HasSameState s v all = λ x (i, l, e). absurd (omega (arith, m, l)) in
        absurd (clash true refl (is.unticked all (sym (is.initial v all same) ∙ starts)))

pub first_claimed : (s : System) → IsSystem s → (f : Frame) → IsFrameOf s f → (c : Risen) → IsInitialSet s c.reached
    → AreFirst f.thresholds (length f.sides) c.limits → IsKeptRisen s f c × IsBelowClosed s f.thresholds (claim_in f c)
first_claimed s is f frame c initial limits = (
  record {
    control = initial.control;
    initial = λ v i. (initial.exact v).1 i;
    ticked = λ v i. inl ((initial.exact v).0 i);
    states = λ v i. first_states s is v ((initial.exact v).0 i);
    size = limits.size;
    among = limits.among;
  },
  λ d claim closed. record {
    reached = λ v i. closed.initial v ((initial.exact v).0 i);
    rows = λ r known. tighter r (claim.rows r known);
  },
)
  where
    tighter : (r : Row) → IsCandidate s f.thresholds r → HasTighter (rows_with f.sides c.limits) r
    tighter r candidate =
        let sides = frame.sides in
        let (k, l, same) = sides.all r candidate.size candidate.shape in
        let (b, at, le) = limits.least k r.bound l candidate.bound in
        (bounded (row_at f.sides k).coefficients b, rows_with-has f.sides c.limits k b l at, same, le)

-- the limits that the search begins with
pub first_are : (thresholds : List ℤ) (many : ℕ) (limits : List (Option ℤ)) (o : Option ℤ) → All (λ t. unsigned_abs t ≤ 2 ^ 41) thresholds
    → IsLeastAbove thresholds (negsuc 2199023255551) o → length limits ≡ many → ((k : ℕ) → k < many → limit_at limits k ≡ o)
    → AreFirst thresholds many limits
first_are thresholds many limits o small above size each = record {
  size = size;
  among = λ k b at. among k b at (cases_lt k many);
  least = λ k t known has. least k t known has o refl above;
}
  where
    of : (x : Option ℤ) (b : ℤ) → x ≡ Some b → IsLeastAbove thresholds (negsuc 2199023255551) x → Contains thresholds b
    of (Some a) b e h = subst (Contains thresholds) (same_Some a b e) h.some.0
    of Nothing b e h = cc

    among : (k : ℕ) (b : ℤ) → limit_at limits k ≡ Some b → (k < many) ⊎ (many ≤ k) → Contains thresholds b
    among k b at (inl l) = of o b (sym (each k l) ∙ at) above
    among k b at (inr m) = absurd (none-some b (sym (get_or_past limits k Nothing (omega (arith, m, size))) ∙ at))

    low : (t : ℤ) → unsigned_abs t ≤ 2 ^ 41 → negsuc 2199023255551 ≤ℤ t
    low t l = omega (arith, ints)

    least : (k : ℕ) (t : ℤ) → k < many → Contains thresholds t → (x : Option ℤ) → o ≡ x → IsLeastAbove thresholds (negsuc 2199023255551) x
        → (b : ℤ) × (limit_at limits k ≡ Some b) × (b ≤ℤ t)
    least k t known has (Some b) e h = (b, each k known ∙ e, h.some.2 t has (low t (All-contains (λ (z : ℤ). unsigned_abs z ≤ 2 ^ 41) thresholds t small has)))
    least k t known has Nothing e h = absurd (apart t (low t (All-contains (λ (z : ℤ). unsigned_abs z ≤ 2 ^ 41) thresholds t small has)) (h.none t has))
      where
        apart : (t : ℤ) → negsuc 2199023255551 ≤ℤ t → t <ℤ negsuc 2199023255551 → ⊥
        apart t l m = omega (arith, ints)
