-- Successors and predecessors by a case of a system, and the answers that hold them.
use Rattle.std.proofs.Common.{◌≡◌, ◌⊎◌, ℕ, zero, suc, ◌+◌, ◌-◌, ◌≤◌, ◌<◌, ℤ, List, [], ◌∷◌, ◌++◌, length, All, Option, Some, None, arith, refl, ap, sym}
use Rattle.std.proofs.Common.{◌∙◌, subst, inl, inr}
use Rattle.std.proofs.lemmas.List.{length-append, length_push, get_or_append_left, get_or_push}
use Rattle.std.proofs.{lemmas.Bool.cases_lt, lemmas.List.Elements.All-nil, lemmas.List.Elements.All-push, lemmas.List.Elements.All-append}
use Rattle.rv_diagram.specs.{Nodes.Valuation, declared.frozen.Frozen.Frozen}
use Rattle.rv_rows.specs.{declared.linear.Row.Row, declared.linear.Form.Form, Rows.Holds, Forms.values, Tight.Fits}
use Rattle.rv_poly.specs.{Points.HasPoint, Images.IsImage as IsImagePoint, Images.AreMoves, Images.IsNarrow, Images.StaysWithin, Befores.IsBefore}
use Rattle.rv_proofs.specs.Systems.{System, IsSystem, Agrees, rows_among, held_row}
use Rattle.rv_proofs.specs.{Scopes.IsIn, Cases.IsCaseOf, Cases.IsImage, Cases.IsPreimage, declared.report.Case.Case}
use Rattle.rv_proofs.proofs.{CaseRows.case_rows, Claims.updates_long}
use Rattle.rv_state.specs.{declared.value.Abstract.Abstract, States.HasState, States.IsUpdated, States.IsMove, States.IsSuccessor}
use Rattle.rv_state.specs.Predecessors.{IsPredecessor}
use Rattle.rv_state.proofs.PointLemmas.{image-updated}

-- the rows of a valuation hold at a point exactly where each row of a test does
rows-hold : (s : System) (v : Valuation) (point : List ℤ) → Agrees s v point → (n : ℕ) → n ≤ s.tests → HasPoint (rows_among s v n) point
rows-hold s v point a zero l = All-nil (λ r. Holds r point)
rows-hold s v point a (suc n) l = All-append (λ r. Holds r point) (rows_among s v n) (held_row (s.row v n)) (rows-hold s v point a n (omega arith))
    (go (s.row v n) refl)
  where
    go : (o : Option Row) → s.row v n ≡ o → HasPoint (held_row o) point
    go None e = All-nil (λ r. Holds r point)
    go (Some r) e = All-push (λ q. Holds q point) [] r (All-nil (λ q. Holds q point)) (a.rows n r (omega arith) e)

tests-hold : (s : System) (v : Valuation) (point : List ℤ) (n : ℕ) → HasPoint (rows_among s v n) point → (t : ℕ) (r : Row) → t < n → s.row v t ≡ Some r
    → Holds r point
tests-hold s v point zero h t r l at = absurd (omega arith)
tests-hold s v point (suc n) h t r l at = go (λ less. tests-hold s v point n before t r less at) (cases_lt t n)
  where
    before : HasPoint (rows_among s v n) point
    before i d m =
        let k : i < length (rows_among s v n ++ held_row (s.row v n)) = omega (arith, length-append (rows_among s v n) (held_row (s.row v n))) in
        subst (λ (q : Row). Holds q point) (get_or_append_left (rows_among s v n) (held_row (s.row v n)) d i m) (h i d k)

    last : s.row v n ≡ Some r → Holds r point
    last e =
        let whole : HasPoint (rows_among s v n ++ r ∷ []) point = subst (λ (o : Option Row). HasPoint (rows_among s v n ++ held_row o) point) e h in
        let size = length_push (rows_among s v n) r in
        subst (λ (q : Row). Holds q point) (get_or_push (rows_among s v n) r r (length (rows_among s v n)) refl)
        (whole (length (rows_among s v n)) r (omega arith))

    go : (t < n → Holds r point) → (t < n) ⊎ (n ≤ t) → Holds r point
    go earlier (inl less) = earlier less
    go earlier (inr more) = let e : t ≡ n = omega arith in last (subst (λ (k : ℕ). s.row v k ≡ Some r) e at)

module _ (s : System) (c : Case) (of : IsCaseOf s c) where
  -- a case has one update for each memory
  count : length c.updates ≡ s.memories
  count = ap length (sym (of.updates of.some.0 of.some.1)) ∙ updates_long s of.some.0 s.memories

  -- a point that agrees with a valuation of the case meets its rows
  pub case-meets : (v : Valuation) → IsIn c.condition v → (point : List ℤ) → Agrees s v point → HasPoint c.rows point
  case-meets v inside point agrees =
      subst (λ (rows : List Row). HasPoint rows point) (case_rows s c v of inside) (rows-hold s v point agrees s.tests (omega arith))

  module _ (a : Abstract) (image : Frozen) (p : List Row) (im : IsImage s a.control c image) where
    -- successors are in the answer
    pub successor-there : ((inputs : ℕ) (new : List ℤ) → IsUpdated a.poly.rows c inputs new → HasPoint p new)
        → (w : Valuation) (new : List ℤ) → IsSuccessor s a c w new → IsIn image w × HasPoint p new
    successor-there contains w new x = (
      (im.exact w).1 (x.valuation, x.state.control, x.inside, x.next),
      contains (length x.inputs) new (record {
        point = x.point;
        further = x.inputs;
        size = x.size ∙ sym count;
        count = refl;
        has = x.state.rows;
        meets = case-meets x.valuation x.inside (x.point ++ x.inputs) x.agrees;
        updated = x.updated ∙ ap (λ (us : List Form). values us (x.point ++ x.inputs)) (of.updates x.valuation x.inside);
      }),
    )

    -- and where all updated points are, each state of the answer is a successor
    pub successor-of : IsSystem s
        → ((inputs : ℕ) (new : List ℤ) → length new ≡ length c.updates → HasPoint p new → IsUpdated a.poly.rows c inputs new)
        → (w : Valuation) (new : List ℤ) → length new ≡ s.memories → IsIn image w → HasPoint p new → IsSuccessor s a c w new
    successor-of is exact w new size inside has =
        let from = (im.exact w).0 inside in
        let u = exact (s.columns - s.memories) new (size ∙ sym count) has in
        record {
          valuation = from.0;
          point = u.point;
          inputs = u.further;
          state = record { control = from.1; rows = u.has };
          inside = from.2;
          size = u.size ∙ count;
          agrees = record {
            size = let e = length-append u.point u.further in let f = u.size in let g = u.count in let h = is.few_memories in let k = count in omega arith;
            rows = tests-hold s from.0 (u.point ++ u.further) s.tests
                (subst (λ (rows : List Row). HasPoint rows (u.point ++ u.further)) (sym (case_rows s c from.0 of from.2)) u.meets);
          };
          next = from.3;
          updated = u.updated ∙ ap (λ (us : List Form). values us (u.point ++ u.further)) (sym (of.updates from.0 from.2));
        }

  module _ (a : Abstract) (preimage : Frozen) (p : List Row) (im : IsPreimage s a.control c preimage) where
    -- predecessors are in the answer
    pub predecessor-there : ((inputs : ℕ) (point : List ℤ) → IsBefore a.poly.rows c.rows c.updates inputs point → HasPoint p point)
        → (w : Valuation) (point : List ℤ) → IsPredecessor s a c w point → IsIn preimage w × HasPoint p point
    predecessor-there contains w point x = (
      (im.exact w).1 (x.valuation, x.same, x.inside, x.leads),
      contains (length x.inputs) point (record {
        size = x.size ∙ sym count;
        further = x.inputs;
        count = refl;
        meets = case-meets x.valuation x.inside (point ++ x.inputs) x.agrees;
        after = subst (λ (us : List Form). HasPoint a.poly.rows (values us (point ++ x.inputs))) (of.updates x.valuation x.inside) x.after;
      }),
    )

    -- and where it has no other points, each state of the answer is a predecessor
    pub predecessor-of : IsSystem s
        → ((inputs : ℕ) (point : List ℤ) → length point ≡ length c.updates → HasPoint p point → IsBefore a.poly.rows c.rows c.updates inputs point)
        → (w : Valuation) (point : List ℤ) → length point ≡ s.memories → IsIn preimage w → HasPoint p point → IsPredecessor s a c w point
    predecessor-of is exact w point size inside has =
        let from = (im.exact w).0 inside in
        let u = exact (s.columns - s.memories) point (size ∙ sym count) has in
        record {
          valuation = from.0;
          inputs = u.further;
          same = from.1;
          inside = from.2;
          leads = from.3;
          size = size;
          agrees = record {
            size = let e = length-append point u.further in let g = u.count in let h = is.few_memories in omega arith;
            rows = tests-hold s from.0 (point ++ u.further) s.tests
                (subst (λ (rows : List Row). HasPoint rows (point ++ u.further)) (sym (case_rows s c from.0 of from.2)) u.meets);
          };
          after = subst (λ (us : List Form). HasPoint a.poly.rows (values us (point ++ u.further))) (sym (of.updates from.0 from.2)) u.after;
        }

-- in the words of the call: where its answer has no point but images of the rows together, it has only updated points
pub only-updated : (own p : List Row) (c : Case) → All (λ r. length r.coefficients ≡ length c.updates) own
    → (AreMoves c.updates → All (IsNarrow (length c.updates)) c.rows → All Fits c.rows → All (StaysWithin c.updates) (own ++ c.rows)
    → length own + length c.rows ≤ 1024 → (point : List ℤ) → length point ≡ length c.updates → HasPoint p point → IsImagePoint (own ++ c.rows) c.updates point)
    → IsMove own c → (inputs : ℕ) (new : List ℤ) → length new ≡ length c.updates → HasPoint p new → IsUpdated own c inputs new
only-updated own p c widths exact m inputs new size has =
    image-updated own c widths m.moves m.narrow inputs new (exact m.moves m.narrow m.fits m.stays m.few new size has)

pub successors-there : (s : System) (a b : Abstract) (c : Case) (image : Frozen) (p : List Row) → IsCaseOf s c → IsImage s a.control c image
    → b.control ≡ image → b.poly.rows ≡ p → ((inputs : ℕ) (new : List ℤ) → IsUpdated a.poly.rows c inputs new → HasPoint p new)
    → (w : Valuation) (new : List ℤ) → IsSuccessor s a c w new → HasState b w new
successors-there s a b c image p of im control rows contains w new x =
    let h = successor-there s c of a image p im contains w new x in
    record { control = subst (λ (f : Frozen). IsIn f w) (sym control) h.0; rows = subst (λ (rs : List Row). HasPoint rs new) (sym rows) h.1 }

pub successors-only : (s : System) (a b : Abstract) (c : Case) (image : Frozen) (p : List Row) → IsSystem s → IsCaseOf s c → IsImage s a.control c image
    → b.control ≡ image → b.poly.rows ≡ p
    → ((inputs : ℕ) (new : List ℤ) → length new ≡ length c.updates → HasPoint p new → IsUpdated a.poly.rows c inputs new)
    → (w : Valuation) (new : List ℤ) → length new ≡ s.memories → HasState b w new → IsSuccessor s a c w new
successors-only s a b c image p is of im control rows exact w new size h =
    successor-of s c of a image p im is exact w new size (subst (λ (f : Frozen). IsIn f w) control h.control)
    (subst (λ (rs : List Row). HasPoint rs new) rows h.rows)

pub predecessors-there : (s : System) (a b : Abstract) (c : Case) (preimage : Frozen) (p : List Row) → IsCaseOf s c → IsPreimage s a.control c preimage
    → b.control ≡ preimage → b.poly.rows ≡ p
    → ((inputs : ℕ) (point : List ℤ) → IsBefore a.poly.rows c.rows c.updates inputs point → HasPoint p point)
    → (w : Valuation) (point : List ℤ) → IsPredecessor s a c w point → HasState b w point
predecessors-there s a b c preimage p of im control rows contains w point x =
    let h = predecessor-there s c of a preimage p im contains w point x in
    record { control = subst (λ (f : Frozen). IsIn f w) (sym control) h.0; rows = subst (λ (rs : List Row). HasPoint rs point) (sym rows) h.1 }

pub predecessors-only : (s : System) (a b : Abstract) (c : Case) (preimage : Frozen) (p : List Row) → IsSystem s → IsCaseOf s c
    → IsPreimage s a.control c preimage → b.control ≡ preimage → b.poly.rows ≡ p
    → ((inputs : ℕ) (point : List ℤ) → length point ≡ length c.updates → HasPoint p point → IsBefore a.poly.rows c.rows c.updates inputs point)
    → (w : Valuation) (point : List ℤ) → length point ≡ s.memories → HasState b w point → IsPredecessor s a c w point
predecessors-only s a b c preimage p is of im control rows exact w point size h =
    predecessor-of s c of a preimage p im is exact w point size (subst (λ (f : Frozen). IsIn f w) control h.control)
    (subst (λ (rs : List Row). HasPoint rs point) rows h.rows)
