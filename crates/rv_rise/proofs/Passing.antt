-- What follows from a claim, store by store.
use Rattle.std.proofs.Common.{◌≡◌, ◌↔◌, ◌⊎◌, ℕ, ◌^◌, ◌<◌, Bool, true, false, cond, List, [], ◌++◌, length, All, arith, refl, ◌∙◌, sym, ap, subst, inl, inr}
use Rattle.rv_diagram.specs.{Nodes.Valuation, Nodes.Diagrams, Nodes.IsOrderedOver, Nodes.value_of, Growing.Extends}
use Rattle.rv_diagram.proofs.{Growing.extends_trans, Several.same_truth}
use Rattle.rv_rows.specs.{declared.linear.Row.Row, Rows.RowWithin, Multipliers.ShowsAtOnce, Multipliers.AreShutAtOnce}
use Rattle.std.specs.List.{Contains}
use Rattle.rv_proofs.specs.Ranges.{AreKept}
use Rattle.rv_pairs.specs.Telling.{IsZero}
use Rattle.rv_proofs.specs.{Systems.System, Systems.IsSystem, Systems.IsSameValuation, RowClaims.IsRowTaken, RowClaims.premises_at}
use Rattle.rv_symbolic.specs.{declared.relation.Relation.Relation}
use Rattle.rv_symbolic.proofs.Reading.{valuation_state}
use Rattle.rv_cases.specs.declared.asking.Questions.{Questions}
use Rattle.rv_pairs.specs.{declared.labels.Labelled.Labelled, Labels.active, Labels.AreLabels, Moves.HoldsWhere}
use Rattle.rv_pairs.proofs.Counting.{active_stays}
use Rattle.rv_leaving.specs.Exits.{AreTakenFrom, AreLeft}
use Rattle.rv_walk.specs.Ends.{has}
use Rattle.rv_rise.specs.Rounds.{IsGivenIn, AreAsked, IsKeptRisen, IsFirstHeld, IsPartOf, AreSteps, claim_in}
use Rattle.rv_rise.specs.{declared.frame.Frame.Frame, declared.risen.Risen.Risen, declared.steps.Part.Part, declared.steps.Steps.Steps}
use Rattle.rv_rise.specs.{declared.asking.Asked.Asked}
use Rattle.rv_rise.specs.{Limits.AreRisen, Limits.HasChanged, Sides.rows_with}
use Rattle.rv_rise.proofs.{Fitting.rows_kept, Fitting.given_fit, Fitting.rows_solid, Giving.asked_later, Nexting.taken_same}
use Rattle.rv_rise.proofs.Stepping.{claim_takes, taken_shows, limits_risen, next_states}

-- the claim's rows are within the limits of premises
pub given_within : (s : System) (d : Diagrams) (r : Relation) (q : Questions) (f : Frame) → IsGivenIn s d r q f → (c : Risen) → IsKeptRisen s f c
    → (rows : List Row) → rows ≡ rows_with f.sides c.limits → All (RowWithin (2 ^ 60)) rows
given_within s d r q f given c kept rows are =
    let frame = given.frame in
    given_fit s rows (subst (AreKept s) (sym are) (rows_kept s f.sides frame.sides f.thresholds frame.small c.limits kept.among))

pub reached_ordered : (s : System) (d e : Diagrams) (r : Relation) (q : Questions) (f : Frame) → IsGivenIn s d r q f → Extends d e → (c : Risen)
    → IsKeptRisen s f c → IsOrderedOver e.variables c.reached
reached_ordered s d e r q f given x c kept =
    let relation = given.relation in
    let p = relation.parts in
    let k = kept.control in
    subst (λ (n : ℕ). IsOrderedOver n c.reached) (sym (x.variables ∙ p.variables)) k.ordered

module _ (s : System) (d0 : Diagrams) (r : Relation) (q : Questions) (f : Frame) (given : IsGivenIn s d0 r q f) (a : Asked) (asked : AreAsked s d0 a)
    (c : Risen) (kept : IsKeptRisen s f c) (first : Bool) (begun : first ≡ false → IsFirstHeld s f c) (rows : List Row)
    (rows_are : rows ≡ rows_with f.sides c.limits) (d1 : Diagrams) (labels : List Labelled) (e1 : Extends d0 d1) (labelled : AreLabels d1.nodes labels)
    (labels_are : 0 < d0.variables → (v : Valuation) → active d1.nodes labels v ≡ active d0.nodes a.labels v ++ cond (v 0) rows [])
    (d2 : Diagrams) (taken : ℕ) (e2 : Extends d1 d2)
    (opened : (v : Valuation) → (value_of d2.nodes taken v ≡ true)
    ↔ (((value_of d1.nodes a.allowed v ≡ true) × (has c.reached v ≡ true)) × ¬ AreShutAtOnce (active d1.nodes labels v)))
    (d3 : Diagrams) (part : Part) (e3 : Extends d2 d3) (p : IsPartOf d2 d3 taken first part) where
  system : IsSystem s
  system = let relation = given.relation in relation.system

  variables_are : d2.variables ≡ s.variables
  variables_are = let relation = given.relation in let x = relation.parts in e2.variables ∙ e1.variables ∙ x.variables

  some_first : (v : Valuation) → has c.reached v ≡ true → 0 < d0.variables
  some_first v there =
      let relation = given.relation in
      let x = relation.parts in
      let is = system in
      let some = kept.states v there in
      omega (arith, some, is.bits, x.variables)

  solid : (x : Row) → Contains (rows_with f.sides c.limits) x → IsZero x → ⊥
  solid x held zero = let frame = given.frame in rows_solid s f.sides frame.sides c.limits x held zero

  labels_there : (v : Valuation) → has c.reached v ≡ true → active d1.nodes labels v ≡ active d0.nodes a.labels v ++ cond (v 0) (rows_with f.sides c.limits) []
  labels_there v there = labels_are (some_first v there) v ∙ ap (λ (rs : List Row). active d0.nodes a.labels v ++ cond (v 0) rs []) rows_are

  later : AreAsked s d1 a
  later = asked_later s d0 d1 a e1 asked

  takes : (v : Valuation) → (value_of d2.nodes taken v ≡ true) ↔ IsRowTaken s (claim_in f c) v
  takes v =
      let l = later in
      claim_takes s (claim_in f c) solid v (active d0.nodes a.labels v) (active d1.nodes labels v) (asked.told v) (labels_there v)
      (value_of d2.nodes taken v) (value_of d1.nodes a.allowed v) (opened v) (l.exact v)

  stay : (v : Valuation) → active d3.nodes labels v ≡ active d1.nodes labels v
  stay v = active_stays d1 d3 labels (extends_trans d1 d2 d3 e2 e3) labelled v

  shows : (v : Valuation) → IsRowTaken s (claim_in f c) v → (w : Row) → ShowsAtOnce (active d3.nodes labels v) w
      ↔ ShowsAtOnce (premises_at s (claim_in f c) v) w
  shows v t w =
      let l = later in
      subst (λ (rs : List Row). ShowsAtOnce rs w ↔ ShowsAtOnce (premises_at s (claim_in f c) v) w) (sym (stay v))
      (taken_shows s (claim_in f c) solid v (active d0.nodes a.labels v) (active d1.nodes labels v) (asked.told v) (labels_there v)
      (value_of d2.nodes taken v) (value_of d1.nodes a.allowed v) (opened v) (l.exact v) t w)

  in_part : (v : Valuation) → value_of d3.nodes part.here v ≡ true → IsRowTaken s (claim_in f c) v
  in_part v on = (takes v).0 (p.among v on)

  part_same : (v w : Valuation) → IsSameValuation s v w → value_of d3.nodes part.here v ≡ true → value_of d3.nodes part.here w ≡ true
  part_same v w same on = p.all some w ((takes w).1 (taken_same s system f c kept v w same t)) (go (p.ticked some v on))
    where
      t : IsRowTaken s (claim_in f c) v
      t = in_part v on

      states : 0 < s.states
      states = kept.states v t.reached

      some : 0 < d2.variables
      some = let is = system in let n = states in omega (arith, n, is.bits, variables_are)

      go : (first ≡ true) ⊎ (v 0 ≡ true) → (first ≡ true) ⊎ (w 0 ≡ true)
      go (inl e) = inl e
      go (inr e) = inr (sym (valuation_state s v w (let is = system in is.bits) same 0 (0, states, refl)) ∙ e)

  pub part_from : AreTakenFrom s d3.nodes c.reached part.here
  part_from = record {
    found = p.here;
    same = λ v w e. same_truth (value_of d3.nodes part.here v) (value_of d3.nodes part.here w) (part_same v w e) (part_same w v (λ x read. sym (e x read)));
    allowed = λ v on. let t = in_part v on in t.allowed;
    inside = λ v on. let t = in_part v on in t.reached;
  }

  pub steps_are : (x : Steps) → AreLeft s d3.nodes c.reached part.here x.next
      → AreRisen f.thresholds (HoldsWhere s d3.nodes labels part.here) f.sides (length c.limits) c.limits x.risen.limits
      → HasChanged x.risen.changed c.limits x.risen.limits → AreSteps s f c x
  steps_are x left risen changed = record {
    next = next_states s system f c kept first begun d2 d3 variables_are taken takes part p labels shows x.next left;
    risen = limits_risen s system f c kept first begun d2 d3 variables_are taken takes part p labels shows x.risen.limits risen;
    changed = changed;
  }
