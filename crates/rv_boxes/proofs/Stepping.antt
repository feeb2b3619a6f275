-- Where a claim takes the valuations of a case.
use Rattle.std.proofs.Common.{◌≡◌, ℕ, ◌+◌, ◌<◌, ℤ, pos, negsuc, ◌-ℤ◌, ◌*ℤ◌, true, List, [], ◌++◌, length, get_or}
use Rattle.std.proofs.Common.{Option, arith, sym, ap, ◌∙◌, subst, ◌⊎◌, inl, inr}
use Rattle.std.proofs.{lemmas.Int.ints}
use Rattle.std.proofs.{lemmas.Option.slice_get-get_or, lemmas.List.get_or_read, lemmas.List.get_or_default}
use Rattle.std.specs.List.{Contains}
use Rattle.rv_diagram.specs.{Nodes.Valuation, declared.frozen.Frozen.Frozen}
use Rattle.rv_rows.specs.{declared.linear.Row.Row, Rows.row_at, Forms.number}
use Rattle.rv_proofs.specs.Systems.{System, IsSystem}
use Rattle.rv_proofs.specs.Boxes.{BoxClaim, IsTaken}
use Rattle.rv_proofs.specs.{Scopes.IsIn, Cases.IsCaseOf, declared.report.Case.Case}
use Rattle.rv_boxes.specs.Rounds.{place, IsSetting}
use Rattle.rv_boxes.specs.{Built.IsToldCase, Built.AreBoundsAt, Built.IsUpperRow, Built.IsLowerRow}
use Rattle.rv_boxes.specs.{Opening.IsFrameOf, Opening.ArePremisesOf, Opening.AreOpposite}
use Rattle.rv_boxes.specs.{declared.frame.Frame.Frame, declared.claim.Claim.Claim}
use Rattle.rv_boxes.specs.{Boxed.IsOpenBox, Boxed.ArePremises}
use Rattle.rv_boxes.proofs.Building.{taken, open_back}
use Rattle.rv_boxes.proofs.Fitting.{case_entry, here, premises_fit}

pub opposite_in : (numbers opposites : List ℤ) → AreOpposite numbers opposites → (b : ℤ) → Contains numbers b → Contains opposites (pos 0 -ℤ b)
opposite_in numbers opposites are b (k, l, at) =
    let size = are.size in
    let inside : k < length opposites = omega (arith, l, size) in
    let one : get_or numbers k (pos 0) ≡ b = sym (get_or_read numbers k b l (sym at) (pos 0)) in
    let there : get_or opposites k (pos 0) ≡ pos 0 -ℤ b = are.each k ∙ flip (number k numbers) b one in
    (k, inside, get_or_default opposites k (pos 0 -ℤ b) (pos 0) inside ∙ there)
  where
    flip : (n b : ℤ) → n ≡ b → negsuc 0 *ℤ n ≡ pos 0 -ℤ b
    flip n b e = omega (arith, ints)

pub claim_same : (a b : Claim) → a.reached ≡ b.reached → a.upper ≡ b.upper → a.lower ≡ b.lower → a ≡ b
claim_same a b e f g =
    ap (λ (x : Frozen). let c : Claim = record { reached = x; upper = a.upper; lower = a.lower } in c) e
    ∙ ap (λ (x : List (Option ℤ)). let c : Claim = record { reached = b.reached; upper = x; lower = a.lower } in c) f
    ∙ ap (λ (x : List (Option ℤ)). let c : Claim = record { reached = b.reached; upper = b.upper; lower = x } in c) g

module _ (s : System) (is : IsSystem s) (f : Frame) (frame : IsFrameOf s f) (base : BoxClaim) (from : Frozen) (given : List Row)
    (setting : IsSetting s base from given) (case : Case) (of : IsCaseOf s case) (premises : List Row)
    (pr : ArePremisesOf f.tests given case premises) where
  abbrev pub told_case : IsToldCase s (case_entry case)
  told_case = here s is f frame case of pr.told pr.is_told

  pub same_premises : given ++ pr.told ≡ premises
  same_premises = sym pr.are

  pub bounds_at : (v : Valuation) → IsIn from v → AreBoundsAt s base (place from given) v
  bounds_at v inside p l = go (setting.ticked v inside)
    where
      go : (given ≡ []) ⊎ (v 0 ≡ true)
          → (v 0 ≡ true) × ((k : ℕ) × (k < s.memories) × (IsUpperRow base k (row_at given p) ⊎ IsLowerRow base k (row_at given p)))
      go (inl e) = absurd (omega (arith, l, ap length e))
      go (inr on) = (on, (setting.bounds p (row_at given p) (slice_get-get_or given p (record { coefficients = []; bound = pos 0 }) l)).1)

  -- where the box is open each valuation of the case is taken whose control state is in the set, and where it is shut none is
  pub all_taken : IsOpenBox f.columns premises → (v : Valuation) → IsIn case.condition v → IsIn from v → IsTaken s base v
  all_taken o v i inside =
      taken s base (place from given) (case_entry case) told_case setting.claimed
      (subst (λ (ps : List Row). IsOpenBox s.columns ps) pr.are (subst (λ (n : ℕ). IsOpenBox n premises) frame.columns o)) v i inside

  pub taken_opens : (v : Valuation) → IsIn case.condition v → IsIn from v → IsTaken s base v → IsOpenBox f.columns premises
  taken_opens v i inside t =
      subst (λ (n : ℕ). IsOpenBox n premises) (sym frame.columns)
      (subst (λ (ps : List Row). IsOpenBox s.columns ps) same_premises
      (open_back s base (place from given) (case_entry case) told_case setting.claimed v i (bounds_at v inside) t.is_open))

  pub premises_are : ArePremises f.columns premises
  premises_are =
      subst (λ (n : ℕ). ArePremises n premises) (sym frame.columns)
      (subst (λ (ps : List Row). ArePremises s.columns ps) same_premises
      (premises_fit s is f frame base from given setting case of pr.told pr.is_told))
