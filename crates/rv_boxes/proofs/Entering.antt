-- The entry of a case in the certificate of a closed claim.
use Rattle.std.proofs.Common.{◌≡◌, ℕ, ◌^◌, ◌<◌, ◌≤◌, ℤ, pos, negsuc, ◌*ℤ◌, true, false, List, [], ◌∷◌, ◌++◌, map, length, All, Some, slice_get, arith, refl}
use Rattle.std.proofs.Common.{sym, ap, ◌∙◌, subst, ◌⊎◌, inl, inr}
use Rattle.std.proofs.lemmas.List.Elements.{All-from_get_or, All-head, All-map, All-weaker}
use Rattle.std.proofs.{lemmas.Int.ints, lemmas.Option.slice_get_within, lemmas.Option.get_or_from_slice_get}
use Rattle.std.specs.Int.RustNames.{unsigned_abs}
use Rattle.rv_diagram.specs.declared.frozen.Frozen.{Frozen}
use Rattle.rv_rows.specs.{declared.linear.Row.Row, declared.linear.Form.Form, Forms.number, Forms.IsSubstituted, Forms.forms_width, Tight.Fits}
use Rattle.rv_proofs.specs.{Systems.System, Systems.IsUpdate, Scopes.IsIn, Boxes.BoxClaim, Boxes.IsUnitAt, Cases.AreCases}
use Rattle.rv_proofs.specs.{declared.certificate.EntryKind.EntryKind, declared.report.Case.Case}
use Rattle.rv_proofs.proofs.Rooms.{has_room, number_within}
use Rattle.rv_boxes.specs.Certifying.{CanReach, IsJudgeable, IsBad, IsEntryOf, AreCasesIn}
use Rattle.rv_boxes.specs.{declared.frame.Frame.Frame, Boxed.IsOpenBox, Boxed.IsUnbounded, Built.IsToldCase, Built.IsUpperRow, Built.IsLowerRow}
use Rattle.rv_boxes.specs.{Built.IsBuiltKind, Opening.ArePremisesOf, Rounds.place, Rounds.IsSetting, Rounds.IsCaseIn}
use Rattle.rv_boxes.proofs.{BoxLemmas.unit_value, Building.closed_bounded, Fitting.case_entry, Fitting.all_updates, Fitting.many_updates, Stepping.told_case}
use Rattle.rv_boxes.proofs.{Stepping.all_taken, Stepping.taken_opens}

pub cases_in : (s : System) (from : Frozen) (cases : List Case) → AreCases s from cases → AreCasesIn s from cases
cases_in s from cases are j c at = record { case = are.each j c at; within = λ v i. are.within j c v at i }

first_width : (s : System) (fs : List Form) → All (IsUpdate s) fs → forms_width fs ≤ s.columns
first_width s [] h = omega arith
first_width s (f ∷ fs) h = let u = All-head (IsUpdate s) f fs h in omega (arith, u.wide)

module _ (s : System) (f : Frame) (c : BoxClaim) (wanted : List Row) (judge : IsJudgeable s f c wanted) (from : Frozen) (given : List Row)
    (setting : IsSetting s c from given) (case : Case) (of : IsCaseIn s from case) (premises : List Row) (pr : ArePremisesOf f.tests given case premises) where
  abbrev told : IsToldCase s (case_entry case)
  told = told_case s judge.system f judge.frame c from given setting case of.case premises pr

  updates : All (IsUpdate s) case.updates
  updates = all_updates s judge.system f judge.frame case of.case

  many : length case.updates ≡ s.memories
  many = many_updates s judge.system f judge.frame case of.case

  -- each wanted row can be reached from an open box
  pub can_reach : IsOpenBox f.columns premises → (n : ℕ) (r : Row) → slice_get wanted n ≡ Some r → CanReach f.columns premises case.updates r
  can_reach o n r at = reach (judge.bounds n r at)
    where
      here : (length r.coefficients ≡ s.memories) × Fits r
      here = let k = judge.kept.0 n r (slice_get_within wanted n r at) in subst (λ (x : Row). (length x.coefficients ≡ s.memories)
          × Fits x) (get_or_from_slice_get wanted n r r at) k

      small_at : (k : ℕ) (z : ℤ) → (z ≡ pos 1) ⊎ (z ≡ negsuc 0) → IsUnitAt r k z → (new : Row) → IsSubstituted r case.updates new → (j : ℕ)
          → unsigned_abs (number j new.coefficients) ≤ 2 ^ 41
      small_at k z unit u new sub j =
          let column : List ℤ = map (λ (g : Form). number j g.coefficients) case.updates in
          let m : unsigned_abs (number k column) ≤ 2 ^ 40 = number_within (2 ^ 40) k column
          (All-map (λ (x : ℤ). unsigned_abs x ≤ 2 ^ 40) (λ (g : Form). number j g.coefficients) case.updates
          (All-weaker (IsUpdate s) (λ (g : Form). unsigned_abs (number j g.coefficients) ≤ 2 ^ 40)
          (λ g v. number_within (2 ^ 40) j g.coefficients v.small.0) case.updates updates)) in
          go unit (number j new.coefficients) (number k column) (sub.coefficients j ∙ unit_value r k z column u) m
        where
          go : (z ≡ pos 1) ⊎ (z ≡ negsuc 0) → (a b : ℤ) → a ≡ z *ℤ b → unsigned_abs b ≤ 2 ^ 40 → unsigned_abs a ≤ 2 ^ 41
          go (inl e) a b is l = plain a b (is ∙ ap (λ y. y *ℤ b) e) l
            where
              plain : (a b : ℤ) → a ≡ pos 1 *ℤ b → unsigned_abs b ≤ 2 ^ 40 → unsigned_abs a ≤ 2 ^ 41
              plain a b e l = omega (arith, ints)
          go (inr e) a b is l = turned a b (is ∙ ap (λ y. y *ℤ b) e) l
            where
              turned : (a b : ℤ) → a ≡ negsuc 0 *ℤ b → unsigned_abs b ≤ 2 ^ 40 → unsigned_abs a ≤ 2 ^ 41
              turned a b e l = omega (arith, ints)

      small : (k : ℕ) → IsUpperRow c k r ⊎ IsLowerRow c k r → (new : Row) → IsSubstituted r case.updates new → (j : ℕ)
          → unsigned_abs (number j new.coefficients) ≤ 2 ^ 41
      small k (inl u) = small_at k (pos 1) (inl refl) u.0
      small k (inr u) = small_at k (negsuc 0) (inr refl) u.0

      open_there : IsOpenBox s.columns (given ++ pr.told)
      open_there = subst (λ (ps : List Row). IsOpenBox s.columns ps) pr.are (subst (λ (n : ℕ). IsOpenBox n premises) judge.frame.columns o)

      reach : (length r.coefficients ≡ s.memories) × ((k : ℕ) × (k < s.memories) × (IsUpperRow c k r ⊎ IsLowerRow c k r))
          → CanReach f.columns premises case.updates r
      reach (size, (k, known, side)) = record {
        room = has_room s judge.system r case.updates size here.1 many updates;
        narrow = λ new sub. let w = sub.width in let l = first_width s case.updates updates in let g = judge.frame in omega (arith, w, l, g.columns);
        small = λ new sub. All-from_get_or (λ (x : ℤ). unsigned_abs x ≤ 2 ^ 41) new.coefficients (pos 0) (λ j l. small k side new sub j);
        bounded = λ new sub free. closed_bounded s judge.system c judge.closed (place from given) wanted (case_entry case) told of.within setting.claimed
            open_there r k known side new sub
            (subst (λ (ps : List Row). IsUnbounded s.columns ps new.coefficients) pr.are
            (subst (λ (n : ℕ). IsUnbounded n premises new.coefficients) judge.frame.columns free));
      }

  -- the case as an entry
  abbrev entry_told : (kind : EntryKind) → IsToldCase s (record { condition = case.condition; kind = kind })
  entry_told kind = record {
    condition = told.condition;
    some = told.some;
    allowed = told.allowed;
    tests = told.tests;
    told = told.told;
    forms = told.forms;
    size = told.size;
    updates = told.updates;
  }

  pub entry_good : (kind : EntryKind) → IsBuiltKind f.columns premises case.updates wanted kind → (IsOpenBox f.columns premises → case.observer ≡ true)
      → IsEntryOf s c from given wanted case (record { condition = case.condition; kind = kind })
  entry_good kind built good = record {
    condition = refl;
    built = λ l control state. record {
      here = entry_told kind;
      control = λ v i. subst (λ (g : Frozen). IsIn g v) (sym control) (of.within v i);
      kind = subst (λ (rows : List Row). IsBuiltKind s.columns (rows ++ pr.told) case.updates wanted kind) (sym state)
          (subst (λ (ps : List Row). IsBuiltKind s.columns ps case.updates wanted kind) pr.are
          (subst (λ (n : ℕ). IsBuiltKind n premises case.updates wanted kind) judge.frame.columns built));
    };
    good = λ v i t. of.case.observer v i ∙ good (taken_opens s judge.system f judge.frame c from given setting case of.case premises pr v i (of.within v i) t);
  }

  pub entry_bad : IsOpenBox f.columns premises → case.observer ≡ false → IsBad s c
  entry_bad o bad = (
    of.case.some.0,
    all_taken s judge.system f judge.frame c from given setting case of.case premises pr o of.case.some.0 of.case.some.1
        (of.within of.case.some.0 of.case.some.1),
    of.case.observer of.case.some.0 of.case.some.1 ∙ bad,
  )
