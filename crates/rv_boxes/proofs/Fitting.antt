-- The premises and the updates of a case.
use Rattle.std.proofs.Common.{◌≡◌, ℕ, ◌^◌, ◌<◌, ◌≤◌, ℤ, pos, negsuc, List, [], ◌++◌, length, get_or, All, Some, slice_get, arith, refl, sym, ap, ◌∙◌, subst}
use Rattle.std.proofs.Common.{◌⊎◌, inl, inr, None as Nothing}
use Rattle.std.proofs.lemmas.List.Elements.{All-append, All-weaker, All-nil, All-from_get_or}
use Rattle.std.proofs.{lemmas.Option.slice_get_within, lemmas.Option.slice_get-get_or, lemmas.List.length-append}
use Rattle.std.specs.Int.RustNames.{unsigned_abs}
use Rattle.rv_diagram.specs.{Nodes.Valuation, declared.frozen.Frozen.Frozen}
use Rattle.rv_rows.specs.{declared.linear.Row.Row, declared.linear.Form.Form, Rows.row_at, Rows.RowWithin}
use Rattle.rv_proofs.specs.Systems.{System, IsSystem, IsTestRow, IsUpdate}
use Rattle.rv_proofs.specs.{Scopes.IsIn, Implied.form_at, Samples.by_none, Boxes.BoxClaim, Boxes.HasUnit, Boxes.IsUnitAt, declared.report.Case.Case}
use Rattle.rv_proofs.specs.{declared.certificate.Entry.Entry, declared.certificate.EntryKind.TheVariants.Dead, Cases.IsCaseOf}
use Rattle.rv_proofs.proofs.{Tightened.tight_unit, Rooms.premise_of_test, Rooms.premise_of_kept, Claims.update_at, Claims.updates_long}
use Rattle.rv_boxes.specs.Opening.{IsFrameOf, IsTold, HasTests}
use Rattle.rv_boxes.specs.{declared.frame.Frame.Frame, Boxed.ArePremises, Built.nothing, Built.IsToldCase, Built.IsUpperRow, Built.IsLowerRow, Rounds.IsSetting}
use Rattle.rv_base.proofs.Lists.{found_or_not}

-- what a premise is asked for
abbrev pub IsFit : System → Row → Type 0
IsFit s r = RowWithin (2 ^ 60) r × (length r.coefficients ≤ s.columns) × All (λ c. unsigned_abs c ≤ 2 ^ 41) r.coefficients × HasUnit r

nothing_fits : (s : System) → IsFit s nothing
nothing_fits s = (
  (All-nil (λ (c : ℤ). unsigned_abs c ≤ 2 ^ 60), omega arith),
  omega arith,
  All-nil (λ (c : ℤ). unsigned_abs c ≤ 2 ^ 41),
  λ (k, ne, only). absurd (ne refl),
)

test_fits : (s : System) (r : Row) → IsTestRow s r → IsFit s r
test_fits s r is = (premise_of_test s r is, omega (arith, is.wide), is.coefficients, tight_unit r r is.tight)

-- the case as an entry
abbrev pub case_entry : Case → Entry
case_entry case = record { condition = case.condition; kind = Dead by_none }

module _ (s : System) (is : IsSystem s) (f : Frame) (frame : IsFrameOf s f) (case : Case) (of : IsCaseOf s case) where
  pub has_tests : HasTests f.tests case.tests case.rows
  has_tests = let t = of.tests in record {
    known = λ i n at. let k = t.known i n at in omega (arith, k, frame.tests);
    rising = t.rising;
    counts = t.counts;
  }

  pub updates_of_case : (v : Valuation) (k : ℕ) → IsIn case.condition v → k < s.memories → s.update v k ≡ form_at case.updates k
  updates_of_case v k i known =
      sym (update_at s v (record { coefficients = []; constant = pos 0 }) s.memories k known)
      ∙ ap (λ (fs : List Form). form_at fs k) (of.updates v i)

  pub many_updates : length case.updates ≡ s.memories
  many_updates = ap length (sym (of.updates of.some.0 of.some.1)) ∙ updates_long s of.some.0 s.memories

  pub all_updates : All (IsUpdate s) case.updates
  all_updates = All-from_get_or (IsUpdate s) case.updates (record { coefficients = []; constant = pos 0 }) (λ k l.
      let known : k < s.memories = omega (arith, l, many_updates) in
      subst (IsUpdate s) (updates_of_case of.some.0 k of.some.1 known) (is.updates of.some.0 k known))

  module _ (told : List Row) (is_told : IsTold f.tests (length case.tests) case.tests case.rows told) where
    pub told_row : (t : ℕ) → t < s.tests
        → ((v : Valuation) → IsIn case.condition v → s.row v t ≡ Some (row_at told t))
        ⊎ (((v : Valuation) → IsIn case.condition v → s.row v t ≡ Nothing) × (row_at told t ≡ nothing))
    told_row t known = go (found_or_not case.tests t)
      where
        go : ((i : ℕ) × (slice_get case.tests i ≡ Some t)) ⊎ ((i : ℕ) → slice_get case.tests i ≡ Some t → ⊥)
            → ((v : Valuation) → IsIn case.condition v → s.row v t ≡ Some (row_at told t))
            ⊎ (((v : Valuation) → IsIn case.condition v → s.row v t ≡ Nothing) × (row_at told t ≡ nothing))
        go (inl (i, at)) =
            let inside : i < length case.tests = slice_get_within case.tests i t at in
            let counts = of.tests.counts in
            let row_there = slice_get-get_or case.rows i nothing (omega (arith, counts, inside)) in
            let e : row_at told t ≡ get_or case.rows i nothing = is_told.present i t (get_or case.rows i nothing) inside at row_there in
            inl (λ v on. of.tests.present i t (get_or case.rows i nothing) v at row_there on ∙ ap Some (sym e))
        go (inr none) = inr (
          (λ v on. of.tests.absent t v known (λ (k, l, e). none k (slice_get-get_or case.tests k t l ∙ ap Some e)) on),
          is_told.absent t (λ i l at. none i at),
        )

    abbrev pub here : IsToldCase s (case_entry case)
    here = record {
      condition = of.given.condition;
      some = of.some;
      allowed = of.given.allowed;
      tests = told;
      told = record { size = is_told.size ∙ frame.tests; told = told_row };
      forms = case.updates;
      size = many_updates;
      updates = λ v k i known. updates_of_case v k i known;
    }

    told_fits : All (IsFit s) told
    told_fits = All-from_get_or (IsFit s) told nothing (λ t l. let size = is_told.size in let known : t < s.tests = omega
        (arith, l, size, frame.tests) in fit t known (told_row t known))
      where
        fit : (t : ℕ) → t < s.tests
            → ((v : Valuation) → IsIn case.condition v → s.row v t ≡ Some (row_at told t))
            ⊎ (((v : Valuation) → IsIn case.condition v → s.row v t ≡ Nothing) × (row_at told t ≡ nothing)) → IsFit s (row_at told t)
        fit t known (inl same) = test_fits s (row_at told t) (is.rows of.some.0 t (row_at told t) known (same of.some.0 of.some.1))
        fit t known (inr (absent, void)) = subst (IsFit s) (sym void) (nothing_fits s)

module _ (s : System) (is : IsSystem s) (f : Frame) (frame : IsFrameOf s f) (base : BoxClaim) (from : Frozen) (given : List Row)
    (setting : IsSetting s base from given) where
  given_fits : All (IsFit s) given
  given_fits = All-from_get_or (IsFit s) given nothing (λ p l. fit p l (setting.bounds p (row_at given p) (slice_get-get_or given p nothing l)))
    where
      fit : (p : ℕ) → p < length given
          → (length (row_at given p).coefficients ≡ s.memories) × ((k : ℕ) × (k < s.memories)
          × (IsUpperRow base k (row_at given p) ⊎ IsLowerRow base k (row_at given p))) → IsFit s (row_at given p)
      fit p l (wide, (k, known, side)) =
          let fits = (setting.kept.0 p nothing l).1 in (
            premise_of_kept (row_at given p) fits,
            omega (arith, wide, is.few_memories),
            All-weaker (λ (c : ℤ). unsigned_abs c ≤ 2 ^ 30) (λ (c : ℤ). unsigned_abs c ≤ 2 ^ 41) (λ c m. omega (arith, m))
                (row_at given p).coefficients fits.coefficients,
            λ one. (k, unit side),
          )
        where
          unit : IsUpperRow base k (row_at given p) ⊎ IsLowerRow base k (row_at given p) → IsUnitAt (row_at given p) k (pos 1)
              ⊎ IsUnitAt (row_at given p) k (negsuc 0)
          unit (inl u) = inl u.0
          unit (inr u) = inr u.0

  pub premises_fit : (case : Case) → IsCaseOf s case → (told : List Row) → IsTold f.tests (length case.tests) case.tests case.rows told
      → ArePremises s.columns (given ++ told)
  premises_fit case of told is_told =
      let all : All (IsFit s) (given ++ told) = All-append (IsFit s) given told given_fits (told_fits s is f frame case of told is_told) in
      let few = setting.few in
      let limits = is.limits in
      let many = limits.tests in
      record {
        few = omega (arith, length-append given told, is_told.size, frame.tests, few, many);
        within = All-weaker (IsFit s) (RowWithin (2 ^ 60)) (λ r h. h.0) (given ++ told) all;
        wide = λ p l. (all p nothing l).1;
        sizes = λ p l. (all p nothing l).2;
        units = λ p l. (all p nothing l).3;
      }
