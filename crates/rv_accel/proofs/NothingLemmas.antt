-- What is promised of no rows, and the sizes of the direction.
use Rattle.std.proofs.Common.{◌≡◌, ℕ, ℤ, pos, List, [], ◌++◌, length, get_or, All, arith, refl, ap, sym, subst}
use Rattle.std.proofs.{lemmas.Option.slice_get-get_or}
use Rattle.std.proofs.lemmas.List.{get_or_default}
use Rattle.std.proofs.lemmas.List.Elements.{All-nil}
use Rattle.std.specs.Int.RustNames.{unsigned_abs}
use Rattle.rv_rows.specs.{declared.linear.Row.Row, declared.linear.Form.Form, declared.farkas.Multipliers.Multipliers, Forms.values}
use Rattle.rv_rows.specs.{Forms.forms_width, Tight.Fits}
use Rattle.rv_poly.specs.{Points.HasPoint, Included.AreProofs}
use Rattle.rv_proofs.specs.declared.report.Case.{Case}
use Rattle.rv_accel.specs.Turns.{AreTurns, IsTurning, IsDirection, IsCourse}
use Rattle.rv_accel.specs.{declared.loops.LoopSets.LoopSets, Shown.AreShown, Shown.IsShownAfter}
use Rattle.rv_accel.specs.Loops.{AreKept, AreTurnsShown, AreSmall, IsSized, IsNothing, IsAlong, IsPromised}
use Rattle.rv_accel.proofs.{SizeLemmas.steps_in, SizedLemmas.none-dropped, KeptLemmas.narrow-width, LevelLemmas.magnitude-at}
use Rattle.rv_accel.proofs.FinalLemmas.{first-kept, around-kept, turns-shown, updated-in, first-is, cone-is}

-- no rows
kept-none : (width : ℕ) → AreKept width []
kept-none width = record {
  widths = λ i d l. absurd (omega arith);
  fits = All-nil Fits;
  most = omega arith;
}

shown-none : (Shown : Row → Multipliers → Type 0) → AreShown Shown [] []
shown-none Shown = record { size = refl; each = λ i r m l. absurd (omega arith) }

proofs-none : (given : List Row) → AreProofs given [] []
proofs-none given = record { size = refl; proves = λ i r m l. absurd (omega arith); ranges = λ i m l. absurd (omega arith) }

module _ (s : LoopSets) (n : IsNothing s) where
  pub nothing-first : (width : ℕ) → AreKept width s.first
  nothing-first width = subst (AreKept width) (sym n.first) (kept-none width)

  pub nothing-around : (width : ℕ) → AreKept width s.around
  nothing-around width = subst (AreKept width) (sym n.around) (kept-none width)

  pub nothing-shown : (entry : List Row) (c : Case) → AreTurnsShown entry c s
  nothing-shown entry c = record {
    first = subst (λ r. AreShown (IsShownAfter (entry ++ c.rows) c.updates) r s.into_first) (sym n.first)
        (subst (λ m. AreShown (IsShownAfter (entry ++ c.rows) c.updates) [] m) (sym n.into_first) (shown-none (IsShownAfter (entry ++ c.rows) c.updates)));
    around = subst (λ r. AreProofs (s.first ++ c.rows) r s.into_around) (sym n.around)
        (subst (λ m. AreProofs (s.first ++ c.rows) [] m) (sym n.into_around) (proofs-none (s.first ++ c.rows)));
    kept = subst (λ r. AreShown (IsShownAfter (s.around ++ c.rows) c.updates) r s.kept_around) (sym n.around)
        (subst (λ m. AreShown (IsShownAfter (s.around ++ c.rows) c.updates) [] m) (sym n.kept_around)
        (shown-none (IsShownAfter (s.around ++ c.rows) c.updates)));
  }

  pub nothing-contains : (point : List ℤ) → HasPoint s.first point
  nothing-contains point = subst (λ r. HasPoint r point) (sym n.first) (λ i d l. absurd (omega arith))

  pub nothing-dropped : s.dropped ≡ 0 → ⊥
  nothing-dropped z = let d = n.dropped in omega arith

none_form : Form
none_form = record { coefficients = []; constant = pos 0 }

-- within the sizes the updates are small
pub small-sized : (entry : List Row) (c : Case) (t : List ℤ) (m b n : ℕ) → AreTurns c.updates → IsDirection c.updates t → AreSmall entry c m b n
    → IsSized c.updates t
small-sized entry c t m b n turns d s = record {
  total = let mag = s.direction t d in let top = steps_in m b n (s.least.0) (s.least.1) (s.least.2) s.coefficients s.bounds in omega arith;
  small = λ i f l.
      let e = get_or_default c.updates i f none_form l in
      let there = slice_get-get_or c.updates i f l in
      let own = s.resets i (get_or c.updates i f) there in
      let is = d.own i (get_or c.updates i f) there own in
      let size = d.size in
      let one = magnitude-at t i (omega arith) in
      let mag = s.direction t d in
      let top = steps_in m b n (s.least.0) (s.least.1) (s.least.2) s.coefficients s.bounds in
      let a = ap unsigned_abs is in
      omega arith;
}

-- the course of updates that are sized
pub course-is : (updates : List Form) (t : List ℤ) → AreTurns updates → IsDirection updates t → All (λ f. length f.coefficients ≡ forms_width updates) updates
    → IsSized updates t → IsCourse updates t
course-is updates t turns d widths s = record {
  turns = turns;
  direction = d;
  widths = widths;
  small = s.small;
  total = s.total;
}

pub nothing-promised : (entry : List Row) (c : Case) (t : List ℤ) (s : LoopSets) → IsTurning c → IsDirection c.updates t → ¬ IsSized c.updates t → IsNothing s
    → IsPromised entry c s
nothing-promised entry c t s turning d large n = record {
  first_kept = nothing-first s n (length c.updates);
  around_kept = nothing-around s n (length c.updates);
  proofs = nothing-shown s n entry c;
  contains = λ point h k. nothing-contains s n (values c.updates point);
  exact = λ z. absurd (nothing-dropped s n z);
  cone = λ z. absurd (nothing-dropped s n z);
  sizes = λ m b k small. absurd (large (small-sized entry c t m b k turning.updates d small));
}

pub along-promised : (entry : List Row) (c : Case) (t : List ℤ) (s : LoopSets) → IsTurning c → IsCourse c.updates t
    → All (λ r. length r.coefficients ≡ length c.updates) entry → IsAlong entry c.updates t c.rows s → IsPromised entry c s
along-promised entry c t s turning course wide l = record {
  first_kept = first-kept entry c t s course l;
  around_kept = around-kept entry c t s course l;
  proofs = turns-shown entry c t s course l;
  contains = updated-in entry c t s course l;
  exact = first-is entry c t s course l;
  cone = cone-is entry c t s course l;
  sizes = λ m b k small. none-dropped entry c t s m b k course (λ i d h. narrow-width (length c.updates) (get_or entry i d) (wide i d h)) turning.rows small l;
}
