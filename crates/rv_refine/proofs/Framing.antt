-- What is the same throughout a search stays so in a store that grows, and rows of left sides are within the limits of premises.
use Rattle.std.proofs.Common.{◌≡◌, ℕ, ◌^◌, ◌≤◌, ◌<◌, ℤ, List, [], ◌∷◌, length, All, Option, Some, arith, sym, subst, slice_get}
use Rattle.std.proofs.Common.{None as Nothing, pos, false}
use Rattle.std.proofs.lemmas.List.Elements.{All-weaker, All-contains, All-from_get_or, All-nil, All-cons, All-head, All-tail}
use Rattle.std.specs.Int.RustNames.{unsigned_abs}
use Rattle.rv_base.proofs.Lists.{contains_got}
use Rattle.rv_diagram.specs.{Nodes.Diagrams, Nodes.IsRef, Nodes.IsOrderedOver, Growing.Extends}
use Rattle.rv_rows.specs.{declared.linear.Row.Row, Rows.RowWithin, Rows.row_at, Tight.Fits}
use Rattle.rv_proofs.specs.Systems.{System, IsSystem}
use Rattle.rv_cases.specs.declared.asking.Questions.{Questions}
use Rattle.rv_cases.specs.Questions.{AreQuestions}
use Rattle.rv_cases.proofs.Keeping.{questions_later}
use Rattle.rv_pairs.proofs.Counting.{labels_stay}
use Rattle.rv_seek.specs.Least.{bounded}
use Rattle.rv_ends.specs.Thresholds.{IsLeastAbove}
use Rattle.rv_rise.specs.Sides.{rows_with, AreSides}
use Rattle.rv_rise.proofs.Fitting.{side_small}
use Rattle.rv_refine.specs.{declared.frames.Frame.Frame, Frames.IsHeld, Frames.IsFrame, Sides.IsLeftSide, Sides.AreLeftSides, Sides.IsSmallLimit}

pub held_later : (d e : Diagrams) (f : Frame) → Extends d e → IsHeld d f → IsHeld e f
held_later d e f x h = record {
  thresholds = h.thresholds;
  labels = labels_stay d e f.labels x h.labels;
  allowed = let a = h.allowed in omega (arith, a, x.longer);
  sets = subst (λ (n : ℕ). All (IsOrderedOver n) f.sets) (sym x.variables) h.sets;
  into = All-weaker (IsRef d.nodes) (IsRef e.nodes) (λ r l. omega (arith, l, x.longer)) f.into h.into;
  many = h.many;
}

-- a frame in a store that has grown
pub frame_later : (s : System) (d e : Diagrams) (q : Questions) (f : Frame) → Extends d e → IsFrame s d q f → IsFrame s e q f
frame_later s d e q f x h = record {
  system = h.system;
  questions = questions_later s d e q x h.questions;
  columns = h.columns;
  sides = h.sides;
  held = held_later d e f x h.held;
}

-- left sides are within the limits of premises
pub sides_within : (m : ℕ) (rows : List Row) → AreLeftSides m rows → All (RowWithin (2 ^ 60)) rows
sides_within m rows are = All-weaker (IsLeftSide m) (RowWithin (2 ^ 60))
    (λ r is. (
      All-weaker (λ (c : ℤ). unsigned_abs c ≤ 2 ^ 20) (λ c. unsigned_abs c ≤ 2 ^ 60) (λ c l. omega (arith, l)) r.coefficients is.numbers,
      let b = is.bound in omega (arith, b),
    )) rows are

-- what holds of all holds of the one at a place
pub at_place : {X : Type 0} (P : X → Type 0) (xs : List X) (k : ℕ) (x : X) → All P xs → slice_get xs k ≡ Some x → P x
at_place P xs k x all at = All-contains P xs x all (contains_got xs k x at)

-- the rows of left sides that have small limits
pub rows_are : (m : ℕ) (sides : List Row) (limits : List (Option ℤ)) → AreLeftSides m sides → All IsSmallLimit limits → AreLeftSides m (rows_with sides limits)
unfolding rows_with
rows_are m [] limits are small = All-nil (IsLeftSide m)
rows_are m (side ∷ sides) [] are small = All-nil (IsLeftSide m)
rows_are m (side ∷ sides) (Nothing ∷ limits) are small =
    rows_are m sides limits (All-tail (IsLeftSide m) side sides are) (All-tail IsSmallLimit Nothing limits small)
rows_are m (side ∷ sides) (Some b ∷ limits) are small =
    let first = All-head (IsLeftSide m) side sides are in
    All-cons (IsLeftSide m) (bounded side.coefficients b) (rows_with sides limits)
    (record { size = first.size; numbers = first.numbers; bound = All-head IsSmallLimit (Some b) limits small })
    (rows_are m sides limits (All-tail (IsLeftSide m) side sides are) (All-tail IsSmallLimit (Some b) limits small))

-- a left side has small numbers
pub side_fits : (m : ℕ) (r : Row) → IsLeftSide m r → Fits r
side_fits m r is = record {
  coefficients = All-weaker (λ (c : ℤ). unsigned_abs c ≤ 2 ^ 20) (λ c. unsigned_abs c ≤ 2 ^ 30) (λ c l. omega (arith, l)) r.coefficients is.numbers;
  bound = let b = is.bound in omega (arith, b);
}

-- the least threshold above a number is a small limit
pub least_small : (thresholds : List ℤ) (x : ℤ) (o : Option ℤ) → All (λ t. unsigned_abs t ≤ 2 ^ 41) thresholds → IsLeastAbove thresholds x o → IsSmallLimit o
least_small thresholds x (Some b) small above = All-contains (λ (t : ℤ). unsigned_abs t ≤ 2 ^ 41) thresholds b small (above.some.0)
least_small thresholds x Nothing small above = tt

-- a system with so many memories and nothing else
abbrev pub empty_system : ℕ → System
empty_system m = record {
  states = 0;
  variables = 0;
  memories = m;
  columns = 0;
  tests = 0;
  initial = λ v. false;
  allowed = λ v. false;
  row = λ v t. Nothing;
  update = λ v k. record { coefficients = []; constant = pos 0 };
  observer = λ v. false;
  next = λ v. v;
}

zero_small : (z : ℤ) → z ≡ pos 0 → unsigned_abs z ≤ 2 ^ 41
zero_small z e = subst (λ (x : ℤ). unsigned_abs x ≤ 2 ^ 41) (sym e) (omega arith)

-- the table's left sides
pub sides_left : (s : System) (sides : List Row) → AreSides s sides → AreLeftSides s.memories sides
sides_left s sides are = All-from_get_or (IsLeftSide s.memories) sides (record { coefficients = []; bound = pos 0 }) (λ k l.
    let side = are.each k l in
    record {
      size = side.size;
      numbers = All-weaker (λ (c : ℤ). unsigned_abs c ≤ 1) (λ c. unsigned_abs c ≤ 2 ^ 20) (λ c m. omega (arith, m)) (row_at sides k).coefficients
          (side_small s (row_at sides k) side);
      bound = zero_small (row_at sides k).bound side.bound;
    })

-- there are few questions
pub questions_few : (s : System) (d : Diagrams) (q : Questions) → IsSystem s → AreQuestions s d q → length q.questions < 2 ^ 32
questions_few s d q is ask =
    let limits = is.limits in let few = limits.tests in let less = limits.memories in
    let many = ask.many_tests in let more = ask.many_memories in let have = ask.answers in let all = have.many in
    omega (arith, few, less, many, more, all)
