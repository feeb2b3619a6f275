-- References of what a flat system is have the meanings of its system of valuations.
use Rattle.std.proofs.Common.{◌≡◌, ◌∙◌, ◌≤◌, ◌^◌, ℕ, ℤ, All, List, [], length, sym, ap, arith}
use Rattle.std.proofs.lemmas.List.{length-map, nil_from_length}
use Rattle.rv_diagram.specs.Nodes.{Diagrams}
use Rattle.rv_diagram.specs.Growing.{Extends}
use Rattle.rv_agreement.specs.{Agreement.IsWell, Trees.System, Valuations.Valuation, Valuations.IsSymbolic}
use Rattle.rv_flat.specs.{declared.flat.Flat.Flat, FlatInstants.system_of, Lists.variable_of}
use Rattle.rv_proofs.specs.{Systems.IsSystem, Counts.HasFree, Ranges.IsInRange, Reached.HasNoIntegers, declared.certificate.Certificate.Certificate}
use Rattle.rv_proofs.specs.Systems as proofs
use Rattle.rv_control.specs.{Control.control_of, Named.named, Symbolic.symbolic}
use Rattle.rv_symbolic.specs.{Represented.AreParts, Represented.HaveRefs, declared.relation.Parts.Parts}
use Rattle.rv_cases.specs.{declared.asking.Questions.Questions, Questions.AreQuestions}
use Rattle.rv_cases.proofs.Keeping.{questions_later}
use Rattle.rv_bits.specs.Whole.{ArePartsRead}
use Rattle.rv_accept.specs.Passing.{IsGiven}
use Rattle.rv_reading.specs.declared.reading.Reading.{Reading}
use Rattle.rv_reading.specs.Read.{flat_of, system_read, diagrams_of, relation_of, questions_of, IsRead}
use Rattle.rv_boxes.specs.Passing.{IsPassOf}
use Rattle.rv_open.specs.{Columns.HasNoColumns, Given.IsConstant}
use Rattle.rv_paths.specs.Candidates.{IsSearchOf}
use Rattle.rv_reading.specs.Analysing as analysing
use Rattle.std.specs.Int.RustNames.{unsigned_abs}

module _ (f : Flat) (well : IsWell (system_of f)) (computed : (s : System) (w : Valuation) → IsWell s → IsSymbolic s w (symbolic s w)) (a b : Diagrams)
    (p : Parts)
    (size : a.variables ≡ length f.variables) (are : ArePartsRead f a b p) where
  pub parts_are : AreParts (control_of f) b p
  parts_are = record {
    variables = are.extends.variables ∙ size ∙ sym (length-map f.variables variable_of);
    states = are.next.size;
    allowed = λ v. are.allowed v (symbolic (system_of f) (named f v)) (computed (system_of f) (named f v) well);
    observer = λ v. are.observer v (symbolic (system_of f) (named f v)) (computed (system_of f) (named f v) well);
    initial = λ v. are.initial v;
    next = λ i lt v. are.next.each i lt v (symbolic (system_of f) (named f v)) (computed (system_of f) (named f v) well);
  }

  pub refs_are : IsSystem (control_of f) → HaveRefs b p
  refs_are system = record {
    allowed = are.allowed_ref;
    observer = are.observer_ref;
    initial = are.initial_ref;
    next = λ i lt. are.next.are_refs i (omega (arith, are.next.size));
    copies = omega (arith, system.bits, are.next.size, are.extends.variables, size, length-map f.variables variable_of);
  }

pub questions_kept : (s : proofs.System) (a b : Diagrams) (q : Questions) → Extends a b → AreQuestions s a q → AreQuestions s b q
questions_kept s a b q e are = questions_later s a b q e are

-- What a checker is given of a reading.
pub is_given : (r : Reading) (c : Certificate) → IsRead r → IsInRange (system_read r) c → HasFree c
    → IsGiven (system_read r) (diagrams_of r) (relation_of r).parts (questions_of r) c
is_given r c read range free = record {
  held = record { system = read.relation.system; refs = read.relation.laid_out.refs; means = read.relation.parts };
  questions = read.questions;
  range = range;
  free = free;
}

-- ---- What a box pass is given of a reading.
pub is_pass : (r : Reading) (columns : ℕ) → IsRead r → columns ≡ length (flat_of r).columns
    → IsPassOf (system_read r) (diagrams_of r) (relation_of r) (questions_of r) columns
is_pass r columns read many = record { relation = read.relation; questions = read.questions; wide = sym (many ∙ read.wide) }

-- ---- What the analysis and the search for candidates are given of a reading.
pub is_analysed : (r : Reading) (thresholds : List ℤ) → IsRead r → All (λ t. unsigned_abs t ≤ 2 ^ 41) thresholds
    → analysing.IsGiven (system_read r) (diagrams_of r) (relation_of r) (questions_of r) thresholds
is_analysed r thresholds read small = record { relation = read.relation; questions = read.questions; small = small }

pub is_search : (r : Reading) (columns : ℕ) → IsRead r → columns ≡ length (flat_of r).columns
    → IsSearchOf (system_read r) (diagrams_of r) (relation_of r) (questions_of r) columns
is_search r columns read many = record { relation = read.relation; questions = read.questions; wide = sym (many ∙ read.wide) }

-- ---- What the search for a run without columns is given of a reading.
pub is_constant : (r : Reading) → IsRead r → HasNoColumns (system_read r) → IsConstant (system_read r) (diagrams_of r) (relation_of r) (questions_of r)
is_constant r read columns = record { relation = read.relation; questions = read.questions; columns = columns }

module _ (r : Reading) (read : IsRead r) where
  pub columns_none : (flat_of r).columns ≡ [] → HasNoColumns (system_read r)
  columns_none columns =
      let system = read.relation.system in
      let none : (system_read r).columns ≡ 0 = sym read.wide ∙ ap length columns in
      record { memories = let few = system.few_memories in omega (arith, few, none); columns = none }

  pub none_columns : HasNoColumns (system_read r) → (flat_of r).columns ≡ []
  none_columns none = nil_from_length (flat_of r).columns (read.wide ∙ none.columns)

  pub no_integers : (flat_of r).columns ≡ [] → (questions_of r).rows ≡ [] → HasNoIntegers (system_read r)
  no_integers columns tests =
      let system = read.relation.system in
      let asked = read.questions in
      let none : (system_read r).columns ≡ 0 = sym read.wide ∙ ap length columns in
      record {
        memories = let few = system.few_memories in omega (arith, few, none);
        columns = none;
        tests = sym asked.many_tests ∙ ap length tests;
      }

  pub no_columns : HasNoIntegers (system_read r) → (flat_of r).columns ≡ []
  no_columns none = nil_from_length (flat_of r).columns (read.wide ∙ none.columns)

  pub no_tests : HasNoIntegers (system_read r) → (questions_of r).rows ≡ []
  no_tests none = let asked = read.questions in nil_from_length (questions_of r).rows (asked.many_tests ∙ none.tests)
