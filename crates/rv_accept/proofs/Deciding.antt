-- What is still throughout a scope is settled at the entry, and what moves is not.
use Rattle.std.proofs.Common.{ℕ, ◌+◌, ◌<◌, ◌≡◌, ◌⊎◌, pos, Bool, List, length, All, ⊎_elim, arith, Option, Some, MatchOption, slice_get, None as Nothing}
use Rattle.std.proofs.{lemmas.Bool.cases_lt, lemmas.List.get_or_past, lemmas.List.Elements.All-contains}
use Rattle.rv_rows.specs.{declared.linear.Row.Row, declared.linear.Form.Form, Rows.row_at}
use Rattle.rv_diagram.specs.Nodes.{Diagrams}
use Rattle.rv_proofs.specs.{Systems.System, Ranges.IsRecord, Scopes.IsSettled, Scopes.IsSettledTest, Scopes.IsSettledUpdate, Scopes.Wanted, Scopes.refutation}
use Rattle.rv_proofs.specs.{Scopes.before, Scopes.after, Scopes.Implication, Scopes.implications, Scopes.NamesTest, Scopes.NeedsUpdate, Implied.form_at}
use Rattle.rv_proofs.specs.{declared.certificate.Certificate.Certificate, declared.certificate.Location.Location, declared.certificate.Entry.Entry}
use Rattle.rv_accept.specs.Needs.{IsNamed, IsNeeded, StaysRow, StaysForm, AreStillRows, AreStillForms, HasMovingRow, HasMovingForm}
use Rattle.rv_accept.specs.{Held.IsScope, Passing.AreFacts, Passing.IsNeededBy, declared.facts.Facts.Facts}
use Rattle.rv_accept.proofs.{Listing.all_at, Listing.all_from, Judged.IsKeptWanted}

-- a memory that a kept row needs is one
needed_low : (s : System) (w : Wanted) (k : ℕ) → IsKeptWanted s w → NeedsUpdate w k → k < s.memories
needed_low s refutation k kept need = absurd need
needed_low s (before r) k kept need = absurd need
needed_low s (after r) k kept need = ⊎_elim (λ low. low)
    (λ past. let width : length r.coefficients ≡ s.memories = kept.0 in absurd (need (get_or_past r.coefficients k (pos 0) (omega arith))))
    (cases_lt k s.memories)

-- a test that multipliers in range name is one
named_low : (s : System) (i : Implication) (t : ℕ) → IsRecord (length i.given + s.tests) i.by → NamesTest i t → t < s.tests
named_low s i t r (w, inside, is) =
    let low : w.premise < length i.given + s.tests = All-contains (λ w. w.premise < length i.given + s.tests) i.by.weights w r.there inside in
    omega (arith, is, low)

module _ (s : System) (l : Location) (e : Entry) (d : Diagrams) (scope : ℕ) (is : IsScope s l e d scope) where
  test_settled : (t : ℕ) (r : Row) → t < s.tests → StaysRow s d.nodes scope t r → IsSettledTest s l e t r
  test_settled t r low h = record { known = low; some = (h.some.0, (is.exact h.some.0).0 h.some.1); same = λ v inside. h.same v ((is.exact v).1 inside) }

  test_still : (t : ℕ) (r : Row) → IsSettledTest s l e t r → StaysRow s d.nodes scope t r
  test_still t r h = record { some = (h.some.0, (is.exact h.some.0).1 h.some.1); same = λ v on. h.same v ((is.exact v).0 on) }

  form_settled : (k : ℕ) (f : Form) → k < s.memories → StaysForm s d.nodes scope k f → IsSettledUpdate s l e k f
  form_settled k f low h = record { known = low; some = (h.some.0, (is.exact h.some.0).0 h.some.1); same = λ v inside. h.same v ((is.exact v).1 inside) }

  form_still : (k : ℕ) (f : Form) → IsSettledUpdate s l e k f → StaysForm s d.nodes scope k f
  form_still k f h = record { some = (h.some.0, (is.exact h.some.0).1 h.some.1); same = λ v on. h.same v ((is.exact v).0 on) }

  module _ (c : Certificate) (named moved : List Bool) (need : IsNeededBy s c l e named moved) where
    pub moving_row : HasMovingRow s d.nodes scope named → ¬ IsSettled s c l e
    moving_row (t, low, on, none) settled =
        let (n, i, at, names) = (need.tests.exact t low).0 on in
        let (r, h) = all_at (λ i. (t : ℕ) → NamesTest i t → (r : Row) × IsSettledTest s l e t r) (implications c l e.kind) settled.tests n i at t names in
        none r (test_still t r h)

    pub moving_form : HasMovingForm s d.nodes scope moved → ¬ IsSettled s c l e
    moving_form (k, low, on, none) settled =
        let (n, i, at, needs) = (need.memories.exact k low).0 on in
        let (f, h) = all_at (λ i. (k : ℕ) → NeedsUpdate i.wanted k → (f : Form)
        × IsSettledUpdate s l e k f) (implications c l e.kind) settled.updates n i at k needs in
        none f (form_still k f h)

    module _ (kept : (n : ℕ) (i : Implication) → slice_get (implications c l e.kind) n ≡ Some i → IsKeptWanted s i.wanted)
        (records : All (λ i. IsRecord (length i.given + s.tests) i.by) (implications c l e.kind))
        (rows : List Row) (forms : List Form) (rs : AreStillRows s d.nodes scope named rows) (fs : AreStillForms s d.nodes scope moved forms) where
      row_there : (t : ℕ) → IsNamed (implications c l e.kind) t → IsSettledTest s l e t (row_at rows t)
      row_there t (n, i, at, names) =
          let low : t < s.tests = named_low s i t (all_at (λ i. IsRecord (length i.given + s.tests) i.by) (implications c l e.kind) records n i at) names in
          test_settled t (row_at rows t) low (rs.still t low ((need.tests.exact t low).1 (n, i, at, names)))

      form_there : (k : ℕ) → IsNeeded (implications c l e.kind) k → IsSettledUpdate s l e k (form_at forms k)
      form_there k (n, i, at, needs) =
          let low : k < s.memories = needed_low s i.wanted k (kept n i at) needs in
          form_settled k (form_at forms k) low (fs.still k low ((need.memories.exact k low).1 (n, i, at, needs)))

      pub settled_facts : IsSettled s c l e × AreFacts s c l e rows forms
      settled_facts = (
        record {
          tests = all_from (λ i. (t : ℕ) → NamesTest i t → (r : Row) × IsSettledTest s l e t r) (implications c l e.kind) (λ n i at t names.
              (row_at rows t, row_there t (n, i, at, names)));
          updates = all_from (λ i. (k : ℕ) → NeedsUpdate i.wanted k → (f : Form) × IsSettledUpdate s l e k f) (implications c l e.kind)
              (λ n i at k needs. (form_at forms k, form_there k (n, i, at, needs)));
        },
        record {
          limits = record { many_rows = rs.size; many_forms = fs.size; small = rs.small; updates = fs.updates };
          tests = row_there;
          needed = form_there;
        },
      )

pub facts_settled : (s : System) (l : Location) (e : Entry) (d : Diagrams) (scope : ℕ) → IsScope s l e d scope
    → (c : Certificate) (named moved : List Bool) → IsNeededBy s c l e named moved
    → ((n : ℕ) (i : Implication) → slice_get (implications c l e.kind) n ≡ Some i → IsKeptWanted s i.wanted)
    → All (λ i. IsRecord (length i.given + s.tests) i.by) (implications c l e.kind) → (o : Option Facts)
    → MatchOption o (HasMovingRow s d.nodes scope named ⊎ HasMovingForm s d.nodes scope moved) (λ f. AreStillRows s d.nodes scope named f.rows
    × AreStillForms s d.nodes scope moved f.forms)
    → MatchOption o (¬ IsSettled s c l e) (λ f. IsSettled s c l e × AreFacts s c l e f.rows f.forms)
facts_settled s l e d scope is c named moved need kept records Nothing h = ⊎_elim (λ r. moving_row s l e d scope is c named moved need r)
    (λ f. moving_form s l e d scope is c named moved need f) h
facts_settled s l e d scope is c named moved need kept records
    (Some f) h = settled_facts s l e d scope is c named moved need kept records f.rows f.forms h.0 h.1
