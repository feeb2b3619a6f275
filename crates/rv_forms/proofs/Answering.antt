-- The parts of a term as answers to a question.
use Rattle.std.proofs.Common.{◌≡◌, inl, inr, ℕ, zero, suc, ◌<◌, true, List, [], ◌∷◌, length, refl, sym, ◌∙◌, ap, subst, arith, Some, None as Nothing}
use Rattle.std.proofs.{lemmas.Bool.cases_eq, lemmas.Bool.cases_lt, lemmas.List.length-map}
use Rattle.std.specs.Prelude.{slice_get}
use Rattle.rv_rows.specs.declared.linear.Form.{Form}
use Rattle.rv_diagram.specs.{declared.Triple.Triple, Nodes.Valuation, Nodes.Diagrams, Nodes.IsRef, Nodes.value_of, Several.ref_at}
use Rattle.rv_terms.specs.{declared.parted.Part.Part, declared.parted.Term.Term, Parts.part_at, Parts.holds, Parts.form_at, Parts.IsTerm}
use Rattle.rv_terms.proofs.Classes.{part_iff}
use Rattle.rv_cases.specs.Conditions.{is_in, AreAnswers}
use Rattle.rv_flat.specs.declared.flat.Flat.{Flat}
use Rattle.rv_control.specs.Control.{control_of}
use Rattle.rv_forms.specs.{Choices.refs_in, Choices.forms_in, Choices.AreChoices, Terms.columns_of, Terms.parts_at, Terms.AreUpdatesRead}
use Rattle.rv_diagram.proofs.Several.{same_truth}

-- the reference of an answer is that of its part
under_at : (parts : List Part) (i : ℕ) → ref_at (refs_in parts) i ≡ (part_at parts i).under
under_at [] i = refl
under_at (p ∷ ps) zero = refl
under_at (p ∷ ps) (suc i) = under_at ps i

answer_is : (nodes : List Triple) (parts : List Part) (i : ℕ) (v : Valuation) → is_in nodes (refs_in parts) i v ≡ holds nodes parts i v
answer_is nodes parts i v = ap (λ r. value_of nodes r v) (under_at parts i)

many_refs : (parts : List Part) → length (refs_in parts) ≡ length parts
many_refs parts = length-map parts (λ p. p.under)

some_form : (parts : List Part) (i : ℕ) (g : Form) → slice_get (forms_in parts) i ≡ Some g → (i < length parts) × ((part_at parts i).form ≡ g)
some_form [] i g e = let bad : Nothing ≡ Some g = e in absurd (cc)
some_form (p ∷ ps) zero g e = (omega arith, let same : Some p.form ≡ Some g = e in cc)
some_form (p ∷ ps) (suc i) g e = let rest = some_form ps i g e in (omega (arith, rest.0), rest.1)

pub are_answers : (nodes : List Triple) (columns : ℕ) (parts : List Part) → IsTerm nodes columns parts → AreAnswers nodes (refs_in parts)
are_answers nodes columns parts is =
    let many = many_refs parts in
    record {
      found = λ i lt. subst (IsRef nodes) (sym (under_at parts i)) (is.refs i (omega (arith, many)));
      covered = λ v. let c : (i : ℕ) × (i < length parts) × (holds nodes parts i v ≡ true) = is.covers v in
          (c.0, omega (arith, many, c.1), answer_is nodes parts c.0 v ∙ c.2);
      apart = λ i j less lt v one two. is.disjoint i j less (omega (arith, many)) v (sym (answer_is nodes parts i v) ∙ one)
          (sym (answer_is nodes parts j v) ∙ two);
    }

pub answer_says : (nodes : List Triple) (columns : ℕ) (parts : List Part) (b : ℕ) (v : Valuation) → IsTerm nodes columns parts → b < length parts
    → is_in nodes (refs_in parts) b v ≡ true → form_at nodes parts v ≡ (part_at parts b).form
answer_says nodes columns parts b v is lt on = (part_iff nodes columns parts b v is lt).0 (sym (answer_is nodes parts b v) ∙ on)

-- a part holds at both valuations, or at none, where the term has one form at them
held_alike : (nodes : List Triple) (columns : ℕ) (parts : List Part) (b : ℕ) (v w : Valuation) → IsTerm nodes columns parts → b < length parts
    → form_at nodes parts v ≡ form_at nodes parts w → holds nodes parts b v ≡ holds nodes parts b w
held_alike nodes columns parts b v w is lt same =
    let at_v = part_iff nodes columns parts b v is lt in
    let at_w = part_iff nodes columns parts b w is lt in
    same_truth (holds nodes parts b v) (holds nodes parts b w) (λ on. at_w.1 (sym same ∙ at_v.0 on)) (λ on. at_v.1 (same ∙ at_w.0 on))

pub are_choices : (f : Flat) (old new : Diagrams) (terms : List Term) (k : ℕ) → AreUpdatesRead f old new terms → k < length terms
    → AreChoices (control_of f) new k (parts_at terms k)
are_choices f old new terms k are lt =
    let parts : List Part = parts_at terms k in
    let is : IsTerm new.nodes (columns_of f) parts = (are.each k lt).term in
    let many = many_refs parts in
    record {
      answers = are_answers new.nodes (columns_of f) parts is;
      updates = record {
        becomes = λ i g v said on.
            let some = some_form parts i g said in
            sym (are.becomes k v lt) ∙ answer_says new.nodes (columns_of f) parts i v is some.0 on ∙ some.1;
      };
      many = many ∙ sym (length-map parts (λ p. p.form));
      distinct = λ i j g one two.
          let first = some_form parts i g one in
          let second = some_form parts j g two in
          one_place new.nodes (columns_of f) parts is i j first.0 second.0 (first.1 ∙ sym second.1);
      unread = λ system b v w low same.
          let alike : form_at new.nodes parts v ≡ form_at new.nodes parts w =
          are.becomes k v lt ∙ system.update v w k same ∙ sym (are.becomes k w lt) in
          answer_is new.nodes parts b v ∙ held_alike new.nodes (columns_of f) parts b v w is (omega (arith, many)) alike ∙ sym (answer_is new.nodes parts b w);
    }
  where
    one_place : (nodes : List Triple) (columns : ℕ) (parts : List Part) → IsTerm nodes columns parts → (i j : ℕ) → i < length parts → j < length parts
        → (part_at parts i).form ≡ (part_at parts j).form → i ≡ j
    one_place nodes columns parts is i j low high same = elim (cases_lt i j) [
      | inl less ↦ absurd (is.different i j less high same)
      | inr le ↦ elim (cases_eq i j) [ inl e ↦ e | inr off ↦ absurd (let less : j < i = omega arith in is.different j i less low (sym same)) ]
    ]
