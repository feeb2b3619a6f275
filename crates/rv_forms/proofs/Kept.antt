-- What has been read stays as the store grows.
use Rattle.std.proofs.Common.{◌≡◌, ℕ, ◌<◌, max, true, false, List, length, sym, ◌∙◌, ap, subst, arith, Option, Some, inl, inr, None as Nothing}
use Rattle.std.proofs.{lemmas.Bool.cases_eq, lemmas.List.get_or-set_same, lemmas.List.get_or-set_other, lemmas.List.length-set}
use Rattle.std.specs.Prelude.{slice_index_or, slice_set}
use Rattle.rv_rows.specs.Forms.{FormWithin}
use Rattle.rv_diagram.specs.{declared.Triple.Triple, Nodes.Valuation, Nodes.Diagrams}
use Rattle.rv_diagram.specs.Growing.{Extends}
use Rattle.rv_terms.specs.{declared.parted.Part.Part, declared.parted.Term.Term, Parts.form_at, Parts.holds, Parts.term_width, Parts.IsTerm}
use Rattle.rv_terms.proofs.Combining.{form_later, holds_later, term_later}
use Rattle.rv_agreement.specs.Valuations.{Linear}
use Rattle.rv_flat.specs.{declared.flat.Flat.Flat, Inlined.table_of}
use Rattle.rv_bits.specs.{declared.around.Around.Around, Shown.AreAfter}
use Rattle.rv_bits.proofs.Keeping.{around_kept, after_kept}
use Rattle.rv_forms.specs.declared.over.Wholes.{Wholes}
use Rattle.rv_forms.specs.Terms.{columns_of, weights_of, weight_in, parts_at, IsWithin, AreWholes, IsAfterAs, AreKnown, IsReady}
use Rattle.rv_base.proofs.Options.{some_same}

-- the width of a term is that of its first form
pub width_first : (nodes : List Triple) (columns : ℕ) (parts : List Part) → IsTerm nodes columns parts → term_width parts ≡ columns
width_first nodes columns parts is =
    let c : (i : ℕ) × (i < length parts) × (holds nodes parts i (λ k. false) ≡ true) = is.covers (λ k. false) in
    is.widths 0 (omega (arith, c.1))

pub own_width : (nodes : List Triple) (columns : ℕ) (parts : List Part) → IsTerm nodes columns parts → IsTerm nodes (term_width parts) parts
own_width nodes columns parts is = subst (λ n. IsTerm nodes n parts) (sym (width_first nodes columns parts is)) is

pub form_kept : (a b : Diagrams) (columns n : ℕ) (parts : List Part) → Extends a b → IsWithin a.nodes columns n parts → (v : Valuation)
    → form_at b.nodes parts v ≡ form_at a.nodes parts v
form_kept a b columns n parts e is v = form_later a b parts v e is.term.refs

pub within_kept : (a b : Diagrams) (columns n : ℕ) (parts : List Part) → Extends a b → IsWithin a.nodes columns n parts → IsWithin b.nodes columns n parts
within_kept a b columns n parts e is = record {
  term = term_later a b columns parts e is.term;
  filled = λ i lt none. is.filled i lt (λ v. sym (holds_later a b parts e is.term.refs i lt v) ∙ none v);
  small = λ v. subst (FormWithin n) (sym (form_kept a b columns n parts e is v)) (is.small v);
}

pub wholes_kept : (f : Flat) (a b : Diagrams) (w : Wholes) → Extends a b → AreWholes f a.nodes w → AreWholes f b.nodes w
wholes_kept f a b w e are = record {
  columns = are.columns;
  many_kept = are.many_kept;
  kept = λ m lt. within_kept a b (columns_of f) 1 (parts_at w.kept m) e (are.kept m lt);
  kept_shows = λ m v lt. form_kept a b (columns_of f) 1 (parts_at w.kept m) e (are.kept m lt) v ∙ are.kept_shows m v lt;
  many_given = are.many_given;
  given = λ j lt. within_kept a b (columns_of f) 1 (parts_at w.given j) e (are.given j lt);
  given_shows = λ j v lt. form_kept a b (columns_of f) 1 (parts_at w.given j) e (are.given j lt) v ∙ are.given_shows j v lt;
  few_flows = are.few_flows;
  flows = λ k lt. within_kept a b (columns_of f) (slice_index_or (weights_of f) k 0) (parts_at w.flows k) e (are.flows k lt);
  flows_show = λ k v row lt instant. form_kept a b (columns_of f) (slice_index_or (weights_of f) k 0) (parts_at w.flows k) e (are.flows k lt) v
      ∙ are.flows_show k v row lt instant;
}

pub one_kept : (f : Flat) (a b : Diagrams) (m : ℕ) (parts : List Part) → Extends a b → IsAfterAs f a.nodes m parts → IsAfterAs f b.nodes m parts
one_kept f a b m parts e is =
    let n : ℕ = max (weight_in f (table_of f.memories m).body) 1 in
    record {
      within = within_kept a b (columns_of f) n parts e is.within;
      shows = λ v row lt whole instant. is.shows v row lt whole instant ∙ ap Linear (sym (form_kept a b (columns_of f) n parts e is.within v));
    }

pub known_kept : (f : Flat) (a b : Diagrams) (known : List (Option Term)) → Extends a b → AreKnown f a.nodes known → AreKnown f b.nodes known
known_kept f a b known e are = record { size = are.size; each = λ m t is. one_kept f a b m t.parts e (are.each m t is) }

-- what one more memory holds is known
pub known_set : (f : Flat) (nodes : List Triple) (known : List (Option Term)) (m : ℕ) (t : Term) → m < length known → AreKnown f nodes known
    → IsAfterAs f nodes m t.parts → AreKnown f nodes (slice_set known m (Some t))
known_set f nodes known m t lt are is = record {
  size = length-set known m (Some t) ∙ are.size;
  each = λ k other e. elim (cases_eq k m) [
    | inl same ↦
        let here : slice_index_or (slice_set known m (Some t)) k Nothing ≡ Some t =
        ap (λ n. slice_index_or (slice_set known m (Some t)) n Nothing) same ∙ get_or-set_same known m (Some t) Nothing lt in
        let one : t ≡ other = some_same t other (sym here ∙ e) in
        subst (λ (u : Term). IsAfterAs f nodes k u.parts) one (subst (λ n. IsAfterAs f nodes n t.parts) (sym same) is)
    | inr apart ↦ are.each k other (sym (get_or-set_other known m k (Some t) Nothing apart) ∙ e)
  ];
}

pub ready_kept : (a b : Diagrams) (x : Around) (w : Wholes) (shown : List (Option (List ℕ))) (known : List (Option Term)) → Extends a b
    → IsReady a x w shown known → IsReady b x w shown known
ready_kept a b x w shown known e is = record {
  around = around_kept a b x e is.around;
  complete = is.complete;
  wholes = wholes_kept x.flat.now a b w e is.wholes;
  in_refs = after_kept x.flat.now a b shown e is.in_refs;
  in_terms = known_kept x.flat.now a b known e is.in_terms;
}

-- after more of what the memories hold has been read into references
pub ready_shown : (a b : Diagrams) (x : Around) (w : Wholes) (before shown : List (Option (List ℕ))) (known : List (Option Term)) → Extends a b
    → IsReady a x w before known → AreAfter x.flat.now b.nodes shown → IsReady b x w shown known
ready_shown a b x w before shown known e is after =
    let kept = ready_kept a b x w before known e is in
    record { around = kept.around; complete = kept.complete; wholes = kept.wholes; in_refs = after; in_terms = kept.in_terms }

-- and after it has been known as terms
pub ready_known : (d : Diagrams) (x : Around) (w : Wholes) (shown : List (Option (List ℕ))) (before known : List (Option Term))
    → IsReady d x w shown before → AreKnown x.flat.now d.nodes known → IsReady d x w shown known
ready_known d x w shown before known is more =
    record { around = is.around; complete = is.complete; wholes = is.wholes; in_refs = is.in_refs; in_terms = more }
