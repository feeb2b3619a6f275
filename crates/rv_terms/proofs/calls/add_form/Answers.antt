use Rattle.std.proofs.Common.{◌≡◌, ◌≢◌, ◌↔◌, ◌<◌, ◌∙◌, ap, sym, refl, subst, length, ℕ, true, List, [], ◌∷◌, ◌++◌}
use Rattle.std.proofs.lemmas.Bool.{false≢true}
use Rattle.std.specs.Prelude.{MatchOption}
use Rattle.rv_rows.specs.declared.linear.Form.{Form}
use Rattle.rv_diagram.specs.{Nodes.Valuation, Nodes.value_of, Nodes.choice, declared.store.StoreFault.StoreFault}
use Rattle.rv_terms.specs.declared.parted.Part.{Part}
use Rattle.rv_terms.specs.Parts.{part_at, form_at, held, chosen_form, AreClasses, HasForm, IsFilledBy}
use Rattle.rv_terms.proofs.Classes.{chosen_iff, fresh_from, apart, classes_later, classes_put, form_put, form_stays, filled_put, filled_later, lacks_put}
use Rattle.rv_terms.proofs.Classes.{err_moved}
use Rattle.rv_diagram.proofs.Counting.{none_few}
use Rattle.rv_diagram.proofs.Growing.{grows_extends}
use Rattle.rv_terms.proofs.calls.add_form.Goals as goal

pub returns-in-Err-clause-room : goal.returns-in-Err-clause-room
returns-in-Err-clause-room c h =
    let exact : (v : Valuation) → (choice c.args.store.now.nodes c.args.test c.under_of-there.result c.under_of-elsewhere.result v ≡ true)
    ↔ (chosen_form c.args.store.now.nodes c.args.test c.args.yes.now c.args.no.now v ≡ c.args.form.now) =
    λ v. chosen_iff (value_of c.args.store.now.nodes c.args.test v) (value_of c.args.store.now.nodes c.under_of-there.result v)
    (value_of c.args.store.now.nodes c.under_of-elsewhere.result v) (form_at c.args.store.now.nodes c.args.yes.now v)
    (form_at c.args.store.now.nodes c.args.no.now v)
    c.args.form.now (c.under_of-there.ensures.means c.args.store.now.nodes (length c.args.form.now.coefficients) v c.requires.yes)
    (c.under_of-elsewhere.ensures.means c.args.store.now.nodes (length c.args.form.now.coefficients) v c.requires.no) in
    let fresh : (i : ℕ) → i < length c.args.parts.now → (part_at c.args.parts.now i).form ≢ c.args.form.now =
    fresh_from c.place_of.result c.args.parts.now c.args.form.now
    (subst (λ (l : List Part). MatchOption c.place_of.result ((i : ℕ) → i < length l → (part_at l i).form ≢ c.args.form.now)
    (λ i. (i < length l) × ((part_at l i).form ≡ c.args.form.now))) c.as_slice.ensures c.place_of.ensures)
    (sym c.is_some.ensures ∙ c.if-is_some.false) in
    let off : (v : Valuation) → held c.args.store.now.nodes c.args.parts.now v ≡ true
    → choice c.args.store.now.nodes c.args.test c.under_of-there.result c.under_of-elsewhere.result v ≡ true → ⊥ =
    apart c.args.store.now.nodes (length c.args.form.now.coefficients) (chosen_form c.args.store.now.nodes c.args.test c.args.yes.now c.args.no.now)
    c.args.parts.now
    c.args.form.now (choice c.args.store.now.nodes c.args.test c.under_of-there.result c.under_of-elsewhere.result) c.requires.parts exact fresh in
    lacks_put c.args.store.now c.args.parts.now (choice c.args.store.now.nodes c.args.test c.under_of-there.result c.under_of-elsewhere.result) off
    (c.in-Err.ensures.room (err_moved c.in-Err.fault StoreFault.Nodes h))

pub returns-then-is_false-clause-parts : goal.returns-then-is_false-clause-parts
returns-then-is_false-clause-parts c = classes_later c.args.store.now c.fewest.new.store (length c.args.form.now.coefficients)
    (chosen_form c.args.store.now.nodes c.args.test c.args.yes.now c.args.no.now)
    c.args.parts.now (grows_extends c.args.store.now c.fewest.new.store c.in-Ok.ensures.ok.grows) c.requires.parts

pub returns-then-is_false-clause-has : goal.returns-then-is_false-clause-has
returns-then-is_false-clause-has c v e =
    let exact : (v : Valuation) → (choice c.args.store.now.nodes c.args.test c.under_of-there.result c.under_of-elsewhere.result v ≡ true)
    ↔ (chosen_form c.args.store.now.nodes c.args.test c.args.yes.now c.args.no.now v ≡ c.args.form.now) =
    λ v. chosen_iff (value_of c.args.store.now.nodes c.args.test v) (value_of c.args.store.now.nodes c.under_of-there.result v)
    (value_of c.args.store.now.nodes c.under_of-elsewhere.result v) (form_at c.args.store.now.nodes c.args.yes.now v)
    (form_at c.args.store.now.nodes c.args.no.now v)
    c.args.form.now (c.under_of-there.ensures.means c.args.store.now.nodes (length c.args.form.now.coefficients) v c.requires.yes)
    (c.under_of-elsewhere.ensures.means c.args.store.now.nodes (length c.args.form.now.coefficients) v c.requires.no) in
    let fresh : (i : ℕ) → i < length c.args.parts.now → (part_at c.args.parts.now i).form ≢ c.args.form.now =
    fresh_from c.place_of.result c.args.parts.now c.args.form.now
    (subst (λ (l : List Part). MatchOption c.place_of.result ((i : ℕ) → i < length l → (part_at l i).form ≢ c.args.form.now)
    (λ i. (i < length l) × ((part_at l i).form ≡ c.args.form.now))) c.as_slice.ensures c.place_of.ensures)
    (sym c.is_some.ensures ∙ c.if-is_some.false) in
    let off : (v : Valuation) → held c.args.store.now.nodes c.args.parts.now v ≡ true
    → choice c.args.store.now.nodes c.args.test c.under_of-there.result c.under_of-elsewhere.result v ≡ true → ⊥ =
    apart c.args.store.now.nodes (length c.args.form.now.coefficients) (chosen_form c.args.store.now.nodes c.args.test c.args.yes.now c.args.no.now)
    c.args.parts.now
    c.args.form.now (choice c.args.store.now.nodes c.args.test c.under_of-there.result c.under_of-elsewhere.result) c.requires.parts exact fresh in
    absurd (false≢true (sym (c.is_false.ensures.0 c.if-is_false.true v) ∙ c.in-Ok.ensures.ok.means v ∙ (exact v).1 e))

pub returns-then-is_false-clause-growth : goal.returns-then-is_false-clause-growth
returns-then-is_false-clause-growth c = filled_later c.args.store.now c.fewest.new.store (length c.args.form.now.coefficients)
    (chosen_form c.args.store.now.nodes c.args.test c.args.yes.now c.args.no.now)
    c.args.parts.now (grows_extends c.args.store.now c.fewest.new.store c.in-Ok.ensures.ok.grows) c.requires.parts
    (none_few c.args.store.now.variables (length c.fewest.new.store.nodes) (length c.args.store.now.nodes)
    (choice c.args.store.now.nodes c.args.test c.under_of-there.result c.under_of-elsewhere.result)
    (λ v. sym (c.in-Ok.ensures.ok.means v) ∙ c.is_false.ensures.0 c.if-is_false.true v) c.in-Ok.ensures.few)

pub returns-clause-parts : goal.returns-clause-parts
returns-clause-parts c =
    let exact : (v : Valuation) → (choice c.args.store.now.nodes c.args.test c.under_of-there.result c.under_of-elsewhere.result v ≡ true)
    ↔ (chosen_form c.args.store.now.nodes c.args.test c.args.yes.now c.args.no.now v ≡ c.args.form.now) =
    λ v. chosen_iff (value_of c.args.store.now.nodes c.args.test v) (value_of c.args.store.now.nodes c.under_of-there.result v)
    (value_of c.args.store.now.nodes c.under_of-elsewhere.result v) (form_at c.args.store.now.nodes c.args.yes.now v)
    (form_at c.args.store.now.nodes c.args.no.now v)
    c.args.form.now (c.under_of-there.ensures.means c.args.store.now.nodes (length c.args.form.now.coefficients) v c.requires.yes)
    (c.under_of-elsewhere.ensures.means c.args.store.now.nodes (length c.args.form.now.coefficients) v c.requires.no) in
    let fresh : (i : ℕ) → i < length c.args.parts.now → (part_at c.args.parts.now i).form ≢ c.args.form.now =
    fresh_from c.place_of.result c.args.parts.now c.args.form.now
    (subst (λ (l : List Part). MatchOption c.place_of.result ((i : ℕ) → i < length l → (part_at l i).form ≢ c.args.form.now)
    (λ i. (i < length l) × ((part_at l i).form ≡ c.args.form.now))) c.as_slice.ensures c.place_of.ensures)
    (sym c.is_some.ensures ∙ c.if-is_some.false) in
    let off : (v : Valuation) → held c.args.store.now.nodes c.args.parts.now v ≡ true
    → choice c.args.store.now.nodes c.args.test c.under_of-there.result c.under_of-elsewhere.result v ≡ true → ⊥ =
    apart c.args.store.now.nodes (length c.args.form.now.coefficients) (chosen_form c.args.store.now.nodes c.args.test c.args.yes.now c.args.no.now)
    c.args.parts.now
    c.args.form.now (choice c.args.store.now.nodes c.args.test c.under_of-there.result c.under_of-elsewhere.result) c.requires.parts exact fresh in
    let push : c.push.new.self ≡ c.args.parts.now ++ (record { under = c.in-Ok.under; form = c.args.form.now }) ∷ [] =
    c.in_ok-push.ensures.ok ∙ ap (λ (f : Form). c.args.parts.now ++ (record { under = c.in-Ok.under; form = f }) ∷ []) c.in_ok-form.ensures in
    subst (λ (l : List Part). AreClasses c.fewest.new.store.nodes (length c.args.form.now.coefficients)
    (chosen_form c.args.store.now.nodes c.args.test c.args.yes.now c.args.no.now) l) (sym push)
    (classes_put c.fewest.new.store.nodes (length c.args.form.now.coefficients)
    (chosen_form c.args.store.now.nodes c.args.test c.args.yes.now c.args.no.now) c.args.parts.now c.in-Ok.under c.args.form.now
    (classes_later c.args.store.now c.fewest.new.store (length c.args.form.now.coefficients)
    (chosen_form c.args.store.now.nodes c.args.test c.args.yes.now c.args.no.now) c.args.parts.now
    (grows_extends c.args.store.now c.fewest.new.store c.in-Ok.ensures.ok.grows) c.requires.parts) c.in-Ok.ensures.ok.found
    (λ v. subst (λ b. (b ≡ true) ↔ ((chosen_form c.args.store.now.nodes c.args.test c.args.yes.now c.args.no.now) v ≡ c.args.form.now))
    (sym (c.in-Ok.ensures.ok.means v)) (exact v)) fresh refl
    (λ none. false≢true (sym c.if-is_false.false ∙ c.is_false.ensures.1 none)))

pub returns-clause-has : goal.returns-clause-has
returns-clause-has c v e =
    let push : c.push.new.self ≡ c.args.parts.now ++ (record { under = c.in-Ok.under; form = c.args.form.now }) ∷ [] =
    c.in_ok-push.ensures.ok ∙ ap (λ (f : Form). c.args.parts.now ++ (record { under = c.in-Ok.under; form = f }) ∷ []) c.in_ok-form.ensures in
    subst (λ (l : List Part). HasForm l c.args.form.now) (sym push) (form_put c.args.parts.now (record { under = c.in-Ok.under; form = c.args.form.now }))

pub returns-clause-stays : goal.returns-clause-stays
returns-clause-stays c j low =
    let push : c.push.new.self ≡ c.args.parts.now ++ (record { under = c.in-Ok.under; form = c.args.form.now }) ∷ [] =
    c.in_ok-push.ensures.ok ∙ ap (λ (f : Form). c.args.parts.now ++ (record { under = c.in-Ok.under; form = f }) ∷ []) c.in_ok-form.ensures in
    subst (λ (l : List Part). HasForm l (part_at c.args.parts.now j).form) (sym push)
    (form_stays c.args.parts.now (record { under = c.in-Ok.under; form = c.args.form.now }) j low)

pub returns-clause-growth : goal.returns-clause-growth
returns-clause-growth c =
    let exact : (v : Valuation) → (choice c.args.store.now.nodes c.args.test c.under_of-there.result c.under_of-elsewhere.result v ≡ true)
    ↔ (chosen_form c.args.store.now.nodes c.args.test c.args.yes.now c.args.no.now v ≡ c.args.form.now) =
    λ v. chosen_iff (value_of c.args.store.now.nodes c.args.test v) (value_of c.args.store.now.nodes c.under_of-there.result v)
    (value_of c.args.store.now.nodes c.under_of-elsewhere.result v) (form_at c.args.store.now.nodes c.args.yes.now v)
    (form_at c.args.store.now.nodes c.args.no.now v)
    c.args.form.now (c.under_of-there.ensures.means c.args.store.now.nodes (length c.args.form.now.coefficients) v c.requires.yes)
    (c.under_of-elsewhere.ensures.means c.args.store.now.nodes (length c.args.form.now.coefficients) v c.requires.no) in
    let fresh : (i : ℕ) → i < length c.args.parts.now → (part_at c.args.parts.now i).form ≢ c.args.form.now =
    fresh_from c.place_of.result c.args.parts.now c.args.form.now
    (subst (λ (l : List Part). MatchOption c.place_of.result ((i : ℕ) → i < length l → (part_at l i).form ≢ c.args.form.now)
    (λ i. (i < length l) × ((part_at l i).form ≡ c.args.form.now))) c.as_slice.ensures c.place_of.ensures)
    (sym c.is_some.ensures ∙ c.if-is_some.false) in
    let off : (v : Valuation) → held c.args.store.now.nodes c.args.parts.now v ≡ true
    → choice c.args.store.now.nodes c.args.test c.under_of-there.result c.under_of-elsewhere.result v ≡ true → ⊥ =
    apart c.args.store.now.nodes (length c.args.form.now.coefficients) (chosen_form c.args.store.now.nodes c.args.test c.args.yes.now c.args.no.now)
    c.args.parts.now
    c.args.form.now (choice c.args.store.now.nodes c.args.test c.under_of-there.result c.under_of-elsewhere.result) c.requires.parts exact fresh in
    let push : c.push.new.self ≡ c.args.parts.now ++ (record { under = c.in-Ok.under; form = c.args.form.now }) ∷ [] =
    c.in_ok-push.ensures.ok ∙ ap (λ (f : Form). c.args.parts.now ++ (record { under = c.in-Ok.under; form = f }) ∷ []) c.in_ok-form.ensures in
    subst (λ (l : List Part). IsFilledBy c.args.store.now c.fewest.new.store c.args.parts.now l) (sym push)
    (filled_put c.args.store.now c.fewest.new.store (length c.args.form.now.coefficients)
    (chosen_form c.args.store.now.nodes c.args.test c.args.yes.now c.args.no.now) c.args.parts.now
    (record { under = c.in-Ok.under; form = c.args.form.now })
    (choice c.args.store.now.nodes c.args.test c.under_of-there.result c.under_of-elsewhere.result)
    (grows_extends c.args.store.now c.fewest.new.store c.in-Ok.ensures.ok.grows) c.requires.parts
    c.in-Ok.ensures.ok.means off c.in-Ok.ensures.few)
