-- Parts in the making.
use Rattle.std.proofs.Common.{ℕ, ◌<◌, ◌≡◌, ◌≢◌, ◌⊎◌, Bool, true, false, ◌||◌, List, [], ◌∷◌, ◌++◌, length, set, refl, sym, ap, ◌∙◌, subst, ⊎_elim, inl, inr}
use Rattle.std.proofs.Common.{arith, length-append}
use Rattle.std.proofs.lemmas.Bool.{cases_lt, cases_eq, cases_Bool, or_cases, false≢true, or_left, or_right}
use Rattle.std.proofs.lemmas.List.{append-nil, length-set, get_or_append_left, get_or-set_same, get_or-set_other}
use Rattle.std.proofs.Math.Seq.{get_or-append_seam}
use Rattle.rv_rows.specs.declared.linear.Form.{Form}
use Rattle.rv_diagram.specs.{declared.Triple.Triple, Nodes.Valuation, Nodes.Diagrams, Nodes.IsRef, Nodes.value_of}
use Rattle.rv_diagram.specs.Growing.{Extends}
use Rattle.rv_terms.specs.{declared.parted.Part.Part, Parts.no_form, Parts.part_at, Parts.holds, Parts.ArePartsOf, Parts.Adds}
use Rattle.rv_base.proofs.Truths.{or_false_is}

-- the same parts, of an equal set
pub parts_as : (nodes : List Triple) (width : ℕ) (p q : Valuation → Bool) (f : Valuation → Form) (parts : List Part) → ((v : Valuation) → p v ≡ q v)
    → ArePartsOf nodes width p f parts → ArePartsOf nodes width q f parts
parts_as nodes width p q f parts same g = record {
  refs = g.refs;
  disjoint = g.disjoint;
  covers = λ v h. g.covers v (same v ∙ h);
  only = λ i low v h. sym (same v) ∙ g.only i low v h;
  right = g.right;
  different = g.different;
  widths = g.widths;
  filled = g.filled;
}

-- the same parts in a store that has grown
pub parts_later : (old new : Diagrams) (width : ℕ) (p : Valuation → Bool) (f : Valuation → Form) (parts : List Part) → Extends old new
    → ArePartsOf old.nodes width p f parts → ArePartsOf new.nodes width p f parts
parts_later old new width p f parts e g =
    let same : (i : ℕ) → i < length parts → (v : Valuation) → holds new.nodes parts i v ≡ holds old.nodes parts i v = λ i low v. e.kept
    (part_at parts i).under (g.refs i low) v in
    record {
      refs = λ i low. omega (arith, g.refs i low, e.longer);
      disjoint = λ i j less low v one two. g.disjoint i j less low v (sym (same i (omega arith) v) ∙ one) (sym (same j low v) ∙ two);
      covers = λ v h. let c : (i : ℕ) × (i < length parts) × (holds old.nodes parts i v ≡ true) = g.covers v h in (c.0, c.1, same c.0 c.1 v ∙ c.2);
      only = λ i low v h. g.only i low v (sym (same i low v) ∙ h);
      right = λ i low v h. g.right i low v (sym (same i low v) ∙ h);
      different = g.different;
      widths = g.widths;
      filled = λ i low none. g.filled i low (λ v. sym (same i low v) ∙ none v);
    }

-- nothing is added
pub adds_none : (nodes : List Triple) (q : Valuation → Bool) (g : Valuation → Form) (parts : List Part) → ((v : Valuation) → q v ≡ false)
    → Adds nodes nodes q g parts parts
adds_none nodes q g parts none width p f old apart agree wide = parts_as nodes width p (λ v. p v || q v) f parts (λ v. or_false_is (p v) (q v) (none v)) old

part-before : (before : List Part) (new : Part) (j : ℕ) → j < length before → part_at (before ++ new ∷ []) j ≡ part_at before j
part-before before new j low = get_or_append_left before (new ∷ []) (record { under = 0; form = no_form }) j low

part-new : (before : List Part) (new : Part) → part_at (before ++ new ∷ []) (length before) ≡ new
part-new before new = get_or-append_seam before new [] (record { under = 0; form = no_form })

-- What is known of the parts after one of them has been put in, at a place or at the end. `at` tells each apart.
pub record IsPlaced (before after : List Part) (i : ℕ) (new : Part) : Type 0 where
  pub within : i < length after
  pub is : part_at after i ≡ new
  pub others : (j : ℕ) → j < length after → j ≢ i → (j < length before) × (part_at after j ≡ part_at before j)

pub placed_last : (before : List Part) (new : Part) → IsPlaced before (before ++ new ∷ []) (length before) new
placed_last before new = record {
  within = omega (arith, length-append before (new ∷ []));
  is = part-new before new;
  others = λ j low off. let lt : j < length before = omega (arith, length-append before (new ∷ [])) in (lt, part-before before new j lt);
}

placed_at : (before : List Part) (i : ℕ) (new : Part) → i < length before → IsPlaced before (set before i new) i new
placed_at before i new low = record {
  within = omega (arith, length-set before i new);
  is = get_or-set_same before i new (record { under = 0; form = no_form }) low;
  others = λ j lt off. (omega (arith, length-set before i new), get_or-set_other before i j new (record { under = 0; form = no_form }) off);
}

-- The one lemma of a part that is put in: it holds where it may, and its form stands at no other place.
pub record CanPut (old new : Diagrams) (width : ℕ) (p q : Valuation → Bool) (f : Valuation → Form) (before after : List Part) (i : ℕ) (one : Part) : Type 0
  where
    pub placed : IsPlaced before after i one
    pub extends : Extends old new
    pub found : IsRef new.nodes one.under
    -- each old part is there still, or is within the new one
    pub stays : (j : ℕ) → j < length before → (v : Valuation) → holds old.nodes before j v ≡ true
        → (value_of new.nodes one.under v ≡ true) ⊎ ((j ≢ i) × (j < length after))
    pub apart : (j : ℕ) → j < length before → j ≢ i → (v : Valuation) → holds old.nodes before j v ≡ true → value_of new.nodes one.under v ≡ true → ⊥
    pub covers : (v : Valuation) → q v ≡ true → value_of new.nodes one.under v ≡ true
    pub only : (v : Valuation) → value_of new.nodes one.under v ≡ true → (p v || q v) ≡ true
    pub right : (v : Valuation) → value_of new.nodes one.under v ≡ true → one.form ≡ f v
    pub different : (j : ℕ) → j < length before → j ≢ i → (part_at before j).form ≢ one.form
    pub wide : length one.form.coefficients ≡ width
    pub filled : ((v : Valuation) → value_of new.nodes one.under v ≡ false) → ⊥

pub parts_put : (old new : Diagrams) (width : ℕ) (p q : Valuation → Bool) (f : Valuation → Form) (before after : List Part) (i : ℕ) (one : Part)
    → CanPut old new width p q f before after i one → ArePartsOf old.nodes width p f before → ArePartsOf new.nodes width (λ v. p v || q v) f after
parts_put old new width p q f before after i one can g =
    let at : (j : ℕ) → j < length after → ((j ≡ i) × (part_at after j ≡ one)) ⊎ ((j ≢ i) × (j < length before) × (part_at after j ≡ part_at before j)) =
    λ j low. ⊎_elim (λ e. inl (e, ap (part_at after) e ∙ can.placed.is))
    (λ off. let o : (j < length before) × (part_at after j ≡ part_at before j) = can.placed.others j low off in inr (off, o.0, o.1)) (cases_eq j i) in
    let old_of : (j : ℕ) → j < length before → (part_at after j ≡ part_at before j) → (v : Valuation) → holds new.nodes after j v ≡ holds old.nodes before j v =
    λ j low e v. ap (λ (x : Part). value_of new.nodes x.under v) e ∙ can.extends.kept (part_at before j).under (g.refs j low) v in
    let new_of : (j : ℕ) → (part_at after j ≡ one) → (v : Valuation)
    → holds new.nodes after j v ≡ value_of new.nodes one.under v = λ j e v. ap (λ (x : Part). value_of new.nodes x.under v) e in
    record {
      refs = λ j low. ⊎_elim (λ h. subst (λ (x : Part). IsRef new.nodes x.under) (sym h.1) can.found)
          (λ h. subst (λ (x : Part). IsRef new.nodes x.under) (sym h.2) (omega (arith, g.refs j h.1, can.extends.longer))) (at j low);
      disjoint = λ j k less low v one_holds two_holds. ⊎_elim
          (λ hj. ⊎_elim
          (λ hk. absurd (omega (arith, hj.0, hk.0)))
          (λ hk. can.apart k hk.1 hk.0 v (sym (old_of k hk.1 hk.2 v) ∙ two_holds) (sym (new_of j hj.1 v) ∙ one_holds))
          (at k low))
          (λ hj. ⊎_elim
          (λ hk. can.apart j hj.1 hj.0 v (sym (old_of j hj.1 hj.2 v) ∙ one_holds) (sym (new_of k hk.1 v) ∙ two_holds))
          (λ hk. g.disjoint j k less hk.1 v (sym (old_of j hj.1 hj.2 v) ∙ one_holds) (sym (old_of k hk.1 hk.2 v) ∙ two_holds))
          (at k low))
          (at j (omega arith));
      covers = λ v h.
          let here : value_of new.nodes one.under v ≡ true → (j : ℕ) × (j < length after) × (holds new.nodes after j v ≡ true) = λ t.
          (i, can.placed.within, new_of i can.placed.is v ∙ t) in
          ⊎_elim
          (λ hp. let c : (j : ℕ) × (j < length before) × (holds old.nodes before j v ≡ true) = g.covers v hp in
          ⊎_elim here
          (λ k. let o : (c.0 < length before) × (part_at after c.0 ≡ part_at before c.0) = can.placed.others c.0 k.1 k.0 in
          (c.0, k.1, old_of c.0 c.1 o.1 v ∙ c.2))
          (can.stays c.0 c.1 v c.2))
          (λ hq. here (can.covers v hq))
          (or_cases (p v) (q v) h);
      only = λ j low v h. ⊎_elim (λ hj. can.only v (sym (new_of j hj.1 v) ∙ h))
          (λ hj. or_left (p v) (q v) (g.only j hj.1 v (sym (old_of j hj.1 hj.2 v) ∙ h))) (at j low);
      right = λ j low v h. ⊎_elim
          (λ hj. ap (λ (x : Part). x.form) hj.1 ∙ can.right v (sym (new_of j hj.1 v) ∙ h))
          (λ hj. ap (λ (x : Part). x.form) hj.2 ∙ g.right j hj.1 v (sym (old_of j hj.1 hj.2 v) ∙ h))
          (at j low);
      different = λ j k less low e. ⊎_elim
          (λ hj. ⊎_elim
          (λ hk. absurd (omega (arith, hj.0, hk.0)))
          (λ hk. can.different k hk.1 hk.0 (sym (ap (λ (x : Part). x.form) hk.2) ∙ sym e ∙ ap (λ (x : Part). x.form) hj.1))
          (at k low))
          (λ hj. ⊎_elim
          (λ hk. can.different j hj.1 hj.0 (sym (ap (λ (x : Part). x.form) hj.2) ∙ e ∙ ap (λ (x : Part). x.form) hk.1))
          (λ hk. g.different j k less hk.1 (sym (ap (λ (x : Part). x.form) hj.2) ∙ e ∙ ap (λ (x : Part). x.form) hk.2))
          (at k low))
          (at j (omega arith));
      widths = λ j low. ⊎_elim
          (λ hj. ap (λ (x : Part). length x.form.coefficients) hj.1 ∙ can.wide)
          (λ hj. ap (λ (x : Part). length x.form.coefficients) hj.2 ∙ g.widths j hj.1)
          (at j low);
      filled = λ j low none. ⊎_elim
          (λ hj. can.filled (λ v. sym (new_of j hj.1 v) ∙ none v))
          (λ hj. g.filled j hj.1 (λ v. sym (old_of j hj.1 hj.2 v) ∙ none v))
          (at j low);
    }

width_of : (u : Valuation → Bool) (m n : ℕ) → (((v : Valuation) → u v ≡ false) → ⊥) → ((v : Valuation) → u v ≡ true → m ≡ n) → m ≡ n
width_of u m n some each = ⊎_elim (λ e. e) (λ off. absurd (some (λ v. ⊎_elim (λ t. absurd (off (each v t))) (λ f. f) (cases_Bool (u v))))) (cases_eq m n)

-- a form that no part has
pub adds_fresh : (s : Diagrams) (under : ℕ) (form : Form) (before : List Part) → IsRef s.nodes under
    → (((v : Valuation) → value_of s.nodes under v ≡ false) → ⊥) → ((j : ℕ) → j < length before → (part_at before j).form ≢ form)
    → Adds s.nodes s.nodes (value_of s.nodes under) (λ v. form) before (before ++ (record { under = under; form = form }) ∷ [])
adds_fresh s under form before found some none width p f g apart agree wide =
    let extends : Extends s s = record {
      begins = ([], sym (append-nil s.nodes));
      longer = omega arith;
      kept = λ r h v. refl;
      variables = refl;
      limit = refl;
    } in
    parts_put s s width p (value_of s.nodes under) f before (before ++ (record { under = under; form = form }) ∷ []) (length before)
    (record { under = under; form = form })
    (record {
      placed = placed_last before (record { under = under; form = form });
      extends = extends;
      found = found;
      stays = λ j low v h. inr (omega arith, omega (arith, length-append before ((record { under = under; form = form }) ∷ [])));
      apart = λ j low off v h t. apart v (g.only j low v h) t;
      covers = λ v h. h;
      only = λ v h. or_right (p v) (value_of s.nodes under v) h;
      right = λ v h. sym (agree v h);
      different = λ j low off. none j low;
      wide = width_of (value_of s.nodes under) (length form.coefficients) width some wide;
      filled = some;
    })
    g

-- a form that a part has
pub adds_merged : (old new : Diagrams) (under r i : ℕ) (form : Form) (before : List Part) → Extends old new → IsRef new.nodes r → i < length before
    → (part_at before i).form ≡ form
    → ((v : Valuation) → value_of new.nodes r v ≡ (holds old.nodes before i v || value_of old.nodes under v))
    → (((v : Valuation) → value_of old.nodes under v ≡ false) → ⊥)
    → Adds old.nodes new.nodes (value_of old.nodes under) (λ v. form) before (set before i (record { under = r; form = form }))
adds_merged old new under r i form before e found low is means some width p f g apart agree wide =
    parts_put old new width p (value_of old.nodes under) f before (set before i (record { under = r; form = form })) i (record { under = r; form = form })
    (record {
      placed = placed_at before i (record { under = r; form = form }) low;
      extends = e;
      found = found;
      stays = λ j lt v h. ⊎_elim
          (λ same. inl (means v ∙ or_left (holds old.nodes before i v) (value_of old.nodes under v) (ap (λ n. holds old.nodes before n v) (sym same) ∙ h)))
          (λ off. inr (off, omega (arith, length-set before i (record { under = r; form = form }))))
          (cases_eq j i);
      apart = λ j lt off v h t. ⊎_elim
          (λ one. ⊎_elim (λ less. g.disjoint j i less low v h one) (λ ge. let more : i < j = omega arith in g.disjoint i j more lt v one h) (cases_lt j i))
          (λ two. apart v (g.only j lt v h) two)
          (or_cases (holds old.nodes before i v) (value_of old.nodes under v) (sym (means v) ∙ t));
      covers = λ v h. means v ∙ or_right (holds old.nodes before i v) (value_of old.nodes under v) h;
      only = λ v h. ⊎_elim
          (λ one. or_left (p v) (value_of old.nodes under v) (g.only i low v one))
          (λ two. or_right (p v) (value_of old.nodes under v) two)
          (or_cases (holds old.nodes before i v) (value_of old.nodes under v) (sym (means v) ∙ h));
      right = λ v h. ⊎_elim
          (λ one. sym is ∙ g.right i low v one)
          (λ two. sym (agree v two))
          (or_cases (holds old.nodes before i v) (value_of old.nodes under v) (sym (means v) ∙ h));
      different = λ j lt off same. ⊎_elim
          (λ less. g.different j i less low (same ∙ sym is))
          (λ ge. let more : i < j = omega arith in g.different i j more lt (is ∙ sym same))
          (cases_lt j i);
      wide = sym (ap (λ (x : Form). length x.coefficients) is) ∙ g.widths i low;
      filled = λ none. some (λ v. ⊎_elim (λ t. absurd (false≢true
          (sym (none v) ∙ means v ∙ or_right (holds old.nodes before i v) (value_of old.nodes under v) t))) (λ f. f) (cases_Bool (value_of old.nodes under v)));
    })
    g
