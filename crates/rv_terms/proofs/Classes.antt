-- Parts that hold exactly where a function has their form: how one is added, and what they need.
use Rattle.std.proofs.Common.{ℕ, zero, suc, ◌+◌, ◌*◌, ◌^◌, ◌<◌, ◌≤◌, ◌≡◌, ◌≢◌, ◌⊎◌, ◌↔◌, Bool, true, false, ◌||◌, cond, List, [], ◌∷◌, ◌++◌, length, refl, sym}
use Rattle.std.proofs.Common.{ap, ◌∙◌, subst, ⊎_elim, inl, inr, arith, Option, Some, is_some, Result, Ok, Err, None as Nothing}
use Rattle.std.proofs.{lemmas.Bool.cases_lt, lemmas.Bool.cases_eq, lemmas.Bool.cases_Bool, lemmas.Bool.false≢true, lemmas.List.length_push}
use Rattle.std.specs.Prelude.{MatchOption, IsErrOf}
use Rattle.rv_rows.specs.declared.linear.Form.{Form}
use Rattle.rv_diagram.specs.{declared.Triple.Triple, Nodes.Valuation, Nodes.Diagrams, Nodes.IsRef, Nodes.ReadsBelow, Nodes.value_of, Nodes.choice}
use Rattle.rv_diagram.proofs.Calls.{value_of-false}
use Rattle.rv_terms.specs.Parts.{part_at, holds, form_at, AreDifferent, IsTerm, IsTermOf, among, HasForm, AreClasses, chosen_form, held, IsFilledBy, LacksFew}
use Rattle.rv_terms.specs.declared.parted.Part.{Part}
use Rattle.rv_diagram.specs.Counting.{count, ReadsOnly}
use Rattle.rv_terms.proofs.Combining.{form_is, form_later, among-more, among_some}
use Rattle.rv_terms.proofs.{Adding.IsPlaced, Adding.placed_last}
use Rattle.rv_diagram.proofs.Counting.{count-same, count-join, count-most}
use Rattle.rv_diagram.specs.Growing.{Extends}

-- WHERE A TERM HAS A FORM

differ : (parts : List Part) → AreDifferent parts → (i j : ℕ) → i ≢ j → i < length parts → j < length parts → (part_at parts i).form ≢ (part_at parts j).form
differ parts d i j off low_i low_j e = ⊎_elim
    (λ less. d i j less low_j e)
    (λ more. let less : j < i = omega arith in d j i less low_i (sym e))
    (cases_lt i j)

pub part_iff : (nodes : List Triple) (width : ℕ) (parts : List Part) (i : ℕ) (v : Valuation) → IsTerm nodes width parts → i < length parts
    → (holds nodes parts i v ≡ true) ↔ (form_at nodes parts v ≡ (part_at parts i).form)
part_iff nodes width parts i v t low = (
  (λ h. form_is nodes parts i v t.disjoint low h),
  (λ e.
      let c : (k : ℕ) × (k < length parts) × (holds nodes parts k v ≡ true) = t.covers v in
      ⊎_elim
      (λ same. ap (λ k. holds nodes parts k v) (sym same) ∙ c.2)
      (λ off. absurd (differ parts t.different c.0 i off c.1 low (sym (form_is nodes parts c.0 v t.disjoint c.1 c.2) ∙ e)))
      (cases_eq c.0 i)),
)

pub none_iff : (nodes : List Triple) (width : ℕ) (parts : List Part) (form : Form) (v : Valuation) → IsTerm nodes width parts
    → ((i : ℕ) → i < length parts → (part_at parts i).form ≢ form) → (value_of nodes 0 v ≡ true) ↔ (form_at nodes parts v ≡ form)
none_iff nodes width parts form v t none = (
  (λ h. absurd (false≢true (sym (value_of-false nodes v) ∙ h))),
  (λ e.
      let c : (k : ℕ) × (k < length parts) × (holds nodes parts k v ≡ true) = t.covers v in
      absurd (none c.0 c.1 (sym (form_is nodes parts c.0 v t.disjoint c.1 c.2) ∙ e))),
)

pub chosen_iff : (b a c : Bool) (f g form : Form) → (a ≡ true) ↔ (f ≡ form) → (c ≡ true) ↔ (g ≡ form) → (cond b a c ≡ true) ↔ (cond b f g ≡ form)
chosen_iff true a c f g form one two = one
chosen_iff false a c f g form one two = two

-- PARTS

pub classes_as : (nodes : List Triple) (width : ℕ) (f g : Valuation → Form) (parts : List Part) → ((v : Valuation) → f v ≡ g v)
    → AreClasses nodes width f parts → AreClasses nodes width g parts
classes_as nodes width f g parts same c = record {
  refs = c.refs;
  exact = λ i low v. ((λ h. sym (same v) ∙ (c.exact i low v).0 h), (λ e. (c.exact i low v).1 (same v ∙ e)));
  different = c.different;
  widths = c.widths;
  filled = c.filled;
}

pub classes_later : (old new : Diagrams) (width : ℕ) (f : Valuation → Form) (parts : List Part) → Extends old new
    → AreClasses old.nodes width f parts → AreClasses new.nodes width f parts
classes_later old new width f parts e c =
    let same : (i : ℕ) → i < length parts → (v : Valuation) → holds new.nodes parts i v ≡ holds old.nodes parts i v =
    λ i low v. e.kept (part_at parts i).under (c.refs i low) v in
    record {
      refs = λ i low. omega (arith, c.refs i low, e.longer);
      exact = λ i low v. ((λ h. (c.exact i low v).0 (sym (same i low v) ∙ h)), (λ h. same i low v ∙ (c.exact i low v).1 h));
      different = c.different;
      widths = c.widths;
      filled = λ i low none. c.filled i low (λ v. sym (same i low v) ∙ none v);
    }

-- a part at the end
pub classes_put : (nodes : List Triple) (width : ℕ) (f : Valuation → Form) (parts : List Part) (r : ℕ) (form : Form) → AreClasses nodes width f parts
    → IsRef nodes r
    → ((v : Valuation) → (value_of nodes r v ≡ true) ↔ (f v ≡ form)) → ((i : ℕ) → i < length parts → (part_at parts i).form ≢ form)
    → length form.coefficients ≡ width → (((v : Valuation) → value_of nodes r v ≡ false) → ⊥)
    → AreClasses nodes width f (parts ++ (record { under = r; form = form }) ∷ [])
classes_put nodes width f parts r form c found exact fresh wide some =
    let one : Part = record { under = r; form = form } in
    let after : List Part = parts ++ one ∷ [] in
    let put : IsPlaced parts after (length parts) one = placed_last parts one in
    let at : (j : ℕ) → j < length after → (part_at after j ≡ one) ⊎ ((j < length parts) × (part_at after j ≡ part_at parts j)) =
    λ j low. ⊎_elim (λ e. inl (ap (part_at after) e ∙ put.is)) (λ off. inr (put.others j low off)) (cases_eq j (length parts)) in
    record {
      refs = λ j low. ⊎_elim (λ e. subst (λ (x : Part). IsRef nodes x.under) (sym e) found)
          (λ o. subst (λ (x : Part). IsRef nodes x.under) (sym o.1) (c.refs j o.0)) (at j low);
      exact = λ j low v. ⊎_elim
          (λ e. subst (λ (x : Part). (value_of nodes x.under v ≡ true) ↔ (f v ≡ x.form)) (sym e) (exact v))
          (λ o. subst (λ (x : Part). (value_of nodes x.under v ≡ true) ↔ (f v ≡ x.form)) (sym o.1) (c.exact j o.0 v)) (at j low);
      different = λ i j less low e.
          let before : i < length parts = omega (arith, length_push parts one) in
          let here : part_at after i ≡ part_at parts i = (put.others i (omega arith) (omega arith)).1 in
          ⊎_elim
          (λ last. fresh i before (sym (ap (λ (x : Part). x.form) here) ∙ e ∙ ap (λ (x : Part). x.form) last))
          (λ o. c.different i j less o.0 (sym (ap (λ (x : Part). x.form) here) ∙ e ∙ ap (λ (x : Part). x.form) o.1)) (at j low);
      widths = λ j low. ⊎_elim (λ e. ap (λ (x : Part). length x.form.coefficients) e ∙ wide)
          (λ o. ap (λ (x : Part). length x.form.coefficients) o.1 ∙ c.widths j o.0) (at j low);
      filled = λ j low none. ⊎_elim
          (λ e. some (λ v. ap (λ (x : Part). value_of nodes x.under v) (sym e) ∙ none v))
          (λ o. c.filled j o.0 (λ v. ap (λ (x : Part). value_of nodes x.under v) (sym o.1) ∙ none v)) (at j low);
    }

pub form_put : (parts : List Part) (one : Part) → HasForm (parts ++ one ∷ []) one.form
form_put parts one = let put : IsPlaced parts (parts ++ one ∷ []) (length parts) one = placed_last parts one in
    (length parts, put.within, ap (λ (x : Part). x.form) put.is)

pub form_stays : (parts : List Part) (one : Part) (j : ℕ) → j < length parts → HasForm (parts ++ one ∷ []) (part_at parts j).form
form_stays parts one j low =
    let put : IsPlaced parts (parts ++ one ∷ []) (length parts) one = placed_last parts one in
    (j, omega (arith, length_push parts one), ap (λ (x : Part). x.form) (put.others j (omega (arith, length_push parts one)) (omega arith)).1)

-- WHAT THEY NEED

among_same : (a b : List Triple) (p q : List Part) (k : ℕ) (v : Valuation) → ((i : ℕ) → i < k → holds a p i v ≡ holds b q i v) → among a p k v ≡ among b q k v
among_same a b p q zero v same = refl
among_same a b p q (suc k) v same =
    ap (λ x. x || holds a p k v) (among_same a b p q k v (λ i low. same i (omega arith))) ∙ ap (λ x. among b q k v || x) (same k (omega arith))

-- what holds after a part has been put at the end of a list that has grown
held_put : (old new : Diagrams) (width : ℕ) (f : Valuation → Form) (parts : List Part) (one : Part) (v : Valuation) → Extends old new
    → AreClasses old.nodes width f parts
    → held new.nodes (parts ++ one ∷ []) v ≡ (held old.nodes parts v || value_of new.nodes one.under v)
held_put old new width f parts one v e c =
    let after : List Part = parts ++ one ∷ [] in
    let put : IsPlaced parts after (length parts) one = placed_last parts one in
    let size : length after ≡ length parts + 1 = length_push parts one in
    ap (λ k. among new.nodes after k v) size ∙ among-more new.nodes after (length parts) v
    ∙ ap (λ x. x || holds new.nodes after (length parts) v) (among_same new.nodes old.nodes after parts (length parts) v
    (λ i low. ap (λ (x : Part). value_of new.nodes x.under v) (put.others i (omega arith) (omega arith)).1 ∙ e.kept (part_at parts i).under (c.refs i low) v))
    ∙ ap (λ (x : Part). held old.nodes parts v || value_of new.nodes x.under v) put.is

-- where one form is had no part of another holds
pub apart : (nodes : List Triple) (width : ℕ) (f : Valuation → Form) (parts : List Part) (form : Form) (q : Valuation → Bool) → AreClasses nodes width f parts
    → ((v : Valuation) → (q v ≡ true) ↔ (f v ≡ form)) → ((i : ℕ) → i < length parts → (part_at parts i).form ≢ form)
    → (v : Valuation) → held nodes parts v ≡ true → q v ≡ true → ⊥
apart nodes width f parts form q c exact fresh v h t =
    let k : (k : ℕ) × (k < length parts) × (holds nodes parts k v ≡ true) = among_some nodes parts (length parts) v h in
    fresh k.0 k.1 (sym ((c.exact k.0 k.1 v).0 k.2) ∙ (exact v).0 t)

filling : (l n m a b ab : ℕ) → n ≤ l + m * b → ab ≡ a + b → n + m * a ≤ l + m * ab
filling l n m a b ab h e = let s : m * ab ≡ m * a + m * b = ap (λ k. m * k) e ∙ grind arith in omega (arith, h, s)

lacking : (l limit m a b ab most : ℕ) → limit < l + m * b → ab ≡ a + b → ab ≤ most → limit + m * a < l + m * most
lacking l limit m a b ab most h e le =
    let s : m * ab ≡ m * a + m * b = ap (λ k. m * k) e ∙ grind arith in
    let t : m * ab ≤ m * most = grind arith in
    omega (arith, h, s, t)

pub filled_put : (old new : Diagrams) (width : ℕ) (f : Valuation → Form) (parts : List Part) (one : Part) (q : Valuation → Bool) → Extends old new
    → AreClasses old.nodes width f parts
    → ((v : Valuation) → value_of new.nodes one.under v ≡ q v) → ((v : Valuation) → held old.nodes parts v ≡ true → q v ≡ true → ⊥)
    → length new.nodes ≤ length old.nodes + old.variables * count old.variables q → IsFilledBy old new parts (parts ++ one ∷ [])
filled_put old new width f parts one q e c means off h = record {
  nodes = filling (length old.nodes) (length new.nodes) old.variables (count old.variables (held old.nodes parts)) (count old.variables q)
      (count old.variables (held new.nodes (parts ++ one ∷ []))) h
      (count-same old.variables 0 (held new.nodes (parts ++ one ∷ [])) (λ v. held old.nodes parts v || q v)
      (λ v. held_put old new width f parts one v e c ∙ ap (λ x. held old.nodes parts v || x) (means v))
      ∙ count-join old.variables 0 (held old.nodes parts) q off);
}

pub lacks_put : (s : Diagrams) (parts : List Part) (q : Valuation → Bool) → ((v : Valuation) → held s.nodes parts v ≡ true → q v ≡ true → ⊥)
    → s.limit < length s.nodes + s.variables * count s.variables q → LacksFew s parts
lacks_put s parts q off h = record {
  nodes = lacking (length s.nodes) s.limit s.variables (count s.variables (held s.nodes parts)) (count s.variables q)
      (count s.variables (λ v. held s.nodes parts v || q v)) (2 ^ s.variables) h
      (count-join s.variables 0 (held s.nodes parts) q off) (count-most s.variables 0 (λ v. held s.nodes parts v || q v));
}

-- a store that has grown for what holds nowhere
pub filled_later : (old new : Diagrams) (width : ℕ) (f : Valuation → Form) (parts : List Part) → Extends old new → AreClasses old.nodes width f parts
    → length new.nodes ≤ length old.nodes → IsFilledBy old new parts parts
filled_later old new width f parts e c h = record {
  nodes = let same : count old.variables (held new.nodes parts) ≡ count old.variables (held old.nodes parts) =
      count-same old.variables 0 (held new.nodes parts) (held old.nodes parts) (λ v. among_same new.nodes old.nodes parts parts (length parts) v
      (λ i low. e.kept (part_at parts i).under (c.refs i low) v)) in
      subst (λ (n : ℕ). length new.nodes + old.variables * count old.variables (held old.nodes parts) ≤ length old.nodes + old.variables * n) (sym same)
      (omega (arith, h));
}

chain : (a b c p q r : ℕ) → b + p ≤ a + q → c + q ≤ b + r → c + p ≤ a + r
chain a b c p q r h g = omega arith

pub filled_trans : (a b c : Diagrams) (p q r : List Part) → b.variables ≡ a.variables → IsFilledBy a b p q → IsFilledBy b c q r → IsFilledBy a c p r
filled_trans a b c p q r same g h = record {
  nodes =
      let second : length c.nodes + a.variables * count a.variables (held b.nodes q) ≤ length b.nodes + a.variables * count a.variables (held c.nodes r) =
      subst (λ (m : ℕ). length c.nodes + m * count m (held b.nodes q) ≤ length b.nodes + m * count m (held c.nodes r)) same h.nodes in
      chain (length a.nodes) (length b.nodes) (length c.nodes) (a.variables * count a.variables (held a.nodes p))
      (a.variables * count a.variables (held b.nodes q))
      (a.variables * count a.variables (held c.nodes r)) g.nodes second;
}

short : (a b limit p q most : ℕ) → b + p ≤ a + q → limit + q < b + most → limit + p < a + most
short a b limit p q most h g = omega arith

pub lacks_before : (a b : Diagrams) (p q : List Part) → b.variables ≡ a.variables → b.limit ≡ a.limit → IsFilledBy a b p q → LacksFew b q → LacksFew a p
lacks_before a b p q same limit g h = record {
  nodes =
      let second : a.limit + a.variables * count a.variables (held b.nodes q) < length b.nodes + a.variables * 2 ^ a.variables =
      subst (λ (l : ℕ). l + a.variables * count a.variables (held b.nodes q) < length b.nodes + a.variables * 2 ^ a.variables) limit
      (subst (λ (m : ℕ). b.limit + m * count m (held b.nodes q) < length b.nodes + m * 2 ^ m) same h.nodes) in
      short (length a.nodes) (length b.nodes) a.limit (a.variables * count a.variables (held a.nodes p)) (a.variables * count a.variables (held b.nodes q))
      (a.variables * 2 ^ a.variables) g.nodes second;
}

-- FROM NOTHING TO A TERM

most_of : (l n m c d most : ℕ) → n + m * c ≤ l + m * d → d ≤ most → n ≤ l + m * most
most_of l n m c d most h le = let t : m * d ≤ m * most = grind arith in omega (arith, h, t)

pub growth_whole : (s new : Diagrams) (parts : List Part) → IsFilledBy s new [] parts → length new.nodes ≤ length s.nodes + s.variables * 2 ^ s.variables
growth_whole s new parts h = most_of (length s.nodes) (length new.nodes) s.variables (count s.variables (held s.nodes []))
    (count s.variables (held new.nodes parts)) (2 ^ s.variables)
    h.nodes (count-most s.variables 0 (held new.nodes parts))

pub chosen_later : (old new : Diagrams) (width test : ℕ) (ons offs : List Part) → Extends old new → IsRef old.nodes test → IsTerm old.nodes width ons
    → IsTerm old.nodes width offs
    → (v : Valuation) → chosen_form new.nodes test ons offs v ≡ chosen_form old.nodes test ons offs v
chosen_later old new width test ons offs e found one two v =
    ap (λ b. cond b (form_at new.nodes ons v) (form_at new.nodes offs v)) (e.kept test found v)
    ∙ ap (λ f. cond (value_of old.nodes test v) f (form_at new.nodes offs v)) (form_later old new ons v e one.refs)
    ∙ ap (λ f. cond (value_of old.nodes test v) (form_at old.nodes ons v) f) (form_later old new offs v e two.refs)

pub has_as : (parts : List Part) (f g : Form) → f ≡ g → HasForm parts f → HasForm parts g
has_as parts f g e h = (h.0, h.1, h.2 ∙ e)

-- each form of the choice is that of a part, where the forms of both terms are
pub chosen_had : (nodes : List Triple) (width test : ℕ) (ons offs first second : List Part) → IsTerm nodes width ons → IsTerm nodes width offs
    → ((k : ℕ) → k < length ons → (v : Valuation) → chosen_form nodes test ons offs v ≡ (part_at ons k).form → HasForm first (part_at ons k).form)
    → ((j : ℕ) → j < length first → HasForm second (part_at first j).form)
    → ((k : ℕ) → k < length offs → (v : Valuation) → chosen_form nodes test ons offs v ≡ (part_at offs k).form → HasForm second (part_at offs k).form)
    → (v : Valuation) → HasForm second (chosen_form nodes test ons offs v)
chosen_had nodes width test ons offs first second one two has stays more v = ⊎_elim
    (λ t.
    let c : (k : ℕ) × (k < length ons) × (holds nodes ons k v ≡ true) = one.covers v in
    let is : chosen_form nodes test ons offs v ≡ (part_at ons c.0).form =
    ap (λ b. cond b (form_at nodes ons v) (form_at nodes offs v)) t ∙ form_is nodes ons c.0 v one.disjoint c.1 c.2 in
    let h : HasForm first (part_at ons c.0).form = has c.0 c.1 v is in
    has_as second (part_at first h.0).form (chosen_form nodes test ons offs v) (h.2 ∙ sym is) (stays h.0 h.1))
    (λ e.
    let c : (k : ℕ) × (k < length offs) × (holds nodes offs k v ≡ true) = two.covers v in
    let is : chosen_form nodes test ons offs v ≡ (part_at offs c.0).form =
    ap (λ b. cond b (form_at nodes ons v) (form_at nodes offs v)) e ∙ form_is nodes offs c.0 v two.disjoint c.1 c.2 in
    has_as second (part_at offs c.0).form (chosen_form nodes test ons offs v) (sym is) (more c.0 c.1 v is))
    (cases_Bool (value_of nodes test v))

pub classes_term : (nodes : List Triple) (width : ℕ) (f : Valuation → Form) (parts : List Part) → AreClasses nodes width f parts
    → ((v : Valuation) → HasForm parts (f v))
    → IsTermOf nodes width f parts
classes_term nodes width f parts c had =
    let disjoint : (i j : ℕ) → i < j → j < length parts → (v : Valuation) → holds nodes parts i v ≡ true → holds nodes parts j v ≡ true → ⊥ =
    λ i j less low v one two. c.different i j less low (sym ((c.exact i (omega arith) v).0 one) ∙ (c.exact j low v).0 two) in
    let covers : (v : Valuation) → (i : ℕ) × (i < length parts) × (holds nodes parts i v ≡ true) =
    λ v. let h : HasForm parts (f v) = had v in (h.0, h.1, (c.exact h.0 h.1 v).1 (sym h.2)) in
    record {
      term = record { refs = c.refs; disjoint = disjoint; covers = covers; different = c.different; widths = c.widths };
      width_is = let h : HasForm parts (f (λ k. false)) = had (λ k. false) in c.widths 0 (omega (arith, h.1));
      filled = c.filled;
      exact = λ v. let h : HasForm parts (f v) = had v in form_is nodes parts h.0 v disjoint h.1 ((c.exact h.0 h.1 v).1 (sym h.2)) ∙ h.2;
    }

pub choice_reads : (nodes : List Triple) (m c a b : ℕ) → ReadsBelow nodes m → IsRef nodes c → IsRef nodes a → IsRef nodes b → ReadsOnly m (choice nodes c a b)
choice_reads nodes m c a b reads when first second v w same =
    ap (λ x. cond x (value_of nodes a v) (value_of nodes b v)) (reads c when v w same)
    ∙ ap (λ x. cond (value_of nodes c w) x (value_of nodes b v)) (reads a first v w same)
    ∙ ap (λ x. cond (value_of nodes c w) (value_of nodes a w) x) (reads b second v w same)

pub fresh_from : (o : Option ℕ) (parts : List Part) (form : Form) → MatchOption o ((i : ℕ) → i < length parts → (part_at parts i).form ≢ form)
    (λ i. (i < length parts) × ((part_at parts i).form ≡ form)) → is_some o ≡ false → (i : ℕ) → i < length parts → (part_at parts i).form ≢ form
fresh_from Nothing parts form h e = h
fresh_from (Some k) parts form h e = cc

abbrev the_err : {T E : Type 0} → E → Result T E → E
the_err d (Ok x) = d
the_err d (Err e) = e

-- an error is the same in every type of results
pub err_moved : {T U E : Type 0} (e x : E) → IsErrOf {T = T} {E = E} (Err e) x → IsErrOf {T = U} {E = E} (Err e) x
err_moved e x h = ap (λ y. Err y) (ap (the_err e) h)
