-- Whichever rows and forms stand for the settled tests and updates, an implication holds with all of them or with none.
use Rattle.std.proofs.Common.{◌≡◌, ◌≢◌, ◌↔◌, ℕ, ◌-◌, ◌<◌, ◌≤◌, ℤ, pos, ◌-ℤ◌, ◌*ℤ◌, List, [], ◌++◌, length, get_or, map, arith, refl, sym, ap, ◌∙◌, ◌⊎◌, inl}
use Rattle.std.proofs.Common.{inr, Bool, true, false, MatchBool}
use Rattle.std.proofs.lemmas.List.{get_or_append_left, get_or-append_right, get_or-map}
use Rattle.std.proofs.{lemmas.Bool.cases_lt, lemmas.List.Elements.Contains-get_or, lemmas.Option.same_Some}
use Rattle.rv_rows.specs.{declared.linear.Row.Row, declared.linear.Form.Form, declared.farkas.Multipliers.Multipliers, Rows.dot, Rows.coefficient, Rows.row_at}
use Rattle.rv_rows.specs.{Forms.number, Forms.IsSubstituted, Multipliers.Proves}
use Rattle.rv_proofs.specs.Scopes.{IsSettledTest, IsSettledUpdate, Wanted, refutation, before, after, Implication, NamesTest}
use Rattle.rv_proofs.specs.Implied.{AreTestRows, AreForms, form_at, IsShown, IsShownWith, IsImplied, HasBefore}
use Rattle.rv_proofs.specs.{Systems.System, declared.certificate.Location.Location, declared.certificate.Entry.Entry}
use Rattle.rv_proofs.proofs.{Named.NameSame, Named.Proves-named, Named.Refutes-named, Moved.dot-read}

-- a proof reads the coefficients and the bound of the wanted row
pub Proves-wanted : (rows : List Row) (r q : Row) (m : Multipliers) → ((k : ℕ) → coefficient k r ≡ coefficient k q) → r.bound ≡ q.bound → Proves rows r m
    → Proves rows q m
Proves-wanted rows r q m same b p = record {
  positive = p.positive;
  none_negative = p.none_negative;
  sides = λ k. p.sides k ∙ ap (λ z. m.divisor *ℤ z) (same k);
  bounds = let h = p.bounds in rw b at h;
}

module _ (s : System) (l : Location) (e : Entry) where
  one_row : (t : ℕ) (q r : Row) → IsSettledTest s l e t q → IsSettledTest s l e t r → q ≡ r
  one_row t q r a b = let (v, scope) = a.some in same_Some q r (sym (a.same v scope) ∙ b.same v scope)

  one_form : (k : ℕ) (f g : Form) → IsSettledUpdate s l e k f → IsSettledUpdate s l e k g → f ≡ g
  one_form k f g a b = let (v, scope) = a.some in sym (a.same v scope) ∙ b.same v scope

  rows_same : (i : Implication) (rows others : List Row) → AreTestRows s l e i rows → AreTestRows s l e i others
      → NameSame (i.given ++ rows) (i.given ++ others) i.by.weights
  rows_same i rows others a b k d h = go (get_or i.by.weights k d).premise refl (cases_lt (get_or i.by.weights k d).premise (length i.given))
    where
      go : (p : ℕ) → (get_or i.by.weights k d).premise ≡ p → (p < length i.given) ⊎ (length i.given ≤ p)
          → row_at (i.given ++ rows) p ≡ row_at (i.given ++ others) p
      go p is (inl less) = get_or_append_left i.given rows (record { coefficients = []; bound = pos 0 }) p less
          ∙ sym (get_or_append_left i.given others (record { coefficients = []; bound = pos 0 }) p less)
      go p is (inr more) =
          let t : ℕ = p - length i.given in
          let named : NamesTest i t = (get_or i.by.weights k d, Contains-get_or i.by.weights k d h, omega arith) in
          get_or-append_right i.given rows (length i.given) p (record { coefficients = []; bound = pos 0 }) refl more
          ∙ one_row t (row_at rows t) (row_at others t) (a.settled t named) (b.settled t named)
          ∙ sym (get_or-append_right i.given others (length i.given) p (record { coefficients = []; bound = pos 0 }) refl more)

  -- a row after the updates is the same with both lists of forms, but for its width
  module _ (r : Row) (forms others : List Form) (a : AreForms s l e (after r) forms) (b : AreForms s l e (after r) others) where
    read_same : (f : Form → ℤ) → dot r.coefficients (map f forms) ≡ dot r.coefficients (map f others)
    read_same f = dot-read r.coefficients (map f forms) (map f others) there
      where
        there : (k : ℕ) → coefficient k r ≢ pos 0 → number k (map f forms) ≡ number k (map f others)
        there k n =
            let x = a.settled k n in
            let y = b.settled k n in
            let known : k < s.memories = x.known in
            let size_a : length forms ≡ s.memories = a.size in
            let size_b : length others ≡ s.memories = b.size in
            let zero_form : Form = record { coefficients = []; constant = pos 0 } in
            get_or-map f forms k zero_form (pos 0) (omega arith)
            ∙ ap f (one_form k (form_at forms k) (form_at others k) x y)
            ∙ sym (get_or-map f others k zero_form (pos 0) (omega arith))

    pub moved_same : (new other : Row) (rows : List Row) (m : Multipliers) → IsSubstituted r forms new → IsSubstituted r others other → Proves rows new m
        → Proves rows other m
    moved_same new other rows m x y p = Proves-wanted rows new other m
        (λ k. x.coefficients k ∙ read_same (λ f. number k f.coefficients) ∙ sym (y.coefficients k))
        (x.bound ∙ ap (λ z. r.bound -ℤ z) (read_same (λ f. f.constant)) ∙ sym y.bound) p

-- two rows that are the same row after the same updates
pub substituted_once : (r : Row) (forms : List Form) (new other : Row) (rows : List Row) (m : Multipliers) → IsSubstituted r forms new
    → IsSubstituted r forms other → Proves rows new m → Proves rows other m
substituted_once r forms new other rows m x y p = Proves-wanted rows new other m (λ k. x.coefficients k ∙ sym (y.coefficients k)) (x.bound ∙ sym y.bound) p

pub implied_once : (s : System) (l : Location) (e : Entry) (i : Implication) (rows : List Row) (forms : List Form)
    → AreTestRows s l e i rows → AreForms s l e i.wanted forms → HasBefore i.wanted forms
    → IsImplied s l e i ↔ IsShownWith (i.given ++ rows) forms i.wanted i.by
implied_once s l e i rows forms are fits has = (to, from)
  where
    to_wanted : (w : Wanted) → AreForms s l e w forms → HasBefore w forms → (others : List Row) → NameSame (i.given ++ others) (i.given ++ rows) i.by.weights
        → IsShown s l e (i.given ++ others) w i.by → IsShownWith (i.given ++ rows) forms w i.by
    to_wanted refutation f b others same p = Refutes-named _ _ i.by same p
    to_wanted (before r) f b others same p = Proves-named _ _ r i.by same p
    to_wanted (after r) f (other, sub') others same (forms', new, f', sub, p) =
        (other, sub', moved_same s l e r forms' forms f' f new other (i.given ++ rows) i.by sub sub' (Proves-named _ _ new i.by same p))

    to : IsImplied s l e i → IsShownWith (i.given ++ rows) forms i.wanted i.by
    to (others, are', shown) = to_wanted i.wanted fits has others (rows_same s l e i others rows are' are) shown

    from_wanted : (w : Wanted) → AreForms s l e w forms → IsShownWith (i.given ++ rows) forms w i.by → IsShown s l e (i.given ++ rows) w i.by
    from_wanted refutation f p = p
    from_wanted (before r) f p = p
    from_wanted (after r) f (new, sub, p) = (forms, new, f, sub, p)

    from : IsShownWith (i.given ++ rows) forms i.wanted i.by → IsImplied s l e i
    from shown = (rows, are, from_wanted i.wanted fits shown)

pub shown_by_row : (b : Bool) (r : Row) (forms : List Form) (new : Row) (rows : List Row) (m : Multipliers) → IsSubstituted r forms new
    → MatchBool b (Proves rows new m) (¬ Proves rows new m) → MatchBool b (IsShownWith rows forms (after r) m) (¬ IsShownWith rows forms (after r) m)
shown_by_row true r forms new rows m sub p = (new, sub, p)
shown_by_row false r forms new rows m sub n = λ shown. n (substituted_once r forms shown.0 new rows m shown.1 sub shown.2)
