-- Rows after the updates.
use Rattle.std.proofs.Common.{◌≡◌, ◌≢◌, ℕ, zero, suc, ◌<◌, ℤ, pos, ◌+ℤ◌, ◌*ℤ◌, List, [], ◌∷◌, length, get_or, arith, refl, ap, sym, ◌∙◌, ◌⊎◌, inl, inr, add-one}
use Rattle.std.proofs.{Math.IntN.zero-*ℤ, Math.IntN.*ℤ-zero, lemmas.Int.ints, lemmas.List.get_or-map}
use Rattle.rv_diagram.specs.Nodes.{Valuation}
use Rattle.rv_rows.specs.Forms.{number, value, values, IsSubstituted}
use Rattle.rv_rows.specs.{declared.linear.Row.Row, declared.linear.Form.Form, Rows.dot, Rows.Holds, Rows.coefficient}
use Rattle.rv_rows.proofs.{RowLemmas.tail_of, RowLemmas.dot-none, RowLemmas.get_or-tail, FormLemmas.substituted_same}
use Rattle.rv_proofs.specs.Scopes.{IsInScope, after}
use Rattle.rv_proofs.specs.{Systems.System, Implied.AreForms, declared.certificate.Location.Location, declared.certificate.Entry.Entry}

-- a number is 0 or not
pub zero_or : (z : ℤ) → (z ≡ pos 0) ⊎ (z ≢ pos 0)
zero_or (pos zero) = inl refl
zero_or _ = inr (λ e. omega (arith, ints))

product_same : (c x y : ℤ) → (c ≢ pos 0 → x ≡ y) → c *ℤ x ≡ c *ℤ y
product_same c x y h = go (zero_or c)
  where
    go : (c ≡ pos 0) ⊎ (c ≢ pos 0) → c *ℤ x ≡ c *ℤ y
    go (inl e) = rw e (zero-*ℤ x ∙ sym (zero-*ℤ y))
    go (inr n) = ap (λ z. c *ℤ z) (h n)

pub dot-tail : (c : ℤ) (cs xs : List ℤ) → dot (c ∷ cs) xs ≡ (c *ℤ get_or xs 0 (pos 0)) +ℤ dot cs (tail_of xs)
dot-tail c cs [] = rw (dot-none cs, *ℤ-zero c) refl
dot-tail c cs (x ∷ xs) = refl

-- a sum of products reads the columns with coefficients other than 0 alone
pub dot-read : (cs xs ys : List ℤ) → ((k : ℕ) → number k cs ≢ pos 0 → number k xs ≡ number k ys) → dot cs xs ≡ dot cs ys
dot-read [] xs ys h = refl
dot-read (c ∷ cs) xs ys h =
    dot-tail c cs xs
    ∙ ap (λ z. z +ℤ dot cs (tail_of xs)) (product_same c (get_or xs 0 (pos 0)) (get_or ys 0 (pos 0)) (h 0))
    ∙ ap (λ z. (c *ℤ get_or ys 0 (pos 0)) +ℤ z) (dot-read cs (tail_of xs) (tail_of ys)
    (λ k n. get_or-tail xs k ∙ rw add-one (h (suc k) n) ∙ sym (get_or-tail ys k)))
    ∙ sym (dot-tail c cs ys)

-- a row that holds after the updates holds at the updated memories
pub moved-holds : (s : System) (l : Location) (e : Entry) (v : Valuation) (r new : Row) (forms : List Form) (point next : List ℤ)
    → IsInScope s l e v → AreForms s l e (after r) forms → IsSubstituted r forms new
    → ((k : ℕ) → k < s.memories → number k next ≡ value (s.update v k) point) → Holds new point → Holds r next
moved-holds s l e v r new forms point next scope are sub updated h =
    let old : Holds r (values forms point) = (substituted_same r new forms sub point).0 h in
    let same : dot r.coefficients (values forms point) ≡ dot r.coefficients next = dot-read r.coefficients (values forms point) next there in
    rw (sym same) old
  where
    there : (k : ℕ) → coefficient k r ≢ pos 0 → number k (values forms point) ≡ number k next
    there k n =
        let settled = are.settled k n in
        let known : k < s.memories = settled.known in
        let size : length forms ≡ s.memories = are.size in
        get_or-map (λ f. value f point) forms k (record { coefficients = []; constant = pos 0 }) (pos 0) (omega arith)
        ∙ sym (ap (λ f. value f point) (settled.same v scope))
        ∙ sym (updated k known)
