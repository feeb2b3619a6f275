-- What calls of the store make of references.
use Rattle.std.proofs.Common.{◌≡◌, ℕ, suc, ◌+◌, ◌-◌, ◌*◌, ◌/◌, ◌%◌, ◌^◌, ◌<◌, ◌≤◌, Bool, true, false, not, ◌&&◌, ◌||◌, cond, nat_eq, nat_le, nat_lt, List, []}
use Rattle.std.proofs.Common.{◌∷◌, ◌++◌, length, refl, sym, ◌∙◌, ap, subst, arith, length-append, inl, inr}
use Rattle.std.proofs.Math.Nat.{pow-succ', mul_comm, div-div-eq-div-mul, lt-div-mul-add}
use Rattle.std.proofs.{lemmas.Bool.cases_lt, lemmas.List.get_or_append_left, Math.ListN.get_or-eq_default, Math.Seq.get_or-append_seam, lemmas.Nat.pow_pos}
use Rattle.rv_diagram.specs.{declared.Triple.Triple, Nodes.Valuation, Nodes.Diagrams, Nodes.Answers, Nodes.IsRef, Nodes.value_of, Nodes.choice, Several.ref_at}
use Rattle.rv_diagram.proofs.Calls.{value_of-false, value_of-true}
use Rattle.rv_diagram.specs.Growing.{Extends}
use Rattle.rv_diagram.proofs.Growing.{extends_trans, grows_extends}
use Rattle.rv_symbolic.specs.{Growing.Makes, Linked.AreRefs}
use Rattle.rv_meaning.specs.Codes.{code}
use Rattle.rv_types.specs.Variables.{bits_for}
use Rattle.rv_bits.specs.Bits.{bit, bit_of, is_same, are_same, count_true, Spells, AreCounted}
use Rattle.rv_bits.proofs.Codes.{none_more, most_more, code_within, within_below, label_coded, bit_past}

-- past the end stands the constant false
pub ref_past : (refs : List ℕ) (k : ℕ) → length refs ≤ k → ref_at refs k ≡ 0
ref_past refs k le = get_or-eq_default refs 0 le

pub any_ref : (nodes : List Triple) (refs : List ℕ) → AreRefs nodes refs → (k : ℕ) → IsRef nodes (ref_at refs k)
any_ref nodes refs are k = elim (cases_lt k (length refs)) [
  | inl lt ↦ are k lt
  | inr le ↦ let z : ref_at refs k ≡ 0 = ref_past refs k le in omega arith
]

pub bit_none : (nodes : List Triple) (refs : List ℕ) (v : Valuation) (k : ℕ) → length refs ≤ k → bit nodes refs v k ≡ false
bit_none nodes refs v k le = ap (λ r. value_of nodes r v) (ref_past refs k le) ∙ value_of-false nodes v

pub ref_kept : (a b : Diagrams) (r : ℕ) → Extends a b → IsRef a.nodes r → IsRef b.nodes r
ref_kept a b r e is = omega (arith, e.longer)

pub bits_kept : (a b : Diagrams) (refs : List ℕ) → Extends a b → AreRefs a.nodes refs → (v : Valuation) (k : ℕ) → bit b.nodes refs v k ≡ bit a.nodes refs v k
bits_kept a b refs e are v k = e.kept (ref_at refs k) (any_ref a.nodes refs are k) v

-- one reference more
pub refs_more : (nodes : List Triple) (refs : List ℕ) (r : ℕ) → AreRefs nodes refs → IsRef nodes r → AreRefs nodes (refs ++ r ∷ [])
refs_more nodes refs r are is k lt = elim (cases_lt k (length refs)) [
  | inl below ↦ subst (IsRef nodes) (sym (get_or_append_left refs (r ∷ []) 0 k below)) (are k below)
  | inr le ↦ let e : length refs ≡ k = omega (arith, length-append refs (r ∷ [])) in
      subst (λ n. IsRef nodes (ref_at (refs ++ r ∷ []) n)) e (subst (IsRef nodes) (sym (get_or-append_seam refs r [] 0)) is)
]

pub ref_before : (refs : List ℕ) (r k : ℕ) → k < length refs → ref_at (refs ++ r ∷ []) k ≡ ref_at refs k
ref_before refs r k lt = get_or_append_left refs (r ∷ []) 0 k lt

pub ref_last : (refs : List ℕ) (r k : ℕ) → length refs ≡ k → ref_at (refs ++ r ∷ []) k ≡ r
ref_last refs r k e = subst (λ n. ref_at (refs ++ r ∷ []) n ≡ r) e (get_or-append_seam refs r [] 0)

-- a choice between three meanings
pub choice_made : (a b c : Diagrams) (p q s r : ℕ) (f g h : Valuation → Bool) → Extends a b
    → ((v : Valuation) → value_of b.nodes p v ≡ f v) → ((v : Valuation) → value_of b.nodes q v ≡ g v) → ((v : Valuation) → value_of b.nodes s v ≡ h v)
    → Answers b c (choice b.nodes p q s) r → Makes a c (λ v. cond (f v) (g v) (h v)) r
choice_made a b c p q s r f g h e on first second t = record {
  extends = extends_trans a b c e (grows_extends b c t.grows);
  found = t.found;
  means = λ v. t.means v ∙ (λ i. cond (on v i) (first v i) (second v i));
}

pub equal_made : (a b c : Diagrams) (p q n r : ℕ) → IsRef a.nodes p → IsRef a.nodes q → Answers a b (λ v. not (value_of a.nodes q v)) n
    → Answers b c (choice b.nodes p q n) r
    → Makes a c (λ v. is_same (value_of a.nodes p v) (value_of a.nodes q v)) r
equal_made a b c p q n r left right s t =
    choice_made a b c p q n r (value_of a.nodes p) (value_of a.nodes q) (λ v. not (value_of a.nodes q v)) (grows_extends a b s.grows)
    (λ v. s.grows.kept p left v) (λ v. s.grows.kept q right v) s.means t

-- the conjunction of a reference and of what was made after it
pub and_made : (a b c : Diagrams) (p q r : ℕ) (f : Valuation → Bool) → IsRef a.nodes p → Makes a b f q
    → Answers b c (λ v. value_of b.nodes p v && value_of b.nodes q v) r
    → Makes a c (λ v. value_of a.nodes p v && f v) r
and_made a b c p q r f is m t = record {
  extends = extends_trans a b c m.extends (grows_extends b c t.grows);
  found = t.found;
  means = λ v. t.means v ∙ (λ i. m.extends.kept p is v i && m.means v i);
}

pub counted_more : (a b c : Diagrams) (none most one n m : ℕ) (count : Valuation → ℕ) → IsRef a.nodes none → IsRef a.nodes most → IsRef a.nodes one
    → Answers a b (choice a.nodes one none most) m → Answers b c (choice b.nodes one 0 none) n
    → ((v : Valuation) → value_of a.nodes none v ≡ nat_eq (count v) 0) → ((v : Valuation) → value_of a.nodes most v ≡ nat_le (count v) 1)
    → AreCounted a c (λ v. count v + cond (value_of a.nodes one v) 1 0) n m
counted_more a b c none most one n m count found_none found_most found s t p q =
    let ab : Extends a b = grows_extends a b s.grows in
    let bc : Extends b c = grows_extends b c t.grows in
    record {
      extends = extends_trans a b c ab bc;
      none_found = t.found;
      most_found = ref_kept b c m bc s.found;
      none_means = λ v. t.means v
          ∙ (λ i. cond (ab.kept one found v i) (value_of-false b.nodes v i) ((ab.kept none found_none v ∙ p v) i))
          ∙ none_more (count v) (value_of a.nodes one v);
      most_means = λ v. bc.kept m s.found v ∙ s.means v
          ∙ (λ i. cond (value_of a.nodes one v) (p v i) (q v i))
          ∙ most_more (count v) (value_of a.nodes one v);
    }

-- what was made after other calls, by a meaning that is the same
pub makes_to : (a b c : Diagrams) (f g : Valuation → Bool) (r : ℕ) → Extends a b → Makes b c f r → ((v : Valuation) → f v ≡ g v) → Makes a c g r
makes_to a b c f g r e m same = record { extends = extends_trans a b c e m.extends; found = m.found; means = λ v. m.means v ∙ same v }

pub counted_to : (a b c : Diagrams) (f g : Valuation → ℕ) (none most : ℕ) → Extends a b → AreCounted b c f none most → ((v : Valuation) → f v ≡ g v)
    → AreCounted a c g none most
counted_to a b c f g none most e m same = record {
  extends = extends_trans a b c e m.extends;
  none_found = m.none_found;
  most_found = m.most_found;
  none_means = λ v. m.none_means v ∙ ap (λ n. nat_eq n 0) (same v);
  most_means = λ v. m.most_means v ∙ ap (λ n. nat_le n 1) (same v);
}

next_number : (k : ℕ) → suc k ≡ k + 1
next_number k = omega arith

-- one bit more is the same
pub equal_more : (a b c : Diagrams) (left right : List ℕ) (same r k : ℕ) → AreRefs a.nodes left → AreRefs a.nodes right
    → Makes a b (λ v. are_same k (bit a.nodes left v) (bit a.nodes right v)) same
    → Makes b c (λ v. value_of b.nodes same v && is_same (value_of b.nodes (ref_at left k) v) (value_of b.nodes (ref_at right k) v)) r
    → Makes a c (λ v. are_same (k + 1) (bit a.nodes left v) (bit a.nodes right v)) r
equal_more a b c left right same r k are_left are_right m t =
    makes_to a b c (λ v. value_of b.nodes same v && is_same (value_of b.nodes (ref_at left k) v) (value_of b.nodes (ref_at right k) v))
    (λ v. are_same (k + 1) (bit a.nodes left v) (bit a.nodes right v)) r m.extends t
    (λ v. (λ i. m.means v i && is_same (bits_kept a b left m.extends are_left v k i) (bits_kept a b right m.extends are_right v k i))
    ∙ ap (λ n. are_same n (bit a.nodes left v) (bit a.nodes right v)) (next_number k))

-- one reference more is counted
pub count_more : (a b c : Diagrams) (refs : List ℕ) (none most n m k : ℕ) → AreRefs a.nodes refs
    → AreCounted a b (λ v. count_true k (bit a.nodes refs v)) none most
    → AreCounted b c (λ v. count_true k (bit a.nodes refs v) + cond (value_of b.nodes (ref_at refs k) v) 1 0) n m
    → AreCounted a c (λ v. count_true (k + 1) (bit a.nodes refs v)) n m
count_more a b c refs none most n m k are before t =
    counted_to a b c (λ v. count_true k (bit a.nodes refs v) + cond (value_of b.nodes (ref_at refs k) v) 1 0) (λ v. count_true (k + 1) (bit a.nodes refs v)) n m
    before.extends t
    (λ v. (λ i. count_true k (bit a.nodes refs v) + cond (bits_kept a b refs before.extends are v k i) 1 0)
    ∙ ap (λ j. count_true j (bit a.nodes refs v)) (next_number k))

-- a code of one bit more is within a number
pub within_more : (a b c : Diagrams) (refs : List ℕ) (last within r k : ℕ) → AreRefs a.nodes refs
    → Makes a b (λ v. nat_le (code k (bit a.nodes refs v)) (code k (bit_of last))) within
    → Makes b c (λ v. cond (value_of b.nodes (ref_at refs k) v) (bit_of last k && value_of b.nodes within v) (bit_of last k || value_of b.nodes within v)) r
    → Makes a c (λ v. nat_le (code (k + 1) (bit a.nodes refs v)) (code (k + 1) (bit_of last))) r
within_more a b c refs last within r k are m t =
    makes_to a b c (λ v. cond (value_of b.nodes (ref_at refs k) v) (bit_of last k && value_of b.nodes within v) (bit_of last k || value_of b.nodes within v))
    (λ v. nat_le (code (k + 1) (bit a.nodes refs v)) (code (k + 1) (bit_of last))) r m.extends t
    (λ v. (λ i. cond (bits_kept a b refs m.extends are v k i) (bit_of last k && m.means v i) (bit_of last k || m.means v i))
    ∙ code_within k (bit a.nodes refs v) (bit_of last)
    ∙ ap (λ n. nat_le (code n (bit a.nodes refs v)) (code n (bit_of last))) (next_number k))

-- the whole code is within the last label exactly where it names a label
pub code_named : (a b : Diagrams) (refs : List ℕ) (labels within k : ℕ) → k ≡ bits_for labels → 0 < labels
    → Makes a b (λ v. nat_le (code k (bit a.nodes refs v)) (code k (bit_of (labels - 1)))) within
    → Makes a b (λ v. nat_lt (code (bits_for labels) (bit a.nodes refs v)) labels) within
code_named a b refs labels within k e some m =
    let whole : code k (bit_of (labels - 1)) ≡ labels - 1 = ap (λ n. code n (bit_of (labels - 1))) e ∙ label_coded labels (labels - 1) (omega arith) in
    record {
      extends = m.extends;
      found = m.found;
      means = λ v. m.means v ∙ (λ i. nat_le (code (e i) (bit a.nodes refs v)) (whole i))
          ∙ within_below (code (bits_for labels) (bit a.nodes refs v)) (labels - 1) labels (omega arith);
    }

-- a reference more in a list whose first bits have these meanings
pub means_more : (a b : Diagrams) (refs : List ℕ) (r k : ℕ) (meaning : ℕ → Valuation → Bool) → length refs ≡ k → Extends a b → AreRefs a.nodes refs
    → ((n : ℕ) (v : Valuation) → n < k → bit a.nodes refs v n ≡ meaning n v) → ((v : Valuation) → value_of b.nodes r v ≡ meaning k v)
    → (n : ℕ) (v : Valuation) → n < k + 1 → bit b.nodes (refs ++ r ∷ []) v n ≡ meaning n v
means_more a b refs r k meaning size e are before last n v lt = elim (cases_lt n k) [
  | inl below ↦ ap (λ x. value_of b.nodes x v) (ref_before refs r n (omega arith)) ∙ bits_kept a b refs e are v n ∙ before n v below
  | inr le ↦ let same : k ≡ n = omega arith in subst (λ j. bit b.nodes (refs ++ r ∷ []) v j ≡ meaning j v) same
      (ap (λ x. value_of b.nodes x v) (ref_last refs r k size) ∙ last v)
]

-- a list of references whose first bits have these meanings, where all further ones are false
pub spells_all : (a b : Diagrams) (refs : List ℕ) (k : ℕ) (meaning : ℕ → Valuation → Bool) → length refs ≡ k → Extends a b → AreRefs b.nodes refs
    → ((n : ℕ) (v : Valuation) → n < k → bit b.nodes refs v n ≡ meaning n v) → ((n : ℕ) (v : Valuation) → k ≤ n → meaning n v ≡ false)
    → Spells a b meaning refs
spells_all a b refs k meaning size e are before past = record {
  extends = e;
  found = are;
  means = λ n v. elim (cases_lt n k) [
    | inl below ↦ before n v below
    | inr le ↦ bit_none b.nodes refs v n (omega arith) ∙ sym (past n v le)
  ];
}

-- the next bit of a number
pub next_bit : (number rest k : ℕ) → rest ≡ number / 2 ^ k → nat_eq (rest % 2) 1 ≡ bit_of number k
next_bit number rest k e = ap (λ n. nat_eq (n % 2) 1) e

pub next_rest : (number rest k n : ℕ) → rest ≡ number / 2 ^ k → n ≡ k + 1 → rest / 2 ≡ number / 2 ^ n
next_rest number rest k n e is = ap (λ m. m / 2) e ∙ halved ∙ ap (λ m. number / 2 ^ m) (next_number k ∙ sym is)
  where
    halved : number / 2 ^ k / 2 ≡ number / 2 ^ suc k
    halved = div-div-eq-div-mul number (2 ^ k) 2 ∙ ap (λ m. number / m) (mul_comm (2 ^ k) 2 ∙ sym (pow-succ' 2 k))

below_quotient : (number k : ℕ) → 0 ≡ number / 2 ^ k → number < 2 ^ k
below_quotient number k e =
    let h : number < number / 2 ^ k * 2 ^ k + 2 ^ k = lt-div-mul-add (pow_pos k) in
    let z : number / 2 ^ k * 2 ^ k ≡ 0 * 2 ^ k = ap (λ q. q * 2 ^ k) (sym e) in
    let none : 0 * 2 ^ k ≡ 0 = omega arith in
    omega arith

-- no bit is left of a number of which nothing is left
pub no_bit : (number k b : ℕ) → 0 ≡ number / 2 ^ k → k ≤ b → bit_of number b ≡ false
no_bit number k b e le = bit_past number k b (below_quotient number k e) le

-- a negation of what was made
pub not_made : (a b c : Diagrams) (f : Valuation → Bool) (p r : ℕ) → Makes a b f p → Answers b c (λ v. not (value_of b.nodes p v)) r
    → Makes a c (λ v. not (f v)) r
not_made a b c f p r m t = record {
  extends = extends_trans a b c m.extends (grows_extends b c t.grows);
  found = t.found;
  means = λ v. t.means v
      ∙ ap not (m.means v);
}

-- a conjunction of what was made in turn
pub both_made_of : (a b c d : Diagrams) (f g : Valuation → Bool) (p q r : ℕ) → Makes a b f p → Makes b c g q
    → Answers c d (λ v. value_of c.nodes p v && value_of c.nodes q v) r
    → Makes a d (λ v. f v && g v) r
both_made_of a b c d f g p q r m n t = record {
  extends = extends_trans a c d (extends_trans a b c m.extends n.extends) (grows_extends c d t.grows);
  found = t.found;
  means = λ v. t.means v ∙ (λ i. (n.extends.kept p m.found v ∙ m.means v) i && n.means v i);
}

pub implies_made : (a c : Diagrams) (p q r : ℕ) → Answers a c (choice a.nodes p q 1) r → Makes a c (λ v. not (value_of a.nodes p v) || value_of a.nodes q v) r
implies_made a c p q r t = record {
  extends = grows_extends a c t.grows;
  found = t.found;
  means = λ v. t.means v ∙ (λ i. cond (value_of a.nodes p v) (value_of a.nodes q v) (value_of-true a.nodes v i))
      ∙ by (value_of a.nodes p v) (value_of a.nodes q v);
}
  where
    by : (x y : Bool) → cond x y true ≡ (not x || y)
    by true y = refl
    by false y = refl

pub exclusive_made : (a b c : Diagrams) (p q n r : ℕ) → IsRef a.nodes p → IsRef a.nodes q → Answers a b (λ v. not (value_of a.nodes q v)) n
    → Answers b c (choice b.nodes p n q) r
    → Makes a c (λ v. cond (value_of a.nodes p v) (not (value_of a.nodes q v)) (value_of a.nodes q v)) r
exclusive_made a b c p q n r left right s t =
    choice_made a b c p n q r (value_of a.nodes p) (λ v. not (value_of a.nodes q v)) (value_of a.nodes q) (grows_extends a b s.grows)
    (λ v. s.grows.kept p left v) s.means (λ v. s.grows.kept q right v) t
