-- How far a list grows while parts are added one after another.
use Rattle.std.proofs.Common.{ℕ, zero, suc, ◌+◌, ◌*◌, ◌^◌, ◌<◌, ◌≤◌, ◌≡◌, Bool, true, false, ◌&&◌, ◌||◌, List, length, refl, sym, ap, ◌∙◌, subst, arith}
use Rattle.std.proofs.lemmas.Bool.{and_parts}
use Rattle.rv_diagram.specs.{declared.Triple.Triple, Nodes.Valuation, Nodes.Diagrams, Nodes.put}
use Rattle.rv_terms.specs.Parts.{holds, AreDisjoint, among}
use Rattle.rv_terms.specs.{declared.parted.Part.Part, Growing.GrownFor, Growing.LacksFor}
use Rattle.rv_diagram.specs.Counting.{count_from, count}
use Rattle.rv_terms.proofs.{Combining.among-more, Combining.among_some}
use Rattle.rv_diagram.proofs.Counting.{count-same, count-join, count-most}
use Rattle.rv_base.proofs.Truths.{bits_within}

pub count-within : (d x : ℕ) (f g : Valuation → Bool) → ((v : Valuation) → f v ≡ true → g v ≡ true) → count_from d x f ≤ count_from d x g
count-within zero x f g h = bits_within (f (λ k. false)) (g (λ k. false)) (h (λ k. false))
count-within (suc d) x f g h = omega (
  arith,
  count-within d (x + 1) (λ v. f (put v x false)) (λ v. g (put v x false)) (λ v. h (put v x false)),
  count-within d (x + 1) (λ v. f (put v x true)) (λ v. g (put v x true)) (λ v. h (put v x true)),
)

twice : (n b c m p q r : ℕ) → b ≤ n + 2 * (m * p) → c ≤ b + 2 * (m * q) → r ≡ p + q → c ≤ n + 2 * (m * r)
twice n b c m p q r h g e = let s : m * r ≡ m * p + m * q = ap (λ k. m * k) e ∙ grind arith in omega (arith, h, g, s)

short : (n b l m p q r t : ℕ) → b ≤ n + 2 * (m * p) → l < b + 2 * (m * q) → r ≡ p + q → r ≤ t → l < n + 2 * (m * t)
short n b l m p q r t h g e le =
    let s : m * r ≡ m * p + m * q = ap (λ k. m * k) e ∙ grind arith in
    let w : m * r ≤ m * t = grind arith in
    omega (arith, h, g, s, w)

-- first for some valuations, then for others
pub grown_step : (s a b : Diagrams) (p q r t : Valuation → Bool) → a.variables ≡ s.variables → ((v : Valuation) → p v ≡ true → q v ≡ true → ⊥)
    → ((v : Valuation) → t v ≡ q v) → ((v : Valuation) → r v ≡ (p v || q v)) → GrownFor p s a → GrownFor t a b → GrownFor r s b
grown_step s a b p q r t same off means whole g h = record {
  nodes =
      let second : length b.nodes ≤ length a.nodes + 2 * (s.variables * count s.variables t) =
      subst (λ (m : ℕ). length b.nodes ≤ length a.nodes + 2 * (m * count m t)) same h.nodes in
      twice (length s.nodes) (length a.nodes) (length b.nodes) s.variables (count s.variables p) (count s.variables t) (count s.variables r) g.nodes second
      (count-same s.variables 0 r (λ v. p v || q v) whole ∙ count-join s.variables 0 p q off
      ∙ ap (λ n. count s.variables p + n) (sym (count-same s.variables 0 t q means)));
}

pub lacks_step : (s a : Diagrams) (p q r t top : Valuation → Bool) → a.variables ≡ s.variables → a.limit ≡ s.limit
    → ((v : Valuation) → p v ≡ true → q v ≡ true → ⊥)
    → ((v : Valuation) → t v ≡ q v) → ((v : Valuation) → r v ≡ (p v || q v)) → ((v : Valuation) → r v ≡ true → top v ≡ true)
    → GrownFor p s a → LacksFor t a → LacksFor top s
lacks_step s a p q r t top same limit off means whole within g h = record {
  nodes =
      let second : s.limit < length a.nodes + 2 * (s.variables * count s.variables t) =
      subst (λ (l : ℕ). l < length a.nodes + 2 * (s.variables * count s.variables t)) limit
      (subst (λ (m : ℕ). a.limit < length a.nodes + 2 * (m * count m t)) same h.nodes) in
      short (length s.nodes) (length a.nodes) s.limit s.variables (count s.variables p) (count s.variables t) (count s.variables r) (count s.variables top)
      g.nodes second
      (count-same s.variables 0 r (λ v. p v || q v) whole ∙ count-join s.variables 0 p q off
      ∙ ap (λ n. count s.variables p + n) (sym (count-same s.variables 0 t q means)))
      (count-within s.variables 0 r top within);
}

pub grown_none : (s : Diagrams) (f : Valuation → Bool) → GrownFor f s s
grown_none s f = record { nodes = omega arith }

pub grown_within : (s a : Diagrams) (f g : Valuation → Bool) → ((v : Valuation) → f v ≡ true → g v ≡ true) → GrownFor f s a → GrownFor g s a
grown_within s a f g within h = record {
  nodes = most (length s.nodes) (length a.nodes) s.variables (count s.variables f) (count s.variables g) h.nodes (count-within s.variables 0 f g within);
} where
  most : (l n m p q : ℕ) → n ≤ l + 2 * (m * p) → p ≤ q → n ≤ l + 2 * (m * q)
  most l n m p q h le = let w : m * p ≤ m * q = grind arith in omega (arith, h, w)

whole_most : (l n m p most : ℕ) → n ≤ l + 2 * (m * p) → p ≤ most → n ≤ l + 2 * (m * most)
whole_most l n m p most h le = let w : m * p ≤ m * most = grind arith in omega (arith, h, w)

pub grown_whole : (s a : Diagrams) (f : Valuation → Bool) → GrownFor f s a → length a.nodes ≤ length s.nodes + 2 * (s.variables * 2 ^ s.variables)
grown_whole s a f h = whole_most (length s.nodes) (length a.nodes) s.variables (count s.variables f) (2 ^ s.variables) h.nodes (count-most s.variables 0 f)

whole_short : (l n m p most : ℕ) → n < l + 2 * (m * p) → p ≤ most → n < l + 2 * (m * most)
whole_short l n m p most h le = let w : m * p ≤ m * most = grind arith in omega (arith, h, w)

pub lacks_whole : (s : Diagrams) (f : Valuation → Bool) → LacksFor f s → s.limit < length s.nodes + 2 * (s.variables * 2 ^ s.variables)
lacks_whole s f h = whole_short (length s.nodes) s.limit s.variables (count s.variables f) (2 ^ s.variables) h.nodes (count-most s.variables 0 f)

-- A LOOP OVER DISJOINT PARTS

pub and-or : (t a h : Bool) → (t && (a || h)) ≡ ((t && a) || (t && h))
and-or true a h = refl
and-or false a h = refl

pub step_more : (nodes : List Triple) (t : Valuation → Bool) (parts : List Part) (i : ℕ) (v : Valuation)
    → (t v && among nodes parts (i + 1) v) ≡ ((t v && among nodes parts i v) || (t v && holds nodes parts i v))
step_more nodes t parts i v = ap (λ x. t v && x) (among-more nodes parts i v) ∙ and-or (t v) (among nodes parts i v) (holds nodes parts i v)

pub step_apart : (nodes : List Triple) (t : Valuation → Bool) (parts : List Part) (i : ℕ) → AreDisjoint nodes parts → i < length parts
    → (v : Valuation) → (t v && among nodes parts i v) ≡ true → (t v && holds nodes parts i v) ≡ true → ⊥
step_apart nodes t parts i disjoint low v h g =
    let k : (k : ℕ) × (k < i) × (holds nodes parts k v ≡ true) = among_some nodes parts i v (and_parts (t v) (among nodes parts i v) h).1 in
    disjoint k.0 i k.1 low v k.2 (and_parts (t v) (holds nodes parts i v) g).1

pub step_within : (nodes : List Triple) (t : Valuation → Bool) (parts : List Part) (i : ℕ) (v : Valuation) → (t v && among nodes parts i v) ≡ true → t v ≡ true
step_within nodes t parts i v h = (and_parts (t v) (among nodes parts i v) h).0

double : (l a b m p : ℕ) → a ≤ l + m * p → b ≤ a + m * p → b ≤ l + 2 * (m * p)
double l a b m p h g = omega (arith, h, g)

-- two calls of the store, for the same valuations
pub two_steps : (s a b : Diagrams) (q t : Valuation → Bool) → a.variables ≡ s.variables → ((v : Valuation) → t v ≡ q v)
    → length a.nodes ≤ length s.nodes + s.variables * count s.variables q → length b.nodes ≤ length a.nodes + a.variables * count a.variables t → GrownFor q s b
two_steps s a b q t same means h g = record {
  nodes = double (length s.nodes) (length a.nodes) (length b.nodes) s.variables (count s.variables q) h
      (subst (λ (n : ℕ). length b.nodes ≤ length a.nodes + s.variables * n) (count-same s.variables 0 t q means)
      (subst (λ (m : ℕ). length b.nodes ≤ length a.nodes + m * count m t) same g));
}

double_short : (l a b m p : ℕ) → a ≤ l + m * p → b < a + m * p → b < l + 2 * (m * p)
double_short l a b m p h g = omega (arith, h, g)

pub two_lacks : (s a : Diagrams) (q t : Valuation → Bool) → a.variables ≡ s.variables → a.limit ≡ s.limit → ((v : Valuation) → t v ≡ q v)
    → length a.nodes ≤ length s.nodes + s.variables * count s.variables q → a.limit < length a.nodes + a.variables * count a.variables t → LacksFor q s
two_lacks s a q t same limit means h g = record {
  nodes = double_short (length s.nodes) (length a.nodes) s.limit s.variables (count s.variables q) h
      (subst (λ (l : ℕ). l < length a.nodes + s.variables * count s.variables q) limit
      (subst (λ (n : ℕ). a.limit < length a.nodes + s.variables * n) (count-same s.variables 0 t q means)
      (subst (λ (m : ℕ). a.limit < length a.nodes + m * count m t) same g)));
}
