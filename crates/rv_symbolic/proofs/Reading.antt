-- What sets of control states and conditions read, and which variables their nodes have.
use Rattle.std.proofs.Common.{ℕ, ◌+◌, ◌*◌, ◌/◌, ◌%◌, ◌<◌, ◌≤◌, ◌≡◌, ◌==◌, nat_lt, Bool, true, false, cond, length, refl, sym, ap, ◌∙◌, subst, ⊎_elim, arith}
use Rattle.std.proofs.lemmas.Bool.{ne_eqb, eq-eqb, eqb-true, ltb-true, cases_Bool, lt-ltb, le-ltb, and_from, and_parts, and_left, and_right, both_ways}
use Rattle.rv_diagram.specs.Nodes.{Valuation, node_at, value_among, value_of, put, IsOrderedOver}
use Rattle.rv_diagram.specs.{declared.frozen.Frozen.Frozen, Several.UsesNeeded, Several.Ignores}
use Rattle.rv_proofs.specs.Systems.{System, IsState, IsRead, HasSameState, IsSameValuation}
use Rattle.rv_proofs.specs.Ranges.{IsControlSet, IsCondition}
use Rattle.rv_symbolic.specs.Variables.{is_of}
use Rattle.rv_proofs.proofs.ControlReads.{value_among-reads}

-- one control state has one value in a control set
pub control-value : (s : System) (set : Frozen) (v w : Valuation) → IsControlSet s set → HasSameState s v w
    → value_of set.nodes set.root v ≡ value_of set.nodes set.root w
control-value s set v w c same = value_among-reads set.nodes v w (λ n l. same (node_at set.nodes n).var (c.states n l)) (length set.nodes)
    (omega arith) set.root

-- and one valuation in a condition
pub condition-value : (s : System) (set : Frozen) (v w : Valuation) → IsCondition s set → IsSameValuation s v w
    → value_of set.nodes set.root v ≡ value_of set.nodes set.root w
condition-value s set v w c same = value_among-reads set.nodes v w (λ n l. same (node_at set.nodes n).var (c.read n l)) (length set.nodes)
    (omega arith) set.root

pub is_of-bit : (n p i : ℕ) → p ≤ 1 → i < n → is_of n p (2 * i + p) ≡ true
is_of-bit n p i le low = and_from (nat_lt (2 * i + p) (2 * n)) ((2 * i + p) % 2 == p) (lt-ltb (2 * i + p) (2 * n) (omega arith)) (eq-eqb
    ((2 * i + p) % 2) p (omega arith))

pub is_of-parts : (n p x : ℕ) → p ≤ 1 → is_of n p x ≡ true → (x / 2 < n) × (x ≡ 2 * (x / 2) + p)
is_of-parts n p x le h =
    let parts : (nat_lt x (2 * n) ≡ true) × ((x % 2 == p) ≡ true) = and_parts (nat_lt x (2 * n)) (x % 2 == p) h in
    let low : x < 2 * n = ltb-true x (2 * n) parts.0 in
    let odd : x % 2 ≡ p = eqb-true (x % 2) p parts.1 in
    (omega arith, omega arith)

pub is_of-other : (n p x : ℕ) → (x % 2 ≡ p → ⊥) → is_of n p x ≡ false
is_of-other n p x off = and_right (nat_lt x (2 * n)) (x % 2 == p) (ne_eqb (x % 2) p off)

pub is_of-past : (n p x : ℕ) → 2 * n ≤ x → is_of n p x ≡ false
is_of-past n p x le = and_left (nat_lt x (2 * n)) (x % 2 == p) (le-ltb x (2 * n) le)

pub state_is : (s : System) (x : ℕ) → is_of s.states 0 x ≡ true → IsState s x
state_is s x h = let p : (x / 2 < s.states) × (x ≡ 2 * (x / 2) + 0) = is_of-parts s.states 0 x (omega arith) h in (x / 2, p.0, omega (arith, p.1))

pub read_is : (s : System) (x : ℕ) → x < s.variables → is_of s.states 1 x ≡ false → IsRead s x
read_is s x low h = (
  low,
  λ i less e. both_ways (is_of s.states 1 x) h (subst (λ (y : ℕ). is_of s.states 1 y ≡ true) (sym e) (is_of-bit s.states 1 i
      (omega arith) less)),
)

pub read_off : (s : System) (x : ℕ) → IsRead s x → is_of s.states 1 x ≡ false
read_off s x (low, off) = ⊎_elim
    (λ on. let p : (x / 2 < s.states) × (x ≡ 2 * (x / 2) + 1) = is_of-parts s.states 1 x (omega arith) on in absurd (off (x / 2) p.0 p.1))
    (λ no. no)
    (cases_Bool (is_of s.states 1 x))

pub put-other : (v : Valuation) (x y : ℕ) (b c : Bool) → (y ≡ x → ⊥) → put v x b y ≡ put v x c y
put-other v x y b c off = ap (λ t. cond t b (v y)) (ne_eqb y x off) ∙ sym (ap (λ t. cond t c (v y)) (ne_eqb y x off))

-- a meaning of control states ignores each variable that is no state bit
ignores_other : (s : System) (meaning : Valuation → Bool) (x : ℕ) → ((v w : Valuation) → HasSameState s v w → meaning v ≡ meaning w)
    → is_of s.states 0 x ≡ false → Ignores meaning x
ignores_other s meaning x same off v = same (put v x false) (put v x true) (λ y (i, low, e). put-other v x y false true (λ is. both_ways
    (is_of s.states 0 x) off
    (let z : 2 * i + 0 ≡ x = omega (arith, e, is) in subst (λ (u : ℕ). is_of s.states 0 u ≡ true) z (is_of-bit s.states 0 i (omega arith) low))))

-- a meaning of valuations ignores each next copy
ignores_copy : (s : System) (meaning : Valuation → Bool) (x : ℕ) → ((v w : Valuation) → IsSameValuation s v w → meaning v ≡ meaning w)
    → is_of s.states 1 x ≡ true → Ignores meaning x
ignores_copy s meaning x same on v = same (put v x false) (put v x true) (λ y read. put-other v x y false true (λ is. both_ways (is_of s.states 1 y)
    (read_off s y read)
    (subst (λ (u : ℕ). is_of s.states 1 u ≡ true) (sym is) on)))

-- a diagram that needs each of its variables, and means a fact of the control state, is a control set
pub control_set : (s : System) (f : Frozen) (meaning : Valuation → Bool) → IsOrderedOver s.variables f → UsesNeeded f.nodes meaning
    → ((v w : Valuation) → HasSameState s v w → meaning v ≡ meaning w) → IsControlSet s f
control_set s f meaning ordered needed same = record {
  ordered = ordered;
  states = λ n low. ⊎_elim
      (λ on. state_is s (node_at f.nodes n).var on)
      (λ off. absurd (needed (node_at f.nodes n).var (ignores_other s meaning (node_at f.nodes n).var same off) n low refl))
      (cases_Bool (is_of s.states 0 (node_at f.nodes n).var));
}

-- and one that means a fact of the valuation is a condition
pub condition_set : (s : System) (f : Frozen) (meaning : Valuation → Bool) → IsOrderedOver s.variables f → UsesNeeded f.nodes meaning
    → ((v w : Valuation) → IsSameValuation s v w → meaning v ≡ meaning w) → IsCondition s f
condition_set s f meaning ordered needed same = record {
  ordered = ordered;
  read = λ n low. ⊎_elim
      (λ on. absurd (needed (node_at f.nodes n).var (ignores_copy s meaning (node_at f.nodes n).var same on) n low refl))
      (λ off. read_is s (node_at f.nodes n).var (ordered.low n low) off)
      (cases_Bool (is_of s.states 1 (node_at f.nodes n).var));
}

-- a valuation's control state is part of it
pub valuation_state : (s : System) (v w : Valuation) → 2 * s.states ≤ s.variables → IsSameValuation s v w → HasSameState s v w
valuation_state s v w few same x (i, low, e) = same x (omega (arith, e), λ j less f. absurd (omega (arith, e, f)))
