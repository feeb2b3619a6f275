-- The least valuation of a set has false at each variable that the set does not go by.
use Rattle.std.proofs.Common.{ℕ, ◌*◌, ◌<◌, ◌≤◌, ◌≡◌, ◌≢◌, Bool, false, cond, List, length, sym, ap, ◌∙◌, subst, ⊎_elim, arith, Option, Some, MatchOption}
use Rattle.std.proofs.Common.{None as Nothing}
use Rattle.std.proofs.lemmas.Bool.{cases_Bool, ne_eqb}
use Rattle.rv_diagram.specs.declared.frozen.Frozen.{Frozen}
use Rattle.rv_diagram.specs.Nodes.{Valuation, Diagrams, node_at, value_of, valuation_of, put, ComesBefore, IsLeast}
use Rattle.rv_proofs.specs.Systems.{System, IsSystem, IsState, IsRead, IsSameValuation, HasSameState}
use Rattle.rv_proofs.specs.{Scopes.IsInScope, Ranges.IsControlSet, Ranges.IsCondition, declared.certificate.Location.Location, declared.certificate.Entry.Entry}
use Rattle.rv_proofs.proofs.ControlReads.{value_among-reads, control_same, condition_same}
use Rattle.rv_accept.specs.Steps.{IsTrueOf}
use Rattle.rv_diagram.proofs.Canon.{put-same}
use Rattle.rv_base.proofs.Truths.{clash}

put_off : (v : Valuation) (x : ℕ) (b : Bool) (y : ℕ) → (y ≡ x → ⊥) → put v x b y ≡ v y
put_off v x b y other = ap (λ t. cond t b (v y)) (ne_eqb y x other)

-- the word of a set that goes by the variables of a kind alone, and is the least
pub record Picked (K : ℕ → Type 0) (m : ℕ) (P : Valuation → Type 0) (word : List Bool) : Type 0 where
  pub size : length word ≡ m
  pub others : (x : ℕ) → ¬ K x → valuation_of word x ≡ false
  pub so : P (valuation_of word)
  pub least : (u : Valuation) → P u → ¬ ComesBefore u (valuation_of word)

module _ (K : ℕ → Type 0) (d : Diagrams) (P : Valuation → Type 0) (r : ℕ) (is : IsTrueOf d P r) (free : (v w : Valuation) → ((x : ℕ) → K x → v x ≡ w x)
    → P v → P w) where
  one : (word : List Bool) → IsLeast d.nodes d.variables r word → Picked K d.variables P word
  one word l = record { size = l.size; others = others; so = so; least = λ u p. l.least u ((is.exact u).1 p) }
    where
      so : P (valuation_of word)
      so = (is.exact (valuation_of word)).0 l.holds

      moved : (x : ℕ) → ¬ K x → P (put (valuation_of word) x false)
      moved x none = free (valuation_of word) (put (valuation_of word) x false) (λ y k. sym (put_off (valuation_of word) x false y (λ e. none
          (subst K e k)))) so

      others : (x : ℕ) → ¬ K x → valuation_of word x ≡ false
      others x none = ⊎_elim (λ up. absurd (l.least (put (valuation_of word) x false) ((is.exact (put (valuation_of word) x false)).1 (moved x none))
          (x, λ k low. put_off (valuation_of word) x false k (λ e. let z : k ≢ x = omega (arith, low) in z e), put-same (valuation_of word) x false, up)))
          (λ down. down) (cases_Bool (valuation_of word x))

  pub picked : (o : Option (List Bool)) → MatchOption o ((v : Valuation) → value_of d.nodes r v ≡ false) (λ word. IsLeast d.nodes d.variables r word)
      → MatchOption o ((v : Valuation) → ¬ P v) (λ word. Picked K d.variables P word)
  picked Nothing h = λ v p. clash (value_of d.nodes r v) ((is.exact v).1 p) (h v)
  picked (Some word) h = one word h

pub match_map : {A B : Type 0} (o : Option (List Bool)) (P Q : List Bool → Type 0) → (A → B) → ((w : List Bool) → P w → Q w) → MatchOption o A P
    → MatchOption o B Q
match_map Nothing P Q f g h = f h
match_map (Some w) P Q f g h = g w h

-- WHAT SETS GO BY

pub value_reads : (set : Frozen) (v w : Valuation) → ((i : ℕ) → i < length set.nodes → v (node_at set.nodes i).var ≡ w (node_at set.nodes i).var)
    → value_of set.nodes set.root v ≡ value_of set.nodes set.root w
value_reads set v w h = value_among-reads set.nodes v w h (length set.nodes) (omega arith) set.root

pub state_read : (s : System) (x : ℕ) → IsSystem s → IsState s x → IsRead s x
state_read s x fits (i, low, e) = (let b : 2 * s.states ≤ s.variables = fits.bits in omega arith, λ j less f. absurd (omega arith))

pub same_states : (s : System) (v w : Valuation) → IsSystem s → IsSameValuation s v w → HasSameState s v w
same_states s v w fits h x is = h x (state_read s x fits is)

pub scope_same : (s : System) (l : Location) (e : Entry) (v w : Valuation) → IsSystem s → IsControlSet s l.control → IsCondition s e.condition
    → IsSameValuation s v w → IsInScope s l e v → IsInScope s l e w
scope_same s l e v w fits control condition h is = record {
  allowed = sym (fits.allowed v w h) ∙ is.allowed;
  control = control_same s l.control v w control (same_states s v w fits h) is.control;
  condition = condition_same s e.condition v w condition h is.condition;
}
