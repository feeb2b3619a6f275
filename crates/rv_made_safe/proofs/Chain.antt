-- Where a call gives true, the input has been true: so the observer is true.
use Rattle.std.proofs.Common.{arith, ◌≡◌, ℕ, zero, suc, ◌<◌, ◌≤◌, ◌∙◌, refl, sym, ap, Bool, true, false, not, ◌||◌}
use Rattle.std.specs.Prelude.{codes, Some}
use Rattle.rv_base.specs.{declared.value.Value.Value, declared.value.Value.TheVariants.Flag}
use Rattle.rv_tree.specs.Places.{Sites}
use Rattle.rv_meaning.specs.Runs.{History, cells, IsRun, IsSafe}
use Rattle.rv_make.specs.Chains.{Offsets, chain_program}
use Rattle.rv_made_safe.proofs.Instants.{truth, link_place, seen_place, seen_first, seen_later, observer_at, link_first, link_later}

-- a disjunction is true where one of its parts is
left_true : (a b c : Bool) → c ≡ (a || b) → a ≡ true → c ≡ true
left_true true b c e h = e
left_true false b c e h = absurd (cc)

right_true : (a b c : Bool) → c ≡ (a || b) → b ≡ true → c ≡ true
right_true true b c e h = e
right_true false b c e h = e ∙ h

-- as it is where the one part implies the other
implied : (a b : Bool) → (a ≡ true → b ≡ true) → (not a || b) ≡ true
implied true b h = h refl
implied false b h = refl

module _ (o : Offsets) (n : ℕ) (starts : Sites → Value) (inputs : ℕ → ℕ → Value) (count : ℕ) (h : History)
    (run : IsRun (chain_program o n) (codes "main") starts inputs count h) where
  -- Where a call gives true, or the input is true, the input has been true.
  has_been : (i t : ℕ) → i ≤ n → t < count → truth (cells h) t (link_place o n i) ≡ true → truth (cells h) t (seen_place o n) ≡ true
  has_been zero zero less within given = left_true _ _ _ (seen_first o n starts inputs count h run within) given
  has_been zero (suc t) less within given = left_true _ _ _ (seen_later o n starts inputs count h run t within) given
  has_been (suc i) zero less within given = absurd (cc (sym (link_first o n starts inputs count h run i (omega arith) within) ∙ given))
  has_been (suc i) (suc t) less within given =
      let before = sym (link_later o n starts inputs count h run i t (omega arith) within) ∙ given in
      right_true _ _ _ (seen_later o n starts inputs count h run t within) (has_been i t (omega arith) (omega arith) before)

-- So the observer is true at each instant.
pub safe : (o : Offsets) (n : ℕ) → IsSafe (chain_program o n) (codes "main")
safe o n count t starts inputs h run within allowed = observer_at o n starts inputs count h run t within
    ∙ ap (λ b. Some (Flag b)) (implied _ _ (has_been o n starts inputs count h run n t (omega arith) within))
