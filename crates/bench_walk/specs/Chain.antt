-- A row of n links as a system. State bit 0 is the main tick, bit 1 is what was seen, bit i + 2 is link i. The input is
-- variable 2 n + 4. Links hand on what the first takes from the input, and what was seen is whether it was ever true.
use Rattle.std.specs.Prelude.{◌≡◌, ℕ, ◌+◌, ◌-◌, ◌*◌, ◌<◌, pos, [], Bool, true, false, not, ◌&&◌, ◌||◌, ◌==◌, cond, List, length, None as Nothing}
use Rattle.rv_diagram.specs.{Nodes.Valuation, Nodes.Diagrams, Nodes.IsRef, Nodes.value_of, Several.ref_at}
use Rattle.rv_diagram.specs.Growing.{Extends}
use Rattle.rv_proofs.specs.Systems.{System}

-- what a bit holds before a step, and false before the first
abbrev pub held_of : ℕ → Valuation → Bool
held_of x v = v 0 && v x

-- whether the input is or was true
abbrev pub seen_of : ℕ → Valuation → Bool
seen_of n v = v (2 * n + 4) || held_of 2 v

-- what each state bit becomes, by its variable
abbrev pub next_of : ℕ → Valuation → Valuation
next_of n v x = cond (x == 0) true (cond (x == 2) (seen_of n v) (cond (x == 4) (v (2 * n + 4)) (held_of (x - 2) v)))

-- The observer is false where the last link is true and nothing was seen, or, where it is strict, where the last link is
-- true.
abbrev pub observer_of : Bool → ℕ → Valuation → Bool
observer_of true n v = not (held_of (2 * n + 2) v)
observer_of false n v = not (held_of (2 * n + 2) v && not (seen_of n v))

abbrev pub links : Bool → ℕ → System
links strict n = record {
  states = n + 2;
  variables = 2 * n + 5;
  memories = 0;
  columns = 0;
  tests = 0;
  initial = λ v. not (v 0);
  allowed = λ v. true;
  row = λ v t. Nothing;
  update = λ v k. record { coefficients = []; constant = pos 0 };
  observer = observer_of strict n;
  next = next_of n;
}

-- The first references mean what the first state bits become.
pub record AreNext (n : ℕ) (old new : Diagrams) (next : List ℕ) (bits : ℕ) : Type 0 where
  pub extends : Extends old new
  pub size : length next ≡ bits
  pub refs : (i : ℕ) → i < bits → IsRef new.nodes (ref_at next i)
  pub means : (i : ℕ) → i < bits → (v : Valuation) → value_of new.nodes (ref_at next i) v ≡ next_of n v (2 * i)
