-- How much room calls need, in nodes of a list over m variables.
use Rattle.std.specs.Prelude.{ℕ, zero, suc, ◌+◌, ◌-◌, ◌*◌, ◌^◌, ◌<◌, ◌≤◌, ◌≡◌, Bool, true, List, length, if◌then◌else◌}
use Rattle.rv_diagram.specs.Nodes.{Diagrams, node_at}
use Rattle.rv_diagram.specs.declared.Triple.{Triple}

-- what a step of a few calls may add: (m + 2)^2 times what one building call may
unfoldable pub step_room : ℕ → ℕ
step_room m = (m + 2) * (m + 2) * 2 ^ (m + 1)

-- the limit leaves no room for so many steps
abbrev pub Lacks : ℕ → Diagrams → Type 0
Lacks k d = d.limit < length d.nodes + k * step_room d.variables

-- how many of the first n numbers are in the set
abbrev pub number_in : (ℕ → Bool) → ℕ → ℕ
number_in p zero = 0
number_in p (suc n) = (if p n then 1 else 0) + number_in p n

-- the set has the node of the reference, and with each node its children
pub record HasReached (nodes : List Triple) (root : ℕ) (p : ℕ → Bool) : Type 0 where
  pub whole : 2 ≤ root → p (root - 2) ≡ true
  pub lo : (i : ℕ) → i < length nodes → p i ≡ true → 2 ≤ (node_at nodes i).lo → p ((node_at nodes i).lo - 2) ≡ true
  pub hi : (i : ℕ) → i < length nodes → p i ≡ true → 2 ≤ (node_at nodes i).hi → p ((node_at nodes i).hi - 2) ≡ true
