-- Sets of control states as diagrams of no node and of one.
use Rattle.std.proofs.Common.{ℕ, ◌<◌, ◌≡◌, true, List, [], ◌∷◌, sym, subst, arith}
use Rattle.rv_diagram.specs.{Nodes.Valuation, Nodes.value_of, declared.Triple.Triple}
use Rattle.rv_diagram.proofs.Meaning.{value_of-constant}
use Rattle.rv_proofs.specs.Scopes.{IsIn}
use Rattle.rv_split.specs.Partitions.{IsStateSet}
use Rattle.rv_split.proofs.Sets.{variable_means}

-- all control states, or none
pub constant-set : (m : ℕ) (state : List ℕ) (nodes : List Triple) (root : ℕ) → nodes ≡ [] → root < 2
    → IsStateSet m state (record { nodes = nodes; root = root })
constant-set m state nodes root none low =
    subst (λ (l : List Triple). IsStateSet m state (record { nodes = l; root = root })) (sym none) (record {
      ordered = record { placed = λ i h. absurd (omega (arith, h)); low = λ i h. absurd (omega (arith, h)); root = omega (arith, low) };
      states = λ n h. absurd (omega (arith, h));
    })

-- all of them
pub constant-some : (nodes : List Triple) → (v : Valuation) × IsIn (record { nodes = nodes; root = 1 }) v
constant-some nodes = (λ n. true, value_of-constant nodes (λ n. true) 1 (omega arith))

-- those at which a variable is true
pub variable-some : (x : ℕ) (nodes : List Triple) → nodes ≡ record { var = x; lo = 0; hi = 1 } ∷ []
    → (v : Valuation) × IsIn (record { nodes = nodes; root = 2 }) v
variable-some x nodes is =
    (λ n. true, subst (λ (l : List Triple). value_of l 2 (λ n. true) ≡ true) (sym is) (variable_means x (λ n. true)))
