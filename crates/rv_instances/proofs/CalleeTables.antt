-- What a map of calls by their hashes answers, in the words of a table of calls.
use Rattle.std.proofs.Common.{◌≡◌, ℕ, ◌&&◌, cond, nat_eq, List, [], ◌∷◌, Option, Some, refl, ap}
use Rattle.std.specs.Map.{lookup}
use Rattle.rv_instances.specs.Callees.{callee_in}

pub looked_up : (es : List ((ℕ × ℕ) × ℕ)) (i s : ℕ) → lookup (λ (k : ℕ × ℕ). nat_eq i k.0 && nat_eq s k.1) es ≡ callee_in es i s
looked_up [] i s = refl
looked_up (e ∷ es) i s = ap (λ (o : Option ℕ). cond (nat_eq i e.0.0 && nat_eq s e.0.1) (Some e.1) o) (looked_up es i s)
