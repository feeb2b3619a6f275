-- Tables of which instance a call of an instance gives, by numbers.
use Rattle.std.specs.Prelude.{ℕ, ◌&&◌, cond, nat_eq, List, [], ◌∷◌, Option, Some, None as Nothing}

-- the instance that the call of an instance with a site gives, as the first entry tells it
abbrev pub callee_in : List ((ℕ × ℕ) × ℕ) → ℕ → ℕ → Option ℕ
callee_in [] i s = Nothing
callee_in (e ∷ es) i s = cond (nat_eq i e.0.0 && nat_eq s e.0.1) (Some e.1) (callee_in es i s)
