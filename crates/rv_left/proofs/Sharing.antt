-- Sets with a valuation in common, in a store.
use Rattle.std.proofs.Common.{◌≡◌, Bool, true, false, ◌&&◌, sym, ◌∙◌, subst}
use Rattle.std.proofs.lemmas.Bool.{and_from, and_parts, both_ways}
use Rattle.std.specs.Prelude.{MatchBool}
use Rattle.rv_diagram.specs.Nodes.{Valuation}
use Rattle.rv_left.specs.Meeting.{IsEither}

-- a conjunction is true somewhere, or nowhere
pub either_of_both : (a b both : Valuation → Bool) (met : Bool) → ((v : Valuation) → both v ≡ (a v && b v))
    → MatchBool met ((v : Valuation) × (both v ≡ true)) ((v : Valuation) → both v ≡ false) → IsEither a b met
either_of_both a b both true is (v, h) =
    let p : (a v ≡ true) × (b v ≡ true) = and_parts (a v) (b v) (sym (is v) ∙ h) in (v, p.0, p.1)
either_of_both a b both false is none = λ v h g. both_ways (both v) (none v) (is v ∙ and_from (a v) (b v) h g)

-- the same of equal sets
pub either_same : (a b c d : Valuation → Bool) (met : Bool) → a ≡ c → b ≡ d → IsEither a b met → IsEither c d met
either_same a b c d met e f h =
    subst (λ (x : Valuation → Bool). IsEither x d met) e (subst (λ (x : Valuation → Bool). IsEither a x met) f h)
