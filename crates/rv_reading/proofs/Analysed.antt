-- What is proved of the least closed row claim of a system, and how an analysis ends.
use Rattle.std.proofs.Common.{◌≡◌, ℤ, List, Result, Ok, false, sym, ◌∙◌, subst, true≢false}
use Rattle.std.specs.Prelude.{IfOk}
use Rattle.rv_diagram.specs.Nodes.{Valuation, Diagrams}
use Rattle.rv_proofs.specs.RowClaims.{RowClaim, IsRowTaken, IsRowGood, IsLeastRowClosed, HasGoodRows}
use Rattle.rv_proofs.specs.Systems.{System}
use Rattle.rv_symbolic.specs.declared.relation.Relation.{Relation}
use Rattle.rv_cases.specs.declared.asking.Questions.{Questions}
use Rattle.rv_rise.specs.Rounds as rise
use Rattle.rv_claimed.specs.Certifying as claimed
use Rattle.rv_reading.specs.Analysing.{IsGiven}

module _ (s : System) (d : Diagrams) (r : Relation) (q : Questions) (thresholds : List ℤ) (given : IsGiven s d r q thresholds) where
  pub rising : rise.IsGiven s d r q
  rising = record { relation = given.relation; questions = given.questions }

  pub claiming : claimed.IsGiven s d r q
  claiming = record { relation = given.relation; questions = given.questions }

-- the same in a store that is as it was
pub given_there : (s : System) (d e : Diagrams) (r : Relation) (q : Questions) (thresholds : List ℤ) → e ≡ d → IsGiven s d r q thresholds
    → IsGiven s e r q thresholds
given_there s d e r q thresholds same given = subst (λ (x : Diagrams). IsGiven s x r q thresholds) (sym same) given

module _ (s : System) (thresholds : List ℤ) (c : RowClaim) (least : IsLeastRowClosed s thresholds c)
    (good : HasGoodRows s thresholds → IsRowGood s c) where
  -- a claim that has a bad valuation is not good
  pub not_good : (v : Valuation) × IsRowTaken s c v × (s.observer v ≡ false) → HasGoodRows s thresholds → ⊥
  not_good (v, taken, fails) has = true≢false (sym (good has v taken) ∙ fails)

-- what holds of an answer holds of the value that it is
pub of_value : {X E : Type 0} (P : X → Type 0) (o : Result X E) (x : X) → IfOk o P → o ≡ Ok x → P x
of_value P o x holds is = subst (λ (r : Result _ _). IfOk r P) is holds
