-- Expressions that fit the first flows.
use Rattle.std.proofs.Common.{ℕ, ◌≤◌, arith, Option, Some, None as Nothing}
use Rattle.rv_tree.specs.Places.{Sites}
use Rattle.rv_types.specs.declared.typed.Kind.{Kind}
use Rattle.rv_types.specs.declared.typed.Kind.TheVariants as kind
use Rattle.rv_agreement.specs.Agreement.{Fits, FormFits, AllFit, IsNamed}
use Rattle.rv_agreement.specs.Trees.{FlatTree, Node, TreeForm, FlatTrees, Flow, Not, Binary, Scale, If, AtMostOne, When, Current, None, More, nth_item, System}
use Rattle.rv_flat.specs.Tame.{IsOver, FormIsOver, AreOver}

module _ (s : System) (n : ℕ) where
  mutual
    -- they name these flows alone
    pub over_fits : (k : Option ℕ) (j : Kind) (e : FlatTree) → Fits s n k j e → IsOver n e
    over_fits k j (Node at form) fit = form_over k j at form fit

    form_over : (k : Option ℕ) (j : Kind) (at : Sites) (form : TreeForm) → FormFits s n k j at form → FormIsOver n form
    form_over k j at (Flow c) fit = fit.0
    form_over k j at (Not e) fit = over_fits k kind.Bool e fit.1
    form_over k j at (Binary o a b) fit = (over_fits k fit.0 a fit.3, over_fits k fit.0 b fit.4)
    form_over k j at (Scale z e) fit = over_fits k kind.Int e fit.1
    form_over k j at (If c a b) fit = (over_fits k kind.Bool c fit.0, (over_fits k j a fit.1, over_fits k j b fit.2))
    form_over k j at (AtMostOne es) fit = all_over k es fit.1
    form_over k j at (When c e) fit = over_fits (nth_item s.flows c).clock j e fit.2
    form_over k j at (Current m i e) fit = (fit.3, over_fits i j e fit.4)
    form_over k j at _ fit = tt

    all_over : (k : Option ℕ) (es : FlatTrees) → AllFit s n k es → AreOver n es
    all_over k None fit = tt
    all_over k (More e es) fit = (over_fits k kind.Bool e fit.0, all_over k es fit.1)

pub named_more : (n m : ℕ) → n ≤ m → (k : Option ℕ) → IsNamed n k → IsNamed m k
named_more n m le Nothing named = tt
named_more n m le (Some c) named = omega arith

module _ (s : System) (n m : ℕ) (le : n ≤ m) where
  mutual
    -- and fit more flows
    pub fits_more : (k : Option ℕ) (j : Kind) (e : FlatTree) → Fits s n k j e → Fits s m k j e
    fits_more k j (Node at form) fit = form_more k j at form fit

    form_more : (k : Option ℕ) (j : Kind) (at : Sites) (form : TreeForm) → FormFits s n k j at form → FormFits s m k j at form
    form_more k j at (Flow c) fit = (omega (arith, fit.0), fit.1, fit.2)
    form_more k j at (Not e) fit = (fit.0, fits_more k kind.Bool e fit.1)
    form_more k j at (Binary o a b) fit = (fit.0, fit.1, fit.2, fits_more k fit.0 a fit.3, fits_more k fit.0 b fit.4)
    form_more k j at (Scale z e) fit = (fit.0, fits_more k kind.Int e fit.1)
    form_more k j at (If c a b) fit = (fits_more k kind.Bool c fit.0, fits_more k j a fit.1, fits_more k j b fit.2)
    form_more k j at (AtMostOne es) fit = (fit.0, all_more k es fit.1)
    form_more k j at (When c e) fit = (fit.0, omega (arith, fit.1), fits_more (nth_item s.flows c).clock j e fit.2)
    form_more k j at (Current i c e) fit = (fit.0, fit.1, fit.2, named_more n m le c fit.3, fits_more c j e fit.4)
    form_more k j at _ fit = fit

    all_more : (k : Option ℕ) (es : FlatTrees) → AllFit s n k es → AllFit s m k es
    all_more k None fit = fit
    all_more k (More e es) fit = (fits_more k kind.Bool e fit.0, all_more k es fit.1)
