-- Assertions read in their order.
use Rattle.std.proofs.Common.{◌≡◌, ℕ, ◌+◌, ◌<◌, ◌≤◌, Bool, true, false, ◌&&◌, cond, List, ◌∷◌, length, drop, refl, sym, ◌∙◌, ap, Option, Some, None as Nothing}
use Rattle.std.proofs.Math.ListN.{drop_of_length-le}
use Rattle.rv_types.specs.declared.typed.Kind.TheVariants as kind
use Rattle.rv_diagram.specs.Nodes.{Valuation, Diagrams, Answers, IsRef, value_of}
use Rattle.rv_diagram.specs.Growing.{Extends}
use Rattle.rv_diagram.proofs.Growing.{extends_trans}
use Rattle.rv_agreement.specs.Valuations.{Reading, Truth, holds_true, read, IsSymbolic}
use Rattle.rv_agreement.specs.{Agreement.ItemFits, Agreement.IsNamed, Trees.FlatTree, Trees.Item}
use Rattle.rv_control.specs.{Control.all_met, Named.named}
use Rattle.rv_flat.specs.{declared.flat.Flat.Flat, FlatInstants.system_of}
use Rattle.rv_symbolic.specs.Growing.{Makes}
use Rattle.rv_bits.specs.Shown.{clock_bit, is_there_at, AreFlowRefs, ReadsTo}
use Rattle.rv_bits.specs.{Asserted.met_at, Asserted.IsMetRead, Asserted.AreMetRead, declared.around.FlowRefs.FlowRefs, Bits.bit}
use Rattle.rv_bits.specs.declared.assertions.Guard.TheVariants as guard
use Rattle.rv_bits.proofs.{Showing.shows_truth, Labels.and_step}

pub met_made : (f : Flat) (a b c : Diagrams) (r : FlowRefs) (clock : Option ℕ) (t : FlatTree) (bits : List ℕ) (one : ℕ) → ReadsTo f a b t bits
    → AreFlowRefs f b.nodes r → IsNamed (length r.on) clock
    → Makes b c (λ v. cond (clock_bit b.nodes r.on clock v) (bit b.nodes bits v 0) true) one → IsMetRead f a c (record { clock = clock; body = t }) one
met_made f a b c r clock t bits one reads flows within made = record {
  extends = extends_trans a b c reads.extends made.extends;
  is_ref = made.found;
  means = λ v row instant fits. made.means v ∙ by v row instant fits clock within (is_there_at f v row clock) refl;
}
  where
    shown : (k : Option ℕ) → IsNamed (length r.on) k → (v : Valuation) (row : List (Option Reading)) → IsSymbolic (system_of f) (named f v) row
        → clock_bit b.nodes r.on k v ≡ is_there_at f v row k
    shown Nothing within v row instant = refl
    shown (Some n) within v row instant = flows.on_shows n v row within instant

    by : (v : Valuation) (row : List (Option Reading)) → IsSymbolic (system_of f) (named f v) row
        → ItemFits (system_of f) (length (system_of f).flows) kind.Bool (record { clock = clock; body = t })
        → (k : Option ℕ) → IsNamed (length r.on) clock → (there : Bool) → is_there_at f v row clock ≡ there
        → cond (clock_bit b.nodes r.on clock v) (bit b.nodes bits v 0) true ≡ met_at f v row (record { clock = clock; body = t })
    by v row instant fits k inside there is = ap (λ x. cond x (bit b.nodes bits v 0) true) (shown clock inside v row instant) ∙ cases there is
      where
        cases : (x : Bool) → is_there_at f v row clock ≡ x → cond (is_there_at f v row clock) (bit b.nodes bits v 0) true ≡ met_at f v row
            (record { clock = clock; body = t })
        cases true e =
            let own : read (system_of f) (named f v) row t ≡ Truth (bit b.nodes bits v 0) = shows_truth b.nodes v bits (read (system_of f) (named f v) row t)
            (reads.shows v row clock kind.Bool instant fits.1 e) in
            ap (λ x. cond (is_there_at f v row clock) x true) (sym (ap holds_true own))
        cases false e = ap (λ x. cond x (bit b.nodes bits v 0) true) e ∙ sym (ap (λ x. cond x (holds_true (read (system_of f) (named f v) row t)) true) e)

and_done : (all total : Bool) → (all && true) ≡ total → all ≡ total
and_done true total e = e
and_done false total e = e

-- an assertion more
pub met_more : (f : Flat) (a s mid new : Diagrams) (xs : List Item) (i : ℕ) (x : Item) (all one r : ℕ) → i < length xs → drop i xs ≡ x ∷ drop (i + 1) xs
    → IsRef s.nodes all → IsMetRead f s mid x one
    → ItemFits (system_of f) (length (system_of f).flows) kind.Bool x → Answers mid new (λ v. value_of mid.nodes all v && value_of mid.nodes one v) r
    → (v : Valuation) (row : List (Option Reading)) → IsSymbolic (system_of f) (named f v) row
    → (value_of s.nodes all v && all_met (system_of f) (named f v) row (drop i xs)) ≡ all_met (system_of f) (named f v) row xs
    → (value_of new.nodes r v && all_met (system_of f) (named f v) row (drop (i + 1) xs)) ≡ all_met (system_of f) (named f v) row xs
unfolding all_met
met_more f a s mid new xs i x all one r lt left is met fits t v row instant before =
    let rest : Bool = all_met (system_of f) (named f v) row (drop (i + 1) xs) in
    (λ k. (t.means v ∙ (λ j. met.extends.kept all is v j && met.means v row instant fits j)) k && rest)
    ∙ and_step (value_of s.nodes all v) (met_at f v row x) rest (all_met (system_of f) (named f v) row xs)
    ((λ k. value_of s.nodes all v && all_met (system_of f) (named f v) row (sym left k)) ∙ before)

pub met_all : (f : Flat) (a b : Diagrams) (xs : List Item) (i all : ℕ) → length xs ≤ i → Extends a b → IsRef b.nodes all
    → ((v : Valuation) (row : List (Option Reading)) → IsSymbolic (system_of f) (named f v) row
    → (value_of b.nodes all v && all_met (system_of f) (named f v) row (drop i xs)) ≡ all_met (system_of f) (named f v) row xs)
    → AreMetRead f a b xs all
unfolding all_met
met_all f a b xs i all le e is before = record {
  extends = e;
  is_ref = is;
  means = λ v row instant. and_done (value_of b.nodes all v) (all_met (system_of f) (named f v) row xs)
      ((λ k. value_of b.nodes all v && all_met (system_of f) (named f v) row (sym (drop_of_length-le xs le) k)) ∙ before v row instant);
}
