-- Both systems are well formed, and the clock of the comparison tells them apart.
use Rattle.std.proofs.Common.{ap, ◌≡◌, ℕ, zero, suc, ◌<◌, [], ◌∷◌, refl, sym, ◌∙◌, subst, arith, Some, None as Nothing}
use Rattle.std.specs.{Prelude.slice_index_or, List.Contains}
use Rattle.rv_tree.specs.declared.tree.Op.TheVariants as op
use Rattle.rv_types.specs.declared.typed.Kind.TheVariants as kind
use Rattle.rv_agreement.specs.Trees.{FlatTree, Node, Binary, When, nth_item, kind_at}
use Rattle.rv_agreement.specs.{Valuations.Comparison, Valuations.all_comparisons, Agreement.Fits, Agreement.ItemFits, Agreement.IsNamed, Agreement.IsWell}
use Rattle.rv_agreement.specs.{Examples.flow, Examples.system_of, Examples.compared_then_sampled, Examples.sampled_then_compared}
use Rattle.rv_agreement.proofs.Matching.{only_one}

flow_fits : (body : FlatTree) → Fits (system_of body) 3 (Some 2) kind.Bool body → (k : ℕ) → k < 4
    → ItemFits (system_of body) k (kind_at (system_of body).kinds k) (nth_item (system_of body).flows k)
flow_fits body fit zero lt = (tt, (omega arith, refl))
flow_fits body fit (suc zero) lt = (tt, (omega arith, refl))
flow_fits body fit (suc (suc zero)) lt = (tt, (omega arith, refl))
flow_fits body fit (suc (suc (suc zero))) lt = (omega arith, fit)
flow_fits body fit (suc (suc (suc (suc k)))) lt = absurd (omega arith)

well_of : (body : FlatTree) (c : Comparison) → Fits (system_of body) 3 (Some 2) kind.Bool body → all_comparisons (system_of body) ≡ c ∷ []
    → IsWell (system_of body)
well_of body c fit one = record {
  kinds = refl;
  flows = flow_fits body fit;
  memories = λ m lt. absurd (omega arith);
  assertions = λ k lt. absurd (omega arith);
  observer = omega arith;
  ticks = refl;
  tick_clocks = λ k lt. clock k lt;
  ticks_apart = λ j k less lt same. omega arith;
  memories_apart = λ j k less lt same. absurd (omega arith);
  apart = λ d e v w same.
      let first : c ≡ d = only_one c d (subst (λ cs. Contains cs d) one v) in
      let second : c ≡ e = only_one c e (subst (λ cs. Contains cs e) one w) in
      let one_is : d ≡ e = sym first ∙ second in (ap (λ x. x.left) one_is, ap (λ x. x.right) one_is);
}
  where
    clock : (k : ℕ) → k < 1 → IsNamed 4 (slice_index_or (Nothing ∷ []) k Nothing)
    clock zero lt = tt
    clock (suc k) lt = absurd (omega arith)

pub first_well : IsWell compared_then_sampled
first_well = well_of (Node [] (When 2 (Node (4 ∷ []) (Binary op.Less (flow 0) (flow 1)))))
    (record { at = 4 ∷ []; clock = Nothing; operator = op.Less; left = flow 0; right = flow 1 })
    (refl, omega arith, (kind.Int, (refl, refl), (λ some. refl), (omega arith, refl, refl), (omega arith, refl, refl))) refl

pub second_well : IsWell sampled_then_compared
second_well = well_of (Node (4 ∷ []) (Binary op.Less (Node [] (When 2 (flow 0))) (Node [] (When 2 (flow 1)))))
    (record { at = 4 ∷ []; clock = Some 2; operator = op.Less; left = Node [] (When 2 (flow 0)); right = Node [] (When 2 (flow 1)) })
    (kind.Int, (refl, refl), (λ some. refl), (refl, omega arith, (omega arith, refl, refl)), (refl, omega arith, (omega arith, refl, refl))) refl
