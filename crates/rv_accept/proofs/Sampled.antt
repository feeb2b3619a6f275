-- What is given to the checker can be met.
use Rattle.std.proofs.Common.{ℕ, zero, suc, ◌<◌, ◌≡◌, Bool, true, false, cond, [], ◌∷◌, refl, ◌∙◌, subst, arith}
use Rattle.std.proofs.lemmas.Option.{none-some, same_Some}
use Rattle.rv_diagram.specs.{Nodes.Valuation, Nodes.value_of, Nodes.IsRef, Several.ref_at}
use Rattle.rv_proofs.specs.Samples.{counting, counted, at_first, at_later, counting_on}
use Rattle.rv_proofs.specs.{Counts.HasLoop, Counts.HasFree, declared.certificate.Location.Location}
use Rattle.rv_proofs.proofs.{SampleSystems.counting_system, Counting.counted_accepted}
use Rattle.rv_cases.specs.Samples.{counting_nodes, counting_diagrams, counting_questions}
use Rattle.rv_cases.proofs.Sampling.{asked, at_one, at_six, at_eleven}
use Rattle.rv_symbolic.specs.Represented.{HaveRefs, AreParts}
use Rattle.rv_accept.specs.{Samples.counting_parts, Passing.IsGiven}
use Rattle.rv_diagram.proofs.Calls.{cond-not}

same_side : (t u : Bool) → cond t (cond u true false) true ≡ cond t u true
same_side true true = refl
same_side true false = refl
same_side false u = refl

free : HasFree counted
free zero l at none = subst (λ (x : Location). (x.first ≡ []) × (x.around ≡ [])) (same_Some at_first l at) (refl, refl)
free (suc zero) l at none = absurd (none (subst HasLoop (same_Some at_later l at) (0, counting_on, refl, tt)))
free (suc (suc k)) l at none = absurd (none-some l at)

refs : HaveRefs counting_diagrams counting_parts
refs = record {
  allowed = omega arith;
  observer = omega arith;
  initial = omega arith;
  next = one;
  copies = omega arith;
}
  where
    one : (i : ℕ) → i < 1 → IsRef counting_nodes (ref_at (1 ∷ []) i)
    one zero low = omega arith
    one (suc i) low = absurd (omega arith)

means : AreParts counting counting_diagrams counting_parts
means = record {
  variables = refl;
  states = refl;
  allowed = at_one;
  observer = λ v. at_eleven v ∙ same_side (v 0) (v 3);
  initial = λ v. at_six v ∙ cond-not (v 0);
  next = one;
}
  where
    one : (i : ℕ) → i < 1 → (v : Valuation) → value_of counting_nodes (ref_at (1 ∷ []) i) v ≡ true
    one zero low v = at_one v
    one (suc i) low v = absurd (omega arith)

pub given : IsGiven counting counting_diagrams counting_parts counting_questions counted
given = record {
  held = record { system = counting_system; refs = refs; means = means };
  questions = asked;
  range = counted_accepted.partition.in_range;
  free = free;
}
