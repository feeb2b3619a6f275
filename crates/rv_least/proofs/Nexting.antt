-- One step from all valuations that a claim takes.
use Rattle.std.proofs.Common.{◌≡◌, ℕ, Bool, true, false, not, ◌&&◌, List, MatchBool, refl, sym, ap, ◌∙◌}
use Rattle.std.proofs.lemmas.Bool.{and_from, and_parts}
use Rattle.rv_diagram.specs.{Nodes.Valuation, Nodes.Diagrams, Nodes.Answers, Nodes.IsRef, Nodes.value_of, Growing.Extends, declared.frozen.Frozen.Frozen}
use Rattle.rv_diagram.proofs.Growing.{extends_trans, grows_extends}
use Rattle.rv_proofs.specs.{Systems.System, Systems.IsSystem}
use Rattle.rv_symbolic.specs.declared.relation.NextStates.{NextStates}
use Rattle.rv_leaving.specs.Exits.{AreTakenFrom, AreLeft}
use Rattle.rv_boxes.specs.{declared.frame.Frame.Frame, declared.claim.Claim.Claim, Claiming.claim_of, Opening.IsFrameOf, Rounds.IsKeptClaim, Layering.IsTakenAt}
use Rattle.rv_boxes.proofs.{Narrowing.narrowed_system, Rounding.kept_claim}
use Rattle.rv_least.specs.Rounds.{IsGoodAt, AreNextOf}

not_true : (b : Bool) → not b ≡ true → b ≡ false
not_true true e = cc
not_true false e = refl

both_false : (a b : Bool) → (a && not b) ≡ false → a ≡ true → b ≡ true
both_false true true e f = refl
both_false true false e f = cc
both_false false b e f = cc

module _ (s0 s1 s2 : Diagrams) (taken observer unseen bad : ℕ) (found : IsRef s0.nodes taken)
    (p : Answers s0 s1 (λ v. not (value_of s0.nodes observer v)) unseen)
    (q : Answers s1 s2 (λ v. value_of s1.nodes taken v && value_of s1.nodes unseen v) bad) where
  bad_is : (v : Valuation) → value_of s2.nodes bad v ≡ (value_of s0.nodes taken v && not (value_of s0.nodes observer v))
  bad_is v = q.means v ∙ ap (λ b. b && value_of s1.nodes unseen v) (p.grows.kept taken found v) ∙ ap (λ b. value_of s0.nodes taken v && b) (p.means v)

  pub good_extends : Extends s0 s2
  good_extends = extends_trans s0 s1 s2 (grows_extends s0 s1 p.grows) (grows_extends s1 s2 q.grows)

  pub good_made : (met : Bool) → MatchBool met ((v : Valuation) × (value_of s2.nodes bad v ≡ true)) ((v : Valuation) → value_of s2.nodes bad v ≡ false)
      → IsGoodAt s0.nodes taken observer (not met)
  good_made true (v, e) = record {
    all_good = λ (d : false ≡ true). cc;
    some_bad = λ d.
        let (a, b) = and_parts (value_of s0.nodes taken v) (not (value_of s0.nodes observer v)) (sym (bad_is v) ∙ e) in
        (v, a, not_true (value_of s0.nodes observer v) b);
  }
  good_made false none = record {
    all_good = λ d v t. both_false (value_of s0.nodes taken v) (value_of s0.nodes observer v) (sym (bad_is v) ∙ none v) t;
    some_bad = λ (d : true ≡ false). cc;
  }

-- the valuations that a claim takes
pub taken_from : (s : System) → IsSystem s → (f : Frame) → IsFrameOf s f → (c : Claim) → IsKeptClaim s f c → (d : Diagrams) (r : ℕ)
    → IsTakenAt s d (claim_of c) r → AreTakenFrom s d.nodes c.reached r
taken_from s is f frame c kept d r taken = record {
  found = taken.found;
  same = λ v w e.
      let n = narrowed_system s is f.thresholds (claim_of c) (kept_claim s f frame c kept) kept.states (value_of d.nodes r) taken.exact in
      n.allowed v w e;
  allowed = λ v t. let k = (taken.exact v).0 t in k.allowed;
  inside = λ v t. let k = (taken.exact v).0 t in k.reached;
}

pub next_made : (s : System) (d : Diagrams) (c : Claim) (r observer : ℕ) (set : Frozen) (good : Bool) → IsTakenAt s d (claim_of c) r
    → ((v : Valuation) → value_of d.nodes observer v ≡ s.observer v) → AreLeft s d.nodes c.reached r set → IsGoodAt d.nodes r observer good
    → AreNextOf s (claim_of c) (record { set = set; good = good })
next_made s d c r observer set good taken means left judged = record {
  control = left.control;
  made = λ v i. let (w, on, same) = left.made v i in (w, (taken.exact w).0 on, same);
  there = λ w t. left.there w ((taken.exact w).1 t);
  all_good = λ e v t. sym (means v) ∙ judged.all_good e v ((taken.exact v).1 t);
  some_bad = λ e. let (v, on, bad) = judged.some_bad e in (v, (taken.exact v).0 on, sym (means v) ∙ bad);
}
