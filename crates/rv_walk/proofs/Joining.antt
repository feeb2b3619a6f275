-- Two sets in a store: what is new in the second, and both together.
use Rattle.std.proofs.Common.{ℕ, ◌≡◌, false, not, ◌&&◌, ◌||◌, sym, ap, ◌∙◌, subst, arith, Option, Some, None}
use Rattle.std.specs.Prelude.{MatchOption}
use Rattle.rv_diagram.specs.Nodes.{Valuation, Diagrams, Answers, IsRef, IsOrderedOver, value_of}
use Rattle.rv_diagram.specs.{Several.UsesNeeded, declared.frozen.Frozen.Frozen}
use Rattle.rv_diagram.specs.Growing.{Extends}
use Rattle.rv_diagram.proofs.Growing.{extends_trans, grows_extends}
use Rattle.rv_proofs.specs.{Systems.System, Systems.HasSameState, Ranges.IsControlSet}
use Rattle.rv_symbolic.specs.Growing.{Makes}
use Rattle.rv_symbolic.proofs.{Extending.needed_same, Reading.control-value, Reading.control_set}
use Rattle.rv_walk.specs.Extended.{fresh_of, either_of, fresh_in, either_in, IsTaken, IsExtended, IsWithout, IsGrown, IsLifted}
use Rattle.rv_walk.specs.{declared.sets.Extended.Extended, declared.sets.Grown.Grown, Ends.has}

-- a set of the store and another
module _ (s0 s1 s2 s3 : Diagrams) (next : Frozen) (before step fresh all : ℕ) (here : IsRef s0.nodes before)
    (a : Answers s0 s1 (value_of next.nodes next.root) step)
    (c : Makes s1 s2 (λ v. value_of s1.nodes step v && not (value_of s1.nodes before v)) fresh)
    (d : Answers s2 s3 (λ v. value_of s2.nodes step v || value_of s2.nodes before v) all) where
  pub joined_extends : Extends s0 s3
  joined_extends = extends_trans s0 s2 s3 (extends_trans s0 s1 s2 (grows_extends s0 s1 a.grows) c.extends) (grows_extends s2 s3 d.grows)

  still_here : IsRef s1.nodes before
  still_here = omega (arith, here, a.grows.longer)

  pub joined_fresh : Makes s0 s3 (fresh_in (value_of s0.nodes before) next) fresh
  joined_fresh = record {
    extends = joined_extends;
    found = omega (arith, c.found, d.grows.longer);
    means = λ v. d.grows.kept fresh c.found v ∙ c.means v ∙ ap (λ x. x && not (value_of s1.nodes before v)) (a.means v)
        ∙ ap (λ x. has next v && not x) (a.grows.kept before here v);
  }

  pub joined_all : Makes s0 s3 (either_in (value_of s0.nodes before) next) all
  joined_all = record {
    extends = joined_extends;
    found = d.found;
    means = λ v. d.means v ∙ ap (λ x. x || value_of s2.nodes before v) (c.extends.kept step a.found v ∙ a.means v)
        ∙ ap (λ x. has next v || x) (c.extends.kept before still_here v ∙ a.grows.kept before here v);
  }

-- two sets, of which the first was thawed
module _ (s0 s1 s2 : Diagrams) (reached next : Frozen) (before r : ℕ) (a : Answers s0 s1 (value_of reached.nodes reached.root) before) where
  pub join_fresh : Makes s1 s2 (fresh_in (value_of s1.nodes before) next) r → Makes s0 s2 (fresh_of reached next) r
  join_fresh m = record {
    extends = extends_trans s0 s1 s2 (grows_extends s0 s1 a.grows) m.extends;
    found = m.found;
    means = λ v. m.means v ∙ ap (λ x. has next v && not x) (a.means v);
  }

  pub join_all : Makes s1 s2 (either_in (value_of s1.nodes before) next) r → Makes s0 s2 (either_of reached next) r
  join_all m = record {
    extends = extends_trans s0 s1 s2 (grows_extends s0 s1 a.grows) m.extends;
    found = m.found;
    means = λ v. m.means v ∙ ap (λ x. has next v || x) (a.means v);
  }

pub grown_of : (s0 s1 : Diagrams) (reached : ℕ) (next : Frozen) (fresh all : ℕ) (found : Option Grown)
    → Makes s0 s1 (fresh_in (value_of s0.nodes reached) next) fresh → Makes s0 s1 (either_in (value_of s0.nodes reached) next) all
    → MatchOption found ((v : Valuation) → value_of s1.nodes fresh v ≡ false) (IsLifted s1 fresh all)
    → MatchOption found ((v : Valuation) → fresh_in (value_of s0.nodes reached) next v ≡ false) (IsGrown s0 s1 reached next)
grown_of s0 s1 reached next fresh all None one two none = λ v. sym (one.means v) ∙ none v
grown_of s0 s1 reached next fresh all (Some g) one two t = record {
  fresh = record {
    ordered = subst (λ (m : ℕ). IsOrderedOver m g.fresh) one.extends.variables t.ordered;
    exact = λ v. t.exact v ∙ one.means v;
    needed = needed_same g.fresh.nodes (value_of s1.nodes fresh) (fresh_in (value_of s0.nodes reached) next) one.means t.needed;
    some = λ none. t.some (λ v. sym (t.exact v) ∙ none v);
  };
  found = subst (λ (n : ℕ). IsRef s1.nodes n) (sym t.all) two.found;
  all = λ v. ap (λ (n : ℕ). value_of s1.nodes n v) t.all ∙ two.means v;
}

pub extended_of : (s0 s1 : Diagrams) (reached next : Frozen) (fresh all : ℕ) (found : Option Extended) → Makes s0 s1 (fresh_of reached next) fresh
    → Makes s0 s1 (either_of reached next) all
    → MatchOption found ((v : Valuation) → value_of s1.nodes fresh v ≡ false) (IsTaken s1 fresh all)
    → MatchOption found ((v : Valuation) → fresh_of reached next v ≡ false) (IsExtended s0.variables reached next)
extended_of s0 s1 reached next fresh all None one two none = λ v. sym (one.means v) ∙ none v
extended_of s0 s1 reached next fresh all (Some e) one two t = record {
  fresh_ordered = subst (λ (m : ℕ). IsOrderedOver m e.fresh) one.extends.variables t.fresh_ordered;
  fresh_is = λ v. t.fresh_is v ∙ one.means v;
  fresh_needed = needed_same e.fresh.nodes (value_of s1.nodes fresh) (fresh_of reached next) one.means t.fresh_needed;
  some = λ none. t.some (λ v. sym (t.fresh_is v) ∙ none v);
  all_ordered = subst (λ (m : ℕ). IsOrderedOver m e.all) one.extends.variables t.all_ordered;
  all_is = λ v. t.all_is v ∙ two.means v;
  all_needed = needed_same e.all.nodes (value_of s1.nodes all) (either_of reached next) two.means t.all_needed;
}

-- CONTROL STATES

module _ (s : System) (a b : Frozen) (left : IsControlSet s a) (right : IsControlSet s b) where
  fresh_state : (v w : Valuation) → HasSameState s v w → fresh_of a b v ≡ fresh_of a b w
  fresh_state v w same = ap (λ x. x && not (has a v)) (control-value s b v w right same) ∙ ap (λ x. has b w && not x) (control-value s a v w left same)

  either_state : (v w : Valuation) → HasSameState s v w → either_of a b v ≡ either_of a b w
  either_state v w same = ap (λ x. x || has a v) (control-value s b v w right same) ∙ ap (λ x. has b w || x) (control-value s a v w left same)

  pub extended_control : (e : Extended) → IsExtended s.variables a b e → IsControlSet s e.fresh × IsControlSet s e.all
  extended_control e x = (
    control_set s e.fresh (fresh_of a b) x.fresh_ordered x.fresh_needed fresh_state,
    control_set s e.all (either_of a b) x.all_ordered x.all_needed either_state,
  )

  pub extended_found : (m : ℕ) (found : Option Extended) → m ≡ s.variables
      → MatchOption found ((v : Valuation) → fresh_of a b v ≡ false) (IsExtended m a b)
      → (e : Extended) → found ≡ Some e → IsControlSet s e.fresh × IsControlSet s e.all
  extended_found m found is h e got =
      let x : IsExtended m a b e = subst (λ (o : Option Extended). MatchOption o ((v : Valuation) → fresh_of a b v ≡ false) (IsExtended m a b)) got h in
      extended_control e (subst (λ (k : ℕ). IsExtended k a b e) is x)

  pub without_control : (f : Frozen) → IsWithout s.variables b a f → IsControlSet s f
  without_control f x = control_set s f (fresh_of a b) x.ordered x.needed fresh_state

-- what is left of the first of two sets
pub without_made : (s0 s1 s2 s3 : Diagrams) (a b f : Frozen) (one other left : ℕ) → Answers s0 s1 (value_of a.nodes a.root) one
    → Answers s1 s2 (value_of b.nodes b.root) other → Makes s2 s3 (λ v. value_of s2.nodes one v && not (value_of s2.nodes other v)) left
    → IsOrderedOver s3.variables f → ((v : Valuation) → has f v ≡ value_of s3.nodes left v) → UsesNeeded f.nodes (value_of s3.nodes left)
    → IsWithout s0.variables a b f
without_made s0 s1 s2 s3 a b f one other left p q r ordered means needed =
    let made : (v : Valuation) → value_of s3.nodes left v ≡ fresh_of b a v = λ v. r.means v
    ∙ ap (λ x. x && not (value_of s2.nodes other v)) (q.grows.kept one p.found v ∙ p.means v) ∙ ap (λ x. has a v && not x) (q.means v) in
    record {
      ordered = subst (λ (m : ℕ). IsOrderedOver m f) (r.extends.variables ∙ q.grows.variables ∙ p.grows.variables) ordered;
      exact = λ v. means v ∙ made v;
      needed = needed_same f.nodes (value_of s3.nodes left) (fresh_of b a) made needed;
    }
