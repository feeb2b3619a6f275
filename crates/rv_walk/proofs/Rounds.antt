-- A round of the walk in a store, whose nodes stay as more come.
use Rattle.std.proofs.Common.{ℕ, ◌+◌, ◌<◌, ◌≡◌, Bool, true, false, cond, ◌&&◌, List, [], ◌∷◌, ◌++◌, refl, sym, ap, ◌∙◌, subst, arith}
use Rattle.std.proofs.Math.Path.{fun_ext}
use Rattle.rv_diagram.specs.Nodes.{Valuation, Diagrams, IsRef, IsOrderedOver, value_of}
use Rattle.rv_diagram.specs.{Several.UsesNeeded, declared.frozen.Frozen.Frozen}
use Rattle.rv_diagram.specs.Growing.{Extends}
use Rattle.rv_diagram.proofs.Growing.{extends_trans}
use Rattle.rv_proofs.specs.Systems.{System}
use Rattle.rv_symbolic.specs.{declared.relation.NextStates.NextStates, Stepped.AreNextStates}
use Rattle.rv_symbolic.proofs.Reading.{control_set}
use Rattle.rv_walk.specs.Walks.{IsWalk, IsDone, IsExplored, missing, last_of}
use Rattle.rv_walk.specs.{declared.sets.Grown.Grown, Ends.has, Extended.fresh_in, Extended.either_in, Extended.IsFresh, Extended.IsGrown}
use Rattle.rv_walk.proofs.Stages.{walk_more, walk_less, walk_done}

-- a reference keeps its meaning
pub kept_same : (a b : Diagrams) (r : ℕ) → Extends a b → IsRef a.nodes r → value_of b.nodes r ≡ value_of a.nodes r
kept_same a b r e found = fun_ext (λ v. e.kept r found v)

module _ (s : System) (a b c : Diagrams) (sets : List Frozen) (r : ℕ) (good : Bool) (n : NextStates) (found : IsRef a.nodes r) (p : Extends a b)
    (w : IsWalk s sets (value_of a.nodes r) good) (st : AreNextStates s (last_of sets) n) where
  pub round_done : Extends b c → ((v : Valuation) → fresh_in (value_of b.nodes r) n.set v ≡ false) → IsDone s sets (value_of c.nodes r) (good && n.good)
  round_done q none = subst (λ (f : Valuation → Bool). IsDone s sets f (good && n.good)) (sym (kept_same a c r (extends_trans a b c p q) found))
      (walk_done s sets (value_of a.nodes r) good n w st (λ v. subst (λ (f : Valuation → Bool). fresh_in f n.set v ≡ false) (kept_same a b r p found) (none v)))

  module _ (g : Grown) (is : b.variables ≡ s.variables) (x : IsGrown b c r n.set g) where
    fresh_here : IsFresh s.variables (value_of a.nodes r) n.set g.fresh
    fresh_here = subst (λ (m : ℕ). IsFresh m (value_of a.nodes r) n.set g.fresh) is
        (subst (λ (f : Valuation → Bool). IsFresh b.variables f n.set g.fresh) (kept_same a b r p found) x.fresh)

    all_here : (v : Valuation) → value_of c.nodes g.all v ≡ either_in (value_of a.nodes r) n.set v
    all_here = subst (λ (f : Valuation → Bool). (v : Valuation) → value_of c.nodes g.all v ≡ either_in f n.set v) (kept_same a b r p found) x.all

    pub round_more : IsWalk s (sets ++ g.fresh ∷ []) (value_of c.nodes g.all) (good && n.good)
    round_more = walk_more s sets (value_of a.nodes r) good n g.fresh (value_of c.nodes g.all) w st fresh_here all_here

    pub round_less : (v : Valuation) → missing s.states (value_of c.nodes g.all) v < missing s.states (value_of a.nodes r) v
    round_less = walk_less s sets (value_of a.nodes r) good n g.fresh (value_of c.nodes g.all) w st fresh_here all_here

-- fewer control states are left after a round, or none was made
pub fewer_left : (n : ℕ) (old mid new : Valuation → Bool) (v : Valuation) (was more : Bool) → was ≡ true → (more ≡ true → missing n mid v < missing n old v)
    → (more ≡ false → mid ≡ old) → new ≡ mid → missing n new v + cond more 1 0 < missing n old v + cond was 1 0
fewer_left n old mid new v true true on less still same =
    let e : missing n new v ≡ missing n mid v = ap (λ (f : Valuation → Bool). missing n f v) same in
    let l : missing n mid v < missing n old v = less refl in omega (arith, e, l)
fewer_left n old mid new v true false on less still same =
    let e : missing n new v ≡ missing n old v = ap (λ (f : Valuation → Bool). missing n f v) (same ∙ still refl) in omega (arith, e)
fewer_left n old mid new v false more on less still same = let no : false ≡ true = on in cc

-- the union of the layers by itself
pub explored_of : (s : System) (d : Diagrams) (sets : List Frozen) (r : ℕ) (f : Frozen) (good : Bool) → d.variables ≡ s.variables
    → IsDone s sets (value_of d.nodes r) good → IsOrderedOver d.variables f → ((v : Valuation) → has f v ≡ value_of d.nodes r v)
    → UsesNeeded f.nodes (value_of d.nodes r) → IsExplored s sets f good
explored_of s d sets r f good is done ordered means needed = (
  control_set s f (value_of d.nodes r) (subst (λ (m : ℕ). IsOrderedOver m f) is ordered) needed done.state,
  subst (λ (g : Valuation → Bool). IsDone s sets g good) (sym (fun_ext means)) done,
)
