-- The layers of a claim, from one to the next.
use Rattle.std.proofs.Common.{◌≡◌, ◌↔◌, ℕ, zero, suc, ◌<◌, ◌≤◌, List, [], length, get_or, Some, slice_get, arith, subst, ◌⊎◌, inl, inr}
use Rattle.std.proofs.{lemmas.Bool.cases_lt, lemmas.Option.slice_get_within, lemmas.Option.slice_get-get_or}
use Rattle.rv_diagram.specs.{Nodes.Valuation, declared.frozen.Frozen.Frozen}
use Rattle.rv_proofs.specs.{Systems.System, Scopes.IsIn, Boxes.BoxClaim, Cases.IsInitialSet, Reached.Reaches, Reached.AreLayers, Reached.IsReachedNext}

pub first_layer : (s : System) (c : BoxClaim) (sets : List Frozen) (set : Frozen) → AreLayers s c sets → slice_get sets zero ≡ Some set → IsInitialSet s set
first_layer s c sets set layers at = record {
  control = (layers.each zero set at).control;
  exact = λ v. (
    λ inside. let here = ((layers.each zero set at).exact v).0 inside in here.reached,
    λ initial. ((layers.each zero set at).exact v).1 (record { reached = initial; first = λ u l h. absurd (none u l) }),
  );
}
  where
    none : (u : ℕ) → u < 0 → ⊥
    none u l = omega arith

abbrev no_set : Frozen
no_set = record { nodes = []; root = 0 }

module _ (s : System) (c : BoxClaim) (sets : List Frozen) (layers : AreLayers s c sets) (v : Valuation) where
  -- a layer up to which a control state is in none holds no control state that is reached by as many steps
  none_reached : (t : ℕ) → ((u : ℕ) (set : Frozen) → u ≤ t → slice_get sets u ≡ Some set → ¬ IsIn set v) → t < length sets
      → (n : ℕ) → n ≤ suc t → (u : ℕ) → u < n → ¬ Reaches s c u v
  none_reached t fresh there zero l u h = absurd (omega arith)
  none_reached t fresh there (suc n) l u h = go (none_reached t fresh there n (omega arith)) (cases_lt u n)
    where
      here : ((k : ℕ) → k < n → ¬ Reaches s c k v) → Reaches s c n v → ⊥
      here before r =
          let set = get_or sets n no_set in
          let at = slice_get-get_or sets n no_set (omega arith) in
          fresh n set (omega arith) at (((layers.each n set at).exact v).1 (record { reached = r; first = before }))

      go : ((k : ℕ) → k < n → ¬ Reaches s c k v) → (u < n) ⊎ (n ≤ u) → ¬ Reaches s c u v
      go before (inl less) = before u less
      go before (inr more) = let same : n ≡ u = omega arith in subst (λ k. ¬ Reaches s c k v) same (here before)

  -- from the layer before
  next_of : (t : ℕ) (set : Frozen) → slice_get sets (suc t) ≡ Some set → IsIn set v → IsReachedNext s c sets t v
  next_of t set at inside =
      let less = slice_get_within sets (suc t) set at in
      let last = get_or sets t no_set in
      let there = slice_get-get_or sets t no_set (omega arith) in
      let here = ((layers.each (suc t) set at).exact v).0 inside in
      let reached = here.reached in
      let first = here.first in
      record {
        last = last;
        at = there;
        step = (
          reached.0,
          ((layers.each t last there).exact reached.0).1 (record {
            reached = reached.1;
            first = λ u l r. first (suc u) (omega arith) (reached.0, r, reached.2, reached.3);
          }),
          reached.2,
          reached.3,
        );
        fresh = λ u other l is inn. let was = ((layers.each u other is).exact v).0 inn in first u (omega arith) was.reached;
      }

  -- and back
  from_next : (t : ℕ) (set : Frozen) → slice_get sets (suc t) ≡ Some set → IsReachedNext s c sets t v → IsIn set v
  from_next t set at next =
      let less = slice_get_within sets (suc t) set at in
      let step = next.step in
      let was = ((layers.each t next.last next.at).exact step.0).0 step.1 in
      ((layers.each (suc t) set at).exact v).1 (record {
        reached = (step.0, was.reached, step.2, step.3);
        first = none_reached t next.fresh (omega arith) (suc t) (omega arith);
      })

pub later_layer : (s : System) (c : BoxClaim) (sets : List Frozen) (t : ℕ) (set : Frozen) (v : Valuation) → AreLayers s c sets
    → slice_get sets (suc t) ≡ Some set
    → IsIn set v ↔ IsReachedNext s c sets t v
later_layer s c sets t set v layers at = (next_of s c sets layers v t set at, from_next s c sets layers v t set at)
