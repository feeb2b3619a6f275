-- A program has one cause of refusal at most, and none where it is accepted.
use Rattle.std.proofs.Common.{◌≡◌, ◌⊎◌, inl, inr, ℕ, List, [], ◌∷◌, refl, sym, ◌∙◌, ap, arith}
use Rattle.rv_tree.specs.{Tree.ProgramTree, Places.Identifier}
use Rattle.rv_calls.specs.declared.fault.CauseFault.TheVariants.{Recursive, Cycle, TooLarge, TooWide, Memory}
use Rattle.rv_calls.specs.Reach.{HasNoRecursion, IsFirstRecursion}
use Rattle.rv_calls.specs.{declared.fault.Quantity.Quantity, declared.fault.CauseFault.CauseFault, Nodes.IsRecursionOf}
use Rattle.rv_sizes.specs.{Sizes.Measure, Sizes.measures, Sizes.AreWithin, Sizes.IsFirstAbove, Sized.IsSizeFault}
use Rattle.rv_causality.specs.Causes.{IsAccepted, IsCause, HasCause, Matches}

pub first_above_one : (ms : List Measure) (q r : Quantity) (n m : ℕ) → IsFirstAbove ms q n → IsFirstAbove ms r m → (q ≡ r) × (n ≡ m)
first_above_one [] q r n m a b = absurd a
first_above_one (x ∷ ms) q r n m (inl a) (inl b) = (a.1 ∙ sym b.1, a.2 ∙ sym b.2)
first_above_one (x ∷ ms) q r n m (inl a) (inr b) = absurd (let h = a.0 in let k = b.0 in omega (arith, h, k))
first_above_one (x ∷ ms) q r n m (inr a) (inl b) = absurd (let h = a.0 in let k = b.0 in omega (arith, h, k))
first_above_one (x ∷ ms) q r n m (inr a) (inr b) = first_above_one ms q r n m a.1 b.1

pub within_not_above : (ms : List Measure) (q : Quantity) (n : ℕ) → AreWithin ms → IsFirstAbove ms q n → ⊥
within_not_above [] q n a b = b
within_not_above (x ∷ ms) q n a (inl b) = let h = a.0 in let k = b.0 in omega (arith, h, k)
within_not_above (x ∷ ms) q n a (inr b) = within_not_above ms q n a.1 b.1

module _ (p : ProgramTree) (main : Identifier) where
  pub no_first : (at : ℕ) → HasNoRecursion p → IsFirstRecursion p at → ⊥
  no_first at none first = none first.here.0 first.here.1 first.here.2

  one_first : (a b : ℕ) → IsFirstRecursion p a → IsFirstRecursion p b → a ≡ b
  one_first a b f g =
      let x = f.first g.here.0 g.here.1 g.here.2 in
      let y = g.first f.here.0 f.here.1 f.here.2 in
      let ax = f.here.3 in
      let by = g.here.3 in
      omega (arith, x, y, ax, by)

  -- a recursion that is found is the cause, if any is
  pub recursion_matches : (f g : CauseFault) → IsCause p main f → IsRecursionOf p g → (g ≡ Memory) ⊎ Matches f g
  recursion_matches f Memory cause is = inl refl
  recursion_matches (Recursive a) (Recursive b) cause is = inr (ap Recursive (one_first a b cause is))
  recursion_matches (TooLarge q n) (Recursive b) cause is = absurd (no_first b cause.0 is)
  recursion_matches (Cycle ps) (Recursive b) cause is = absurd (no_first b cause.0 is)
  recursion_matches (TooWide a) (Recursive b) cause is = absurd (no_first b cause.0 is)
  recursion_matches Memory (Recursive b) cause is = absurd cause
  recursion_matches f (Cycle ps) cause is = absurd is
  recursion_matches f (TooLarge q n) cause is = absurd is
  recursion_matches f (TooWide a) cause is = absurd is

  -- and a size that is too large
  pub size_matches : (f g : CauseFault) → HasNoRecursion p → IsCause p main f → IsSizeFault p main g → (g ≡ Memory) ⊎ Matches f g
  size_matches f Memory none cause is = inl refl
  size_matches (Recursive a) (TooLarge r m) none cause is = absurd (no_first a none cause)
  size_matches (TooLarge q n) (TooLarge r m) none cause is = let e = first_above_one (measures p main) q r n m cause.1 is in inr (λ i. TooLarge (e.0 i) (e.1 i))
  size_matches (Cycle ps) (TooLarge r m) none cause is = absurd (within_not_above (measures p main) r m cause.1 is)
  size_matches (TooWide a) (TooLarge r m) none cause is = absurd (within_not_above (measures p main) r m cause.1 is)
  size_matches Memory (TooLarge r m) none cause is = absurd cause
  size_matches f (Recursive b) none cause is = absurd is
  size_matches f (Cycle ps) none cause is = absurd is
  size_matches f (TooWide a) none cause is = absurd is

  -- an accepted program has neither
  pub accepted_recursion : (g : CauseFault) → IsAccepted p main → IsRecursionOf p g → g ≡ Memory
  accepted_recursion Memory a is = refl
  accepted_recursion (Recursive b) a is = absurd (no_first b a.recursion is)
  accepted_recursion _ a is = absurd is

  pub accepted_size : (g : CauseFault) → IsAccepted p main → IsSizeFault p main g → g ≡ Memory
  accepted_size Memory a is = refl
  accepted_size (TooLarge q n) a is = absurd (within_not_above (measures p main) q n a.sizes is)
  accepted_size _ a is = absurd is

  -- each has its cause
  pub recursion_cause : (g : CauseFault) → IsRecursionOf p g → HasCause p main g
  recursion_cause Memory is = tt
  recursion_cause (Recursive b) is = is
  recursion_cause _ is = absurd is

  pub size_cause : (g : CauseFault) → HasNoRecursion p → IsSizeFault p main g → HasCause p main g
  size_cause Memory none is = tt
  size_cause (TooLarge q n) none is = (none, is)
  size_cause _ none is = absurd is
