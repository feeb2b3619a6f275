-- What a program whose instances are known is refused for, and that it is accepted where it is not.
use Rattle.std.proofs.Common.{◌≡◌, ◌⊎◌, inl, inr, ℕ, List, refl, ap}
use Rattle.rv_base.specs.declared.value.Place.{Place}
use Rattle.rv_tree.specs.{Bounded.IsBounded, Tree.ProgramTree, Places.Identifier, Places.Sites}
use Rattle.rv_types.specs.WellFormed.{AreSited, AreWell}
use Rattle.rv_types.specs.{declared.typed.Typed.Typed, Instances.name_at, Lists.sites_of, Needs.IsSequence, Settled.IsAnswer}
use Rattle.rv_instances.specs.{declared.answer.Instance.Instance as Numbered, AllInstances.AreFed, AllInstances.AreInstances, Expanded.IsExpanded}
use Rattle.rv_calls.specs.declared.fault.CauseFault.TheVariants.{Recursive, Cycle, TooLarge, TooWide, Memory}
use Rattle.rv_calls.specs.{declared.fault.CauseFault.CauseFault, Reach.HasNoRecursion}
use Rattle.rv_causality.specs.Causes.{HasNoCycle, IsAccepted, IsOrder, IsCause, HasCause, Matches}
use Rattle.rv_sizes.specs.{Sized.IsSized, Sizes.measures, Sizes.AreWithin}
use Rattle.rv_sequence.specs.Sequenced.{AreSequenced, IsSequenceFault}
use Rattle.rv_causality.proofs.{Answered.answer_named, Answered.main_within, OneCause.no_first, OneCause.within_not_above}
use Rattle.rv_calls.proofs.FewInstances.{expanded_program}
use Rattle.rv_sequence.proofs.NoCycle as cycles
use Rattle.rv_sequence.proofs.{Numbered.sided, WideFlows.not_both, WideFlows.one_first}

-- the instances of a program that is settled, without recursion and within the limits
pub known : (p : ProgramTree) (t : Typed) (instances : List Numbered) (count : ℕ) → IsBounded p → AreSited p → IsAnswer p t → AreWell p → HasNoRecursion p
    → AreInstances p (name_at p t.main) instances → IsSized p (name_at p t.main) count → IsExpanded p (name_at p t.main) instances
known p t instances count bounded sited settled well none are sized =
    expanded_program p t.main instances bounded (answer_named p t settled) sited well none (main_within p t settled) are sized.small.instances

module _ (p : ProgramTree) (main : Identifier) (instances : List Numbered) (known : IsExpanded p main instances) (none : HasNoRecursion p)
    (sizes : AreWithin (measures p main)) where
  fed : AreFed p
  fed n c j e there w arg = (known.well.formed n there).no_more c j e w arg

  acyclic : (sequence : List Sites) → IsSequence p main sequence → HasNoCycle p main
  acyclic sequence ordered ps cycle = cycles.no_cycle p main sequence ordered known.named known.declared fed ps cycle

  pub accepted : (places : List Place) → AreSequenced p main places → IsAccepted p main
  accepted places s = record {
    recursion = none;
    sizes = sizes;
    cycles = acyclic (sites_of places) s.ordered;
    weights = s.light;
  }

  pub found : (places : List Place) (count : ℕ) → AreSequenced p main places → IsSized p main count
      → IsOrder p main (record { instances = instances; sequence = places; expanded = count })
  found places count s sized = record {
    accepted = accepted places s;
    instances = known.all;
    sequence = s.ordered;
    nodes = sized.small.counted;
  }

  -- a program with a sequence and without a wide expression has no cause of refusal
  pub not_refused : (places : List Place) (f : CauseFault) → AreSequenced p main places → IsCause p main f → ⊥
  not_refused places (Recursive at) s cause = no_first p main at none cause
  not_refused places (TooLarge q n) s cause = within_not_above (measures p main) q n sizes cause.1
  not_refused places (Cycle ps) s cause = acyclic (sites_of places) s.ordered (sites_of ps) cause.2.0
  not_refused places (TooWide at) s cause = not_both p main instances known (sided p main instances known) (sites_of places) s.ordered at s.light cause.3
  not_refused places Memory s cause = cause

  -- and an accepted one has no fault
  pub not_faulty : (g : CauseFault) → IsAccepted p main → IsSequenceFault p main g → g ≡ Memory
  not_faulty (Cycle ps) a is = absurd (a.cycles (sites_of ps) is.0)
  not_faulty (TooWide at) a is = absurd (not_both p main instances known (sided p main instances known) is.0.0 is.0.1 at a.weights is.1)
  not_faulty Memory a is = refl
  not_faulty _ a is = absurd is

  pub sequence_cause : (g : CauseFault) → IsSequenceFault p main g → HasCause p main g
  sequence_cause (Cycle ps) is = (none, sizes, is)
  sequence_cause (TooWide at) is = (none, sizes, acyclic is.0.0 is.0.1, is.1)
  sequence_cause Memory is = tt
  sequence_cause _ is = absurd is

  pub sequence_matches : (f g : CauseFault) → IsCause p main f → IsSequenceFault p main g → (g ≡ Memory) ⊎ Matches f g
  sequence_matches f Memory cause is = inl refl
  sequence_matches f (Recursive at) cause is = absurd is
  sequence_matches f (TooLarge q n) cause is = absurd is
  sequence_matches (Recursive at) (Cycle qs) cause is = absurd (no_first p main at none cause)
  sequence_matches (TooLarge q n) (Cycle qs) cause is = absurd (within_not_above (measures p main) q n sizes cause.1)
  sequence_matches (Cycle ps) (Cycle qs) cause is = inr tt
  sequence_matches (TooWide at) (Cycle qs) cause is = absurd (cause.2 (sites_of qs) is.0)
  sequence_matches Memory (Cycle qs) cause is = absurd cause
  sequence_matches (Recursive at) (TooWide b) cause is = absurd (no_first p main at none cause)
  sequence_matches (TooLarge q n) (TooWide b) cause is = absurd (within_not_above (measures p main) q n sizes cause.1)
  sequence_matches (Cycle ps) (TooWide b) cause is = absurd (acyclic is.0.0 is.0.1 (sites_of ps) cause.2.0)
  sequence_matches (TooWide a) (TooWide b) cause is = inr (ap TooWide (one_first p main instances known (sided p main instances known) is.0.0 is.0.1 a b cause.3
      is.1))
  sequence_matches Memory (TooWide b) cause is = absurd cause
