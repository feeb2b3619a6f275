-- What the answers of the parts give for a source.
use Rattle.std.proofs.Common.{◌≡◌, ◌⊎◌, inl, inr, ℕ, List, Err, refl, sym, ◌∙◌, ap, subst}
use Rattle.rv_tree.specs.{Tree.ProgramTree, Tree.program_tree, Places.Identifier, declared.tree.Program.Program}
use Rattle.rv_syntax.specs.{ProgramText.IsTextOf, Faults.IsFault, Correct.Finds, declared.fault.TextFault.TextFault}
use Rattle.rv_syntax.specs.Correct as text_specs
use Rattle.rv_syntax.specs.declared.fault.TextFault.TheVariants as text
use Rattle.rv_types.specs.{declared.fault.NameFault.NameFault, declared.typed.Typed.Typed, Instances.name_at, Settled.IsSettled, Settled.IsFirstFault}
use Rattle.rv_types.specs.declared.fault.NameFault.TheVariants as name
use Rattle.rv_types.specs.Settled as settled_specs
use Rattle.rv_calls.specs.declared.fault.CauseFault.{CauseFault}
use Rattle.rv_calls.specs.declared.fault.CauseFault.TheVariants as cause
use Rattle.rv_source.specs.declared.fault.SourceFault.{SourceFault}
use Rattle.rv_source.specs.declared.fault.SourceFault.TheVariants.{Text, Names, Cause, Memory}
use Rattle.rv_source.specs.Sources.{IsSourceFault, HasSourceCause, RefusesSource, text_refusal, name_refusal, cause_refusal}
use Rattle.rv_causality.specs.Causes.{IsAccepted, IsCause}
use Rattle.rv_causality.specs.Causes as cause_specs
use Rattle.rv_instances.proofs.Known.{called}

-- The main node that is settled is the one of the name.
pub main_is : (p : ProgramTree) (main : Identifier) (t : Typed) → IsSettled p main t → name_at p t.main ≡ main
main_is p main t s = ap (name_at p) s.main_number ∙ (called p s.names main s.has_main).2

module _ (bytes : List ℕ) (main : Identifier) where
  -- where there is a tree the text was refused for want of memory
  pub text_only : (view : Program → ProgramTree) (p : ProgramTree) (e : TextFault) → Finds view p (Err e) → text_refusal e ≡ Memory
  text_only view p text.Memory h = refl
  text_only view p _ h = absurd h

  pub text_refused : (e : TextFault) → text_specs.Explains bytes e → HasSourceCause bytes main (text_refusal e)
  text_refused text.Memory h = tt
  text_refused _ h = h

  text_is : (f e : TextFault) → text_specs.IsOrMemory f e → (text_refusal e ≡ Memory) ⊎ (Text f ≡ text_refusal e)
  text_is f text.Memory h = inl refl
  text_is f _ h = inr (ap Text h)

  -- the fault of a text is answered
  pub text_only_refused : (f : SourceFault) (e : TextFault) → ((g : TextFault) → IsFault bytes g → text_specs.IsOrMemory g e)
      → ((p : ProgramTree) → IsTextOf bytes p → Finds program_tree p (Err e)) → IsSourceFault bytes main f → RefusesSource f (Err (text_refusal e))
  text_only_refused (Text g) e faults trees h = text_is g e (faults g h)
  text_only_refused (Names g) e faults trees h = inl (text_only program_tree h.0 e (trees h.0 h.1))
  text_only_refused (Cause g) e faults trees h = inl (text_only program_tree h.0 e (trees h.0 h.2))
  text_only_refused Memory e faults trees h = absurd h

  -- the bytes are the text of one tree
  module _ (p : ProgramTree) (is : IsTextOf bytes p) (one_tree : (bytes : List ℕ) (q r : ProgramTree) → IsTextOf bytes q → IsTextOf bytes r → q ≡ r)
      (no_tree : (bytes : List ℕ) (f : TextFault) (q : ProgramTree) → IsFault bytes f → IsTextOf bytes q → ⊥) where
    one : (q : ProgramTree) → IsTextOf bytes q → q ≡ p
    one q text = one_tree bytes q p text is

    no_fault : (f : TextFault) → IsFault bytes f → ⊥
    no_fault f h = no_tree bytes f p h is

    -- where it is settled, names were refused for want of memory
    pub name_only : (q : ProgramTree) (t : Typed) (e : NameFault) → IsTextOf bytes q → IsSettled q main t
        → ((u : Typed) → IsSettled p main u → e ≡ name.Memory) → name_refusal e ≡ Memory
    name_only q t e text settled only = ap name_refusal (only t (subst (λ r. IsSettled r main t) (one q text) settled))

    pub name_refused : (e : NameFault) → settled_specs.HasCause p main e → HasSourceCause bytes main (name_refusal e)
    name_refused name.Memory h = tt
    name_refused _ h = (p, is, h)

    -- a fault that is first is no want of memory
    name_is : (g e : NameFault) → IsFirstFault p main g → (e ≡ name.Memory) ⊎ (e ≡ g) → (name_refusal e ≡ Memory) ⊎ (Names g ≡ name_refusal e)
    name_is g e first (inl memory) = inl (ap name_refusal memory)
    name_is g name.Memory first (inr same) = inl refl
    name_is g _ first (inr same) = inr (ap Names (sym same))

    pub name_only_refused : (f : SourceFault) (e : NameFault) → ((g : NameFault) → IsFirstFault p main g → (e ≡ name.Memory) ⊎ (e ≡ g))
        → ((t : Typed) → IsSettled p main t → e ≡ name.Memory) → IsSourceFault bytes main f → RefusesSource f (Err (name_refusal e))
    name_only_refused (Text g) e faults only h = absurd (no_fault g h)
    name_only_refused (Names g) e faults only h =
        let first : IsFirstFault p main g = subst (λ q. IsFirstFault q main g) (one h.0 h.1) h.2 in
        name_is g e first (faults g first)
    name_only_refused (Cause g) e faults only h = inl (name_only h.0 h.1 e h.2 h.3 only)
    name_only_refused Memory e faults only h = absurd h

    module _ (t : Typed) (settled : IsSettled p main t)
        (never_both : (q : ProgramTree) (x : Identifier) (u : Typed) (f : NameFault) → IsSettled q x u → IsFirstFault q x f → ⊥) where
      pub cause_refused : (e : CauseFault) → cause_specs.HasCause p (name_at p t.main) e → HasSourceCause bytes main (cause_refusal e)
      cause_refused cause.Memory h = tt
      cause_refused e h = (p, t, is, settled, subst (λ x. IsCause p x e) (main_is p main t settled) h)

      pub cause_only : (q : ProgramTree) (e : CauseFault) → IsTextOf bytes q → IsAccepted q main → (IsAccepted p (name_at p t.main) → e ≡ cause.Memory)
          → cause_refusal e ≡ Memory
      cause_only q e text accepted only =
          ap cause_refusal (only (subst (λ x. IsAccepted p x) (sym (main_is p main t settled)) (subst (λ r. IsAccepted r main) (one q text) accepted)))

      cause_is : (g e : CauseFault) → (e ≡ cause.Memory) ⊎ cause_specs.Matches g e → RefusesSource (Cause g) (Err (cause_refusal e))
      cause_is g e (inl memory) = inl (ap cause_refusal memory)
      cause_is g cause.Memory (inr same) = inl refl
      cause_is g _ (inr same) = inr same

      its_cause : (q : ProgramTree) (g : CauseFault) → IsTextOf bytes q → IsCause q main g → IsCause p (name_at p t.main) g
      its_cause q g text h = subst (λ x. IsCause p x g) (sym (main_is p main t settled)) (subst (λ r. IsCause r main g) (one q text) h)

      pub cause_only_refused : (f : SourceFault) (e : CauseFault) → ((g : CauseFault) → IsCause p (name_at p t.main) g
          → (e ≡ cause.Memory) ⊎ cause_specs.Matches g e) → IsSourceFault bytes main f → RefusesSource f (Err (cause_refusal e))
      cause_only_refused (Text g) e faults h = absurd (no_fault g h)
      cause_only_refused (Names g) e faults h = absurd (never_both p main t g settled (subst (λ q. IsFirstFault q main g) (one h.0 h.1) h.2))
      cause_only_refused (Cause g) e faults h = cause_is g e (faults g (its_cause h.0 g h.2 h.4))
      cause_only_refused Memory e faults h = absurd h

      -- what is accepted has no fault
      pub not_refused : (f : SourceFault) → ((g : CauseFault) → IsCause p (name_at p t.main) g → ⊥) → IsSourceFault bytes main f → ⊥
      not_refused (Text g) none h = no_fault g h
      not_refused (Names g) none h = never_both p main t g settled (subst (λ q. IsFirstFault q main g) (one h.0 h.1) h.2)
      not_refused (Cause g) none h = none g (its_cause h.0 g h.2 h.4)
      not_refused Memory none h = absurd h
