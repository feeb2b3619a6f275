-- A program is settled in one way, or refused by one fault, and never both.
use Rattle.std.proofs.Common.{◌≡◌, ◌⊎◌, inl, inr, cond, IsTrue, List, [], ◌∷◌, Result, Ok, Err, IfOk, IfErr, refl, sym, ap, ◌∙◌}
use Rattle.rv_tree.specs.{Tree.ProgramTree, Places.Identifier}
use Rattle.rv_types.specs.Settled.{IsSettled, IsFirstFault, HasCause, Answers, Refuses, groups, node_faults}
use Rattle.rv_types.specs.Names.{is_declared, node_names, name_faults}
use Rattle.rv_types.specs.{declared.fault.NameFault.TheVariants.NoNode, declared.fault.NameFault.TheVariants.Memory, declared.fault.NameFault.NameFault}
use Rattle.rv_types.specs.{declared.typed.Typed.Typed, Scopes.type_faults, Scopes.observer_faults, Clocks.clock_faults, Faults.IsFirstOfGroups}
use Rattle.rv_types.proofs.OneFault.{one_of_groups, none_first}

pub one_way : (p : ProgramTree) (main : Identifier) (t u : Typed) → IsSettled p main t → IsSettled p main u → t ≡ u
one_way p main t u a b = λ i. record {
  main = (a.main_number ∙ sym b.main_number) i;
  kinds = (a.flow_types ∙ sym b.flow_types) i;
  clocks = (a.flow_times ∙ sym b.flow_times) i;
  constants = (a.values ∙ sym b.values) i;
}

-- no first of groups of which one has none
empty_first : (fs : List NameFault) (rest : List (List NameFault)) (f : NameFault) → fs ≡ [] → IsFirstOfGroups (fs ∷ rest) f → IsFirstOfGroups rest f
empty_first fs rest f none (inl a) = absurd (none_first fs f a none)
empty_first fs rest f none (inr b) = b.1

pub has_node : (p : ProgramTree) (main : Identifier) → IsTrue (is_declared (node_names p) main) → node_faults p main ≡ []
has_node p main h = ap (λ b. cond b [] (NoNode ∷ [])) h

pub not_both : (p : ProgramTree) (main : Identifier) (t : Typed) (f : NameFault) → IsSettled p main t → IsFirstFault p main f → ⊥
not_both p main t f a b =
    empty_first (observer_faults p main) [] f a.observer
    (empty_first (clock_faults p) (observer_faults p main ∷ []) f a.clocks
    (empty_first (type_faults p) (clock_faults p ∷ observer_faults p main ∷ []) f a.types
    (empty_first (name_faults p) (type_faults p ∷ clock_faults p ∷ observer_faults p main ∷ []) f a.names
    (empty_first (node_faults p main) (name_faults p ∷ type_faults p ∷ clock_faults p ∷ observer_faults p main ∷ []) f (has_node p main a.has_main) b))))

pub caused : (p : ProgramTree) (main : Identifier) (f : NameFault) → IsFirstFault p main f → HasCause p main f
caused p main Memory h = tt
caused p main _ h = h

cause : (p : ProgramTree) (main : Identifier) (f : NameFault) → HasCause p main f → (f ≡ Memory) ⊎ IsFirstFault p main f
cause p main Memory h = inl refl
cause p main _ h = inr h

pub only_answer : (p : ProgramTree) (main : Identifier) (r : Result Typed NameFault) → IfOk r (λ t. IsSettled p main t) → IfErr r (HasCause p main)
    → (t : Typed) → IsSettled p main t → Answers t r
only_answer p main (Ok u) found refused t settled = one_way p main u t found settled
only_answer p main (Err f) found refused t settled = elim (cause p main f refused) as
    (λ _. f ≡ Memory) [ inl e ↦ e | inr h ↦ absurd (not_both p main t f settled h) ]

pub only_refusal : (p : ProgramTree) (main : Identifier) (r : Result Typed NameFault) → IfOk r (λ t. IsSettled p main t) → IfErr r (HasCause p main)
    → (f : NameFault) → IsFirstFault p main f → Refuses f r
only_refusal p main (Ok u) found refused f first = not_both p main u f found first
only_refusal p main (Err g) found refused f first = elim (cause p main g refused) as (λ _. (g ≡ Memory) ⊎ (g ≡ f))
    [ inl e ↦ inl e | inr h ↦ inr (one_of_groups (groups p main) g f h first) ]
