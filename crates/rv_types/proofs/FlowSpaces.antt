-- The flows of a node, declared in three parts.
use Rattle.std.proofs.Common.{◌≡◌, List, [], ◌++◌, flat_map, append_assoc, Option, refl, sym, ap, ◌∙◌, None as Nothing}
use Rattle.std.proofs.{lemmas.List.map-append, lemmas.Grind.flat_map-append}
use Rattle.rv_tree.specs.{declared.tree.Name.Name, declared.tree.Decl.Decl}
use Rattle.rv_types.specs.{declared.fault.NameFault.NameFault, Names.decl_names, Names.repeated, Firsts.firsts_after, Firsts.firsts, Earliest.first}
use Rattle.rv_types.specs.{Earliest.sooner}
use Rattle.rv_types.proofs.{Joined.first_append, FirstNames.spaces_step, FirstNames.faults_step}

three_names : (a b c : List Decl) → decl_names ((a ++ b) ++ c) ≡ decl_names a ++ (decl_names b ++ decl_names c)
three_names a b c = map-append (λ d. d.name) (a ++ b) c ∙ ap (λ l. l ++ decl_names c) (map-append (λ d. d.name) a b)
    ∙ append_assoc (decl_names a) (decl_names b) (decl_names c)

pub three_spaces : (a b c : List Decl) (s t u : List Name) → s ≡ firsts (decl_names a) → t ≡ firsts_after s (decl_names b) → u ≡ firsts_after t (decl_names c)
    → u ≡ firsts (decl_names ((a ++ b) ++ c))
three_spaces a b c s t u e f g =
    let begun = spaces_step [] s _ (decl_names a) (decl_names b ++ decl_names c) _ (three_names a b c) e refl in
    g ∙ spaces_step s t _ (decl_names b) (decl_names c) _ refl f begun

pub three_seconds : (a b c : List Decl) (s t : List Name) (o p q r : Option NameFault) → s ≡ firsts (decl_names a) → t ≡ firsts_after s (decl_names b)
    → o ≡ first (repeated [] (decl_names a)) → p ≡ first (repeated s (decl_names b)) → q ≡ first (repeated t (decl_names c)) → r ≡ sooner (sooner o p) q
    → r ≡ first (repeated [] (decl_names ((a ++ b) ++ c)))
three_seconds a b c s t o p q r e f h j k done =
    let whole : sooner o (first (repeated s (decl_names b ++ decl_names c))) ≡ first (repeated [] (decl_names ((a ++ b) ++ c))) =
    faults_step Nothing o o _ [] s _ (decl_names a) (decl_names b ++ decl_names c) (three_names a b c) e h refl refl in
    done ∙ ap (sooner (sooner o p)) k ∙ faults_step o p (sooner o p) _ s t _ (decl_names b) (decl_names c) refl f j refl whole

-- the faults of the flows of two parts
pub two_parts : (f : Name → List NameFault) (a b : List Decl) (o p r : Option NameFault) → o ≡ first (flat_map f (decl_names a))
    → p ≡ first (flat_map f (decl_names b)) → r ≡ sooner o p → r ≡ first (flat_map f (decl_names (a ++ b)))
two_parts f a b o p r h j done =
    done ∙ (λ i. sooner (h i) (j i)) ∙ sym (first_append (flat_map f (decl_names a)) (flat_map f (decl_names b)))
    ∙ sym (ap first (flat_map-append f (decl_names a) (decl_names b))) ∙ sym (ap (λ l. first (flat_map f l)) (map-append (λ d. d.name) a b))
