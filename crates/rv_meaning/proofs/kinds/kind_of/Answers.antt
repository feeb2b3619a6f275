use Rattle.std.proofs.Common.{◌≡◌, ◌++◌, ◌∷◌, [], refl, sym, ◌∙◌, ap, subst, Option, Some, IfSome, IfNone, None as Nothing}
use Rattle.rv_tree.specs.{Tree.program_tree, Places.Sites}
use Rattle.rv_types.specs.{declared.typed.Kind.Kind, Instances.name_at}
use Rattle.rv_meaning.specs.{Accessors.IsKindAt, Telling.kind_at_end}
use Rattle.rv_meaning.proofs.{KindsAt.found, KindsAt.nothing, Leads.is_node, Leads.settled, Leads.main_node}
use Rattle.rv_meaning.proofs.kinds.kind_of.Goals as goal

-- what holds of an answer by the answer that it is
where_some : (o : Option Kind) (P : Kind → Type 0) → ((k : Kind) → o ≡ Some k → P k) → IfSome o P
where_some Nothing P h = tt
where_some (Some k) P h = h k refl

where_none : (o : Option Kind) (P : Type 0) → (o ≡ Nothing → P) → IfNone o P
where_none Nothing P h = h refl
where_none (Some k) P h = tt

pub kind_after-requires : goal.kind_after-requires
kind_after-requires c = record { bounded = c.requires.tree.bounded }

pub returns-in-Some-clause-found : goal.returns-in-Some-clause-found
returns-in-Some-clause-found c =
    let p = program_tree c.args.p.now in
    let t = c.args.t.now in
    let path = c.front.result.now in
    let s = c.in-Some.site in
    let rules = settled p t c.requires.settled in
    let well = c.well_formed_programs.ensures p (name_at p t.main) t c.requires.tree rules in
    let seen : c.kind_after.result ≡ kind_at_end p _ t.main path s = c.kind_after.ensures ∙ ap (λ ks. kind_at_end p ks t.main path s) rules.flow_types in
    let same : path ++ s ∷ [] ≡ c.args.place.now.sites = ap (λ (q : Sites). q ++ s ∷ []) c.front.ensures ∙ sym c.in-Some.ensures.some in
    where_some c.kind_after.result (IsKindAt p (name_at p t.main) c.args.place.now.sites)
    (λ k is. subst (λ (q : Sites). IsKindAt p (name_at p t.main) q k) same
    (found p (name_at p t.main) well (is_node p t c.requires.settled) t.main (main_node p t c.requires.settled) path s k (sym seen ∙ is)))

pub returns-in-Some-clause-none : goal.returns-in-Some-clause-none
returns-in-Some-clause-none c =
    let p = program_tree c.args.p.now in
    let t = c.args.t.now in
    let path = c.front.result.now in
    let s = c.in-Some.site in
    let rules = settled p t c.requires.settled in
    let well = c.well_formed_programs.ensures p (name_at p t.main) t c.requires.tree rules in
    let seen : c.kind_after.result ≡ kind_at_end p _ t.main path s = c.kind_after.ensures ∙ ap (λ ks. kind_at_end p ks t.main path s) rules.flow_types in
    let same : path ++ s ∷ [] ≡ c.args.place.now.sites = ap (λ (q : Sites). q ++ s ∷ []) c.front.ensures ∙ sym c.in-Some.ensures.some in
    where_none c.kind_after.result ((k : Kind) → IsKindAt p (name_at p t.main) c.args.place.now.sites k → ⊥)
    (λ is k at. nothing p (name_at p t.main) well (is_node p t c.requires.settled) t.main (main_node p t c.requires.settled) path s k (sym seen ∙ is)
    (subst (λ (q : Sites). IsKindAt p (name_at p t.main) q k) (sym same) at))
