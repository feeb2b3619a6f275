use Rattle.std.proofs.Common.{◌≡◌, ◌∙◌, ◌++◌, ◌∷◌, [], ℕ, true, List, ap, sym, subst}
use Rattle.rv_diagram.specs.{Nodes.IsOrderedOver, Nodes.value_of, declared.frozen.Frozen.Frozen}
use Rattle.rv_diagram.proofs.Growing.{grows_extends}
use Rattle.rv_symbolic.specs.Represented.{IsRelationOf}
use Rattle.rv_symbolic.proofs.Scheduling.{relation_after}
use Rattle.rv_walk.specs.Walks.{IsWalk}
use Rattle.rv_walk.proofs.{Rounds.explored_of, Stages.walk_start}
use Rattle.rv_walk.proofs.walking.explore_in.Goals as goal

pub thaw-requires : goal.thaw-requires
thaw-requires c = subst (λ (m : ℕ). IsOrderedOver m c.in_ok-first.first) (sym c.requires.1.parts.variables)
    (c.in_ok-first.ensures c.requires.0 c.requires.1).control.ordered

pub rounds-requires : goal.rounds-requires
rounds-requires c =
    let list : c.push.new.self ≡ c.in_ok-first.first ∷ [] = c.in_ok-push.ensures.ok ∙ ap (λ
    (l : List Frozen). l ++ c.in_ok-first.first ∷ []) c.new-sets.ensures in (
      c.requires.0,
      relation_after c.requires.0 c.args.store.now c.thaw.new.self c.args.relation.now
          (grows_extends c.args.store.now c.thaw.new.self c.in_ok-reached.ensures.ok.grows) c.requires.1,
      c.in_ok-reached.ensures.ok.found,
      subst (λ (l : List Frozen). IsWalk c.requires.0 l (value_of c.thaw.new.self.nodes c.in_ok-reached.reached) true) (sym list)
          (walk_start c.requires.0 c.in_ok-first.first (value_of c.thaw.new.self.nodes c.in_ok-reached.reached)
          (c.in_ok-first.ensures c.requires.0 c.requires.1) c.in_ok-reached.ensures.ok.means),
    )

pub returns-clause-ok : goal.returns-clause-ok
returns-clause-ok c s is =
    let list : c.push.new.self ≡ c.in_ok-first.first ∷ [] = c.in_ok-push.ensures.ok ∙ ap (λ
    (l : List Frozen). l ++ c.in_ok-first.first ∷ []) c.new-sets.ensures in
    let here : IsRelationOf s c.thaw.new.self c.args.relation.now = relation_after s c.args.store.now c.thaw.new.self c.args.relation.now
    (grows_extends c.args.store.now c.thaw.new.self c.in_ok-reached.ensures.ok.grows) is in
    let start : IsWalk s c.push.new.self (value_of c.thaw.new.self.nodes c.in_ok-reached.reached) true =
    subst (λ (l : List Frozen). IsWalk s l (value_of c.thaw.new.self.nodes c.in_ok-reached.reached) true) (sym list)
    (walk_start s c.in_ok-first.first (value_of c.thaw.new.self.nodes c.in_ok-reached.reached) (c.in_ok-first.ensures s is) c.in_ok-reached.ensures.ok.means) in
    let variables : c.rounds.new.store.variables ≡ s.variables = c.rounds.ensures.extends.variables ∙ here.parts.variables in
    explored_of s c.rounds.new.store c.in_ok-walk.walk.sets c.in_ok-walk.walk.reached c.in_ok-whole.whole c.in_ok-walk.walk.good variables
    (c.in_ok-walk.ensures.ok s here start) c.in_ok-whole.ensures.ordered c.in_ok-whole.ensures.means c.in_ok-whole.ensures.needed
