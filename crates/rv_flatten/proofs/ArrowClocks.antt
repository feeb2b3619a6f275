-- The clocks of the `->` of a node are those of the `->` among its expressions, and each is the base clock or that of a flow.
use Rattle.std.proofs.Common.{◌≡◌, inl, inr, Bool, true, false, cond, List, [], ◌∷◌, ◌++◌, flat_map, length, refl, sym, ◌∙◌, ap, subst, arith, unwrap_or}
use Rattle.std.proofs.lemmas.List.Elements.{Contains-append_left, Contains-append_cases}
use Rattle.std.proofs.{lemmas.Grind.flat_map-append, lemmas.Option.slice_get_within}
use Rattle.std.specs.List.{Contains}
use Rattle.rv_tree.specs.declared.tree.Name.{Name}
use Rattle.rv_tree.specs.Tree.{Tree, Node, Binary, Call, EquationTree, AssertionTree, NodeTree, ProgramTree}
use Rattle.rv_tree.specs.declared.tree.Op.TheVariants as op
use Rattle.rv_types.specs.declared.typed.Kind.TheVariants as kind
use Rattle.rv_types.specs.Instances.{CallTree, calls, calls_in, calls_in_all, calls_in_equations, calls_in_assertions, taken, alone}
use Rattle.rv_types.specs.Variables.{is_arrow, parts, parts_of_all, node_parts}
use Rattle.rv_types.specs.{declared.typed.Clock.Clock, declared.typed.Clock.TheVariants.Base, declared.typed.Clock.TheVariants.On, Clocks.pace, Names.texts}
use Rattle.rv_types.specs.{Scopes.node_scope, WellFormed.IsWellFormed, WellFormed.IsWellTyped}
use Rattle.rv_types.proofs.Members.{at_head, cons_cases, in_flat_map, nothing_in, of_flat_map}
use Rattle.rv_types.proofs.{TypedParts.IsTyped, TypedParts.parts_typed, TypedParts.argument_part, TypedParts.right_calls, ChainLaws.no_flag}
use Rattle.rv_instances.specs.{Flowing.IsKnownClock, Timed.ToldOperator, Timed.own_operator}
use Rattle.rv_instances.proofs.TimedParts.{node_operators}
use Rattle.rv_flatten.specs.Arrows.{arrow_of, node_arrows}
use Rattle.rv_meaning.proofs.FlowSites.{kinds_many}
use Rattle.rv_flatten.proofs.{ClockKinds.IsTrueClock, ClockKinds.clock_taken, ClockKinds.pace_is_true}

-- the only one of no more than one
only_one : (b : Bool) (c k : Clock) → Contains (cond b (c ∷ []) []) k → (b ≡ true) × (c ≡ k)
only_one true c k w = elim (cons_cases c [] k w) [ inl same ↦ (refl, same) | inr rest ↦ nothing_in k rest ]
only_one false c k w = nothing_in k w

module _ (n : NodeTree) where
  -- the clock of an expression that is a `->`
  abbrev own_arrow : Tree → List Clock
  own_arrow e = cond (is_arrow e) (taken Base (pace n e) ∷ []) []

  abbrev arrow_told : ToldOperator → List Clock
  arrow_told o = arrow_of o.operator o.clock

  arrow_here : (e : Tree) → flat_map arrow_told (own_operator n e) ≡ own_arrow e
  arrow_here (Node at site (Binary op.Arrow a b)) = refl
  arrow_here _ = refl

  arrows_among : (es : List Tree) → flat_map arrow_told (flat_map (own_operator n) es) ≡ flat_map own_arrow es
  arrows_among [] = refl
  arrows_among (e ∷ es) = flat_map-append arrow_told (own_operator n e) (flat_map (own_operator n) es) ∙ (λ i. arrow_here e i ++ arrows_among es i)

  arrows_are : node_arrows n ≡ flat_map own_arrow (node_parts n)
  arrows_are = ap (flat_map arrow_told) (node_operators n) ∙ arrows_among (node_parts n)

  -- Each `->` comes.
  pub node_comes : (e : Tree) → Contains (node_parts n) e → is_arrow e ≡ true → Contains (node_arrows n) (taken Base (pace n e))
  node_comes e w is =
      let k = taken Base (pace n e) in
      subst (λ l. Contains l k) (sym arrows_are)
      (in_flat_map own_arrow (node_parts n) e k w (subst (λ b. Contains (cond b (k ∷ []) []) k) (sym is) (at_head k [])))

  -- And nothing else does.
  pub node_only : (k : Clock) → Contains (node_arrows n) k → (e : Tree) × Contains (node_parts n) e × (is_arrow e ≡ true) × (taken Base (pace n e) ≡ k)
  node_only k w =
      let r = of_flat_map own_arrow (node_parts n) k (subst (λ l. Contains l k) arrows_are w) in
      let own = only_one (is_arrow r.0) (taken Base (pace n r.0)) k r.2 in
      (r.0, r.1, own.0, own.1)

module _ (program : ProgramTree) (n : NodeTree) (well : IsWellTyped program n) (formed : IsWellFormed program n) where
  -- A `->` has a type, also one in an argument of a call with several outputs.
  module _ (e : Tree) (is : is_arrow e ≡ true) where
    right_typed : (q : EquationTree) → Contains n.equations q → Contains (parts q.right) e → IsTyped (node_scope program n) e
    right_typed q w v = by q.lefts refl
      where
        several : (length q.lefts ≡ 1 → ⊥) → IsTyped (node_scope program n) e
        several more =
            let s = formed.sides q w more in
            let c : CallTree = record { at = s.0; site = unwrap_or s.1 0; name = s.2; args = s.3 } in
            let there : Contains (calls n) c = Contains-append_left (calls_in_equations n.equations) (calls_in_assertions n.assertions) c
            (right_calls n.equations q c w (subst (λ t. Contains (calls_in t) c) (sym s.4) (at_head c (calls_in_all s.3)))) in
            elim (cons_cases (Node s.0 s.1 (Call s.2 s.3)) (parts_of_all s.3) e (subst (λ t. Contains (parts t) e) s.4 v)) [
              | inl same ↦ no_flag (ap is_arrow same ∙ is)
              | inr rest ↦
                  let a = argument_part s.3 e rest in let t = well.argument c a.0 a.1 there a.2 in
                  parts_typed (node_scope program n) a.1 (t.0, t.1) e a.3
            ]

        by : (lefts : List Name) → q.lefts ≡ lefts → IsTyped (node_scope program n) e
        by [] empty = several (λ one. omega (arith, ap length empty, one))
        by (x ∷ []) one = let t = well.body x.text q.right (alone q w (ap texts one)) in parts_typed (node_scope program n) q.right (t.0, t.1) e v
        by (x ∷ y ∷ ys) more = several (λ one. omega (arith, ap length more, one))

    arrow_typed : Contains (node_parts n) e → IsTyped (node_scope program n) e
    arrow_typed w = elim (Contains-append_cases (flat_map (λ (q : EquationTree). parts q.right) n.equations)
        (flat_map (λ (a : AssertionTree). parts a.body) n.assertions) e w) [
          | inl v ↦ let r = of_flat_map (λ (q : EquationTree). parts q.right) n.equations e v in right_typed r.0 r.1 r.2
          | inr v ↦
              let r = of_flat_map (λ (a : AssertionTree). parts a.body) n.assertions e v in
              parts_typed (node_scope program n) r.0.body (kind.Bool, well.assertion r.0 r.1) e r.2
        ]

  -- So its clock is the base clock or that of a Boolean flow,
  pub arrow_true : (e : Tree) → Contains (node_parts n) e → is_arrow e ≡ true → IsTrueClock program n (taken Base (pace n e))
  arrow_true e w is = let t = arrow_typed e is w in clock_taken program n (pace n e) (pace_is_true program n well e t.0 t.1)

  -- and a clock of the node.
  pub arrow_known : (k : Clock) → Contains (node_arrows n) k → IsKnownClock n k
  arrow_known k w = let r = node_only n k w in by k (subst (IsTrueClock program n) r.3 (arrow_true r.0 r.1 r.2))
    where
      by : (k : Clock) → IsTrueClock program n k → IsKnownClock n k
      by Base h = tt
      by (On s) h = omega (arith, slice_get_within _ s kind.Bool h, kinds_many program n)
