-- The clocks of flows and of expressions that have types are Boolean flows.
use Rattle.std.proofs.Common.{◌≡◌, inl, inr, ℕ, suc, Bool, true, false, cond, List, [], ◌∷◌, ◌++◌, map, length, get_or, slice_get, refl, sym, subst, arith}
use Rattle.std.proofs.Common.{Option, Some, None as Nothing}
use Rattle.std.proofs.{lemmas.Bool.cases_lt, lemmas.List.get_or_past, lemmas.List.Elements.Contains-get_or, lemmas.List.Elements.Contains-append_cases}
use Rattle.std.specs.List.{Contains}
use Rattle.rv_tree.specs.Tree.{Tree, Node, Named, Not, Minus, Pre, Current, When, Binary, If, AtMostOne, Call, Trees, None, More, NodeTree, ProgramTree}
use Rattle.rv_tree.specs.{declared.tree.Name.Name, declared.tree.Decl.Decl, declared.tree.Op.Op, Places.is_flow, Places.site_of}
use Rattle.rv_tree.specs.declared.tree.Op.TheVariants as op
use Rattle.rv_types.specs.Clocks.{base_clock, declared_clock, flow_clocks, clock_at, same_clock, seen, meet, grounded, binary_pace, when_pace, current_pace}
use Rattle.rv_types.specs.Clocks.{pace, pace_of_all}
use Rattle.rv_types.specs.{declared.typed.Kind.Kind, declared.typed.Clock.Clock, declared.typed.Clock.TheVariants.Base, declared.typed.Clock.TheVariants.On}
use Rattle.rv_types.specs.{declared.fault.Pace.Pace, declared.fault.Pace.TheVariants.Free, declared.fault.Pace.TheVariants.At}
use Rattle.rv_types.specs.{declared.fault.Pace.TheVariants.Mute, declared.fault.Pace.TheVariants.Differ, Kinds.flow_kinds, Types.all_typed, Types.kind_of}
use Rattle.rv_types.specs.{Types.kinds_of_all, Scopes.node_scope, Instances.taken, Instances.IsArgument, Instances.head, Instances.tail, WellFormed.IsWellTyped}
use Rattle.rv_types.specs.declared.typed.Kind.TheVariants as kind
use Rattle.rv_flat.proofs.TypedParts.{IsTyped, not_typed, minus_typed, pre_typed, when_typed, binary_typed, if_typed, most_typed, call_typed}
use Rattle.rv_types.proofs.{Members.at_head, Members.cons_cases, Members.in_tail, Members.nothing_in, ChainLaws.no_flag}

module _ (program : ProgramTree) (n : NodeTree) where
  -- a clock is the base clock or that of a Boolean flow
  abbrev pub IsTrueClock : Clock → Type 0
  IsTrueClock Base = Unit {0}
  IsTrueClock (On s) = slice_get (flow_kinds program n) s ≡ Some kind.Bool

  abbrev pub HasTrueClock : Pace → Type 0
  HasTrueClock (At c) = IsTrueClock c
  HasTrueClock _ = Unit {0}

  of_seen : (p : Pace) → HasTrueClock p → HasTrueClock (seen p)
  of_seen (At c) h = h
  of_seen _ h = tt

  of_ground : (p : Pace) → HasTrueClock p → HasTrueClock (grounded p)
  of_ground (At c) h = h
  of_ground _ h = tt

  of_choice : (b : Bool) (p : Pace) → HasTrueClock p → HasTrueClock (cond b p Differ)
  of_choice true p h = h
  of_choice false p h = tt

  of_meet : (p q : Pace) → HasTrueClock p → HasTrueClock q → HasTrueClock (meet p q)
  of_meet Mute q h k = tt
  of_meet Free Free h k = tt
  of_meet Free (At c) h k = k
  of_meet Free Mute h k = tt
  of_meet Free Differ h k = tt
  of_meet (At c) Free h k = h
  of_meet (At c) (At d) h k = of_choice (same_clock c d) (At c) h
  of_meet (At c) Mute h k = tt
  of_meet (At c) Differ h k = tt
  of_meet Differ Free h k = tt
  of_meet Differ (At c) h k = tt
  of_meet Differ Mute h k = tt
  of_meet Differ Differ h k = tt

  of_operator : (o : Op) (p q : Pace) → HasTrueClock p → HasTrueClock q → HasTrueClock (binary_pace o p q)
  of_operator op.Arrow p q h k = of_ground (meet p q) (of_meet p q h k)
  of_operator _ p q h k = of_meet p q h k

  of_when : (p : Pace) (i : ℕ) → IsTrueClock (On i) → HasTrueClock (when_pace n p i)
  of_when p i is = at (meet p (At (clock_at n i)))
    where
      at : (m : Pace) → HasTrueClock (elim m as (λ _. Pace) [ Free ↦ At (On i) | At c ↦ At (On i) | Mute ↦ Mute | Differ ↦ Differ ])
      at Free = is
      at (At c) = is
      at Mute = tt
      at Differ = tt

  of_current : ((i : ℕ) → IsTrueClock (clock_at n i)) → (p : Pace) → HasTrueClock (current_pace n p)
  of_current declared (At (On i)) = declared i
  of_current declared _ = tt

  -- what is on no clock takes the base clock
  pub clock_taken : (p : Pace) → HasTrueClock p → IsTrueClock (taken Base p)
  clock_taken (At c) h = h
  clock_taken _ h = tt

  pub clock_taken_on : (k : Clock) (p : Pace) → IsTrueClock k → HasTrueClock p → IsTrueClock (taken k p)
  clock_taken_on k (At c) is h = h
  clock_taken_on k _ is h = is

  -- each of the arguments of a call has a type
  pub arguments_typed : (es : Trees) → all_typed (kinds_of_all (node_scope program n) es) ≡ true → (j : ℕ) (e : Tree) → IsArgument es j e
      → (k : Kind) × IsTyped program n e k
  arguments_typed _ t _ e (head {es}) = by (kind_of (node_scope program n) e) t
    where
      by : (o : Option Kind) → all_typed (o ∷ kinds_of_all (node_scope program n) es) ≡ true → (k : Kind) × (o ≡ Some k)
      by Nothing t = no_flag t
      by (Some k) t = (k, refl)
  arguments_typed _ t _ e (tail {e = b} {es = es} {j = j} arg) = arguments_typed es (by (kind_of (node_scope program n) b) t) j e arg
    where
      by : (o : Option Kind) → all_typed (o ∷ kinds_of_all (node_scope program n) es) ≡ true → all_typed (kinds_of_all (node_scope program n) es) ≡ true
      by Nothing t = no_flag t
      by (Some k) t = t

  module _ (well : IsWellTyped program n) where
    each_clock : (cs : List Clock) → ((c : Clock) → Contains cs c → IsTrueClock c) → (i : ℕ) → IsTrueClock (get_or cs i Base)
    each_clock cs each i = elim (cases_lt i (length cs)) [
      | inl lt ↦ each (get_or cs i Base) (Contains-get_or cs i Base lt)
      | inr past ↦ subst IsTrueClock (sym (get_or_past cs i Base (omega (arith, past)))) tt
    ]

    all_base : (ds : List Decl) (c : Clock) → Contains (map base_clock ds) c → IsTrueClock c
    all_base [] c w = nothing_in c w
    all_base (d ∷ ds) c w = elim (cons_cases Base (map base_clock ds) c w) [ inl is ↦ subst IsTrueClock is tt | inr rest ↦ all_base ds c rest ]

    one_declared : (d : Decl) → Contains n.locals d → (o : Option Name) → d.clock ≡ o → IsTrueClock (declared_clock n o)
    one_declared d w Nothing e = tt
    one_declared d w (Some c) e = well.clock d c w e

    all_declared : (ds : List Decl) → ((d : Decl) → Contains ds d → Contains n.locals d) → (c : Clock) → Contains (map (λ d. declared_clock n d.clock) ds) c
        → IsTrueClock c
    all_declared [] into c w = nothing_in c w
    all_declared (d ∷ ds) into c w = elim (cons_cases (declared_clock n d.clock) (map (λ d. declared_clock n d.clock) ds) c w) [
      | inl is ↦ subst IsTrueClock is (one_declared d (into d (at_head d ds)) d.clock refl)
      | inr rest ↦ all_declared ds (λ e v. into e (in_tail d ds e v)) c rest
    ]

    -- so is the clock of each flow
    pub clock_is_true : (i : ℕ) → IsTrueClock (clock_at n i)
    clock_is_true i = each_clock (flow_clocks n) each i
      where
        each : (c : Clock) → Contains (flow_clocks n) c → IsTrueClock c
        each c w = elim (Contains-append_cases (map base_clock n.inputs ++ map base_clock n.outputs) (map (λ (d : Decl). declared_clock n d.clock) n.locals) c
            w) [
              | inl front ↦ elim (Contains-append_cases (map base_clock n.inputs) (map base_clock n.outputs) c front) [
                | inl v ↦ all_base n.inputs c v
                | inr v ↦ all_base n.outputs c v
              ]
              | inr v ↦ all_declared n.locals (λ d u. u) c v
            ]

    named_pace : (b : Bool) (i : ℕ) → HasTrueClock (cond b (At (clock_at n i)) Free)
    named_pace true i = clock_is_true i
    named_pace false i = tt

    mutual
      -- and that of each expression that has a type
      pub pace_is_true : (e : Tree) (k : Kind) → IsTyped program n e k → HasTrueClock (pace n e)
      pace_is_true (Node at site (Named x)) k t = named_pace (is_flow n x) (site_of n x)
      pace_is_true (Node at site (Not e)) k t = of_seen (pace n e) (pace_is_true e kind.Bool (not_typed program n at site e k t).0)
      pace_is_true (Node at site (Minus e)) k t = of_seen (pace n e) (pace_is_true e kind.Int (minus_typed program n at site e k t).0)
      pace_is_true (Node at site (Pre e)) k t = of_ground (seen (pace n e)) (of_seen (pace n e) (pace_is_true e k (pre_typed program n at site e k t)))
      pace_is_true (Node at site (Current e)) k t = of_current clock_is_true (seen (pace n e))
      pace_is_true (Node at site (When e c)) k t = of_when (seen (pace n e)) (site_of n c.text) (when_typed program n at site e c k t).1
      pace_is_true (Node at site (Binary o a b)) k t =
          let r = binary_typed program n at site o a b k t in
          of_operator o (seen (pace n a)) (seen (pace n b)) (of_seen (pace n a) (pace_is_true a r.left r.left_is))
          (of_seen (pace n b) (pace_is_true b r.right r.right_is))
      pace_is_true (Node at site (If a b c)) k t =
          let r = if_typed program n at site a b c k t in
          of_meet (seen (pace n a)) (meet (seen (pace n b)) (seen (pace n c))) (of_seen (pace n a) (pace_is_true a kind.Bool r.0))
          (of_meet (seen (pace n b)) (seen (pace n c)) (of_seen (pace n b) (pace_is_true b k r.1)) (of_seen (pace n c) (pace_is_true c k r.2)))
      pace_is_true (Node at site (AtMostOne es)) k t = let r = (most_typed program n at site es k t).0 in paces_are_true es (λ j e arg. (kind.Bool, r j e arg))
      pace_is_true (Node at site (Call f es)) k t = of_ground (pace_of_all n es)
          (paces_are_true es (arguments_typed es (call_typed program n at site f es k t).typed))
      pace_is_true (Node at site _) k t = tt

      pub paces_are_true : (es : Trees) → ((j : ℕ) (e : Tree) → IsArgument es j e → (k : Kind) × IsTyped program n e k) → HasTrueClock (pace_of_all n es)
      paces_are_true None t = tt
      paces_are_true (More e es) t =
          let r = t 0 e head in
          of_meet (seen (pace n e)) (pace_of_all n es) (of_seen (pace n e) (pace_is_true e r.0 r.1)) (paces_are_true es (λ j a arg. t (suc j) a (tail arg)))
