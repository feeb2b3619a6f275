-- The clocks of flows and expressions are flows of their node.
use Rattle.std.proofs.Common.{◌≡◌, ℕ, ◌<◌, Bool, List, [], length, Option, Some, None as Nothing}
use Rattle.std.specs.List.{flat_map}
use Rattle.rv_tree.specs.Tree.{Tree, Node, Form, Named, Not, Minus, Pre, Current, When, Binary, If, AtMostOne, Call, Trees, None, More, NodeTree}
use Rattle.rv_tree.specs.{declared.tree.Name.Name, Places.Identifier, Places.flows, Places.site_of, Places.is_flow}
use Rattle.rv_types.specs.Clocks.{declared_clock, seen, meet, clock_at, pace, form_pace, pace_of_all}
use Rattle.rv_types.specs.Names.{clock_use, uses, own_uses, use_of}
use Rattle.rv_types.specs.{declared.fault.NameFault.NameFault, Parts.faults_of_all}
use Rattle.rv_instances.specs.Flowing.{IsKnownClock, IsKnownPace}
use Rattle.rv_instances.proofs.PaceRules.{IsKept, seen_holds, grounded_holds, meet_holds, binary_holds, when_holds, flow_holds, current_holds, name_holds}
use Rattle.rv_instances.proofs.Known.{each_nil, use_known}
use Rattle.rv_types.proofs.{Members.index_there, RightNames.both_empty}

module _ (n : NodeTree) where
  kept : IsKept (IsKnownPace n)
  kept = record { free = tt; base = tt; mute = tt; differ = tt }

  site_known : (x : Name) → use_of (is_flow n) x ≡ [] → site_of n x.text < length (flows n)
  site_known x e = (index_there (flows n) x.text (use_known x.at (is_flow n x.text) e)).0

  -- where every declared clock is a flow, the clock of each flow is known
  pub clocks_known : flat_map (clock_use n) n.locals ≡ [] → (i : ℕ) → IsKnownClock n (clock_at n i)
  clocks_known uses = flow_holds kept n (λ d w. declared d.clock (each_nil (clock_use n) n.locals uses d w))
    where
      declared : (o : Option Name) → elim o as (λ _. List NameFault) [ Nothing ↦ [] | Some c ↦ use_of (is_flow n) c ] ≡ [] → IsKnownClock n (declared_clock n o)
      declared Nothing e = tt
      declared (Some c) e = site_known c e

  -- where also every name of a clock is known, the clock of an expression is
  module _ (values nodes : Identifier → Bool) (flow : (i : ℕ) → IsKnownClock n (clock_at n i)) where
    mutual
      pub pace_known : (e : Tree) → uses values (is_flow n) nodes e ≡ [] → IsKnownPace n (pace n e)
      pace_known (Node at site form) e = form_known at site form e

      form_known : (at : ℕ) (site : Option ℕ) (form : Form) → uses values (is_flow n) nodes (Node at site form) ≡ [] → IsKnownPace n (form_pace n form)
      form_known at site (Named x) e = name_holds kept n flow (is_flow n x) (site_of n x)
      form_known at site (Not t) e = seen_holds kept (pace n t) (pace_known t e)
      form_known at site (Minus t) e = seen_holds kept (pace n t) (pace_known t e)
      form_known at site (Pre t) e = grounded_holds kept (seen (pace n t)) (seen_holds kept (pace n t) (pace_known t e))
      form_known at site (Current t) e = current_holds kept n flow (seen (pace n t))
      form_known at site (When t x) e = when_holds kept n (seen (pace n t)) (site_of n x.text) (site_known x (both_empty _ _ e).0)
      form_known at site (Binary o a b) e =
          let s = both_empty _ _ e in
          binary_holds kept o (seen (pace n a)) (seen (pace n b)) (seen_holds kept (pace n a) (pace_known a s.0))
          (seen_holds kept (pace n b) (pace_known b s.1))
      form_known at site (If i a b) e =
          let s = both_empty _ _ e in
          let t = both_empty _ _ s.1 in
          meet_holds kept (seen (pace n i)) (meet (seen (pace n a)) (seen (pace n b))) (seen_holds kept (pace n i) (pace_known i s.0))
          (meet_holds kept (seen (pace n a)) (seen (pace n b)) (seen_holds kept (pace n a) (pace_known a t.0)) (seen_holds kept (pace n b) (pace_known b t.1)))
      form_known at site (AtMostOne es) e = all_known es e
      form_known at site (Call f es) e = grounded_holds kept (pace_of_all n es) (all_known es (both_empty _ _ e).1)
      form_known at site _ e = tt

      pub all_known : (es : Trees) → faults_of_all (own_uses values (is_flow n) nodes) es ≡ [] → IsKnownPace n (pace_of_all n es)
      all_known None e = tt
      all_known (More t ts) e =
          let s = both_empty _ _ e in
          meet_holds kept (seen (pace n t)) (pace_of_all n ts) (seen_holds kept (pace n t) (pace_known t s.0)) (all_known ts s.1)
