-- What holds of the paces of operands holds of the pace of what is made of them.
use Rattle.std.proofs.Common.{ℕ, inl, inr, Bool, true, false, cond, ◌++◌, map, length, get_or, sym, subst}
use Rattle.std.proofs.{lemmas.List.get_or_past, lemmas.List.Elements.Contains-get_or, lemmas.List.Elements.Contains-append_cases}
use Rattle.std.specs.List.{Contains}
use Rattle.rv_tree.specs.{declared.tree.Decl.Decl, declared.tree.Op.Op, Tree.NodeTree}
use Rattle.rv_tree.specs.declared.tree.Op.TheVariants as op
use Rattle.rv_types.specs.declared.typed.Clock.TheVariants.{Base, On}
use Rattle.rv_types.specs.declared.fault.Pace.TheVariants.{Free, At, Mute, Differ}
use Rattle.rv_types.specs.Clocks.{base_clock, declared_clock, flow_clocks, seen, meet, grounded, same_clock, clock_at, binary_pace, when_pace, current_pace}
use Rattle.rv_types.specs.{declared.typed.Clock.Clock, declared.fault.Pace.Pace}
use Rattle.rv_instances.proofs.Lists.{nat_split}
use Rattle.rv_base.proofs.Lists.{from_map}

-- It holds of what has no clock, and of what stands on the base clock.
pub record IsKept (Holds : Pace → Type 0) : Type 0 where
  pub free : Holds Free
  pub base : Holds (At Base)
  pub mute : Holds Mute
  pub differ : Holds Differ

module _ {Holds : Pace → Type 0} (kept : IsKept Holds) where
  pub seen_holds : (p : Pace) → Holds p → Holds (seen p)
  seen_holds Differ h = kept.mute
  seen_holds _ h = h

  pub grounded_holds : (p : Pace) → Holds p → Holds (grounded p)
  grounded_holds Free h = kept.base
  grounded_holds _ h = h

  pub meet_holds : (p q : Pace) → Holds p → Holds q → Holds (meet p q)
  meet_holds Mute q h k = h
  meet_holds Free (At d) h k = k
  meet_holds Free _ h k = k
  meet_holds (At c) (At d) h k = elim (same_clock c d) as (λ b. Holds (cond b (At c) Differ)) [ true ↦ h | false ↦ kept.differ ]
  meet_holds (At c) Free h k = h
  meet_holds (At c) _ h k = k
  meet_holds Differ Mute h k = k
  meet_holds Differ _ h k = h

  pub binary_holds : (o : Op) (p q : Pace) → Holds p → Holds q → Holds (binary_pace o p q)
  binary_holds op.Arrow p q h k = grounded_holds (meet p q) (meet_holds p q h k)
  binary_holds _ p q h k = meet_holds p q h k

  module _ (n : NodeTree) where
    pub when_holds : (p : Pace) (i : ℕ) → Holds (At (On i)) → Holds (when_pace n p i)
    when_holds p i h = elim (meet p (At (clock_at n i))) as (λ m. Holds (elim m as (λ _. Pace)
        [ Free ↦ At (On i) | At c ↦ At (On i) | Mute ↦ Mute | Differ ↦ Differ ])) [ Free ↦ h | At c ↦ h | Mute ↦ kept.mute | Differ ↦ kept.differ ]

    -- it holds of the clock of a flow where it does of the declared clocks
    pub flow_holds : ((d : Decl) → Contains n.locals d → Holds (At (declared_clock n d.clock))) → (i : ℕ) → Holds (At (clock_at n i))
    flow_holds declared i = elim (nat_split i (length (flow_clocks n))) [
      | inl lt ↦ each (get_or (flow_clocks n) i Base) (Contains-get_or (flow_clocks n) i Base lt)
      | inr le ↦ subst (λ c. Holds (At c)) (sym (get_or_past (flow_clocks n) i Base le)) kept.base
    ]
      where
        each : (c : Clock) → Contains (flow_clocks n) c → Holds (At c)
        each c w = elim (Contains-append_cases (map base_clock n.inputs ++ map base_clock n.outputs)
            (map (λ (d : Decl). declared_clock n d.clock) n.locals) c w) [
              | inl front ↦ elim (Contains-append_cases (map base_clock n.inputs) (map base_clock n.outputs) c front) [
                | inl v ↦ subst (λ c. Holds (At c)) (from_map base_clock n.inputs c v).2 kept.base
                | inr v ↦ subst (λ c. Holds (At c)) (from_map base_clock n.outputs c v).2 kept.base
              ]
              | inr v ↦
                  let d = from_map (λ (d : Decl). declared_clock n d.clock) n.locals c v in
                  subst (λ c. Holds (At c)) d.2 (declared d.0 d.1)
            ]

    module _ (flow : (i : ℕ) → Holds (At (clock_at n i))) where
      pub current_holds : (p : Pace) → Holds (current_pace n p)
      current_holds (At (On i)) = flow i
      current_holds (At Base) = kept.differ
      current_holds Free = kept.differ
      current_holds _ = kept.mute

      pub name_holds : (b : Bool) (i : ℕ) → Holds (cond b (At (clock_at n i)) Free)
      name_holds true i = flow i
      name_holds false i = kept.free
