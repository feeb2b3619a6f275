-- State variables in a list, and those of a system.
use Rattle.std.proofs.lemmas.List.{get_or_default}
use Rattle.std.proofs.Common.{◌≡◌, ◌↔◌, [], ℕ, ◌*◌, ◌<◌, List, length, sym, ◌∙◌, subst, arith, get_or}
use Rattle.rv_diagram.specs.{Nodes.Valuation, Nodes.node_at, declared.frozen.Frozen.Frozen}
use Rattle.rv_proofs.specs.{Systems.System, Systems.IsSystem, Systems.IsState, Scopes.IsIn, Ranges.IsControlSet}
use Rattle.rv_split.specs.{declared.partition.Partition.Partition}
use Rattle.rv_split.specs.Partitions.{IsListed, AreRising, AreBelow, IsStateSet, IsPartition, IsInSome, part_at}
use Rattle.rv_left.specs.{Entries.AreControlSets, Reports.IsStateList, Reports.IsParted}

module _ (s : System) (state : List ℕ) (h : IsStateList s state) where
  pub listed_is_state : (x : ℕ) → IsListed state x → IsState s x
  listed_is_state x (i, low, e) = let less : i < s.states = omega (arith, low, h.size) in (i, less, sym e ∙ h.each i less)

  pub state_is_listed : (x : ℕ) → IsState s x → IsListed state x
  state_is_listed x (i, low, e) = (i, omega (arith, low, h.size), h.each i low ∙ sym e)

  pub set_of_control : (f : Frozen) → IsControlSet s f → IsStateSet s.variables state f
  set_of_control f c = record { ordered = c.ordered; states = λ n low. state_is_listed (node_at f.nodes n).var (c.states n low) }

  pub control_of_set : (f : Frozen) → IsStateSet s.variables state f → IsControlSet s f
  control_of_set f c = record { ordered = c.ordered; states = λ n low. listed_is_state (node_at f.nodes n).var (c.states n low) }

  pub states_rise : AreRising state
  states_rise i j less low =
      let e : get_or state i 0 ≡ 2 * i = h.each i (omega (arith, less, low, h.size)) in
      let f : get_or state j 0 ≡ 2 * j = h.each j (omega (arith, low, h.size)) in
      omega (arith, e, f, less)

  pub states_below : IsSystem s → AreBelow s.variables state
  states_below system i low =
      let e : get_or state i 0 ≡ 2 * i = h.each i (omega (arith, low, h.size)) in omega (arith, e, low, h.size, system.bits)

pub parted_made : (s : System) (limit variables : ℕ) (reached : Frozen) (state : List ℕ) (p : Partition) → variables ≡ s.variables → IsStateList s state
    → IsPartition variables p → ((v : Valuation) → IsInSome p.parts v ↔ IsIn reached v) → p.state ≡ state → p.limit ≡ limit → IsParted s limit reached p
parted_made s limit variables reached state p is list partition union state_is limit_is = record {
  partition = subst (λ (m : ℕ). IsPartition m p) is partition;
  state = subst (IsStateList s) (sym state_is) list;
  limit_is = limit_is;
  union = union;
}

-- the same after it was split
pub parted_after : (s : System) (limit variables : ℕ) (reached : Frozen) (old new : Partition) → variables ≡ s.variables → IsParted s limit reached old
    → IsPartition variables new → ((v : Valuation) → IsInSome new.parts v ↔ IsInSome old.parts v) → new.state ≡ old.state → new.limit ≡ old.limit
    → IsParted s limit reached new
parted_after s limit variables reached old new is h partition union state_is limit_is = record {
  partition = subst (λ (m : ℕ). IsPartition m new) is partition;
  state = subst (IsStateList s) (sym state_is) h.state;
  limit_is = limit_is ∙ h.limit_is;
  union = λ v. (λ i. (h.union v).0 ((union v).0 i), λ i. (union v).1 ((h.union v).1 i));
}

pub parts_control : (s : System) (limit : ℕ) (reached : Frozen) (p : Partition) → IsParted s limit reached p → AreControlSets s p.parts
parts_control s limit reached p h k low = control_of_set s p.state h.state (part_at p.parts k) (h.partition.parts.sets k low)

-- a set that was read from a list
pub part_read : (sets : List Frozen) (k : ℕ) (f : Frozen) → k < length sets → f ≡ get_or sets k f → part_at sets k ≡ f
part_read sets k f low is = get_or_default sets k (record { nodes = []; root = 0 }) f low ∙ sym is
