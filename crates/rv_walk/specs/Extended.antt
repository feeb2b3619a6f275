-- A set that takes in another.
use Rattle.std.specs.Prelude.{◌≡◌, ℕ, Bool, false, not, ◌&&◌, ◌||◌}
use Rattle.rv_diagram.specs.Nodes.{Valuation, Diagrams, IsRef, value_of, IsOrderedOver}
use Rattle.rv_diagram.specs.{Several.UsesNeeded, declared.frozen.Frozen.Frozen}
use Rattle.rv_walk.specs.{declared.sets.Extended.Extended, declared.sets.Grown.Grown, Ends.has}

-- what is in the second set and not in the first, and what is in either
abbrev pub fresh_of : Frozen → Frozen → Valuation → Bool
fresh_of reached next v = has next v && not (has reached v)

abbrev pub either_of : Frozen → Frozen → Valuation → Bool
either_of reached next v = has next v || has reached v

-- the same beside a set that is given by its meaning
abbrev pub fresh_in : (Valuation → Bool) → Frozen → Valuation → Bool
fresh_in reached next v = has next v && not (reached v)

abbrev pub either_in : (Valuation → Bool) → Frozen → Valuation → Bool
either_in reached next v = has next v || reached v

-- What is new in the second set, of which there is some, and both sets together.
pub record IsExtended (m : ℕ) (reached next : Frozen) (e : Extended) : Type 0 where
  pub fresh_ordered : IsOrderedOver m e.fresh
  pub fresh_is : (v : Valuation) → has e.fresh v ≡ fresh_of reached next v
  pub fresh_needed : UsesNeeded e.fresh.nodes (fresh_of reached next)
  pub some : ((v : Valuation) → has e.fresh v ≡ false) → ⊥
  pub all_ordered : IsOrderedOver m e.all
  pub all_is : (v : Valuation) → has e.all v ≡ either_of reached next v
  pub all_needed : UsesNeeded e.all.nodes (either_of reached next)

-- Both references by themselves, of which the first is not false.
pub record IsTaken (d : Diagrams) (fresh all : ℕ) (e : Extended) : Type 0 where
  pub fresh_ordered : IsOrderedOver d.variables e.fresh
  pub fresh_is : (v : Valuation) → has e.fresh v ≡ value_of d.nodes fresh v
  pub fresh_needed : UsesNeeded e.fresh.nodes (value_of d.nodes fresh)
  pub some : ((v : Valuation) → value_of d.nodes fresh v ≡ false) → ⊥
  pub all_ordered : IsOrderedOver d.variables e.all
  pub all_is : (v : Valuation) → has e.all v ≡ value_of d.nodes all v
  pub all_needed : UsesNeeded e.all.nodes (value_of d.nodes all)

-- What is in the first set and not in the second.
pub record IsWithout (m : ℕ) (a b f : Frozen) : Type 0 where
  pub ordered : IsOrderedOver m f
  pub exact : (v : Valuation) → has f v ≡ fresh_of b a v
  pub needed : UsesNeeded f.nodes (fresh_of b a)

-- What is new in a set, of which there is some, by itself.
pub record IsFresh (m : ℕ) (reached : Valuation → Bool) (next fresh : Frozen) : Type 0 where
  pub ordered : IsOrderedOver m fresh
  pub exact : (v : Valuation) → has fresh v ≡ fresh_in reached next v
  pub needed : UsesNeeded fresh.nodes (fresh_in reached next)
  pub some : ((v : Valuation) → has fresh v ≡ false) → ⊥

-- What is new in a set beside one in the store, and both sets together in the store.
pub record IsGrown (old new : Diagrams) (reached : ℕ) (next : Frozen) (g : Grown) : Type 0 where
  pub fresh : IsFresh old.variables (value_of old.nodes reached) next g.fresh
  pub found : IsRef new.nodes g.all
  pub all : (v : Valuation) → value_of new.nodes g.all v ≡ either_in (value_of old.nodes reached) next v

-- The first reference by itself, which is not false, and the second.
pub record IsLifted (d : Diagrams) (first second : ℕ) (g : Grown) : Type 0 where
  pub ordered : IsOrderedOver d.variables g.fresh
  pub exact : (v : Valuation) → has g.fresh v ≡ value_of d.nodes first v
  pub needed : UsesNeeded g.fresh.nodes (value_of d.nodes first)
  pub some : ((v : Valuation) → value_of d.nodes first v ≡ false) → ⊥
  pub all : g.all ≡ second
