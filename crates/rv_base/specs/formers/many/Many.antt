-- Where a `Many` keeps its elements, for a type that leads back to itself through one: its value is their list.
--     the_former, the_weighed, the_empty      its value is the list of the elements
--     the_items, the_items_listed      that list, and that it is the row of the children
--     the_places, the_codes_placed      an element type that is laid out, owned, lent and coded alike makes a `Many` that is
-- The struct's one field is a `Vec`, of which the same is known; `In` carries that through the field, and the view
-- reads only the `Vec`'s items.
use mathlib.Core.Path.{◌≡◌, refl}
use mathlib.Core.List.{List, []}
use mathlib.Core.Former.{Former, this, list, via, children}
use denote.RattleType.{RattleType}
use denote.HoleLaws.{Alike}
use denote.HolePlaces.{Recodes, Array-codes, laid, struct_places}
use denote.Hole.Carrier.{listed, list-listed}
use denote.Hole.Fix.{over}
use denote.Param.Weighed.{Weighed, w_list}
use denote.Model.Placed.{view_places}
use Rattle.std.specs.contracts.alloc.Global as handle
use Rattle.std.specs.contracts.impls.GlobalAllocator.TheImpl as frees
use Rattle.std.specs.declared.alloc.Global.{Global}
use Rattle.std.specs.formers.vec.Vec as behind_it
use Rattle.rv_base.specs.declared.many.Many.TheInside.{Inside}
use Rattle.rv_base.specs.declared.many.Many.TheView as shown
use Rattle.rv_base.specs.contracts.many.Many as outer
use Rattle.rv_base.specs.contracts.many.Many.TheInside as inner

abbrev pub the_former : Former {0} → Former {0}
the_former g = list g

abbrev pub the_weighed : {g : Former {0}} → Weighed g → Weighed (the_former g)
the_weighed w = w_list w

abbrev pub the_empty : List ⊥
the_empty = []

abbrev pub the_items : (X : Type 0) → List X → List X
the_items X elements = elements

pub the_items_listed : (X : Type 0) (elements : List X) → listed _ (children (the_former this) X elements) ≡ the_items X elements
the_items_listed X elements = list-listed X elements

-- The struct of the one field, as a former.
abbrev In : Former {0}
In = via (behind_it.the_former this Global) Inside (λ X m. m.elements) (λ X v. record { elements = v }) (λ X m. refl) (λ X v. refl)

module _ (R R' : RattleType) (h : R.Denot → R'.Denot) where
  field_alike : Alike R R' h → Alike (inner.the_row R) (inner.the_row R') (In.map R.Denot R'.Denot h)
  field_alike a = struct_places (inner.the_type R) (inner.the_type R') (_, tt) (In.map R.Denot R'.Denot h) (λ m. refl) refl
      (laid _ _ _ (behind_it.the_places handle.the_row frees.ghosts R R' h a), tt)

  pub the_places : Alike R R' h → Alike (outer.the_row R) (outer.the_row R') ((the_former this).map R.Denot R'.Denot h)
  the_places a = view_places In (list this) shown.view (λ X Y k m. refl) (λ X m. refl) R.Denot R'.Denot h
      (outer.the_row R).coded (outer.the_row R').coded (shown.invariant R.Denot) (shown.invariant R'.Denot)
      (λ m p q. refl) (λ m p q. refl) (λ m p. tt) (λ m p. tt)
      (over (inner.the_row R)) (over (inner.the_row R')) (field_alike a)

  pub the_codes_placed : Recodes R R' h → Recodes (outer.the_row R) (outer.the_row R') ((the_former this).map R.Denot R'.Denot h)
  the_codes_placed same = Array-codes R R' h same 0
