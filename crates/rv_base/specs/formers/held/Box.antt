-- Where a `Box` keeps its value, for a type that leads back to itself through one: its value is the contents.
--     the_former, the_weighed      its value is the one value that it holds
--     the_places, the_codes_placed      a type of contents that is laid out, owned, lent and coded alike makes a `Box` that is
-- What the standard `Box` owns and lends goes by its pointer and by four things of its contents, so both sides of
-- `owned` and `lent` are the ends of one line of boxes, at a type of one value.
use mathlib.Core.Path.{◌≡◌, refl}
use mathlib.Core.Former.{Former, this, const, pair, via}
use base.Stored.{gnil}
use denote.RattleType.{RattleType}
use denote.RawPtr.{Ptr, block_ptr, null_ptr}
use denote.Memory.{part_of}
use denote.HoleLaws.{Alike}
use denote.HolePlaces.{Recodes, one_value}
use denote.Hole.Fix.{over}
use denote.Param.Weighed.{Weighed}
use denote.Model.Placed.{view_places}
use Rattle.std.specs.declared.alloc.Global.{Global}
use Rattle.rv_base.specs.declared.held.Box.TheInside.{Inside}
use Rattle.rv_base.specs.declared.held.Box.TheView as shown
use Rattle.rv_base.specs.contracts.held.Box as outer
use Rattle.rv_base.specs.contracts.held.Box.TheInside as inner

abbrev pub the_former : Former {0} → Former {0}
the_former g = g

abbrev pub the_weighed : {g : Former {0}} → Weighed g → Weighed (the_former g)
the_weighed w = w

-- The struct, from the pointer, the allocator and the contents.
abbrev boxed : {X : Type 0} → Ptr → Global → X → Inside X
boxed p g x = record { inner = record { ptr = p; alloc = g; value = x } }

abbrev In : Former {0}
In = via (pair (const (Ptr × Global)) this) Inside (λ X b. ((b.inner.ptr, b.inner.alloc), b.inner.value)) (λ X s. boxed s.0.0 s.0.1 s.1) (λ X b. refl)
    (λ X s. refl)

module _ (R R' : RattleType) (h : R.Denot → R'.Denot) where
  module _ (a : Alike R R' h) where
    owned : (p : Ptr) (g : Global) (x : R.Denot) → (inner.the_row R').own_val (boxed p g (h x)) ≡ (inner.the_row R).own_val (boxed p g x)
    unfolding part_of
    owned (block_ptr b o) g x = λ i. (inner.the_row (one_value R (a.mir_same i) (a.own_same x i) (a.shr_same x i) gnil)).own_val (boxed (block_ptr b o) g tt)
    owned null_ptr g x = λ i. (inner.the_row (one_value R (a.mir_same i) (a.own_same x i) (a.shr_same x i) gnil)).own_val (boxed null_ptr g tt)

    lent : (p : Ptr) (g : Global) (x : R.Denot) → (inner.the_row R').shr_at (boxed p g (h x)) ≡ (inner.the_row R).shr_at (boxed p g x)
    lent p g x = λ i. (inner.the_row (one_value R (a.mir_same i) (a.own_same x i) (a.shr_same x i) gnil)).shr_at (boxed p g tt)

    field_alike : Alike (inner.the_row R) (inner.the_row R') (In.map R.Denot R'.Denot h)
    field_alike = record {
      mir_same = refl;
      own_same = λ b. owned b.inner.ptr b.inner.alloc b.inner.value;
      shr_same = λ b. lent b.inner.ptr b.inner.alloc b.inner.value;
    }

  pub the_places : Alike R R' h → Alike (outer.the_row R) (outer.the_row R') ((the_former this).map R.Denot R'.Denot h)
  the_places a = view_places In this shown.view (λ X Y k b. refl) (λ X b. refl) R.Denot R'.Denot h
      (outer.the_row R).coded (outer.the_row R').coded (shown.invariant R.Denot) (shown.invariant R'.Denot)
      (λ b p q. refl) (λ b p q. refl) (λ b p. tt) (λ b p. tt)
      (over (inner.the_row R)) (over (inner.the_row R')) (field_alike a)

  pub the_codes_placed : Recodes R R' h → Recodes (outer.the_row R) (outer.the_row R') ((the_former this).map R.Denot R'.Denot h)
  the_codes_placed same x = same x
