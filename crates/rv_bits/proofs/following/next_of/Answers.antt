use Rattle.std.proofs.Common.{◌≡◌, ◌∙◌, List, ap, subst, sym}
use Rattle.rv_types.specs.Lists.{Variable}
use Rattle.rv_tree.specs.Places.{Sites, index_of}
use Rattle.rv_agreement.specs.Valuations.{next_tick, updated}
use Rattle.rv_control.specs.{Control.bit_of, Named.named}
use Rattle.rv_flat.specs.declared.parts.Bit.TheVariants as variant
use Rattle.rv_flat.specs.{FlatInstants.system_of, Lists.variable_of}
use Rattle.rv_diagram.proofs.Growing.{extends_refl}
use Rattle.rv_symbolic.proofs.Extending.{map_ok}
use Rattle.rv_bits.specs.Following.{IsNextRead, IsTickRead, IsKeptBit}
use Rattle.rv_bits.proofs.Nexting.{places_same, tick_main}
use Rattle.rv_bits.proofs.following.next_of.Goals as goal

pub returns-in-MainTick-clause-ok : goal.returns-in-MainTick-clause-ok
returns-in-MainTick-clause-ok c =
    let f = c.args.around.now.flat.now in
    let a = c.args.store.now in
    let b = c.tick_after.new.store in
    map_ok c.tick_after.result (IsTickRead f a b 0) _
    (λ r t. subst (λ (x : Variable). IsNextRead f a b x r) (sym (ap variable_of c.in-MainTick.is))
    (record {
      extends = t.extends;
      is_ref = t.is_ref;
      means = λ v row instant. t.means v row instant
          ∙ ap (next_tick (system_of f) (named f v) row) (sym (tick_main _));
    }))
    c.tick_after.ensures.ok

pub returns-in-Kept-clause-ok : goal.returns-in-Kept-clause-ok
returns-in-Kept-clause-ok c =
    let f = c.args.around.now.flat.now in
    let a = c.args.store.now in
    let kept : IsKeptBit f a.nodes c.in-Kept.place.sites c.in-Kept.number c.kept_after.result = c.kept_after.ensures c.requires.after.0 a c.requires.after.1 in
    let is : c.args.variable.now ≡ variant.Kept c.in-Kept.place c.in-Kept.number = c.in-Kept.is in
    subst (λ (x : Variable). IsNextRead f a a x c.kept_after.result) (sym (ap variable_of is))
    (record {
      extends = extends_refl a;
      is_ref = kept.is_ref;
      means = λ v row instant. kept.means v row instant
          ∙ ap (λ (l : List Sites). bit_of (updated (system_of f) (named f v) row (index_of l c.in-Kept.place.sites)) c.in-Kept.number)
          (places_same f.memories f.memories);
    })
