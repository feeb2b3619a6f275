use Rattle.std.proofs.Common.{◌≡◌, ◌∙◌, ◌+◌, ◌∷◌, ◌<◌, ◌&&◌, ℕ, suc, not, List, length, drop, ap, sym, arith, None as Nothing}
use Rattle.std.proofs.Math.Seq.{drop-cons}
use Rattle.std.specs.Prelude.{slice_index_or}
use Rattle.rv_diagram.specs.{Nodes.Valuation, Nodes.value_of, Several.ref_at}
use Rattle.rv_diagram.proofs.Growing.{extends_trans}
use Rattle.rv_control.specs.{Control.none_ticked, Named.named}
use Rattle.rv_flat.specs.FlatInstants.{system_of}
use Rattle.rv_bits.proofs.{Labels.and_step, Labels.and_all, Labels.ticks_split, Labels.ticks_done, Making.any_ref}
use Rattle.rv_bits.proofs.coded.none_ticked.Goals as goal

pub loop-tick-preserved : goal.loop-tick-preserved
loop-tick-preserved c =
    let f = c.args.flat.now in
    let ts = (system_of f).ticks in
    let i = c.loop-tick.tick-index in
    let a = c.args.store.now in
    let s = c.loop-tick.store in
    let new = c.without.new.store in
    let before = c.loop-tick.invariant in
    let made = c.in_ok-all.ensures.ok in
    let refs = c.args.tables.now.ticks in
    let long = ap (λ (l : List ℕ). length l) c.as_slice-tick-items.ensures in
    let low : i < length ts = omega (arith, long, c.requires.size) in
    let left : drop i ts ≡ slice_index_or ts i Nothing ∷ drop (i + 1) ts = drop-cons ts i Nothing low
    ∙ (λ k. slice_index_or ts i Nothing ∷ drop (let z : suc i ≡ i + 1 = omega arith in z k) ts) in
    let tick : (v : Valuation) → value_of s.nodes (slice_index_or c.as_slice-tick-items.result.now i 0) v ≡ (named f v).ticked (slice_index_or ts i Nothing) =
    λ v. ap (λ (l : List ℕ). value_of s.nodes (ref_at l i) v) c.as_slice-tick-items.ensures
    ∙ before.extends.kept (ref_at refs i) (any_ref a.nodes refs c.requires.tables.tick_refs i) v ∙ c.requires.tables.ticks i v low in
    record {
      extends = extends_trans a s new before.extends made.extends;
      is_ref = made.found;
      means = λ v. (λ k. (made.means v ∙ (λ j. value_of s.nodes c.loop-tick.all v && not (tick v j))) k && none_ticked (named f v) (drop (i + 1) ts))
          ∙ and_step (value_of s.nodes c.loop-tick.all v) (not ((named f v).ticked (slice_index_or ts i Nothing))) (none_ticked (named f v) (drop (i + 1) ts))
          (none_ticked (named f v) ts)
          ((λ k. value_of s.nodes c.loop-tick.all v && sym (ticks_split (named f v) ts i (slice_index_or ts i Nothing) left) k) ∙ before.means v);
    }

pub returns-clause-ok : goal.returns-clause-ok
returns-clause-ok c =
    let f = c.args.flat.now in
    let ts = (system_of f).ticks in
    let i = c.loop-tick.tick-index in
    let s = c.loop-tick.store in
    let long = ap (λ (l : List ℕ). length l) c.as_slice-tick-items.ensures in
    let before = c.loop-tick.invariant in
    and_all c.args.store.now s c.loop-tick.all (λ v. none_ticked (named f v) ts) before.extends before.is_ref
    (λ v. (λ k. value_of s.nodes c.loop-tick.all v && sym (ticks_done (named f v) ts i (omega (arith, long, c.requires.size))) k) ∙ before.means v)
