use Rattle.std.proofs.{Common.◌≡◌, Common.◌<◌, Common.◌^◌, Common.length, Common.sym, Common.subst, Common.arith, lemmas.List.get_or_read}
use Rattle.rv_rows.specs.Forms.{FormWithin}
use Rattle.rv_diagram.specs.Nodes.{IsRef}
use Rattle.rv_diagram.proofs.Growing.{extends_refl, extends_trans}
use Rattle.rv_terms.specs.{declared.parted.Part.Part, Parts.no_form, Parts.part_at}
use Rattle.rv_tested.proofs.Comparing.{rows_first, rows_more, rows_all}
use Rattle.rv_tested.proofs.rows.add_rows.Goals as goal

pub loop-part-init : goal.loop-part-init
loop-part-init c = record {
  extends = extends_refl c.args.store.now;
  put = rows_first c.args.store.now c.args.here c.args.truth c.args.parts.now c.args.answers.now (extends_refl c.args.store.now) c.requires.laid;
}

pub loop-part-preserved : goal.loop-part-preserved
loop-part-preserved c =
    let low : c.loop-part.part-index < length c.args.parts.now = omega arith in
    let is : c.part-item.result ≡ part_at c.args.parts.now c.loop-part.part-index =
    get_or_read c.args.parts.now c.loop-part.part-index c.part-item.result low c.part-item.is (record { under = 0; form = no_form }) in
    record {
      extends = extends_trans c.args.store.now c.loop-part.store c.add_sides.new.store c.loop-part.invariant.extends c.in_ok-add_sides.ensures.extends;
      put = rows_more c.args.store.now c.loop-part.store c.add_sides.new.store c.args.here c.args.truth c.loop-part.part-index c.args.parts.now
          c.part-item.result c.args.answers.now c.loop-part.answers c.add_sides.new.answers c.loop-part.invariant.extends c.requires.here c.requires.truth
          c.requires.refs c.requires.disjoint low is c.loop-part.invariant.put c.in_ok-add_sides.ensures.put;
    }

pub add_sides-requires-clause-part : goal.add_sides-requires-clause-part
add_sides-requires-clause-part c =
    let low : c.loop-part.part-index < length c.args.parts.now = omega arith in
    let is : c.part-item.result ≡ part_at c.args.parts.now c.loop-part.part-index =
    get_or_read c.args.parts.now c.loop-part.part-index c.part-item.result low c.part-item.is (record { under = 0; form = no_form }) in
    subst (λ (x : Part). IsRef c.loop-part.store.nodes x.under) (sym is)
    (let h = c.requires.refs c.loop-part.part-index low in omega (arith, h, c.loop-part.invariant.extends.longer))

pub add_sides-requires-clause-within : goal.add_sides-requires-clause-within
add_sides-requires-clause-within c =
    let low : c.loop-part.part-index < length c.args.parts.now = omega arith in
    let is : c.part-item.result ≡ part_at c.args.parts.now c.loop-part.part-index =
    get_or_read c.args.parts.now c.loop-part.part-index c.part-item.result low c.part-item.is (record { under = 0; form = no_form }) in
    subst (λ (x : Part). FormWithin (2 ^ 100) x.form) (sym is) (c.requires.within c.loop-part.part-index low)

pub add_sides-requires-clause-laid : goal.add_sides-requires-clause-laid
add_sides-requires-clause-laid c = c.loop-part.invariant.put.laid

pub returns-clause-put : goal.returns-clause-put
returns-clause-put c = rows_all c.args.store.now c.loop-part.store c.args.here c.args.truth c.loop-part.part-index c.args.parts.now c.args.answers.now
    c.loop-part.answers c.requires.covers (omega arith) c.loop-part.invariant.put
