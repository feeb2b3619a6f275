use Rattle.std.proofs.{Common.List, Common.[], Common.map, Common.sym, Common.subst, Common.arith, lemmas.List.take_all}
use Rattle.rv_flat.specs.{Lists.side_of, FlatInstants.system_of}
use Rattle.rv_agreement.specs.Valuations.{Comparison}
use Rattle.rv_control.specs.{Named.named, Symbolic.symbolic}
use Rattle.rv_diagram.proofs.Growing.{extends_refl, extends_trans}
use Rattle.rv_tested.specs.{declared.compared.Compared.Compared, Compared.comparison_in, Rows.IsAnswered, Testing.row_in, Testing.first_comparisons}
use Rattle.rv_tested.proofs.{Rowing.among-none, Rowing.answered_as, Rowing.comparisons_more, Siding.sides_later}
use Rattle.rv_tested.proofs.testing.read_test.Goals as goal

pub loop-number-init : goal.loop-number-init
loop-number-init c =
    let f = c.args.flat.now in
    record {
      extends = extends_refl c.truth.new.store;
      answered = answered_as c.truth.new.store.nodes _ (row_in f [] c.args.at.now.sites (side_of c.args.side)) c.in_ok-answers.answers
          (λ v. sym (among-none (system_of f) (named f v) (symbolic (system_of f) (named f v)) c.args.at.now.sites (side_of c.args.side)))
          (c.in_ok-answers.ensures c.truth.new.store.nodes);
    }

pub add_at-requires-clause-sides : goal.add_at-requires-clause-sides
add_at-requires-clause-sides c =
    sides_later c.args.flat.now c.args.store.now c.loop-number.store (comparison_in c.args.flat.now.memories c.at-one.result.now) c.at.result.now
    (extends_trans c.args.store.now c.truth.new.store c.loop-number.store c.in_ok-truth.ensures.ok.extends c.loop-number.invariant.extends)
    (c.requires.read.each c.loop-number.number c.at-one.result.now c.at.result.now c.at-one.ensures.value c.at.ensures.value)

pub loop-number-preserved : goal.loop-number-preserved
loop-number-preserved c =
    let f = c.args.flat.now in
    record {
      extends = extends_trans c.truth.new.store c.loop-number.store c.add_at.new.store c.loop-number.invariant.extends c.in_ok-add_at.ensures.extends;
      answered = subst (λ (cs : List Comparison). IsAnswered c.add_at.new.store.nodes (row_in f cs c.args.at.now.sites (side_of c.args.side))
          c.add_at.new.answers)
          (sym (comparisons_more f c.args.compared.now c.loop-number.number c.at-one.result.now c.at-one.ensures.value))
          (c.in_ok-add_at.ensures.answered (first_comparisons f c.args.compared.now c.loop-number.number) c.loop-number.invariant.answered);
    }

pub returns-clause-ok : goal.returns-clause-ok
returns-clause-ok c =
    let f = c.args.flat.now in
    subst (λ (cs : List Compared). IsAnswered c.loop-number.store.nodes (row_in f (map (comparison_in f.memories) cs) c.args.at.now.sites
    (side_of c.args.side)) c.loop-number.answers) (take_all c.loop-number.number c.args.compared.now (omega arith)) c.loop-number.invariant.answered

pub returns-clause-extends : goal.returns-clause-extends
returns-clause-extends c =
    extends_trans c.args.store.now c.truth.new.store c.loop-number.store c.in_ok-truth.ensures.ok.extends c.loop-number.invariant.extends
