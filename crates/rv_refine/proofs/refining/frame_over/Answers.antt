use Rattle.std.proofs.Common.{All, arith, sym, subst, ◌∙◌}
use Rattle.rv_diagram.specs.{Nodes.IsRef, Nodes.IsOrderedOver}
use Rattle.rv_diagram.proofs.Growing.{extends_trans}
use Rattle.std.proofs.lemmas.List.Elements.{All-weaker}
use Rattle.rv_refine.specs.Sides.{AreLeftSides}
use Rattle.rv_refine.proofs.Judging.{given_after}
use Rattle.rv_refine.proofs.refining.frame_over.Goals as goal

pub asked_of-requires : goal.asked_of-requires
asked_of-requires c =
    let (s, given) = c.requires.given in
    (s, given_after s c.args.store.now c.into_each.new.store c.args.relation.now c.args.questions.now c.into_each.ensures.extends given)

pub returns-clause-extends : goal.returns-clause-extends
returns-clause-extends c =
    let same = sym c.sides_for.ensures.same in
    let grown = extends_trans c.args.store.now c.into_each.new.store c.asked_of.new.store c.into_each.ensures.extends c.asked_of.ensures.extends in
    rw same at grown

pub returns-clause-frame : goal.returns-clause-frame
returns-clause-frame c s given =
    let later = given_after s c.args.store.now c.into_each.new.store c.args.relation.now c.args.questions.now c.into_each.ensures.extends given in
    let more = c.asked_of.ensures.extends in
    let all = given_after s c.into_each.new.store c.asked_of.new.store c.args.relation.now c.args.questions.now more later in
    let asked = c.in_ok-allowed.ensures.asked s later in
    let of = given.relation in
    let questions = given.questions in
    let first = c.into_each.ensures.extends in
    let same = sym c.sides_for.ensures.same in
    let sets : All (IsOrderedOver c.asked_of.new.store.variables) c.args.sets = subst (λ n. All (IsOrderedOver n) c.args.sets)
    (sym first.variables ∙ sym more.variables) c.requires.sets in
    let into = All-weaker (IsRef c.into_each.new.store.nodes) (IsRef c.asked_of.new.store.nodes) (λ r l. omega (arith, l, more.longer)) c.in_ok-into.into
    c.in_ok-into.ensures.found in
    record {
      system = of.system;
      questions = rw same at all.questions;
      columns = c.columns_of-columns.ensures s of.system questions (let some = c.requires.some in let many = questions.many_memories in omega (arith, some, many));
      sides = subst (λ n. AreLeftSides n c.in_ok-sides.sides) questions.many_memories c.in_ok-sides.ensures.sides;
      held = record {
        thresholds = c.in_ok-thresholds.ensures;
        labels = rw same at asked.labels;
        allowed = rw same at asked.found;
        sets = rw same at sets;
        into = rw same at into;
        many = c.in_ok-into.ensures.many;
      };
    }

pub sides_for-requires-clause-asked : goal.sides_for-requires-clause-asked
sides_for-requires-clause-asked c =
    let (s, given) = c.requires.given in
    let later = given_after s c.args.store.now c.into_each.new.store c.args.relation.now c.args.questions.now c.into_each.ensures.extends given in
    let all = given_after s c.into_each.new.store c.asked_of.new.store c.args.relation.now c.args.questions.now c.asked_of.ensures.extends later in
    let of = given.relation in
    (s, of.system, all.questions)

pub sides_for-requires-clause-allowed : goal.sides_for-requires-clause-allowed
sides_for-requires-clause-allowed c =
    let (s, given) = c.requires.given in
    let later = given_after s c.args.store.now c.into_each.new.store c.args.relation.now c.args.questions.now c.into_each.ensures.extends given in
    let asked = c.in_ok-allowed.ensures.asked s later in
    asked.found
