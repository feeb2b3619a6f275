use Rattle.std.proofs.Common.{◌+◌, ◌<◌, ◌∙◌, ◌&&◌, ap, sym, length, arith}
use Rattle.rv_diagram.proofs.Growing.{extends_refl, extends_trans}
use Rattle.rv_cases.specs.Conditions.{is_in}
use Rattle.rv_cases.proofs.Gathering.{in_later, answers_first, answers_more, answers_all, answers_whole}
use Rattle.rv_cases.proofs.splitting.add_each.Goals as goal

pub loop-b-init : goal.loop-b-init
loop-b-init c = record {
  extends = extends_refl c.args.store.now;
  refs = c.requires.made;
  gathers = answers_first c.args.store.now.nodes (is_in c.args.store.now.nodes c.args.conditions.now c.args.i) c.args.answers.now c.args.made.now.items;
  met = λ h. h;
}

pub loop-b-preserved : goal.loop-b-preserved
loop-b-preserved c =
    let low : c.loop-b.b < length c.args.answers.now = omega arith in
    record {
      extends = extends_trans c.args.store.now c.loop-b.store c.add_meet.new.store c.loop-b.invariant.extends c.in_ok-whole.ensures.extends;
      refs = c.in_ok-whole.ensures.refs;
      gathers = answers_more c.args.store.now c.loop-b.store c.add_meet.new.store (is_in c.args.store.now.nodes c.args.conditions.now c.args.i)
          (λ v. is_in c.loop-b.store.nodes c.args.conditions.now c.args.i v && is_in c.loop-b.store.nodes c.args.answers.now c.loop-b.b v)
          c.args.answers.now c.loop-b.b c.args.made.now.items c.loop-b.made.items c.add_meet.new.made.items low c.requires.answers.apart
          (λ v. ap (λ x. x && is_in c.loop-b.store.nodes c.args.answers.now c.loop-b.b v)
          (in_later c.args.store.now c.loop-b.store c.args.conditions.now c.loop-b.invariant.extends c.requires.conditions c.args.i c.requires.i v)
          ∙ ap (λ x. is_in c.args.store.now.nodes c.args.conditions.now c.args.i v && x)
          (in_later c.args.store.now c.loop-b.store c.args.answers.now c.loop-b.invariant.extends c.requires.answers.found c.loop-b.b low v))
          c.loop-b.invariant.gathers c.in_ok-whole.ensures.gathers;
      met = λ h. c.in_ok-whole.ensures.met (c.loop-b.invariant.met h);
    }

pub returns-then-whole-clause-gathers : goal.returns-then-whole-clause-gathers
returns-then-whole-clause-gathers c =
    let low : c.loop-b.b < length c.args.answers.now = omega arith in
    answers_whole c.args.store.now c.add_meet.new.store.nodes (is_in c.args.store.now.nodes c.args.conditions.now c.args.i) c.args.answers.now
    (c.loop-b.b + 1) c.loop-b.b c.args.made.now.items c.add_meet.new.made.items (omega arith)
    (λ v on. sym (in_later c.args.store.now c.loop-b.store c.args.answers.now c.loop-b.invariant.extends c.requires.answers.found c.loop-b.b low v)
    ∙ c.in_ok-whole.ensures.whole c.if-whole.true v
    (in_later c.args.store.now c.loop-b.store c.args.conditions.now c.loop-b.invariant.extends c.requires.conditions c.args.i c.requires.i v ∙ on))
    (answers_more c.args.store.now c.loop-b.store c.add_meet.new.store (is_in c.args.store.now.nodes c.args.conditions.now c.args.i)
    (λ v. is_in c.loop-b.store.nodes c.args.conditions.now c.args.i v && is_in c.loop-b.store.nodes c.args.answers.now c.loop-b.b v)
    c.args.answers.now c.loop-b.b c.args.made.now.items c.loop-b.made.items c.add_meet.new.made.items low c.requires.answers.apart
    (λ v. ap (λ x. x && is_in c.loop-b.store.nodes c.args.answers.now c.loop-b.b v)
    (in_later c.args.store.now c.loop-b.store c.args.conditions.now c.loop-b.invariant.extends c.requires.conditions c.args.i c.requires.i v)
    ∙ ap (λ x. is_in c.args.store.now.nodes c.args.conditions.now c.args.i v && x)
    (in_later c.args.store.now c.loop-b.store c.args.answers.now c.loop-b.invariant.extends c.requires.answers.found c.loop-b.b low v))
    c.loop-b.invariant.gathers c.in_ok-whole.ensures.gathers)

pub returns-then-whole-clause-met : goal.returns-then-whole-clause-met
returns-then-whole-clause-met c h = c.in_ok-whole.ensures.met (c.loop-b.invariant.met h)

pub returns-clause-gathers : goal.returns-clause-gathers
returns-clause-gathers c = answers_all c.args.store.now c.loop-b.store.nodes (is_in c.args.store.now.nodes c.args.conditions.now c.args.i)
    c.args.answers.now c.loop-b.b c.args.made.now.items c.loop-b.made.items c.requires.answers.covered (omega arith) c.loop-b.invariant.gathers
