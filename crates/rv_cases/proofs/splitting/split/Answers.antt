use Rattle.std.proofs.Common.{◌<◌, ap, sym, subst, length, ℕ, arith, List, []}
use Rattle.rv_diagram.proofs.Growing.{extends_refl, extends_trans}
use Rattle.rv_cases.specs.Conditions.{is_in, among, Gathers}
use Rattle.rv_cases.proofs.Gathering.{in_later, answers_later, conditions_first, conditions_more, split_made}
use Rattle.rv_cases.proofs.splitting.split.Goals as goal

pub add_meets-requires-clause-answers : goal.add_meets-requires-clause-answers
add_meets-requires-clause-answers c = answers_later c.args.store.now c.loop-i.store c.args.answers.now c.loop-i.invariant.extends c.requires.answers

pub loop-i-init : goal.loop-i-init
loop-i-init c = record {
  extends = extends_refl c.args.store.now;
  refs = λ i low. absurd (omega (arith, ap (λ (l : List ℕ). length l) c.new-made.ensures.items));
  gathers = subst (λ (l : List ℕ). Gathers c.args.store.now.nodes c.args.store.now.nodes (among c.args.store.now.nodes c.args.conditions.now 0) [] l)
      (sym c.new-made.ensures.items) (conditions_first c.args.store.now.nodes c.args.conditions.now);
  met = λ i low. absurd (omega (arith, ap (λ (l : List ℕ). length l) c.new-made.ensures.items));
}

pub loop-i-preserved : goal.loop-i-preserved
loop-i-preserved c =
    let low : c.loop-i.i < length c.args.conditions.now = omega arith in
    record {
      extends = extends_trans c.args.store.now c.loop-i.store c.add_meets.new.store c.loop-i.invariant.extends c.in_ok-add_meets.ensures.extends;
      refs = c.in_ok-add_meets.ensures.refs;
      gathers = conditions_more c.args.store.now c.loop-i.store c.add_meets.new.store (is_in c.loop-i.store.nodes c.args.conditions.now c.loop-i.i)
          c.args.conditions.now c.loop-i.i [] c.loop-i.made.items c.add_meets.new.made.items low c.requires.apart
          (in_later c.args.store.now c.loop-i.store c.args.conditions.now c.loop-i.invariant.extends c.requires.conditions c.loop-i.i low)
          c.loop-i.invariant.gathers c.in_ok-add_meets.ensures.gathers;
      met = c.in_ok-add_meets.ensures.met c.loop-i.invariant.met;
    }

pub returns-clause-parted : goal.returns-clause-parted
returns-clause-parted c p g = split_made c.args.store.now c.loop-i.store.nodes p c.args.conditions.now c.loop-i.made.items c.loop-i.i (omega arith) g
    c.loop-i.invariant.gathers
