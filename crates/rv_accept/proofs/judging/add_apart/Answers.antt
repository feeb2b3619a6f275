use Rattle.std.proofs.Common.{◌∙◌, sym, inl, inr}
use Rattle.rv_diagram.proofs.Growing.{extends_trans, grows_extends}
use Rattle.rv_accept.proofs.Judgment.{added_meets, added_off, added_or}
use Rattle.rv_accept.proofs.judging.add_apart.Goals as goal

pub returns-then-not-some-clause-exact : goal.returns-then-not-some-clause-exact
returns-then-not-some-clause-exact c = let none = rw c.if-not-some.true at c.in_ok-some.ensures in
    inl (λ v. sym (c.in_ok-set.ensures.ok.means v) ∙ none v)

pub returns-then-meets-clause-exact : goal.returns-then-meets-clause-exact
returns-then-meets-clause-exact c = inr (added_meets c.args.store.now c.thaw.new.self c.and.new.self c.args.seen c.in_ok-set.set c.in_ok-both.both
    c.args.control.now c.requires.seen c.in_ok-set.ensures.ok c.in_ok-both.ensures.ok (rw c.if-meets.true at c.in_ok-meets.ensures))

pub returns-clause-exact : goal.returns-clause-exact
returns-clause-exact c =
    let (v, inside) = rw c.if-not-some.false at c.in_ok-some.ensures in (
      c.in_ok-more.ensures.ok.found,
      added_or c.args.store.now c.thaw.new.self c.and.new.self c.args.seen c.in_ok-set.set c.in_ok-both.both c.args.control.now c.requires.seen
          c.in_ok-set.ensures.ok c.in_ok-both.ensures.ok c.or.new.self c.in_ok-more.more c.in_ok-more.ensures.ok,
      (v, sym (c.in_ok-set.ensures.ok.means v) ∙ inside),
      added_off c.args.store.now c.thaw.new.self c.and.new.self c.args.seen c.in_ok-set.set c.in_ok-both.both c.args.control.now c.requires.seen
          c.in_ok-set.ensures.ok c.in_ok-both.ensures.ok (rw c.if-meets.false at c.in_ok-meets.ensures),
    )

pub returns-clause-extends : goal.returns-clause-extends
returns-clause-extends c =
    extends_trans c.args.store.now c.thaw.new.self c.or.new.self (grows_extends c.args.store.now c.thaw.new.self c.in_ok-set.ensures.ok.grows)
    (extends_trans c.thaw.new.self c.and.new.self c.or.new.self (grows_extends c.thaw.new.self c.and.new.self c.in_ok-both.ensures.ok.grows)
    (grows_extends c.and.new.self c.or.new.self c.in_ok-more.ensures.ok.grows))
