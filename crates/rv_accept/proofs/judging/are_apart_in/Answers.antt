use Rattle.std.proofs.Common.{◌≤◌, ℕ, length, sym, subst, arith}
use Rattle.rv_diagram.specs.Nodes.{value_of, IsOrderedOver}
use Rattle.rv_diagram.proofs.Growing.{extends_refl, extends_trans}
use Rattle.rv_accept.proofs.Judgment.{apart_start, apart_more, not_apart, apart_all}
use Rattle.rv_accept.proofs.judging.are_apart_in.Goals as goal

pub loop-k-init : goal.loop-k-init
loop-k-init c = record {
  extends = extends_refl c.args.store.now;
  found = c.constant-seen.ensures.found;
  apart = apart_start c.args.certificate.now (value_of c.args.store.now.nodes c.constant-seen.result) c.constant-seen.ensures.means;
}

pub add_apart-requires-clause-control : goal.add_apart-requires-clause-control
add_apart-requires-clause-control c = subst (λ (m : ℕ). IsOrderedOver m c.at-location.result.now.control) (sym c.loop-k.invariant.extends.variables)
    (c.requires c.loop-k.k c.at-location.result.now c.at-location.ensures.value)

pub returns-in_default-clause-exact : goal.returns-in_default-clause-exact
returns-in_default-clause-exact c = not_apart c.args.certificate.now c.loop-k.k (value_of c.loop-k.store.nodes c.loop-k.seen) c.at-location.result.now
    c.at-location.ensures.value c.loop-k.invariant.apart (rw c.in_default.is at c.in_ok-added.ensures.exact)

pub loop-k-preserved : goal.loop-k-preserved
loop-k-preserved c =
    let h = rw c.in-Some.is at c.in_ok-added.ensures.exact in
    record {
      extends = extends_trans c.args.store.now c.loop-k.store c.add_apart.new.store c.loop-k.invariant.extends c.add_apart.ensures.extends;
      found = h.0;
      apart = apart_more c.args.certificate.now c.loop-k.k (value_of c.loop-k.store.nodes c.loop-k.seen) c.at-location.result.now
          c.at-location.ensures.value c.loop-k.invariant.apart (value_of c.add_apart.new.store.nodes c.in-Some.more) h.1 h.2 h.3;
    }

pub returns-clause-exact : goal.returns-clause-exact
returns-clause-exact c = apart_all c.args.certificate.now c.loop-k.k (value_of c.loop-k.store.nodes c.loop-k.seen)
    (let e : length c.args.certificate.now.locations ≤ c.loop-k.k = omega (arith, c.loop-k-test.false, c.len-k-end.ensures) in e) c.loop-k.invariant.apart
