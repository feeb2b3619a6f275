use Rattle.std.proofs.{Common.ℕ, Common.sym, Common.subst, Common.length, Common.◌<◌, Common.arith, lemmas.Option.slice_get_within}
use Rattle.rv_diagram.specs.Nodes.{value_of, IsOrderedOver}
use Rattle.rv_diagram.proofs.Growing.{extends_refl, extends_trans}
use Rattle.rv_accept.specs.Steps.{has}
use Rattle.rv_accept.proofs.Growing.{Met, some_none, some_more, met_here}
use Rattle.rv_accept.proofs.sets.conditions.Goals as goal

pub loop-j-init : goal.loop-j-init
loop-j-init c = record {
  extends = extends_refl c.args.store.now;
  found = c.constant-whole.ensures.found;
  means = λ v. some_none (Met c.args.entries.now v) _ (c.constant-whole.ensures.means v);
}

pub either-requires-clause-set : goal.either-requires-clause-set
either-requires-clause-set c = subst (λ (m : ℕ). IsOrderedOver m c.at.result.now.condition) (sym c.loop-j.invariant.extends.variables)
    (c.requires.entries c.loop-j.j c.at.result.now c.at.ensures.value)

pub loop-j-preserved : goal.loop-j-preserved
loop-j-preserved c = record {
  extends = extends_trans c.args.store.now c.loop-j.store c.either.new.store c.loop-j.invariant.extends c.either.ensures.extends;
  found = c.in_ok-whole.ensures.found;
  means = λ v. some_more (Met c.args.entries.now v) (value_of c.loop-j.store.nodes c.loop-j.whole v) (has c.at.result.now.condition v) _ c.loop-j.j
      (c.in_ok-whole.ensures.means v)
      (met_here c.args.entries.now v c.loop-j.j c.at.result.now c.at.ensures.value) (c.loop-j.invariant.means v);
}

pub returns-clause-ok : goal.returns-clause-ok
returns-clause-ok c = record {
  found = c.loop-j.invariant.found;
  exact = λ v. (
    λ h. let (j, low, (e, at, i)) = (c.loop-j.invariant.means v).0 h in (j, e, at, i),
    λ (j, e, at, i). (c.loop-j.invariant.means v).1 (
      j,
      (let w : j < length c.args.entries.now = slice_get_within c.args.entries.now j e at in omega
          (arith, w)),
      (e, at, i),
    ),
  );
}
