use Rattle.std.proofs.{Common.length, Common.◌<◌, Common.arith, lemmas.Option.slice_get_within}
use Rattle.rv_diagram.specs.Nodes.{value_of}
use Rattle.rv_diagram.proofs.Growing.{extends_trans}
use Rattle.rv_accept.proofs.Growing.{entered_more}
use Rattle.rv_accept.proofs.sets.entered.Goals as goal

pub loop-k-preserved : goal.loop-k-preserved
loop-k-preserved c = record {
  extends = extends_trans c.args.store.now c.loop-k.store c.add_entry.new.store c.loop-k.invariant.extends c.add_entry.ensures.extends;
  found = c.in_ok-whole.ensures.found;
  means = λ v. entered_more c.args.locations.now v c.loop-k.k c.at.result.now (value_of c.loop-k.store.nodes c.loop-k.whole v) _ c.at.ensures.value
      (λ e. c.in_ok-whole.ensures.empty e v) (λ n. c.in_ok-whole.ensures.other n v) (c.loop-k.invariant.means v);
}

pub returns-clause-ok : goal.returns-clause-ok
returns-clause-ok c = record {
  found = c.loop-k.invariant.found;
  exact = λ v. (
    λ h. let (k, low, (l, at, em, i)) = (c.loop-k.invariant.means v).0 h in (k, l, at, em, i),
    λ (k, l, at, em, i). (c.loop-k.invariant.means v).1 (
      k,
      (let w : k < length c.args.locations.now = slice_get_within c.args.locations.now k l at in omega
          (arith, w)),
      (l, at, em, i),
    ),
  );
}
