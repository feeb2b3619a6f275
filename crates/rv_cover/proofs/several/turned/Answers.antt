use Rattle.rv_cover.proofs.Chaining.{ref_later, twice}
use Rattle.rv_cover.proofs.several.turned.Goals as goal

pub returns-clause-cover : goal.returns-clause-cover
returns-clause-cover c f n is = record {
  entries = is.entries;
  left = c.in_ok-left.ensures.found;
  rest = ref_later c.args.store.now c.both-2.new.store c.args.cover.rest
      (twice c.args.store.now c.both.new.store c.both-2.new.store c.both.ensures.extends c.both-2.ensures.extends) is.rest;
}
