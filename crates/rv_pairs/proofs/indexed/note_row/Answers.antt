use Rattle.std.proofs.Common.{◌+◌, List, ℕ, arith, sym, subst}
use Rattle.rv_pairs.specs.Keys.{AreKeys}
use Rattle.rv_pairs.proofs.Placing.{keys_more, indexed_more}
use Rattle.rv_pairs.proofs.indexed.note_row.Goals as goal

pub note_place-requires : goal.note_place-requires
note_place-requires c = omega (arith, c.key_of-key.ensures.below, c.requires.places.size)

pub returns-clause-keys : goal.returns-clause-keys
returns-clause-keys c =
    subst (λ (ks : List ℕ). AreKeys c.args.labels.now (c.args.place + 1) ks) (sym c.in_ok-push.ensures.ok)
    (keys_more c.args.labels.now c.args.place c.key_of-key.result c.args.keys.now c.at-label.result.now c.at-label.ensures.value c.key_of-key.ensures
    c.requires.keys)

pub returns-clause-places : goal.returns-clause-places
returns-clause-places c =
    indexed_more c.args.labels.now c.args.place c.args.places.now.items c.note_place.new.places.items c.key_of-key.result c.at-label.result.now
    c.at-label.ensures.value c.key_of-key.ensures c.requires.places c.in_ok-note_place.ensures
