use Rattle.std.proofs.Common.{length}
use Rattle.rv_symbolic.proofs.{Extending.map_ok, Extending.refs_after, Scheduling.relation_after}
use Rattle.rv_left.specs.{Targets.AreTargets, Entries.AreEntriesInto}
use Rattle.rv_left.proofs.Aiming.{entries_made, thawn_sets_kept}
use Rattle.rv_left.proofs.entering.entries_in.Goals as goal

pub targets-requires-clause-source : goal.targets-requires-clause-source
targets-requires-clause-source c = (c.in_ok-source.ensures.source c.requires.part.0 c.requires.part.1 c.requires.part.2).refs

pub targets-requires-clause-refs : goal.targets-requires-clause-refs
targets-requires-clause-refs c =
    refs_after c.args.store.now c.source_of.new.store c.args.refs.now c.source_of.ensures.extends c.requires.refs

pub returns-clause-entries : goal.returns-clause-entries
returns-clause-entries c s sets is control thawn =
    map_ok c.targets.result (AreTargets c.source_of.new.store c.in_ok-source.source c.args.refs.now (length c.args.refs.now))
    (AreEntriesInto s c.args.part.now sets)
    (λ entries t. entries_made s c.source_of.new.store c.args.relation.now
    (relation_after s c.args.store.now c.source_of.new.store c.args.relation.now c.source_of.ensures.extends is) c.args.part.now control sets
    c.args.refs.now (thawn_sets_kept s c.args.store.now c.source_of.new.store sets c.args.refs.now thawn c.source_of.ensures.extends)
    c.in_ok-source.source (c.in_ok-source.ensures.source s is control) (length c.args.refs.now) entries thawn.thawn.size t)
    c.targets.ensures.added
