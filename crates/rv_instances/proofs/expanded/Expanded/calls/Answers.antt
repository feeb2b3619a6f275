use Rattle.std.proofs.Common.{◌∙◌, ap, map}
use Rattle.rv_instances.specs.Expanded.{told}
use Rattle.rv_instances.proofs.ExpandedReads.{calls_within, calls_read}
use Rattle.rv_instances.proofs.expanded.Expanded.calls.Goals as goal

pub at-requires-2 : goal.at-requires-2
at-requires-2 c = calls_within c.args.self.now c.requires.known c.args.instance c.at.result.now c.requires.within c.at.ensures.value

pub returns : goal.returns
returns c =
    ap (map told) c.as_slice.ensures
    ∙ calls_read c.args.self.now c.requires.known c.args.instance c.at.result.now c.requires.within c.at.ensures.value c.at-2.result.now c.at-2.ensures.value
