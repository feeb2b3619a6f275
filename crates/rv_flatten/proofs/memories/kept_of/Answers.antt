use Rattle.std.proofs.Common.{◌≡◌, ◌∙◌, ap, map, length}
use Rattle.rv_tree.specs.Tree.{program_tree}
use Rattle.rv_types.specs.Instances.{name_at}
use Rattle.rv_flatten.specs.{NodeReaders.lists_to, Remembered.read_seen, Remembered.reads_in, Remembered.kept_seen, Remembered.kept_in}
use Rattle.rv_flatten.proofs.KeptMemories.{are_kept}
use Rattle.rv_flatten.proofs.memories.kept_of.Goals as goal

pub returns : goal.returns
returns c =
    let x = c.args.expanded.now in let p = program_tree x.program.now in let main = name_at p x.main in
    let read = ap (map (map read_seen)) c.as_slice-2.ensures ∙ c.in_ok-read.ensures in
    let is : map kept_seen c.in_ok-found.found ≡ lists_to (kept_in (map (reads_in p) p.nodes) x.instances.now) (length x.instances.now) = c.in_ok-found.ensures
    ∙ (λ i. lists_to (kept_in (read i) (c.as_slice.ensures i)) (length (c.as_slice.ensures i))) in
    are_kept p main x.instances.now c.requires.known.expanded c.in_ok-found.found is c.sorted.result c.sorted.ensures
