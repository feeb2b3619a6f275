use Rattle.std.proofs.{Common.arith, Common.map, lemmas.List.length-map}
use Rattle.rv_flatten.specs.Kept.{kept_memory}
use Rattle.rv_flatten.proofs.FewMemories.{few_memories}
use Rattle.rv_flatten.proofs.memories.few_memories.Goals as goal

pub returns : goal.returns
returns c p main instances ks known counted limits kept =
    omega (arith, few_memories p main (map kept_memory ks) counted.all kept.list limits.expressions, length-map ks kept_memory)
