use Rattle.std.proofs.Common.{◌≡◌, ◌∷◌, [], List, map, get_or, sym, ◌∙◌, ap, subst}
use Rattle.std.proofs.lemmas.List.{map-append, take_all}
use Rattle.std.specs.List.{Contains}
use Rattle.rv_flat.specs.{declared.parts.FlatMemory.FlatMemory, Systems.memory_of}
use Rattle.rv_flatten.specs.{Building.IsRemembered, Building.main_given, Building.numbers_of, Building.program_given, Kept.kept_memory}
use Rattle.rv_flatten.proofs.{ClockedNodes.one_more, KeptParts.and_one_more}
use Rattle.rv_types.proofs.Members.{nothing_in}
use Rattle.rv_base.proofs.Lists.{contains_got}
use Rattle.rv_flatten.proofs.remembered.flat_memories.Goals as goal

pub loop-kept-init : goal.loop-kept-init
loop-kept-init c = (ap (map memory_of) c.new-memories.ensures, λ m w. nothing_in m (subst (λ (l : List FlatMemory). Contains l m) c.new-memories.ensures w))

pub loop-kept-preserved : goal.loop-kept-preserved
loop-kept-preserved c =
    let g = c.args.given.now in let k = c.loop-kept.kept-index in let items = c.as_slice-kept-items.result.now in
    let had = c.loop-kept.memories in let made = c.in_ok-memory.memory in let grown = c.in_ok-push.ensures.ok in
    let is : get_or items k c.kept-item.result ≡ c.kept-item.result = sym c.kept-item.is in (
      one_more kept_memory items k c.kept-item.result (map memory_of had) (map memory_of c.push.new.self) (memory_of made) c.loop-kept-test.true is
          (ap (map memory_of) grown ∙ map-append memory_of had (made ∷ []))
          c.loop-kept.invariant.0
          c.in_ok-memory.ensures.memory,
      and_one_more (IsRemembered (program_given g) (main_given g) (numbers_of g c.args.found.now)) had c.push.new.self made grown c.loop-kept.invariant.1
          c.in_ok-memory.ensures.item,
    )

pub returns : goal.returns
returns c =
    let items = c.as_slice-kept-items.result.now in
    let all = take_all c.loop-kept.kept-index items c.loop-kept-test.false in
    record {
      list = c.loop-kept.invariant.0 ∙ ap (map kept_memory) (all ∙ c.as_slice-kept-items.ensures);
      each = λ k m e. c.loop-kept.invariant.1 m (contains_got c.loop-kept.memories k m e);
    }
