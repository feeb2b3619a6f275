use Rattle.std.proofs.{lemmas.List.Elements.All-append, lemmas.List.Elements.All-contains, Common.◌≤◌}
use Rattle.std.specs.List.{flat_map}
use Rattle.rv_base.specs.{declared.value.Value.TheVariants.Whole, Limits.too_heavy}
use Rattle.rv_tree.specs.Tree.{Node, Number}
use Rattle.rv_types.specs.{Scopes.constant_values, Variables.parts, Variables.node_parts}
use Rattle.rv_source.proofs.{SmallParts.IsSmallPart, SmallParts.parts_small, SmallParts.joined_small, SmallConstants.size, SmallConstants.constants_small}
use Rattle.rv_source.proofs.numbers.numbers_are_small.Goals as goal

pub returns : goal.returns
returns c bytes p is =
    let literals = c.small_literals.ensures bytes p is in
    record {
      in_nodes = λ n at v site inside among.
          All-contains IsSmallPart (node_parts n) (Node at site (Number v))
          (All-append IsSmallPart (flat_map (λ q. parts q.right) n.equations) (flat_map (λ a. parts a.body) n.assertions)
          (joined_small (λ q. parts q.right) n.equations (λ q w. parts_small q.right (literals.equations n q inside w)))
          (joined_small (λ a. parts a.body) n.assertions (λ a w. parts_small a.body (literals.assertions n a inside w)))) among;
      in_constants = λ k at v site inside among. All-contains IsSmallPart (parts k.body) (Node at site (Number v))
          (parts_small k.body (literals.constants k inside)) among;
      constants = λ z among. All-contains (λ w. size w ≤ too_heavy) (constant_values p) (Whole z) (constants_small p) among;
    }
