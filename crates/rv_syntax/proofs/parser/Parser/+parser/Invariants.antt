use Rattle.std.proofs.Common.{◌≡◌, ◌≤◌, length, map, ◌+◌, ◌*◌, [], ◌∷◌}
use Rattle.rv_tree.specs.Tree.{tree_of}
use Rattle.rv_syntax.specs.Reads.{held_of, Wanting, Calling, from, argued_from}
use Rattle.rv_syntax.specs.{Machine.Within, Machine.Want, Machine.Have, Limited.counts, Limited.leave}
use Rattle.rv_syntax.proofs.parser.Parser.+parser.Given as goal

abbrev pub decreases-linked : goal.decreases-linked
decreases-linked l = 4 * length l.self.now.rest + 4

abbrev pub decreases-arguments : goal.decreases-arguments
decreases-arguments l = 4 * length l.self.now.rest + 4

abbrev pub decreases-part : goal.decreases-part
decreases-part l = 4 * length l.self.now.rest + 4

abbrev pub decreases-expr : goal.decreases-expr
decreases-expr l = 4 * length l.self.now.rest + 3

abbrev pub decreases-operand : goal.decreases-operand
decreases-operand l = 4 * length l.self.now.rest + 2

abbrev pub decreases-named : goal.decreases-named
decreases-named l = 4 * length l.self.now.rest + 1

abbrev pub decreases-prefixed : goal.decreases-prefixed
decreases-prefixed l = 4 * length l.self.now.rest + 1

abbrev pub decreases-bracketed : goal.decreases-bracketed
decreases-bracketed l = 4 * length l.self.now.rest + 1

abbrev pub decreases-choice : goal.decreases-choice
decreases-choice l = 4 * length l.self.now.rest + 1

abbrev pub decreases-hashed : goal.decreases-hashed
decreases-hashed l = 4 * length l.self.now.rest + 1

abbrev pub invariant-expr-more : goal.invariant-expr-more
invariant-expr-more l = record {
  shorter : length l.self.rest ≤ length l.fn.self.rest;
  low : l.left.level ≤ 10;
  reads : (x : Wanting l.least) → from l.fn.self Want x.around ≡ from l.self (Have (held_of l.left)) x.around;
}

abbrev pub decreases-expr-more : goal.decreases-expr-more
decreases-expr-more l = length l.self.rest

abbrev pub invariant-arguments-more : goal.invariant-arguments-more
invariant-arguments-more l = record {
  shorter : length l.self.rest ≤ length l.fn.self.rest;
  reads : (x : Calling)
      → argued_from l.outside [] l.fn.self x
      ≡ leave (counts l.self.depth (l.outside ∷ x.around.outside)) (held_of l.last) (Within x.callee (map tree_of l.arguments) ∷ x.around.frames) l.self.rest;
}

abbrev pub decreases-arguments-more : goal.decreases-arguments-more
decreases-arguments-more l = length l.self.rest
