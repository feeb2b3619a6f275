-- The command line as a command of `clap`.
use Rattle.std.specs.Prelude.{◌≡◌, List, [], ◌∷◌, Some, true, false, codes}
use Rattle.clap.specs.Words.{App, Rule, Shape, Text, new_rule, shape_of}
use Rattle.clap.specs.{Simple.new_shape, declared.builder.action.ArgAction.TheVariants.Set, declared.builder.command.Command.Command}
use Rattle.clap.specs.{declared.builder.command.Command.TheViews.out-Command}

-- A positional word, which is required. A use sets it.
abbrev pub word_rule : Text → Rule
word_rule id = record (new_rule id) { required = true; action = Some Set }

-- An option with one value, under its long name, which may be left out. A use sets it, and a second one is refused.
abbrev pub option_rule : Text → Rule
option_rule id = record (new_rule id) { long = Some id; action = Some Set }

-- A subcommand with these arguments and no setting.
abbrev pub subcommand_with : Text → List Rule → Shape
subcommand_with name rules = record (new_shape name) { rules = rules }

-- `prove FILE NODE [--nodes N] [--locations L] [--accelerate yes|no]`
abbrev pub prove : Shape
prove = subcommand_with (codes "prove") (word_rule (codes "file") ∷ word_rule (codes "node")
    ∷ option_rule (codes "nodes") ∷ option_rule (codes "locations") ∷ option_rule (codes "accelerate") ∷ [])

-- `check FILE NODE INVARIANT [--nodes N]`
abbrev pub check : Shape
check = subcommand_with (codes "check") (word_rule (codes "file") ∷ word_rule (codes "node") ∷ word_rule (codes "invariant")
    ∷ option_rule (codes "nodes") ∷ [])

-- `replay FILE NODE TRACE`
abbrev pub replay : Shape
replay = subcommand_with (codes "replay") (word_rule (codes "file") ∷ word_rule (codes "node") ∷ word_rule (codes "trace") ∷ [])

-- `make N` and `tour N`, by their names
abbrev pub counted : Text → Shape
counted name = subcommand_with name (word_rule (codes "count") ∷ [])

-- The command has no argument of its own, and one of its subcommands is required.
abbrev pub reaver : App
reaver = record {
  top = record (new_shape (codes "reaver")) { is_leaf = false; subcommand_required = true };
  subs = prove ∷ check ∷ replay ∷ counted (codes "make") ∷ counted (codes "tour") ∷ [];
}

-- The built command has this shape, and no argument that a subcommand takes over.
abbrev pub HasShape : Command → Shape → Type 0
HasShape c s = (shape_of c ≡ s) × ((out-Command c).has_globals ≡ false)
