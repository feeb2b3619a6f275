-- What a command is after each argument and subcommand that it is given.
use Rattle.std.proofs.Common.{◌≡◌, ◌∙◌, ◌||◌, ap, ap₂, false, true}
use Rattle.clap.specs.Words.{AddsArg, AddsSubcommand, App, Rule, Shape, app_of, rule_of, with_rule, with_subcommand}
use Rattle.clap.specs.Simple.{app_of_fields, on_top}
use Rattle.clap.specs.{declared.builder.arg.Arg.Arg, declared.builder.command.Command.Command, declared.builder.command.Command.TheViews.out-Command}
use Rattle.rv_words.specs.Reaver.{HasShape}

abbrev pub HasApp : Command → App → Type 0
HasApp c a = (app_of c ≡ a) × ((out-Command c).has_globals ≡ false)

-- one more argument, which is not global
pub given : {old new : Command} {a : Arg} {app : App} {r : Rule} → AddsArg old a new → rule_of a ≡ r → a.global ≡ false → HasApp old app
    → HasApp new (with_rule app r)
given h rule local is = (h.shape local ∙ ap₂ with_rule is.0 rule, h.globals ∙ ap₂ (λ x y. x || y) is.1 local)

pub top_shape : (c : Command) {app : App} → HasApp c app → HasShape c app.top
top_shape c is = (ap (λ (a : App). a.top) is.0, is.1)

-- one more subcommand
pub entered : {old sub new : Command} {app : App} {s : Shape} → AddsSubcommand old sub new → HasShape sub s → app_of old ≡ app
    → app_of new ≡ with_subcommand app s
entered h sub is = h.shape sub.1 ∙ ap₂ with_subcommand is sub.0

-- a subcommand is required
pub required : (old new : Command) {app : App} → out-Command new ≡ record (out-Command old) { subcommand_required = true } → app_of old ≡ app
    → app_of new ≡ on_top (λ s. record s { subcommand_required = true }) app
required old new set is = ap app_of_fields set ∙ ap (on_top (λ s. record s { subcommand_required = true })) is
