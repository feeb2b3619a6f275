use Rattle.std.proofs.Common.{◌≡◌, ◌∙◌, List, Option, Some, ap, subst, sym}
use Rattle.std.specs.{Prelude.String, Prelude.option_map, Global.Global}
use Rattle.rv_words.specs.{Asked.prove, Words.command, Words.said, Words.texts, declared.command.Command.Command}
use Rattle.rv_tests.proofs.Named.{named_by}
use Rattle.rv_tests.proofs.runs.ran_surely.Goals as goal

pub run_surely-outcome-requires : goal.run_surely-outcome-requires
run_surely-outcome-requires c = λ name named.
    let a = c.in-Some-Prove.asked in
    let told : Some (prove a.file.now a.node.now a.nodes a.locations a.accelerate) ≡ command (texts c.as_slice.result.now) =
    sym (ap (λ (o : Option Command). option_map said o) (c.in-Some-Prove.is ∙ ap (λ (x : Command). Some x) c.in-Some-Prove.field-0-is))
    ∙ c.in_ok-asked.ensures.read in
    let of_words = subst (λ (ws : List (String Global)). Some (prove a.file.now a.node.now a.nodes a.locations a.accelerate) ≡ command (texts ws))
    c.as_slice.ensures.value told in
    rw (named_by (texts c.in_ok-words.words.items) a.file.now a.node.now a.nodes a.locations a.accelerate of_words name named) c.in_ok-add.ensures.serves
