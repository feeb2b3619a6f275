use Rattle.std.proofs.Common.{ap, ◌∙◌}
use Rattle.rv_invfile.specs.{Readers.Ahead, Forms.field, Ahead.here}
use Rattle.rv_invfile.proofs.Taking.{standing-field, standing-none}
use Rattle.rv_invfile.proofs.records.Records.field.Goals as goal

pub returns-in-Some : goal.returns-in-Some
returns-in-Some c =
    standing-field c.self.inside.here c.self.inside.row c.self.inside.reader c.args.index c.in-Some.bytes.now c.if-not-self.false c.in-Some.ensures.value
    ∙ ap (λ (s : Ahead). field (here s) c.args.index) c.self.view_is

pub returns-in-None : goal.returns-in-None
returns-in-None c =
    standing-none c.self.inside.here c.self.inside.row c.self.inside.reader c.args.index c.if-not-self.false c.in-None.ensures.value
    ∙ ap (λ (s : Ahead). field (here s) c.args.index) c.self.view_is
