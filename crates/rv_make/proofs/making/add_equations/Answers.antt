use Rattle.std.proofs.Common.{add-one}
use Rattle.std.specs.String.{string_bytes}
use Rattle.rv_make.specs.Made.{link_equation, link_equations}
use Rattle.rv_make.proofs.Joined.{appended_more}
use Rattle.rv_make.proofs.making.add_equations.Goals as goal

pub loop-call-preserved : goal.loop-call-preserved
loop-call-preserved c = rw add-one (appended_more (string_bytes c.args.text.now) (link_equations c.loop-call.call) (link_equation c.loop-call.call) _ _
    c.loop-call.invariant c.in_ok-add_equation.ensures)
