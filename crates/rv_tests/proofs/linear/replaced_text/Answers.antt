use Rattle.std.proofs.Common.{◌^◌, arith, refl}
use Rattle.rv_tests.proofs.Room.{can_substitute_within}
use Rattle.rv_tests.proofs.linear.replaced_text.Goals as goal

pub substitute-requires : goal.substitute-requires
substitute-requires c =
    let row = c.if-not-is_row_within.ensures refl in
    let small = rw c.as_slice.ensures at (c.if-not-are_forms_within.ensures.small refl) in
    let widths = rw (c.as_slice.ensures, c.width_of.ensures) at (c.if-not-are_forms_within.ensures.widths refl) in
    can_substitute_within (2 ^ 41) (2 ^ 60) c.args.row.now c.args.forms.now row small (omega arith) widths (omega arith) (omega arith)
