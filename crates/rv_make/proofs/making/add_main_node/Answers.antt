use Rattle.std.proofs.Common.{◌++◌}
use Rattle.std.specs.{Prelude.codes, String.string_bytes}
use Rattle.rv_make.specs.Made.{line, link_name, declared_links, link_equations}
use Rattle.rv_make.proofs.Joined.{appended_seven}
use Rattle.rv_make.proofs.making.add_main_node.Goals as goal

pub returns : goal.returns
returns c = appended_seven (string_bytes c.args.text.now) (line (codes "node main(a: bool) returns (ok: bool);"))
    (line (codes "var seen" ++ declared_links c.args.n ++ codes ": bool;")) (line (codes "let")) (line (codes "  seen = a or (false -> pre seen);"))
    (link_equations c.args.n) (line (codes "  ok = not " ++ link_name c.args.n ++ codes " or seen;")) (line (codes "tel")) _ _ _ _ _ _ _
    c.in_ok-add_line.ensures c.in_ok-add_declarations.ensures c.in_ok-add_line-2.ensures c.in_ok-add_line-3.ensures
    c.in_ok-add_equations.ensures c.in_ok-add_observer.ensures c.in_ok-add_line-4.ensures
