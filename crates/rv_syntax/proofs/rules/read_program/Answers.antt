use Rattle.std.proofs.{Common.ap, lemmas.Result.err_from_is_err_and}
use Rattle.rv_syntax.specs.Reading.{section, sections, with_section, with_sections, program}
use Rattle.rv_tree.specs.Tree.{program_tree}
use Rattle.rv_syntax.proofs.Loop.{sections-loop, all-sections, no-sections, goes-on, ends, made-of, section-stops, some-token, no-token}
use Rattle.rv_syntax.proofs.rules.read_program.Goals as goal

pub more-init : goal.more-init
more-init c =
    all-sections (program_tree (record { types = c.new.result; constants = c.new-2.result; nodes = c.new-3.result }))
    (no-sections c.new.result c.new-2.result c.new-3.result c.new.ensures c.new-2.ensures c.new-3.ensures) (sections c.args.parser.now.rest)

pub returns-in_err-found-clause-reads : goal.returns-in_err-found-clause-reads
unfolding program
returns-in_err-found-clause-reads c =
    let p = err_from_is_err_and c.from_residual.result c.from_residual.ensures.1 in
    rw (p.1, p.2) (section-stops (program_tree c.more.found) _ _ _ (some-token c.more.parser.rest c.is_at_end.result c.is_at_end.ensures c.more-test.true)
    c.more.invariant c.in_err-found.ensures)

pub more-smaller : goal.more-smaller
more-smaller c =
    let m = made-of {f = with_section (program_tree c.more.found)} (section c.more.parser.rest) c.in_ok-found.ensures in
    sections-loop.less c.more.parser.rest c.read_section.new.parser.rest m.0 m.1

pub more-preserved : goal.more-preserved
more-preserved c =
    let m = made-of {f = with_section (program_tree c.more.found)} (section c.more.parser.rest) c.in_ok-found.ensures in
    goes-on sections-loop (with_sections (program_tree c.more.found)) {now = with_sections (program_tree c.in_ok-found.found)}
    (some-token c.more.parser.rest c.is_at_end.result c.is_at_end.ensures c.more-test.true) m.1 c.more.invariant (λ more. ap (λ p. with_sections p more) m.2)

pub returns-clause-reads : goal.returns-clause-reads
unfolding program
returns-clause-reads c = ends sections-loop (with_sections (program_tree c.more.found))
    (no-token c.more.parser.rest c.is_at_end.result c.is_at_end.ensures c.more-test.false) c.more.invariant
