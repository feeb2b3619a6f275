use Rattle.std.proofs.Common.{◌≡◌, ◌∙◌, ◌++◌, length, sym, All, subst, ℕ}
use Rattle.rv_rows.specs.declared.linear.Row.{Row}
use Rattle.rv_proofs.specs.Scopes.{each, before, after}
use Rattle.rv_accept.proofs.Ranged.{needed_list, needed_both, needed_after_none}
use Rattle.rv_accept.proofs.naming.mark_turn_memories.Goals as goal

pub mark_rows-requires-2 : goal.mark_rows-requires-2
mark_rows-requires-2 c = subst (λ (n : ℕ). All (λ (r : Row). length r.coefficients ≡ n) c.args.location.now.around)
    (sym c.mark_rows.ensures.size) c.requires.around

pub mark_rows-requires-3 : goal.mark_rows-requires-3
mark_rows-requires-3 c = subst (λ (n : ℕ). All (λ (r : Row). length r.coefficients ≡ n) c.args.location.now.state)
    (sym (c.mark_rows-2.ensures.size ∙ c.mark_rows.ensures.size)) c.requires.state

pub returns : goal.returns
returns c = λ first before_all around state a b d e.
    let both = c.args.location.now.around ++ c.args.location.now.state in
    needed_both (each after c.args.location.now.entry c.args.location.now.first first)
    (each before c.args.location.now.first c.args.location.now.around before_all
    ++ (each after both c.args.location.now.around around ++ each after both c.args.location.now.state state)) c.args.flags.now c.mark_rows.new.flags
    c.mark_rows-3.new.flags
    (needed_list c.args.flags.now c.mark_rows.new.flags c.args.location.now.entry c.args.location.now.first first a c.mark_rows.ensures)
    (needed_after_none c.mark_rows.new.flags c.mark_rows-3.new.flags c.args.location.now.first c.args.location.now.around before_all
    (each after both c.args.location.now.around around ++ each after both c.args.location.now.state state)
    (needed_both (each after both c.args.location.now.around around)
    (each after both c.args.location.now.state state) c.mark_rows.new.flags c.mark_rows-2.new.flags c.mark_rows-3.new.flags
    (needed_list c.mark_rows.new.flags c.mark_rows-2.new.flags both c.args.location.now.around around d c.mark_rows-2.ensures)
    (needed_list c.mark_rows-2.new.flags c.mark_rows-3.new.flags both c.args.location.now.state state e c.mark_rows-3.ensures)))
