use Rattle.std.proofs.Common.{◌++◌, ◌∷◌, [], length, sym, ◌∙◌, subst}
use Rattle.rv_tree.specs.Groups.{AreAlike}
use Rattle.rv_tree.proofs.Grouped.{one-more, on-ok}
use Rattle.rv_tree.proofs.decls.Decls.push.Goals as goal

pub invariant_of-self-else-is_err : goal.invariant_of-self-else-is_err
invariant_of-self-else-is_err c =
    let pushed = on-ok c.push-pushed.result (sym c.is_err.ensures.value ∙ c.if-is_err.false) c.push-pushed.ensures.ok in
    let alike = subst (λ l. AreAlike (l ++ c.args.decl ∷ []) c.args.first (length l)) (sym c.self.view_is) c.requires in
    rw (c.in_ok-push.ensures.items, pushed) (one-more c.self.inside.firsts.items c.self.inside.decls c.args.first c.args.decl c.self.invariant alike)
