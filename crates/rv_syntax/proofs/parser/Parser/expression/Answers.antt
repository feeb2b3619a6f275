use Rattle.std.proofs.{Common.◌≡◌, Common.List, Common.[], Common.refl, Common.sym, Common.ap, Common.◌∙◌, lemmas.Result.err_from_is_err_and}
use Rattle.std.specs.Prelude.{Err}
use Rattle.rv_syntax.specs.Reads.{Ahead, Stops, Wanting, from, Reads, expression}
use Rattle.rv_syntax.specs.{declared.token.Token.Token, declared.fault.Stop.Stop, Machine.Want, Limited.counts, Limited.limited}
use Rattle.rv_tree.specs.{declared.tree.Expr.Expr, Tree.tree_of}
use Rattle.rv_syntax.specs.declared.fault.Stop.TheVariants as stop
use Rattle.rv_syntax.proofs.Steps.{wanted}
use Rattle.rv_syntax.proofs.parser.Parser.expression.Goals as goal

-- from the whole expression, with no nesting
outermost : (ts : List Token) (old : Ahead) → old.rest ≡ ts → old.depth ≡ 0
    → limited (counts 0 []) (Want []) ts ≡ limited (counts old.depth []) (Want []) old.rest
outermost ts old r d = ap (λ x. limited (counts x []) (Want []) ts) (sym d) ∙ ap (λ l. limited (counts old.depth []) (Want []) l) (sym r)

stopped : (e : Stop) (ts : List Token) (old new : Ahead) → old.rest ≡ ts → old.depth ≡ 0 → Stops (Wanting 0) (λ x. from old Want x.around) e new
    → Reads {X = Expr} tree_of (expression ts) (Err e) new.rest
stopped stop.Memory ts old new r d s = tt
stopped (stop.Token why left) ts old new r d s = (s.0, outermost ts old r d ∙ s.1 (wanted 0 [] [] refl))

pub returns-in_err-read : goal.returns-in_err-read
returns-in_err-read c =
    let p = err_from_is_err_and c.from_residual.result c.from_residual.ensures.1 in
    rw (p.1, p.2) (stopped c.in_err-read.field-0.0 c.args.self.now.rest c.set_depth.new.self c.expr.new.self c.set_depth.ensures.rest c.set_depth.ensures.depth
    c.in_err-read.ensures.reads)

pub returns : goal.returns
returns c = outermost c.args.self.now.rest c.set_depth.new.self c.set_depth.ensures.rest c.set_depth.ensures.depth
    ∙ c.in_ok-read.ensures.reads (wanted 0 [] [] refl)
