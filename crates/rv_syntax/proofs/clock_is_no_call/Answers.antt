use Rattle.std.proofs.Common.{◌≡◌, ℕ, List, [], ◌∷◌, length, refl, sym, ap, ◌∙◌, arith}
use Rattle.std.specs.Prelude.{Ok}
use Rattle.rv_syntax.specs.Grammar.{Called, Just, Sampled, fixed, name_token}
use Rattle.rv_syntax.specs.{declared.token.Token.Token, Machine.Want, Machine.run}
use Rattle.rv_syntax.specs.declared.token.Mark.TheVariants as mark
use Rattle.rv_tree.specs.declared.tree.Name.{Name}
use Rattle.rv_syntax.proofs.{Shallow.left, Expressions.read-whole}
use Rattle.rv_syntax.proofs.clock_is_no_call.Goals as goal

stops : (a b : Name) (at up : ℕ) (more : List Token) → run (Want []) (name_token a ∷ fixed mark.When at ∷ name_token b ∷ fixed mark.Open up ∷ more) ≡ Ok
    (Sampled at (Just (Called a.text) a.at) b, fixed mark.Open up ∷ more)
unfolding run
stops a b at up more = refl

pub returns : goal.returns
returns c = λ a b at up more t d. omega (arith, ap length (ap left (sym (stops a b at up more) ∙ read-whole _ t d)))
