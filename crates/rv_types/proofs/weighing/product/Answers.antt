use Rattle.std.proofs.{Common.◌≡◌, Common.◌*ℤ◌, Common.rules, lemmas.Int.to_z-of_z, lemmas.Int.fits_signed_mul}
use mir.Val.{SFits, to_z, of_z}
use mir.Syntax.{w128}
use lib.IntN.{ℤ}
use Rattle.rv_base.specs.Limits.{too_heavy}
use Rattle.rv_types.proofs.weighing.product.Goals as goal

exact : (a b x y : ℤ) → x ≡ a → y ≡ b → SFits w128 (a *ℤ b) → to_z w128 (of_z w128 (x *ℤ y)) ≡ a *ℤ b
exact a b x y p q f = rw (p, q) (to_z-of_z w128 (a *ℤ b) f)

pub returns : goal.returns
returns c =
    let a : SFits w128 c.args.a = search rules in
    let b : SFits w128 c.args.b = search rules in
    let p : SFits w128 (c.args.a *ℤ c.args.b) = fits_signed_mul w128 c.args.a c.args.b too_heavy too_heavy c.requires.a c.requires.b (search rules) in
    exact c.args.a c.args.b _ _ (to_z-of_z w128 c.args.a a) (to_z-of_z w128 c.args.b b) p
