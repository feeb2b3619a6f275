use Rattle.std.proofs.Common.{◌≡◌, ◌^◌, ◌*ℤ◌, ℤ, List, length}
use Rattle.rv_rows.specs.Forms.{FormWithin, value}
use Rattle.rv_least.specs.Turned.{sign_of, IsTurned}
use Rattle.rv_least.proofs.{Opening.both_ok, Turning.turned_none, Turning.turned_times, Turning.given_small}
use Rattle.rv_base.proofs.Truths.{clash}
use Rattle.rv_least.proofs.turned.turned_form.Goals as goal

pub times-requires : goal.times-requires
times-requires c =
    let (s, k, given) = c.requires.update in
    given_small s c.args.store.now.nodes k c.args.answer c.args.form.now given
    (λ none. clash c.is_false.result (c.is_false.ensures.1 none) c.if-is_false.false)

pub returns : goal.returns
returns c s k given =
    both_ok c.times.result (λ g. (length g.coefficients ≡ length c.args.form.now.coefficients) × FormWithin (2 ^ 41) g)
    (λ g. (point : List ℤ) → value g point ≡ sign_of c.args.sign *ℤ value c.args.form.now point)
    (IsTurned s c.args.store.now.nodes k (sign_of c.args.sign) c.args.answer)
    (λ g a b. turned_times s c.args.store.now.nodes k (sign_of c.args.sign) c.args.answer c.args.form.now g given
    (λ none. clash c.is_false.result (c.is_false.ensures.1 none) c.if-is_false.false) a.0 a.1 b)
    (both_ok c.times.result (λ g. length g.coefficients ≡ length c.args.form.now.coefficients) (FormWithin (2 ^ 41))
    (λ g. (length g.coefficients ≡ length c.args.form.now.coefficients) × FormWithin (2 ^ 41) g) (λ g w x. (w, x)) c.times.ensures.width
    c.times.ensures.within)
    c.times.ensures.values

pub returns-then-is_false : goal.returns-then-is_false
returns-then-is_false c s k given =
    turned_none s c.args.store.now.nodes k (sign_of c.args.sign) c.args.answer c.no_form.result c.no_form.ensures (c.is_false.ensures.0 c.if-is_false.true)
