use Rattle.std.proofs.Common.{◌≡◌, subst, sym}
use Rattle.rv_types.specs.Lists.{Variable, Next}
use Rattle.rv_flat.specs.Lists.{variable_of}
use Rattle.rv_diagram.proofs.Growing.{extends_refl}
use Rattle.rv_bits.specs.Following.{IsNextRead, variable_at}
use Rattle.rv_bits.proofs.Naming.{mapped_past}
use Rattle.rv_bits.proofs.following.next_at.Goals as goal

pub returns-in-None-clause-ok : goal.returns-in-None-clause-ok
returns-in-None-clause-ok c =
    let f = c.args.around.now.flat.now in
    let a = c.args.store.now in
    let none : variable_at f c.args.number ≡ Next = mapped_past variable_of f.variables c.args.number Next (sym c.in-None.ensures.value) in
    subst (λ (x : Variable). IsNextRead f a a x c.constant.result) (sym none)
    (record { extends = extends_refl a; is_ref = c.constant.ensures.found; means = λ v row instant. c.constant.ensures.means v })
