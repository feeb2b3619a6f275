use Rattle.std.proofs.Common.{◌≡◌, slice_get, Some, None, arith}
use Rattle.rv_base.proofs.Comparing.{first-ends, second-ends, both-go-on, equal-here, decided-here}
use Rattle.rv_base.proofs.sites.Sites.compare.Goals as goal

pub returns-in_default-get : goal.returns-in_default-get
returns-in_default-get c =
    let a : slice_get c.args.self.now c.sites.k ≡ Some c.in-Some.one = cc in
    let b : slice_get c.args.other.now c.sites.k ≡ None = cc in
    second-ends _ _ c.sites.k _ c.sites.invariant.0 a b

pub sites-preserved : goal.sites-preserved
sites-preserved c =
    let a : slice_get c.args.self.now c.sites.k ≡ Some c.in-Some.one = cc in
    let b : slice_get c.args.other.now c.sites.k ≡ Some c.in-Some-get.another = cc in
    (equal-here _ _ _ (cc) (both-go-on _ _ c.sites.k _ _ c.sites.invariant.0 a b), omega arith)

pub returns-in_default-cmp : goal.returns-in_default-cmp
returns-in_default-cmp c =
    let a : slice_get c.args.self.now c.sites.k ≡ Some c.in-Some.one = cc in
    let b : slice_get c.args.other.now c.sites.k ≡ Some c.in-Some-get.another = cc in
    rw c.cmp.ensures (decided-here _ _ _ (rw c.cmp.ensures at c.in_default-cmp.not-Equal) (both-go-on _ _ c.sites.k _ _ c.sites.invariant.0 a b))

pub returns-then-k-len : goal.returns-then-k-len
returns-then-k-len c = first-ends _ _ c.sites.k c.sites.invariant.0 (omega arith) (omega arith)
