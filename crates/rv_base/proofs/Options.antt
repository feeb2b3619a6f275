-- Values that may be absent.
use Rattle.std.proofs.Common.{◌≡◌, Some, None}

pub some_same : {X : Type 0} (x y : X) → Some x ≡ Some y → x ≡ y
some_same x y e = let f : x ≡ y = cc in f

pub some_none : {X : Type 0} (x : X) → Some x ≡ None → ⊥
some_none x e = cc
