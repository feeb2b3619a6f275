use Rattle.std.proofs.Common.{◌≡◌, [], length, map, take}
use Rattle.rv_control.specs.Spelled.{decoded}
use Rattle.rv_falsify.specs.Decoding.{bits_along}
use Rattle.rv_falsify.proofs.decoding.inputs_from.Given as goal

abbrev pub invariant-loop-instant : goal.invariant-loop-instant
invariant-loop-instant l = l.instants ≡ map (λ word. decoded (map (λ ls. length ls) l.labels) l.kinds
    (bits_along (map (λ ls. length ls) l.labels) l.kinds word l.first 1) []) (take l.instant l.words)
