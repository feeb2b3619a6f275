use Rattle.std.proofs.Common.{◌≡◌, length, ◌-◌, ◌≤◌, drop}
use Rattle.std.specs.{Cmp.Lexicographic.slice_cmp, Ordering.nat_cmp}
use Rattle.rv_base.proofs.sites.Sites.compare.Given as goal

-- what is left compares as the whole
abbrev pub invariant-sites : goal.invariant-sites
invariant-sites l = (slice_cmp nat_cmp (drop l.k l.self) (drop l.k l.other) ≡ slice_cmp nat_cmp l.self l.other) × (l.k ≤ length l.self)

abbrev pub decreases-sites : goal.decreases-sites
decreases-sites l = length l.self - l.k
