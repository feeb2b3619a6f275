-- The ranges of multipliers that a document writes, said otherwise.
use Rattle.std.proofs.Common.{◌≡◌, ℕ, ◌<◌, ◌^◌, pos, ◌≤ℤ◌, length, get_or, arith, ap}
use Rattle.std.proofs.{lemmas.Option.slice_get_within, lemmas.Option.get_or_from_slice_get, lemmas.Option.slice_get-get_or}
use Rattle.std.proofs.{lemmas.List.Elements.All-weaker}
use Rattle.rv_rows.specs.{declared.farkas.Weight.Weight, declared.farkas.Multipliers.Multipliers}
use Rattle.rv_seek.specs.Pairs.{WeightInRange, HasRanges}
use Rattle.rv_proofs.specs.Ranges.{IsRecord}

along : (a b c d : Weight) → a ≡ b → c ≡ d → a.premise < c.premise → b.premise < d.premise
along a b c d e f l = omega (arith, ap (λ (x : Weight). x.premise) e, ap (λ (x : Weight). x.premise) f, l)

pub ranges_record : (n : ℕ) (m : Multipliers) → HasRanges n m → IsRecord n m
ranges_record n m h = record {
  positive = h.positive;
  divisor = h.divisor;
  few = h.most;
  there = All-weaker (WeightInRange n) (λ (w : Weight). w.premise < n) (λ w r. r.premise) m.weights h.weights;
  weighted = All-weaker (WeightInRange n) (λ (w : Weight). (pos 1 ≤ℤ w.by) × (w.by ≤ℤ pos (2 ^ 41))) (λ w r. (r.positive, r.most)) m.weights h.weights;
  rising = λ i j u w less u_at w_at.
      let e = get_or_from_slice_get m.weights i u u u_at in
      let f = get_or_from_slice_get m.weights j w u w_at in
      let r = h.rising i j u less (slice_get_within m.weights j w w_at) in
      along (get_or m.weights i u) u (get_or m.weights j u) w e f r;
}

pub record_ranges : (n : ℕ) (m : Multipliers) → IsRecord n m → HasRanges n m
record_ranges n m r = record {
  positive = r.positive;
  divisor = r.divisor;
  most = r.few;
  weights = λ i d l. record {
    positive = let h = r.weighted i d l in h.0;
    most = let h = r.weighted i d l in h.1;
    premise = r.there i d l;
  };
  rising = λ i j d less inside.
      let before : i < length m.weights = omega arith in
      let at = slice_get-get_or m.weights i d before in
      let later = slice_get-get_or m.weights j d inside in
      r.rising i j (get_or m.weights i d) (get_or m.weights j d) less at later;
}
