-- How a box pass ends.
use Rattle.std.proofs.Common.{◌≡◌, ◌↔◌, ℤ, List, refl}
use Rattle.std.specs.Prelude.{Result, Ok, Err, IfOk}
use Rattle.rv_proofs.specs.{Systems.System, Runs.IsSafeSystem, Boxes.BoxClaim, Boxes.HasGoodBox, Reached.IsLeastClosed, Reached.AreLayers}
use Rattle.rv_proofs.specs.{declared.certificate.Certificate.Certificate, declared.report.Layers.Layers}
use Rattle.rv_walk.specs.{Ends.IsGoodEnd, declared.end.BoxEnd.BoxEnd, declared.end.BoxEnd.TheVariants.Good, declared.end.BoxEnd.TheVariants.Bad}
use Rattle.rv_open.specs.Columns.{AreLeastBadLayers}

-- the layers of a pass that ends bad are those of a claim that is not good
pub least_layers : {E : Type 0} (s : System) (thresholds : List ℤ) (o : Result BoxEnd E) (l : Layers) → o ≡ Ok (Bad l)
    → ((c : BoxClaim) × IsLeastClosed s thresholds c × AreLayers s c l.sets) → IfOk o (λ e. IsGoodEnd e ↔ HasGoodBox s thresholds)
    → AreLeastBadLayers s thresholds l
least_layers s thresholds (Ok (Bad l')) l is (c, least, layers) exactly = record {
  claim = c;
  least = least;
  layers = layers;
  not_good = λ good. exactly.1 (c, least.claim, least.closed, good);
}
least_layers s thresholds (Ok (Good x)) l is found exactly = absurd (cc)
least_layers s thresholds (Err e) l is found exactly = absurd (cc)

-- a pass decides, where good ends are safe and bad ones are not
pub decided : {E : Type 0} (s : System) (thresholds : List ℤ) (o : Result BoxEnd E) → ((x : Certificate) → o ≡ Ok (Good x) → IsSafeSystem s)
    → ((l : Layers) → o ≡ Ok (Bad l) → IsSafeSystem s → ⊥) → IfOk o (λ e. IsGoodEnd e ↔ IsSafeSystem s)
decided s thresholds (Ok (Good x)) safe bad = (λ yes. safe x refl, λ is. tt)
decided s thresholds (Ok (Bad l)) safe bad = (λ never. absurd never, λ is. bad l refl is)
decided s thresholds (Err e) safe bad = tt
