-- What is written of a piece when a writer stops.
use Rattle.std.proofs.Common.{◌≡◌, ℕ, ◌-◌, ◌≤◌, List, [], ◌++◌, length, take, drop, Option, refl, sym, ap, ◌∙◌, subst, arith, append_assoc, append-nil}
use Rattle.std.proofs.Common.{take-append-drop}
use Rattle.std.proofs.KnownBytes.{Appends-trans, Appends-kept, Appends-nil as none}
use Rattle.std.proofs.{lemmas.List.take_rest, lemmas.List.length-append, Math.Seq.take-append_seam}
use Rattle.std.specs.Io.KnownBytes.{Appends, Keeps}
use Rattle.rv_base.specs.Shown.{AppendsPrefix}

-- a front of a piece is written, and this rest is left
pub record IsFront (old now : Option (List ℕ)) (piece rest : List ℕ) : Type 0 where
  pub done : List ℕ
  pub split : piece ≡ done ++ rest
  pub written : Appends old now done

pub none_written : (old : Option (List ℕ)) (piece : List ℕ) → IsFront old old piece piece
none_written old piece = record { done = []; split = refl; written = none old }

pub more_written : (old now new : Option (List ℕ)) (piece rest : List ℕ) (n : ℕ) → IsFront old now piece rest → Appends now new (take n rest)
    → IsFront old new piece (take (length rest - n) (drop n rest))
more_written old now new piece rest n front more = record {
  done = front.done ++ take n rest;
  split = front.split ∙ ap (λ l. front.done ++ l) (sym (take-append-drop n rest))
      ∙ sym (append_assoc front.done (take n rest) (drop n rest)) ∙ ap (λ l. (front.done ++ take n rest) ++ l) (sym (take_rest rest n));
  written = Appends-trans old now new front.done (take n rest) front.written more;
}

pub same_written : (old now new : Option (List ℕ)) (piece rest : List ℕ) → IsFront old now piece rest → Keeps now new → IsFront old new piece rest
same_written old now new piece rest front kept = record {
  done = front.done;
  split = front.split;
  written = Appends-kept old now new front.done front.written kept;
}

pub all_written : (old now : Option (List ℕ)) (piece rest : List ℕ) → IsFront old now piece rest → rest ≡ [] → Appends old now piece
all_written old now piece rest front empty =
    subst (Appends old now) (sym (front.split ∙ ap (λ l. front.done ++ l) empty ∙ append-nil front.done)) front.written

pub front_written : (old now : Option (List ℕ)) (piece rest : List ℕ) → IsFront old now piece rest → AppendsPrefix old now piece
front_written old now piece rest front =
    let long : length piece ≡ length (front.done ++ rest) = ap length front.split in
    let fits : length front.done ≤ length piece = omega (arith, long, length-append front.done rest) in
    let same : take (length front.done) piece ≡ front.done = ap (λ l. take (length front.done) l) front.split ∙ take-append_seam front.done rest in
    (length front.done, fits, subst (Appends old now) (sym same) front.written)
