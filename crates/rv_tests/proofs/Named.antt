-- The one file that the words of a command `prove` name.
use Rattle.std.proofs.Common.{◌≡◌, inl, inr, ℕ, Bool, List, Some, ap, subst, sym}
use Rattle.rv_words.specs.{Asked.prove, Words.command}
use Rattle.rv_run.specs.Words.{IsNamed, wanted, wanted_of}
use Rattle.rv_run.proofs.Named.{same_pair}
use Rattle.rv_base.proofs.Options.{some_none}

-- It is the one that the command holds.
pub named_by : (words : List (List ℕ)) (file node : List ℕ) (nodes locations : ℕ) (accelerate : Bool)
    → Some (prove file node nodes locations accelerate) ≡ command words → (name : List ℕ) → IsNamed (wanted words) name → name ≡ file
named_by words file node nodes locations accelerate is name named =
    go (subst (λ o. IsNamed (wanted_of o) name) (sym is) named)
  where
    go : IsNamed (wanted_of (Some (prove file node nodes locations accelerate))) name → name ≡ file
    go (inl (other, e)) = ap (λ (p : List ℕ × List ℕ). p.0) (sym (same_pair (file, node) (name, other) e))
    go (inr (task, e)) = absurd (some_none (task, name) (sym e))
