-- What an answer says, and which answers there are, want of memory left out.
use Rattle.std.proofs.Common.{◌≡◌, inl, inr, refl, subst}
use Rattle.std.specs.Prelude.{Result, Ok, Err}
use Rattle.rv_replay.specs.declared.replayed.ReplayFault.TheVariants.{Outgrown, Memory}
use Rattle.rv_replay.specs.{declared.replayed.Replayed.Replayed, declared.replayed.ReplayFault.ReplayFault, Playing.AnswersUnlessMemory, Replays.IsUnlessMemory}

unless : (P : Result Replayed ReplayFault → Type 0) (a : Result Replayed ReplayFault) → AnswersUnlessMemory P a → (a ≡ Err Memory → ⊥) → P a
unless P (Ok a) h other = h
unless P (Err (Outgrown k p)) h other = h
unless P (Err Memory) h other = absurd (other refl)

module _ (P Q : Result Replayed ReplayFault → Type 0) (r : Result Replayed ReplayFault) (answers : AnswersUnlessMemory P r) where
  -- what is answered is so
  pub found : ((a : Result Replayed ReplayFault) → P a → Q a) → (a : Result Replayed ReplayFault) → (a ≡ Err Memory → ⊥) → r ≡ a → Q a
  found so a other is = so a (unless P a (subst (AnswersUnlessMemory P) is answers) other)

  -- and what is so is answered
  pub only : ((a : Result Replayed ReplayFault) → P a → (b : Result Replayed ReplayFault) → Q b → a ≡ b) → (b : Result Replayed ReplayFault) → Q b
      → IsUnlessMemory b r
  only one b so = by r answers
    where
      by : (r : Result Replayed ReplayFault) → AnswersUnlessMemory P r → IsUnlessMemory b r
      by (Ok a) h = inl (one (Ok a) h b so)
      by (Err (Outgrown k p)) h = inl (one (Err (Outgrown k p)) h b so)
      by (Err Memory) h = inr refl
