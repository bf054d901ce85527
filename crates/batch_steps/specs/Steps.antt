-- The reply to batches, by the steps of a run.
use Rattle.std.specs.Prelude.{◌≡◌, ◌⊎◌, ℕ, zero, suc, List, [], ◌∷◌, ◌++◌}
use Rattle.graph_text.specs.declared.batch_text.BatchText.{BatchText}
use Rattle.batch_steps.specs.declared.reply.Reply.{Reply}

-- of a run whose states are S: what is written of a batch, the state after it, and what is written
-- at the end
pub record Steps (S : Type 0) : Type 0 where
  pub text : S → BatchText → List ℕ
  pub next : S → BatchText → S
  pub end : S → Reply

-- a text before a reply
abbrev pub prepend : List ℕ → Reply → Reply
prepend text reply = record { text = text ++ reply.text; status = reply.status }

-- what is written of some batches, one after another, and then at the end
abbrev pub rest_reply : {S : Type 0} → Steps S → S → List BatchText → Reply
rest_reply steps s [] = steps.end s
rest_reply steps s (b ∷ bs) = prepend (steps.text s b) (rest_reply steps (steps.next s b) bs)

-- what is written of them alone
abbrev pub batch_texts : {S : Type 0} → Steps S → S → List BatchText → List ℕ
batch_texts steps s [] = []
batch_texts steps s (b ∷ bs) = steps.text s b ++ batch_texts steps (steps.next s b) bs

-- a status of a run that was made to its end: 0, or 1 where a batch was refused
abbrev pub IsMade : ℕ → Type 0
IsMade status = (status ≡ 0) ⊎ (status ≡ 1)

-- how many slots a stream has where a command ended with a status of its own: one where its run was
-- made
abbrev pub stream_slots : ℕ → ℕ
stream_slots zero = 1
stream_slots (suc zero) = 1
stream_slots (suc (suc more)) = 0
