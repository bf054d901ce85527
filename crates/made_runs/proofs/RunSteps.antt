-- The reply of a run, batch after batch.
use Rattle.std.proofs.Common.{◌≡◌, ◌∙◌, ◌+◌, ◌<◌, ◌≤◌, ◌++◌, ◌∷◌, ℕ, List, map, length, drop}
use Rattle.std.proofs.Common.{get_or, sym, ap}
use Rattle.std.proofs.Common.{append_assoc}
use Rattle.std.proofs.lemmas.List.{at_drop_all, at_drop_more}
use Rattle.bolt_base.specs.declared.edge.Edit.{Edit}
use Rattle.graph_text.specs.declared.batch_text.BatchText.{BatchText}
use Rattle.batch_steps.specs.Steps.{prepend, rest_reply}
use Rattle.batch_steps.specs.declared.reply.Reply.{Reply}
use Rattle.report_text.specs.Runs.{Run, batch_text, end_reply, moved, run_steps}
use Rattle.command_course.specs.Still.{made_batch}

-- a text in two parts before a reply
pub prepend_parts : (first second : List ℕ) (r : Reply)
    → prepend (first ++ second) r ≡ prepend first (prepend second r)
prepend_parts first second r =
    ap (λ (t : List ℕ). let x : Reply = record { text = t; status = r.status } in x)
    (append_assoc first second r.text)

-- a batch is taken, and its text stands behind what was written so far
pub one_taken : (items : List (List Edit)) (k : ℕ) (d : List Edit) (batch : BatchText)
    (run next : Run) (out text more : List ℕ) → k < length items
    → batch ≡ made_batch (get_or items k d) → text ≡ batch_text run batch → next ≡ moved run batch
    → more ≡ out ++ text
    → prepend more (rest_reply run_steps next (map made_batch (drop (k + 1) items)))
    ≡ prepend out (rest_reply run_steps run (map made_batch (drop k items)))
one_taken items k d batch run next out text more less is told moves written =
    let rest : List BatchText = map made_batch (drop (k + 1) items) in
    (λ i. prepend (written i) (rest_reply run_steps (moves i) rest))
    ∙ ap (λ (t : List ℕ). prepend (out ++ t) (rest_reply run_steps (moved run batch) rest)) told
    ∙ prepend_parts out (batch_text run batch) (rest_reply run_steps (moved run batch) rest)
    ∙ ap (λ (x : BatchText). prepend out (rest_reply run_steps run (x ∷ rest))) is
    ∙ sym (at_drop_more (λ (l : List (List Edit)). prepend out (rest_reply run_steps run
    (map made_batch l))) items k d less)

-- no batch is left
pub all_taken : (items : List (List Edit)) (k : ℕ) (run : Run) (out : List ℕ) → length items ≤ k
    → prepend out (end_reply run)
    ≡ prepend out (rest_reply run_steps run (map made_batch (drop k items)))
all_taken items k run out all =
    sym (at_drop_all (λ (l : List (List Edit)). prepend out (rest_reply run_steps run
    (map made_batch l))) items k all)
