use Rattle.std.proofs.Common.{rules, ◌≡◌, ◌∙◌, ◌<◌, ℕ, ℤ, List, length, ap, sym, subst}
use Rattle.std.specs.Prelude.{slice_index_or}
use Rattle.run_model.proofs.RowLemmas.{values_whole}
use Rattle.run_model.specs.Program.{lanes}
use Rattle.run_model.specs.Rows.{Lists, answer}
use Rattle.once_run.proofs.once.once_text.Goals as goal

pub push_shown-requires : goal.push_shown-requires
push_shown-requires g c =
    let p = c.args.accepted.now in
    let plain = c.args.plain.now in
    let found : c.as_slice-answer.result.now ≡ answer p plain =
    c.as_slice-answer.ensures ∙ c.in_ok-found.ensures.answer in
    c.in_ok-found.ensures.vertices ∙ sym (values_whole p plain p.rounds).each_vertex
    ∙ sym (ap (λ (l : Lists). length l) found)

pub push_totals-requires-clause-vertices : goal.push_totals-requires-clause-vertices
push_totals-requires-clause-vertices g c =
    let p = c.args.accepted.now in
    let plain = c.args.plain.now in
    let found : c.as_slice-answer.result.now ≡ answer p plain =
    c.as_slice-answer.ensures ∙ c.in_ok-found.ensures.answer in
    c.in_ok-found.ensures.vertices ∙ sym (values_whole p plain p.rounds).each_vertex
    ∙ sym (ap (λ (l : Lists). length l) found)

pub push_totals-requires-clause-width : goal.push_totals-requires-clause-width
push_totals-requires-clause-width g c =
    let p = c.args.accepted.now in
    let plain = c.args.plain.now in
    let found : c.as_slice-answer.result.now ≡ answer p plain =
    c.as_slice-answer.ensures ∙ c.in_ok-found.ensures.answer in
    let wide : lanes p ≡ c.len-width.result = search rules in
    subst (λ (l : Lists). (k : ℕ) → (d : List ℤ) → k < length l
    → length (slice_index_or l k d) ≡ c.len-width.result) (sym found)
    (λ k d inside. (values_whole p plain p.rounds).each_lane k d inside ∙ wide)
