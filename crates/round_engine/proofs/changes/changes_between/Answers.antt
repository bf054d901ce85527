use Rattle.std.proofs.Common.{◌≡◌, ◌++◌, ◌∷◌, ℕ, Bool, [], sym, ap, ◌∙◌}
use Rattle.std.proofs.lemmas.List.{get_or_read}
use Rattle.run_model.specs.Logs.{differs}
use Rattle.run_model.specs.Rows.{Lists, at}
use Rattle.refine_rows.specs.Picked.{vertices_where}
use Rattle.round_engine.specs.Parts.{changes_in}
use Rattle.round_engine.proofs.ChangeLemmas.{changes_more, no_more, one_more}
use Rattle.round_engine.proofs.changes.changes_between.Goals as goal
use Rattle.round_engine.proofs.changes.changes_between.Goals.{then-is_other+in_ok-push}
use Rattle.round_engine.proofs.changes.changes_between.Goals.{else-is_other}

pub loop-v-preserved : goal.loop-v-preserved
loop-v-preserved c =
    let old : Lists = c.args.old.now in
    let new : Lists = c.args.new.now in
    let v : ℕ = c.loop-v.v in
    let test : (ℕ → Bool) = differs old new in
    elim c.if-is_other.branch [
      | then-is_other+in_ok-push w ↦
          let value : w.index-new-v.result ≡ at new v =
          get_or_read new v w.index-new-v.result c.loop-v-test.true w.index-new-v.is [] in
          rw w.changes-is (w.in_ok-push.ensures.ok
          ∙ (λ i. c.loop-v.invariant i ++ record { vertex = v; value = value i } ∷ [])
          ∙ sym (changes_more new (vertices_where v test) v)
          ∙ ap (changes_in new) (sym (one_more test v
          (sym c.is_other.ensures ∙ w.if-is_other.true))))
      | else-is_other w ↦ rw w.changes-is (c.loop-v.invariant
          ∙ ap (changes_in new) (sym (no_more test v
          (sym c.is_other.ensures ∙ w.if-is_other.false))))
    ]
