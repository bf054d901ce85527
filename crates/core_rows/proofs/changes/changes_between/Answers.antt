use Rattle.std.proofs.Common.{◌≡◌, ◌++◌, ◌∷◌, ℕ, Bool, [], sym, ap, ◌∙◌, filter, map}
use Rattle.std.specs.List.{range_with_len}
use Rattle.std.proofs.lemmas.List.{get_or_read}
use Rattle.run_model.specs.Logs.{differs}
use Rattle.run_model.specs.Rows.{Lists, at}
use Rattle.core_rows.proofs.EntryLemmas.{change_in, changes_more, none_picked, one_picked}
use Rattle.core_rows.proofs.changes.changes_between.Goals as goal
use Rattle.core_rows.proofs.changes.changes_between.Goals.{then-is_other+in_ok-push, else-is_other}

pub loop-v-preserved : goal.loop-v-preserved
loop-v-preserved c =
    let old : Lists = c.args.old.now in
    let new : Lists = c.args.new.now in
    let v : ℕ = c.loop-v.v in
    let test : (ℕ → Bool) = differs old new in
    elim c.if-is_other.branch [
      | then-is_other+in_ok-push w ↦
          let value : w.index-new-v.result ≡ at new v =
          get_or_read new v w.index-new-v.result c.loop-v-test.true w.index-new-v.is [] in
          rw w.changes-is (w.in_ok-push.ensures.ok
          ∙ (λ i. c.loop-v.invariant i ++ record { vertex = v; value = value i } ∷ [])
          ∙ sym (changes_more new (filter test (range_with_len 0 v)) v)
          ∙ ap (map (change_in new)) (sym (one_picked test v
          (sym c.is_other.ensures ∙ w.if-is_other.true))))
      | else-is_other w ↦ rw w.changes-is (c.loop-v.invariant
          ∙ ap (map (change_in new)) (sym (none_picked test v
          (sym c.is_other.ensures ∙ w.if-is_other.false))))
    ]
