-- What the last log says of the replies of a desk.
use Rattle.std.proofs.Common.{◌≡◌, ◌∙◌, ℕ, ◌≤◌, List, length, take, sym, ap, subst, arith}
use Rattle.std.specs.Prelude.{Ok}
use Rattle.std.specs.List.{flat_map}
use Rattle.std.proofs.lemmas.List.{length-map, take-map}
use Rattle.std.proofs.lemmas.List.Folds.{flat_map-map}
use Rattle.std.proofs.lemmas.Result.{IfOk-at_ok}
use mathlib.Core.List.{IsPrefix}
use Rattle.logbook.specs.Pages.{Book}
use Rattle.bolt_base.specs.Edits.{after}
use Rattle.bolt_base.specs.declared.edge.Edit.{Edit}
use Rattle.run_model.specs.Logs.{Round}
use Rattle.run_model.specs.Rows.{answer}
use Rattle.board.specs.Log.{IsRightLog, shows}
use Rattle.board.specs.Queries.{means}
use Rattle.board.specs.declared.kinds.Origin.{Origin}
use Rattle.board.specs.declared.query.Query.TheVariants.{Total}
use Rattle.live_text.specs.declared.question.Question.{Question}
use Rattle.live_course.specs.declared.made.DeskReplies.{DeskReplies}
use Rattle.live_course.specs.Replied.{IsReplied, answer_after}
use Rattle.live_desks.specs.declared.asking.Asked.{Asked}
use Rattle.live_desks.specs.Asked.{HaveReplies, IsAsked}
use Rattle.live_desks.specs.Shown.{answer_at, edits_of}
use Rattle.live_desks.proofs.Replying.{no_longer, replies_stay, shown_before}

-- a right log shows the answer after the edits of its first rounds
right_shows : (o : Origin) (log : List Round) → IsRightLog o log → (k : ℕ) → k ≤ length log
    → answer_at o log k ≡ answer_after o.program o.graph (edits_of log) k
right_shows o log right k le =
    right k le ∙ ap (λ (es : List Edit). answer o.program (after o.graph es))
    (sym (ap (flat_map (λ (es : List Edit). es)) (take-map (λ (r : Round). r.edits) k log)
    ∙ flat_map-map (λ (es : List Edit). es) (λ (r : Round). r.edits) (take k log)))

replied : (o : Origin) (seen log : List Round) (qs : List Question) (d : DeskReplies)
    → HaveReplies o seen qs d.replies → IsPrefix seen log → IsRightLog o log
    → d.last.prefix ≡ length log → d.last.body ≡ means (Total 0) (shows o log)
    → IsReplied o.program o.graph (edits_of log) qs d
replied o seen log qs d had later right prefix body =
    let size : length (edits_of log) ≡ length log = length-map log (λ (r : Round). r.edits) in
    let low : length seen ≤ length log = no_longer seen log later in
    let all : length log ≤ length log = omega arith in record {
      replies = replies_stay (answer_at o seen) (answer_after o.program o.graph (edits_of log))
          (length seen) (length (edits_of log)) (omega (arith, size, low))
          (λ k le. shown_before o seen log later k le
          ∙ right_shows o log right k (omega (arith, le, low))) qs d.replies had.replies;
      rising = had.rising;
      last_prefix = prefix ∙ sym size;
      last_body = body ∙ ap (means (Total 0)) (right_shows o log right (length log) all
          ∙ ap (answer_after o.program o.graph (edits_of log)) (sym size));
    }

-- a desk that was asked and replied once more, on a log that it learned
pub replied_here : (b : Book) (o : Origin) (told log : List Round) (qs : List Question) (a : Asked)
    (d : DeskReplies) → IsAsked b o qs a → told ≡ log → a.replies ≡ Ok d.replies
    → d.last.prefix ≡ length told → d.last.body ≡ means (Total 0) (shows a.desk.origin told)
    → IsRightLog a.desk.origin told → IsPrefix a.desk.seen told
    → IsReplied o.program o.graph (edits_of log) qs d
replied_here b o told log qs a d asked same ok prefix body right later =
    subst (λ (l : List Round). IsReplied o.program o.graph (edits_of l) qs d) same
    (replied o a.desk.seen told qs d
    (IfOk-at_ok (λ rs. HaveReplies o a.desk.seen qs rs) ok asked.replies) later
    (subst (λ (x : Origin). IsRightLog x told) asked.origin right) prefix
    (body ∙ ap (λ (x : Origin). means (Total 0) (shows x told)) asked.origin))
