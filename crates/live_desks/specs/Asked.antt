-- What desks replied to the questions of their files.
use Rattle.std.specs.Prelude.{◌≡◌, List, [], ◌∷◌, length, Option, IfOk}
use Rattle.logbook.specs.Pages.{Book}
use Rattle.run_model.specs.Logs.{Round}
use Rattle.board.specs.declared.desk.Reply.{Reply}
use Rattle.board.specs.declared.kinds.Origin.{Origin}
use Rattle.live_text.specs.declared.question.Question.{Question}
use Rattle.live_course.specs.Replied.{AreReplies, NeverFall}
use Rattle.live_desks.specs.declared.asking.Asked.{Asked}
use Rattle.live_desks.specs.Shown.{answer_at}

-- each question has the reply on a beginning of the log, and the beginnings never get shorter
pub record HaveReplies (o : Origin) (log : List Round) (questions : List Question)
    (rs : List (Option Reply)) : Type 0 where
  pub replies : AreReplies (answer_at o log) (length log) questions rs
  pub rising : NeverFall 0 rs

-- a desk of this board was asked these questions: the replies, where there was memory for them,
-- are on beginnings of what it has seen
pub record IsAsked (b : Book) (o : Origin) (questions : List Question) (a : Asked) : Type 0 where
  pub book : a.desk.book ≡ b
  pub origin : a.desk.origin ≡ o
  pub replies : IfOk a.replies (λ rs. HaveReplies o a.desk.seen questions rs)

-- a desk for each file of questions, in order
abbrev pub AllAsked : Book → Origin → List (List Question) → List Asked → Type 0
AllAsked b o [] [] = Unit {0}
AllAsked b o [] (x ∷ xs) = ⊥
AllAsked b o (qs ∷ qss) [] = ⊥
AllAsked b o (qs ∷ qss) (x ∷ xs) = IsAsked b o qs x × AllAsked b o qss xs
