-- What the desks of a live run replied.
use Rattle.std.specs.Prelude.{◌≡◌, ℕ, ◌≤◌, List, [], ◌∷◌, length, take, Option, Some, None}
use Rattle.bolt_base.specs.Graph.{Graph}
use Rattle.bolt_base.specs.declared.edge.Edit.{Edit}
use Rattle.vertex_expr.specs.declared.program.ProgramEntries.{ProgramEntries}
use Rattle.run_model.specs.Rows.{Lists, answer}
use Rattle.board.specs.Queries.{means}
use Rattle.board.specs.declared.desk.Reply.{Reply}
use Rattle.board.specs.declared.query.Query.TheVariants.{Total}
use Rattle.live_text.specs.declared.question.Question.{Question}
use Rattle.live_text.specs.declared.question.Question.TheVariants.{Ask, Unknown}
use Rattle.live_course.specs.declared.made.DeskReplies.{DeskReplies}
use Rattle.live_course.specs.Made.{graph_after}

-- the answer after the first n of some batches, each a list of edits
abbrev pub answer_after : ProgramEntries → Graph → List (List Edit) → ℕ → Lists
answer_after p g batches n = answer p (graph_after g (take n batches))

-- a reply to a question, by what the answer is at each published prefix, of which there are
-- `count`; an unknown question has none
abbrev pub IsReplyTo : (ℕ → Lists) → ℕ → Question → Option Reply → Type 0
IsReplyTo shown count (Ask query) None = ⊥
IsReplyTo shown count (Ask query) (Some r) =
    (r.prefix ≤ count) × (r.body ≡ means query (shown r.prefix))
IsReplyTo shown count Unknown None = Unit {0}
IsReplyTo shown count Unknown (Some r) = ⊥

-- a reply to each question, in order
abbrev pub AreReplies : (ℕ → Lists) → ℕ → List Question → List (Option Reply) → Type 0
AreReplies shown count [] [] = Unit {0}
AreReplies shown count [] (r ∷ rs) = ⊥
AreReplies shown count (q ∷ qs) [] = ⊥
AreReplies shown count (q ∷ qs) (r ∷ rs) =
    IsReplyTo shown count q r × AreReplies shown count qs rs

-- from this one on the prefixes never fall
abbrev pub NeverFall : ℕ → List (Option Reply) → Type 0
NeverFall least [] = Unit {0}
NeverFall least (None ∷ rs) = NeverFall least rs
NeverFall least (Some r ∷ rs) = (least ≤ r.prefix) × NeverFall r.prefix rs

-- a desk replied to some questions while these batches were accepted, and then once more, on all of
-- them
pub record IsReplied (p : ProgramEntries) (g : Graph) (batches : List (List Edit))
    (questions : List Question) (d : DeskReplies) : Type 0 where
  pub replies : AreReplies (answer_after p g batches) (length batches) questions d.replies
  pub rising : NeverFall 0 d.replies
  pub last_prefix : d.last.prefix ≡ length batches
  pub last_body : d.last.body ≡ means (Total 0) (answer_after p g batches (length batches))

-- a desk for each file of questions, in order
abbrev pub AllReplied : ProgramEntries → Graph → List (List Edit) → List (List Question)
    → List DeskReplies → Type 0
AllReplied p g batches [] [] = Unit {0}
AllReplied p g batches [] (d ∷ ds) = ⊥
AllReplied p g batches (qs ∷ qss) [] = ⊥
AllReplied p g batches (qs ∷ qss) (d ∷ ds) =
    IsReplied p g batches qs d × AllReplied p g batches qss ds
