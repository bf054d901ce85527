-- What desks replied last.
use Rattle.std.proofs.Common.{List, [], ◌∷◌, sym, subst}
use Rattle.std.specs.List.{All}
use Rattle.std.proofs.lemmas.List.Elements.{All-cons, All-nil}
use Rattle.bolt_base.specs.Graph.{Graph}
use Rattle.bolt_base.specs.declared.edge.Edit.{Edit}
use Rattle.vertex_expr.specs.declared.program.ProgramEntries.{ProgramEntries}
use Rattle.live_text.specs.Lines.{IsTotal}
use Rattle.live_text.specs.declared.question.Question.{Question}
use Rattle.live_course.specs.declared.made.DeskReplies.{DeskReplies}
use Rattle.live_course.specs.Replied.{AllReplied}

-- each is a sum
pub replied_totals : (p : ProgramEntries) (g : Graph) (batches : List (List Edit))
    (questions : List (List Question)) (desks : List DeskReplies)
    → AllReplied p g batches questions desks → All (λ d. IsTotal d.last.body) desks
replied_totals p g batches [] [] h = All-nil _
replied_totals p g batches [] (d ∷ ds) h = absurd h
replied_totals p g batches (qs ∷ qss) [] h = absurd h
replied_totals p g batches (qs ∷ qss) (d ∷ ds) h =
    All-cons (λ x. IsTotal x.last.body) d ds (subst IsTotal (sym h.0.last_body) tt)
    (replied_totals p g batches qss ds h.1)
