-- What was made and replied can be written.
use Rattle.std.proofs.Common.{◌≡◌, ℕ, zero, suc, ◌+◌, ◌<◌, List, [], ◌∷◌, length, take, get_or}
use Rattle.std.proofs.Common.{refl, sym, ap, subst, ◌∙◌, arith, Option, Some, None}
use Rattle.std.specs.List.{All}
use Rattle.std.proofs.Math.Seq.{take-length}
use Rattle.std.proofs.lemmas.Option.{slice_get-get_or}
use Rattle.bolt_base.specs.Edits.{after}
use Rattle.bolt_base.specs.Graph.{Graph, within}
use Rattle.bolt_base.specs.declared.answer.Choice.{Choice}
use Rattle.bolt_base.specs.declared.edge.Edit.{Edit}
use Rattle.vertex_expr.specs.declared.program.ProgramEntries.{ProgramEntries}
use Rattle.graph_text.specs.Outcome.{outcome}
use Rattle.graph_text.specs.declared.bad_line.BadLine.{BadLine}
use Rattle.graph_text.specs.declared.batch_text.BatchText.{BatchText}
use Rattle.run_model.specs.Rows.{answer}
use Rattle.round_journal.specs.Replays.{accepted as accepted_as, judged, outcome_on}
use Rattle.round_engine.specs.State.{EngineState}
use Rattle.board.specs.Post.{Office}
use Rattle.board.specs.declared.kinds.Origin.{Origin}
use Rattle.engine_runs.specs.State.{IsUnderWay}
use Rattle.live_works.specs.Shop.{Shop, Standing}
use Rattle.live_works.proofs.Standings.{standing_graph}
use Rattle.live_desks.specs.Shown.{edits_of}
use Rattle.live_run.specs.Lived.{HasLived}
use Rattle.live_run.specs.declared.lived.Lived.{Lived}
use Rattle.live_text.specs.Lines.{IsDecided, IsTotal}
use Rattle.live_text.specs.declared.question.Question.{Question}
use Rattle.live_course.specs.Made.{IsMade, IsWhole, accepted, batch_of, graph_after}
use Rattle.live_course.specs.Replied.{AllReplied, answer_after}
use Rattle.live_course.specs.declared.made.DeskReplies.{DeskReplies}
use Rattle.live_course.specs.declared.made.MadeEntry.{MadeEntry}

-- what becomes of a batch is written
outcome_is_decided : (p : ProgramEntries) (n : ℕ) (c : Choice) (round : ℕ) (g : Graph)
    (b : BatchText) → IsDecided (outcome_on p n c round g b)
outcome_is_decided p n c round g b = by_bad (outcome (within p.limits n) g b)
  where
    by_bad : (bad : Option BadLine)
        → IsDecided (judged bad (accepted_as p c round g (after g b.edits)))
    by_bad None = tt
    by_bad (Some bad) = tt

pub all_decided : (p : ProgramEntries) (g : Graph) (c : Choice) (files : List (List BatchText))
    (made : List MadeEntry) → IsMade p g c files made → All (λ e. IsDecided e.outcome) made
all_decided p g c files made is k d lt =
    subst IsDecided
    (sym (is.replays k (get_or made k d) (slice_get-get_or made k d lt)))
    (outcome_is_decided p _ c _ _ (batch_of files (get_or made k d)))

pub replied_length : (p : ProgramEntries) (g : Graph) (batches : List (List Edit))
    (qss : List (List Question)) (ds : List DeskReplies) → AllReplied p g batches qss ds
    → length ds ≡ length qss
replied_length p g batches [] [] all = refl
replied_length p g batches [] (d ∷ ds) all = absurd all
replied_length p g batches (qs ∷ qss) [] all = absurd all
replied_length p g batches (qs ∷ qss) (d ∷ ds) all =
    ap suc (replied_length p g batches qss ds all.1)

-- each last reply is a sum
pub all_total : (p : ProgramEntries) (g : Graph) (batches : List (List Edit))
    (qss : List (List Question)) (ds : List DeskReplies) → AllReplied p g batches qss ds
    → All (λ d. IsTotal d.last.body) ds
all_total p g batches [] [] all k x lt = absurd (omega arith)
all_total p g batches [] (d ∷ ds) all k x lt = absurd all
all_total p g batches (qs ∷ qss) [] all k x lt = absurd all
all_total p g batches (qs ∷ qss) (d ∷ ds) all zero x lt =
    subst IsTotal (sym all.0.last_body) tt
all_total p g batches (qs ∷ qss) (d ∷ ds) all (suc k) x lt =
    all_total p g batches qss ds all.1 k x (omega arith)

-- the answer after all batches
pub whole_answer : (p q : ProgramEntries) (g h : Graph) (batches : List (List Edit)) → q ≡ p
    → h ≡ graph_after g batches → answer q h ≡ answer_after p g batches (length batches)
whole_answer p q g h batches same graph =
    (λ i. answer (same i) (graph i))
    ∙ ap (λ (l : List (List Edit)). answer p (graph_after g l)) (sym (take-length batches))

-- the works at the end, beside a board whose desks replied to all of it
lives : (o : Office) (s : Shop) (qss : List (List Question)) (lived : Lived) → Standing o s
    → IsWhole s.files s.made → IsUnderWay lived.engine
    → AllReplied o.origin.program o.origin.graph (edits_of o.log) qss lived.desks
    → lived.engine ≡ s.engine → lived.made ≡ s.made
    → HasLived o.origin.program o.origin.graph s.engine.choice s.files qss lived
lives o s qss lived h all ready replies engine made =
    let p = o.origin.program in
    let g = o.origin.graph in
    let bs = accepted s.files lived.made in
    let list : accepted s.files s.made ≡ bs = ap (accepted s.files) (sym made) in
    let items : IsMade p g s.engine.choice s.files lived.made =
    subst (λ (m : List MadeEntry). IsMade p g s.engine.choice s.files m) (sym made) h.items in
    let replied : AllReplied p g bs qss lived.desks =
    subst (λ (l : List (List Edit)). AllReplied p g l qss lived.desks) (h.log ∙ list) replies in
    let program : lived.engine.program ≡ p =
    ap (λ (e : EngineState). e.program) engine ∙ h.beside.program in
    let graph : lived.engine.now ≡ graph_after g bs =
    ap (λ (e : EngineState). e.now) engine ∙ standing_graph o s h ∙ ap (graph_after g) list in
    record {
      is_made = items;
      whole = subst (IsWhole s.files) (sym made) all;
      replied = replied;
      ready = ready;
      program = program;
      choice = ap (λ (e : EngineState). e.choice) engine;
      graph = graph;
      values = whole_answer p lived.engine.program g lived.engine.now bs program graph;
      decided = all_decided p g s.engine.choice s.files lived.made items;
      totals = all_total p g bs qss lived.desks replied;
      desks = replied_length p g bs qss lived.desks replied;
    }

-- the same, by what the board and the works were before
pub has_lived : (o : Office) (s : Shop) (start : Origin) (c : Choice)
    (files : List (List BatchText)) (qss : List (List Question)) (lived : Lived) → Standing o s
    → IsWhole s.files s.made → IsUnderWay lived.engine
    → AllReplied o.origin.program o.origin.graph (edits_of o.log) qss lived.desks
    → lived.engine ≡ s.engine → lived.made ≡ s.made → o.origin ≡ start → s.engine.choice ≡ c
    → s.files ≡ files → HasLived start.program start.graph c files qss lived
has_lived o s start c files qss lived h all ready replies engine made origin choice same =
    subst (λ (x : Origin). HasLived x.program x.graph c files qss lived) origin
    (subst (λ (x : Choice). HasLived o.origin.program o.origin.graph x files qss lived) choice
    (subst (λ (x : List (List BatchText)).
    HasLived o.origin.program o.origin.graph s.engine.choice x qss lived) same
    (lives o s qss lived h all ready replies engine made)))
