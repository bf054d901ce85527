-- The numbers and the lines of a batch that was made.
use Rattle.std.proofs.Common.{◌≡◌, ℕ, ◌++◌, Bool, List, ◌∙◌, ap, subst}
use Rattle.bolt_base.specs.Edits.{after}
use Rattle.bolt_base.specs.Graph.{Graph}
use Rattle.bolt_base.specs.declared.edge.Edit.{Edit}
use Rattle.report_text.specs.Lines.{accepted_line}
use Rattle.report_text.specs.Runs.{accepted_text, if_shown, next_number}
use Rattle.report_text.specs.Values.{set_lines}
use Rattle.round_engine.specs.Preparing.{prepared_state}
use Rattle.round_engine.specs.State.{EngineState}
use Rattle.round_engine.specs.declared.round.Round.{Round}
use Rattle.engine_runs.specs.Making.{IsRound}
use Rattle.engine_runs.specs.State.{run_of}

-- a prepared batch that is committed has the numbers of the batch
pub round_is : (s t : EngineState) (edits prepared : List Edit) (h : Graph) (round : Round)
    → t ≡ prepared_state s edits → prepared ≡ edits → h ≡ after t.now prepared → IsRound t h round
    → IsRound s (after s.now edits) round
round_is s t edits prepared h round is_t is_e is_h made =
    let r : IsRound (prepared_state s edits) (after s.now edits) round =
    subst (λ (x : Graph). IsRound (prepared_state s edits) x round)
    (is_h ∙ (λ i. after ((is_t i).now) (is_e i)))
    (subst (λ (x : EngineState). IsRound x h round) is_t made) in
    record {
      net_added = r.net_added;
      net_removed = r.net_removed;
      all_edges = r.all_edges;
      all_kept = r.all_kept;
      all_read = r.all_read;
      all_changes = r.all_changes;
    }

-- and the lines of the batch
pub round_text_is : (s : EngineState) (shows : Bool) (refused number : ℕ) (h : Graph)
    (round : Round) → number ≡ next_number (run_of s shows refused) → IsRound s h round
    → accepted_line number round.added round.removed round.edges round.kept round.visits
    ++ if_shown shows (set_lines round.changes) ≡ accepted_text (run_of s shows refused) h
round_text_is s shows refused number h round is_n is =
    λ i. accepted_line (is_n i) (is.net_added i) (is.net_removed i) (is.all_edges i)
    (is.all_kept i) (is.all_read i) ++ if_shown shows (set_lines (is.all_changes i))
