-- What holds after every list of steps.
use Rattle.std.specs.Prelude.{◌≡◌, ◌≢◌, ℕ, ◌+◌, ◌-◌, ◌%◌, ◌^◌, ◌-ℤ◌, ◌<◌, ◌≤◌, true, if◌then◌else◌}
use Rattle.std.specs.Prelude.{List, slice_index_or, take, Some}
use Rattle.bolt_base.specs.Edits.{after}
use Rattle.bolt_base.specs.Graph.{vertices}
use Rattle.bolt_base.specs.Residue.{residue, sum_at}
use Rattle.run_model.specs.Additions.{word}
use Rattle.run_model.specs.Logs.{log_edits, shown}
use Rattle.run_model.specs.Program.{lanes, is_sum}
use Rattle.run_model.specs.Rows.{answer, agg_at}
use Rattle.run_model.specs.Steps.{old_agg}
use Rattle.round_journal.specs.Book.{accepted_count}
use Rattle.round_journal.specs.declared.outcome.Outcome.TheVariants.{Memory}
use Rattle.board.specs.Queries.{means}
use Rattle.board.specs.declared.query.Query.{Query}
use Rattle.core_model.specs.Iterations.{all_left, is_tail, word_in}
use Rattle.core_model.specs.Machine.{start, step, core_run}
use Rattle.core_model.specs.Rules.{MayRun, IsRuled}
use Rattle.core_model.specs.State.{Given, Work, Progress, State}
use Rattle.core_model.specs.declared.step.Step.{Step}
use Rattle.core_model.specs.declared.step.Step.TheVariants.{Ask}
use Rattle.core_model.specs.declared.step.Effect.TheVariants.{Full, Decided, Answered, Nothing}

-- ---- the rules
abbrev pub StartIsRuled : Type 0
StartIsRuled = (c : Given) → MayRun c → (desks : ℕ) → IsRuled c (start c desks)

abbrev pub StepsKeepRules : Type 0
StepsKeepRules = (c : Given) → MayRun c → (s : State) → IsRuled c s → (k : Step)
    → IsRuled c (step c s k).0

abbrev pub RunsAreRuled : Type 0
RunsAreRuled = (c : Given) → MayRun c → (desks : ℕ) → (ks : List Step)
    → IsRuled c (core_run c (start c desks) ks).0

-- ---- words
-- each word and the additions that are left for it are, modulo 2^64, the new aggregate less the old
-- one, which in the tail is that of the iteration before
abbrev pub WordsAreDifferences : Type 0
WordsAreDifferences = (c : Given) → MayRun c → (s : State) → IsRuled c s
    → (r : Progress) (w : Work) → s.progress ≡ Some r → r.work ≡ Some w
    → is_sum c.program.combine ≡ true → w.iteration ≤ c.program.rounds
    → (v l : ℕ) → v < vertices w.graph → l < lanes c.program
    → let k = word c.program v l in
    let i = w.iteration in
    let old = if is_tail c i then agg_at c.program w.graph (i - 1) v l
    else old_agg c.program s.graph i v l in
    (word_in w.words k + sum_at k (all_left w.left)) % 2 ^ 64
    ≡ residue (agg_at c.program w.graph i v l -ℤ old)

-- ---- effects
-- a step with the effect Full or Nothing changes nothing
abbrev pub RefusedChangeNothing : Type 0
RefusedChangeNothing = (c : Given) (s : State) (k : Step)
    → ((step c s k).1 ≡ Full → (step c s k).0 ≡ s) × ((step c s k).1 ≡ Nothing → (step c s k).0 ≡ s)

-- no decision is that memory was wanting
abbrev pub NoneIsWanted : Type 0
NoneIsWanted = (c : Given) (s : State) (k : Step) → (step c s k).1 ≢ Decided Memory

-- a desk is answered at the published number, which isn't below what it has seen, with what the
-- query means on the answer that so many rounds show, and this is the program's answer after them
pub record IsAnswered (c : Given) (s : State) (desk : ℕ) (query : Query) : Type 0 where
  pub effect : (step c s (Ask desk query)).1 ≡ Answered (record {
    prefix = s.published;
    body = means query (shown (answer c.program c.opened) s.log s.published);
  })
  pub right : shown (answer c.program c.opened) s.log s.published
      ≡ answer c.program (after c.opened (log_edits (take s.published s.log)))
  pub seen : slice_index_or s.seen desk 0 ≤ s.published
  pub within : s.published ≤ accepted_count s.journal.entries

abbrev pub AsksAreAnswered : Type 0
AsksAreAnswered = (c : Given) (s : State) → IsRuled c s → (desk : ℕ) (query : Query)
    → IsAnswered c s desk query

-- what a desk has seen never falls
abbrev pub SeenNeverFall : Type 0
SeenNeverFall = (c : Given) (s : State) → IsRuled c s → (k : Step) (desk : ℕ)
    → slice_index_or s.seen desk 0 ≤ slice_index_or (step c s k).0.seen desk 0
