-- Every list of steps keeps the rules.
use Rattle.std.proofs.Common.{ℕ, ◌≤◌, List, [], ◌∷◌, refl, arith}
use Rattle.std.proofs.lemmas.List.Elements.{All-nil, All-replicate}
use Rattle.bolt_base.proofs.GoodLemmas.{good_within}
use Rattle.run_model.proofs.LogLemmas.{right_begins}
use Rattle.core_model.specs.Machine.{core_run, next_entry, start, step}
use Rattle.core_model.specs.Rules.{IsRuled, MayRun}
use Rattle.core_model.specs.State.{Given, State}
use Rattle.core_model.specs.declared.step.Step.{Step}
use Rattle.core_model.specs.declared.step.Step.TheVariants.{Submit, Take, Add, Settle, Decide}
use Rattle.core_model.specs.declared.step.Step.TheVariants.{Publish, Ask, Learn}
use Rattle.core_model.proofs.Deciding.{decide_keeps}
use Rattle.core_model.proofs.Publishing.{publish_keeps, seen_by_keeps}
use Rattle.core_model.proofs.Submitting.{submit_keeps, take_keeps}
use Rattle.core_model.proofs.Working.{add_keeps, settle_keeps}

pub start_is_ruled : (c : Given) → MayRun c → (desks : ℕ) → IsRuled c (start c desks)
start_is_ruled c may desks = record {
  entries = record {
    shape = record {
      within = omega arith;
      few = omega arith;
      decided_first = λ k e at. cc;
      rounds = λ k e at. cc;
    };
    replays = λ k e o at is. cc;
    none_wanted = All-nil _;
    origins = refl;
  };
  current = record {
    good = good_within c.program.limits c.opened may.good;
    graph = refl;
    stored = refl;
    answer = refl;
  };
  published = record {
    right = right_begins c.program c.opened;
    number = refl;
    known = All-replicate (λ n. n ≤ 0) desks 0 (omega arith);
    next = tt;
    count = refl;
    edits = refl;
  };
  progress = tt;
  alone = tt;
}

module _ (c : Given) (may : MayRun c) where
  pub steps_keep : (s : State) → IsRuled c s → (k : Step) → IsRuled c (step c s k).0
  steps_keep s ruled (Submit origin edits) = submit_keeps c s ruled origin edits
  steps_keep s ruled Take = take_keeps c may s ruled s.progress s.awaiting (next_entry s.journal)
      refl refl
  steps_keep s ruled (Add piece) = add_keeps c s ruled s.progress piece refl
  steps_keep s ruled Settle = settle_keeps c may s ruled s.progress refl
  steps_keep s ruled Decide = decide_keeps c may s ruled s.progress refl
  steps_keep s ruled Publish = publish_keeps c s ruled s.awaiting refl
  steps_keep s ruled (Ask desk query) = seen_by_keeps c s ruled desk
  steps_keep s ruled (Learn desk) = seen_by_keeps c s ruled desk

  pub runs_keep : (s : State) → IsRuled c s → (ks : List Step) → IsRuled c (core_run c s ks).0
  runs_keep s ruled [] = ruled
  runs_keep s ruled (k ∷ ks) = runs_keep (step c s k).0 (steps_keep s ruled k) ks

  pub runs_are_ruled : (desks : ℕ) (ks : List Step)
      → IsRuled c (core_run c (start c desks) ks).0
  runs_are_ruled desks ks = runs_keep (start c desks) (start_is_ruled c may desks) ks
