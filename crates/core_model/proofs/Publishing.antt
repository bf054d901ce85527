-- Publish, Ask and Learn keep the rules.
use Rattle.std.proofs.Common.{◌≡◌, ℕ, ◌+◌, ◌≤◌, [], ◌∷◌, ◌++◌, length, Option, Some, None}
use Rattle.std.proofs.Common.{sym, ap, ◌∙◌, subst, arith, length-append}
use Rattle.std.proofs.lemmas.List.{append-nil}
use Rattle.std.proofs.lemmas.List.Elements.{All-set, All-weaker}
use Rattle.bolt_base.specs.Edits.{after}
use Rattle.bolt_base.specs.Graph.{Graph}
use Rattle.run_model.specs.Logs.{Round, IsRight, log_edits}
use Rattle.run_model.proofs.LogLemmas.{right_goes_on}
use Rattle.core_model.specs.Machine.{publish, seen_by}
use Rattle.core_model.specs.Rules.{IfAwaiting, IsNext, IsPublished, IsRuled, list_of}
use Rattle.core_model.specs.State.{Given, State}
use Rattle.core_model.proofs.Progressing.{none_is_alone}

module _ (c : Given) (s : State) (ruled : IsRuled c s) where
  abbrev before : Graph
  before = after c.opened (log_edits s.log)

  module _ (r : Round) (is : s.awaiting ≡ Some r) where
    pub next_is : IsNext c s.log r
    next_is = subst (λ (a : Option Round). IfAwaiting c s.log a) is ruled.published.next

    log_is_right : IsRight c.program c.opened (s.log ++ r ∷ [])
    log_is_right =
        subst (λ (x : Round). IsRight c.program c.opened (s.log ++ x ∷ []))
        (sym (λ j. record { edits = r.edits; changes = next_is j }))
        (right_goes_on c.program c.opened s.log r.edits ruled.published.right)

    published : IsPublished c s.journal.entries (s.log ++ r ∷ []) (s.published + 1) s.seen None
    published =
        let out = ruled.published in
        let number = out.number in
        let long = length-append s.log (r ∷ []) in
        record {
          right = log_is_right;
          number = omega arith;
          known = All-weaker (λ n. n ≤ s.published) (λ n. n ≤ s.published + 1)
              (λ n h. omega arith) s.seen out.known;
          next = tt;
          count = ap length (append-nil (s.log ++ r ∷ []))
              ∙ ap (λ (a : Option Round). length (s.log ++ list_of a)) (sym is) ∙ out.count;
          edits = ap log_edits (append-nil (s.log ++ r ∷ []))
              ∙ ap (λ (a : Option Round). log_edits (s.log ++ list_of a)) (sym is) ∙ out.edits;
        }

  pub publish_keeps : (a : Option Round) → s.awaiting ≡ a → IsRuled c (publish s a).0
  publish_keeps None is = ruled
  publish_keeps (Some r) is = record {
    entries = ruled.entries;
    current = ruled.current;
    published = published r is;
    progress = ruled.progress;
    alone = none_is_alone s.progress;
  }

  pub seen_by_keeps : (desk : ℕ) → IsRuled c (seen_by s desk)
  seen_by_keeps desk =
      let out = ruled.published in
      record {
        entries = ruled.entries;
        current = ruled.current;
        published = record {
          right = out.right;
          number = out.number;
          known = All-set (λ n. n ≤ s.published) s.seen desk s.published (omega arith) out.known;
          next = out.next;
          count = out.count;
          edits = out.edits;
        };
        progress = ruled.progress;
        alone = ruled.alone;
      }
