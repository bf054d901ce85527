use Rattle.std.proofs.Common.{◌≡◌, ℕ, ◌∙◌, ap, sym, subst, refl, arith, rules, List}
use Rattle.std.proofs.Common.{Option, ◌++◌}
use Rattle.std.specs.Prelude.{MatchOption, take}
use Rattle.std.specs.Option.{option_to_list}
use Rattle.std.proofs.lemmas.List.Elements.{All-append}
use Rattle.bolt_io.proofs.TakenLemmas.{slot_told}
use Rattle.text_lines.specs.Feed.{Feed, ahead, answered, IsAtEnd, IsFront}
use Rattle.text_lines.specs.Lines.{seen}
use Rattle.text_lines.proofs.FeedLemmas.{ahead_end, ahead_front, front_unspent}
use Rattle.text_lines.proofs.ReadingLemmas.{SoFar, so_far_none, so_far_on, feed_reads_on}
use Rattle.text_lines.proofs.ReadingLemmas.{feed_reads_starved}
use Rattle.live_text.specs.declared.question.Question.{Question}
use Rattle.live_text.specs.Questions.{AreWithin, IsWithin, question_line}
use Rattle.live_text.proofs.QuestionLemmas.{questions_with, line_taken, all_taken}
use Rattle.live_text.proofs.QuestionLemmas.{asked_are_within, line_is_within}
use Rattle.live_text.proofs.reader.take_lines.Goals as goal

pub lines-init : goal.lines-init
lines-init g c = record {
  so_far = so_far_none _ _ _ _ _ _;
  read = refl;
  within = λ h. h;
  lines = omega arith;
  slot = refl;
}

pub returns-in_err-found-clause-reads : goal.returns-in_err-found-clause-reads
returns-in_err-found-clause-reads g c =
    let first = c.args.feed.now in
    let below =
    slot_told (g.S.Shelf.told c.args.shelf.now) (g.S.Shelf.opened c.args.shelf.now) first.slot
    (g.met.S.Shelf.tells_slots c.args.shelf.now) c.requires.slot in
    let all =
    feed_reads_on g.S.Shelf.told g.S.Shelf.opened g.S.Shelf.faults _ _ _ first c.lines.feed
    c.find.new.self _ below c.lines.invariant.so_far c.lines.invariant.slot
    c.lines.invariant.lines c.in_err-found.ensures.reads in
    search (rules, all)

pub returns-in_default-clause-reads : goal.returns-in_default-clause-reads
returns-in_default-clause-reads g c =
    let first = c.args.feed.now in
    let below =
    slot_told (g.S.Shelf.told c.args.shelf.now) (g.S.Shelf.opened c.args.shelf.now) first.slot
    (g.met.S.Shelf.tells_slots c.args.shelf.now) c.requires.slot in
    feed_reads_on g.S.Shelf.told g.S.Shelf.opened g.S.Shelf.faults _ _ _ first c.lines.feed
    c.find.new.self _ below c.lines.invariant.so_far c.lines.invariant.slot
    c.lines.invariant.lines c.in_ok-found.ensures.reads

pub returns-in_default-clause-read : goal.returns-in_default-clause-read
returns-in_default-clause-read g c =
    let first = c.args.feed.now in
    let f = c.find.new.self in
    let start = g.S.Shelf.told c.args.shelf.now in
    let told = g.S.Shelf.told c.find.new.shelf in
    let e = c.in_ok-found.ensures in
    let end : IsAtEnd told f =
    subst (λ r. MatchOption r (IsAtEnd told f) (λ x. IsFront told f x.len x.whole)) c.in_default.is
    e.line in
    all_taken c.args.lanes c.args.questions.now c.lines.questions (ahead start first)
    (ahead told f) told
    (ap (questions_with c.args.lanes c.lines.questions) e.ahead ∙ c.lines.invariant.read)
    (ahead_end told f end)

pub returns-in_err-take_question-clause-reads : goal.returns-in_err-take_question-clause-reads
returns-in_err-take_question-clause-reads g c =
    let first = c.args.feed.now in
    let f = c.find.new.self in
    let told = g.S.Shelf.told c.find.new.shelf in
    let below =
    slot_told (g.S.Shelf.told c.args.shelf.now) (g.S.Shelf.opened c.args.shelf.now) first.slot
    (g.met.S.Shelf.tells_slots c.args.shelf.now) c.requires.slot in
    let e = c.in_ok-found.ensures in
    let reads =
    feed_reads_on g.S.Shelf.told g.S.Shelf.opened g.S.Shelf.faults _ _ _ first c.lines.feed f _
    below c.lines.invariant.so_far c.lines.invariant.slot c.lines.invariant.lines e.reads in
    let front =
    subst (λ r. MatchOption r (IsAtEnd told f) (λ x. IsFront told f x.len x.whole)) c.in-Some.is
    e.line in
    let found = c.in-Some.found in
    let h =
    feed_reads_starved g.S.Shelf.told g.S.Shelf.opened g.S.Shelf.faults _ _ first f
    (front_unspent told f found.len found.whole front) reads in
    search (rules, h)

pub lines-preserved : goal.lines-preserved
lines-preserved g c =
    let first = c.args.feed.now in
    let f = c.find.new.self in
    let told = g.S.Shelf.told c.find.new.shelf in
    let lanes = c.args.lanes in
    let below =
    slot_told (g.S.Shelf.told c.args.shelf.now) (g.S.Shelf.opened c.args.shelf.now) first.slot
    (g.met.S.Shelf.tells_slots c.args.shelf.now) c.requires.slot in
    let e = c.in_ok-found.ensures in
    let reads =
    feed_reads_on g.S.Shelf.told g.S.Shelf.opened g.S.Shelf.faults _ _ _ first c.lines.feed f _
    below c.lines.invariant.so_far c.lines.invariant.slot c.lines.invariant.lines e.reads in
    let found = c.in-Some.found in
    let line : Option (List ℕ) = seen (take found.len f.pending) in
    let front =
    subst (λ r. MatchOption r (IsAtEnd told f) (λ x. IsFront told f x.len x.whole)) c.in-Some.is
    e.line in
    let asked : c.question_line-question.result ≡ question_line lanes line =
    c.question_line-question.ensures ∙ ap (question_line lanes) c.text.ensures in
    let grown : c.take_question.new.questions
    ≡ c.lines.questions ++ option_to_list (question_line lanes line) =
    c.in_ok-take_question.ensures
    ∙ ap (λ (o : Option Question). c.lines.questions ++ option_to_list o) asked in
    let skipped = c.skip.ensures in
    let same_taken = ap (λ (x : Feed). x.taken) skipped in
    let counted = ap (λ (x : Feed). x.lines) skipped in
    let more = reads.no_fewer_lines in
    record {
      so_far =
          subst (λ (k : ℕ). SoFar g.S.Shelf.told g.S.Shelf.opened g.S.Shelf.faults c.args.shelf.now
          c.find.new.shelf first.slot first.taken k) (sym same_taken)
          (so_far_on g.S.Shelf.told g.S.Shelf.opened g.S.Shelf.faults _ _ _ first.slot first.taken
          c.lines.feed.taken f.taken below c.lines.invariant.so_far _ c.lines.invariant.slot
          e.reads.reads);
      read =
          (λ i. questions_with lanes (grown i) (ahead told (skipped i)))
          ∙ line_taken lanes c.lines.questions line (ahead told f) (ahead told
          (answered found.whole f)) (ahead_front told f found.len found.whole front)
          ∙ ap (questions_with lanes c.lines.questions) e.ahead ∙ c.lines.invariant.read;
      within = λ h. subst (AreWithin lanes) (sym grown)
          (All-append (IsWithin lanes) c.lines.questions (option_to_list (question_line lanes line))
          (c.lines.invariant.within h)
          (asked_are_within lanes (question_line lanes line) (line_is_within lanes line)));
      lines = omega arith;
      slot = ap (λ (x : Feed). x.slot) skipped ∙ reads.slot;
    }
