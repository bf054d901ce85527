use Rattle.std.proofs.Common.{rules, ◌≤◌, ◌<◌, ap, subst, length, List}
use mathlib.Core.List.{IsPrefix}
use Rattle.board.specs.declared.kinds.Entry.{Entry}
use Rattle.board.proofs.Prefixes.{shorter_begins_longer, rounds_begin_too}
use Rattle.board.proofs.book.Receipt.covers.Goals as goal

pub returns-clause-more : goal.returns-clause-more
returns-clause-more c t =
    let both = c.learn.new.self.log in
    let mine = c.args.self.now.seen.log in
    let other = c.args.other.now.seen.log in
    let own : IsPrefix mine both = subst (λ (l : List Entry). IsPrefix l both)
    (ap (λ s. s.log) c.again-both.ensures) c.learn.ensures.2 in
    let less : length other ≤ length mine = search rules in
    let some : 0 < length other = search rules in
    rounds_begin_too other mine some
    (shorter_begins_longer other mine both c.learn.ensures.3 own less)

pub returns-clause-less : goal.returns-clause-less
returns-clause-less c t =
    let both = c.learn.new.self.log in
    let mine = c.args.self.now.seen.log in
    let other = c.args.other.now.seen.log in
    let own : IsPrefix mine both = subst (λ (l : List Entry). IsPrefix l both)
    (ap (λ s. s.log) c.again-both.ensures) c.learn.ensures.2 in
    let less : length mine ≤ length other = search rules in
    let some : 0 < length mine = search rules in
    rounds_begin_too mine other some
    (shorter_begins_longer mine other both own c.learn.ensures.3 less)
