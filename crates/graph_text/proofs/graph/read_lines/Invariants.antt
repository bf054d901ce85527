use Rattle.std.proofs.Common.{◌≡◌, ℕ, suc, ◌+◌, ◌-◌, ◌≤◌, []}
use Rattle.std.specs.Prelude.{IfSome, IsOk}
use Rattle.std.specs.Option.{option_map}
use Rattle.bolt_io.specs.declared.whole.TheConstants.{MOST_BYTES}
use Rattle.text_lines.specs.Feed.{ahead, ended_ahead, ended_within, bytes_after, MeetsLimit}
use Rattle.text_lines.proofs.ReadingLemmas.{SoFar}
use Rattle.graph_text.specs.GraphText.{draft_after}
use Rattle.graph_text.specs.DraftCode.{draft_of}
use Rattle.graph_text.specs.DraftGood.{Grows}
use Rattle.graph_text.proofs.graph.read_lines.Given as goal

abbrev pub invariant-lines : goal.invariant-lines
invariant-lines g l = record {
  so_far : SoFar g.S.Shelf.told g.S.Shelf.opened g.S.Shelf.faults l.initial.shelf l.shelf
      l.initial.feed.slot l.initial.feed.taken l.feed.taken;
  all : option_map (draft_after l.limits (draft_of l.draft) (l.feed.lines + 1))
      (ahead (g.S.Shelf.told l.shelf) l.feed)
      ≡ option_map (draft_after l.limits (draft_of l.initial.draft) (l.initial.feed.lines + 1))
      (ahead (g.S.Shelf.told l.initial.shelf) l.initial.feed);
  ended : IfSome (g.S.Shelf.told l.initial.shelf) (MeetsLimit l.initial.feed)
      → option_map (draft_after l.limits (draft_of l.draft) (l.feed.lines + 1))
      (ended_ahead (g.S.Shelf.told l.shelf) l.feed)
      ≡ option_map (draft_after l.limits (draft_of l.initial.draft) (l.initial.feed.lines + 1))
      (ended_ahead (g.S.Shelf.told l.initial.shelf) l.initial.feed);
  good : (most : ℕ) → l.feed.taken ≤ most
      → IfSome (ended_within most (g.S.Shelf.told l.shelf) l.feed)
      (λ lines. IsOk (draft_after l.limits (draft_of l.draft) (l.feed.lines + 1) lines))
      → IfSome (ended_within most (g.S.Shelf.told l.initial.shelf) l.initial.feed)
      (λ lines. IsOk (draft_after l.limits (draft_of l.initial.draft) (l.initial.feed.lines + 1)
      lines));
  no_lines : (most : ℕ) → l.feed.taken ≤ most
      → ended_within most (g.S.Shelf.told l.initial.shelf) l.initial.feed
      ≡ option_map (λ _. []) (g.S.Shelf.told l.initial.shelf)
      → ended_within most (g.S.Shelf.told l.shelf) l.feed
      ≡ option_map (λ _. []) (g.S.Shelf.told l.shelf);
  bytes_left : (n k : ℕ) → l.initial.feed.lines + k ≡ l.feed.lines
      → bytes_after (suc n) (g.S.Shelf.told l.shelf) l.feed
      ≡ bytes_after (suc (n + k)) (g.S.Shelf.told l.initial.shelf) l.initial.feed;
  grows : Grows l.limits (draft_of l.initial.draft) (draft_of l.draft);
  lines : l.initial.feed.lines ≤ l.feed.lines;
  slot : l.feed.slot ≡ l.initial.feed.slot;
}

abbrev pub decreases-lines : goal.decreases-lines
decreases-lines g l = MOST_BYTES + 1 - l.feed.lines
