use Rattle.std.proofs.Common.{◌≡◌, ◌+◌, ◌<◌, ◌≤◌, ◌∙◌, ap, sym, subst, arith, List, ℕ, length}
use Rattle.std.specs.Prelude.{slice_range, false}
use Rattle.std.specs.List.{All}
use Rattle.std.proofs.lemmas.List.{length-take}
use Rattle.lexical.specs.Bytes.{is_line_feed}
use Rattle.text_lines.specs.Feed.{Feed, EndsLine}
use Rattle.text_lines.proofs.FeedLemmas.{no_end, ends_line}
use Rattle.text_lines.proofs.line_feed.LineFeed.ended_line.Goals as goal

pub returns-then-end-front-clause-line : goal.returns-then-end-front-clause-line
returns-then-end-front-clause-line c =
    let text : List ℕ = slice_range c.deref.result.now c.self.inside.at c.self.inside.end in
    let is : text ≡ c.args.self.now.pending =
    ap (λ (l : List ℕ). slice_range l c.self.inside.at c.self.inside.end) c.deref.ensures.value
    ∙ ap (λ (f : Feed). f.pending) c.self.view_is in
    subst (λ (l : List ℕ). All (λ b. is_line_feed b ≡ false) l) is
    (no_end text (sym c.line_feed_at-end.ensures.value ∙ c.if-end-front.true))

pub returns-clause-line : goal.returns-clause-line
returns-clause-line c =
    let text : List ℕ = slice_range c.deref.result.now c.self.inside.at c.self.inside.end in
    let is : text ≡ c.args.self.now.pending =
    ap (λ (l : List ℕ). slice_range l c.self.inside.at c.self.inside.end) c.deref.ensures.value
    ∙ ap (λ (f : Feed). f.pending) c.self.view_is in
    let end = c.line_feed_at-end.result in
    let less : end < length text =
    omega (arith, c.line_feed_at-end.ensures.within, c.if-end-front.false) in
    let short : c.line_len.result ≤ end =
    omega (arith, c.line_len.ensures.within, length-take end text) in
    subst (λ (l : List ℕ). EndsLine l c.line_len.result (end + 1)) is
    (ends_line text end c.line_len.result c.line_feed_at-end.ensures.value less short
    c.line_len.ensures.line)
