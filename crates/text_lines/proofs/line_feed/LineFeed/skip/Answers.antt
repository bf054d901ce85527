use Rattle.std.proofs.Common.{◌≡◌, ◌+◌, ◌-◌, ◌≤◌, ◌∙◌, ap, arith, List, ℕ, length}
use Rattle.std.specs.Prelude.{slice_range}
use Rattle.text_lines.specs.Feed.{Feed, answered}
use Rattle.text_lines.proofs.FeedLemmas.{answered_is, length_pending}
use Rattle.text_lines.proofs.line_feed.LineFeed.skip.Goals as goal

pub returns : goal.returns
returns c =
    let f = c.self.inside in
    let is : slice_range f.block.items f.at f.end ≡ c.args.self.now.pending =
    ap (λ (g : Feed). g.pending) c.self.view_is in
    let size = length_pending f.block.items f.at f.end c.self.invariant.ends in
    let within : c.args.found.whole ≤ f.end - f.at =
    omega (arith, ap length is, c.requires.within, size) in
    let view : List ℕ → Feed =
    λ (l : List ℕ). record { slot = f.slot; pending = l; lines = f.lines + 1; taken = f.taken } in
    ap view (answered_is f.block.items f.at f.end c.args.found.whole within)
    ∙ ap (answered c.args.found.whole) c.self.view_is
