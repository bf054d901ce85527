use Rattle.std.proofs.Common.{◌≡◌, ◌-◌, ◌≤◌, ◌++◌, List, ℕ, length, take, ◌∙◌, ap, arith}
use Rattle.std.specs.Prelude.{replicate, vec_len}
use Rattle.std.proofs.lemmas.List.{take-append-le, take_all}
use Rattle.text_lines.proofs.line_feed.grow_block.Goals as goal

pub returns-clause-front : goal.returns-clause-front
returns-clause-front c =
    let k = c.args.kept in
    let h : k ≤ vec_len c.args.block.now = c.requires.kept in
    let old = c.args.block.now.items in
    let size : vec_len c.args.block.now ≡ length old = c.args.block.now.ok.0 in
    let all : take 65536 old ≡ old = take_all 65536 old (omega arith) in
    ap (take k) c.in_ok-resize.ensures.items
    ∙ ap (λ (l : List ℕ). take k (l ++ replicate (65536 - vec_len c.args.block.now) 0)) all
    ∙ take-append-le k old _ (omega arith)
