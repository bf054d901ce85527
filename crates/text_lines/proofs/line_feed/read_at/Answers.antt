use Rattle.std.proofs.Common.{◌+◌, ◌-◌, ◌≤◌, length, arith}
use Rattle.text_lines.proofs.FeedLemmas.{read_in}
use Rattle.text_lines.proofs.line_feed.read_at.Goals as goal

pub returns-clause-bytes : goal.returns-clause-bytes
returns-clause-bytes g c =
    let inside : c.args.at ≤ length c.args.block.now = omega arith in
    let whole = c.read.auto.buf in
    let within : c.in_ok-n.n ≤ length c.read.new.buf =
    omega (arith, c.in_ok-n.ensures.within, whole) in
    read_in (g.S.Shelf.told c.args.shelf.now) c.args.slot c.args.at
    (c.args.at + c.args.room - c.args.at) c.in_ok-n.n c.args.block.now c.read.new.buf inside
    within c.in_ok-n.ensures.bytes
