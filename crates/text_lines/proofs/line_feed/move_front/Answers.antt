use Rattle.text_lines.proofs.FeedLemmas.{front_moved}
use Rattle.text_lines.proofs.line_feed.move_front.Goals as goal

pub returns-clause-front : goal.returns-clause-front
returns-clause-front c =
    front_moved c.args.block.now c.copy_within.new.self c.args.at c.args.end c.min-n.result
    c.requires.begins c.requires.within c.min-n.ensures c.copy_within.ensures.after
