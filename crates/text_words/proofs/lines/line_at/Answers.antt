use Rattle.std.proofs.Common.{arith}
use Rattle.lexical.proofs.PlaceLemmas.{lines_from-rest, lines_from-last}
use Rattle.text_words.proofs.lines.line_at.Goals as goal

pub returns-then-n-rest-clause-found : goal.returns-then-n-rest-clause-found
returns-then-n-rest-clause-found c =
    lines_from-last c.args.text.now c.split_at.result.1.now c.args.from c.line_feed_at-n.result
    c.line_length.result c.split_at.ensures.back c.requires c.line_feed_at-n.ensures.value
    c.line_length.ensures.value (omega arith)

pub returns-else-n-rest-clause-found : goal.returns-else-n-rest-clause-found
returns-else-n-rest-clause-found c =
    lines_from-rest c.args.text.now c.split_at.result.1.now c.args.from c.line_feed_at-n.result
    c.line_length.result c.split_at.ensures.back c.requires c.line_feed_at-n.ensures.value
    c.line_length.ensures.value
