use Rattle.std.proofs.Common.{arith}
use Rattle.lexical.proofs.PlaceLemmas.{words_from-none, words_from-found}
use Rattle.lexical.proofs.words.word_from.Goals as goal

pub returns-then-start-text-clause-found : goal.returns-then-start-text-clause-found
returns-then-start-text-clause-found c =
    words_from-none c.args.line.now c.split_at.result.1.now c.args.from c.blanks_len-start.result
    c.split_at.ensures.back c.blanks_len-start.ensures.value (omega arith)

pub returns-clause-found : goal.returns-clause-found
returns-clause-found c =
    words_from-found c.args.line.now c.split_at.result.1.now c.split_at-2.result.1.now c.args.from
    c.blanks_len-start.result c.word_len-n.result c.split_at.ensures.back
    c.blanks_len-start.ensures.value (omega arith) c.split_at-2.ensures.back
    c.word_len-n.ensures.value
