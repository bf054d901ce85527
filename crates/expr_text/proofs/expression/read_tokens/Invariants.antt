use Rattle.std.proofs.Common.{◌≡◌, ◌≤◌, ◌-◌, length, drop}
use Rattle.text_words.specs.Tokens.{tokens_from}
use Rattle.expr_text.specs.Reading.{start}
use Rattle.expr_text.specs.Scoped.{scope_of}
use Rattle.expr_text.specs.Expressions.{read_tokens}
use Rattle.expr_text.proofs.expression.read_tokens.Given as goal

abbrev pub invariant-tokens : goal.invariant-tokens
invariant-tokens l = record {
  within : l.at ≤ length l.line;
  rest : read_tokens (scope_of l.scope) (length l.line) l.reading
      (tokens_from 0 l.at (drop l.at l.line))
      ≡ read_tokens (scope_of l.scope) (length l.line) start
      (tokens_from 0 l.from (drop l.from l.line));
}

abbrev pub decreases-tokens : goal.decreases-tokens
decreases-tokens l = length l.line - l.at
