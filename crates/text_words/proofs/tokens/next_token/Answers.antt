use Rattle.std.proofs.Common.{sym, ◌∙◌, ap, List, ℕ, drop, get_or}
use Rattle.text_words.specs.Seen.{seen}
use Rattle.text_words.specs.Tokens.{first_token}
use Rattle.text_words.proofs.TokenLemmas.{token_in}
use Rattle.text_words.proofs.tokens.next_token.Goals as goal

pub returns-then-not-is_blank-clause-found : goal.returns-then-not-is_blank-clause-found
returns-then-not-is_blank-clause-found c =
    sym c.blanks.invariant.rest
    ∙ token_in c.args.text.now c.blanks.at c.first_token-len.result.1
    (seen c.first_token-len.result.0) c.blanks-test.true
    (sym c.is_blank.ensures ∙ c.if-not-is_blank.true)
    (ap (λ (r : List ℕ). first_token (get_or r 0 0) (drop 1 r)) (sym c.split_at.ensures.back)
    ∙ c.first_token-len.ensures.token) c.first_token-len.ensures.some
