-- An expression is read exactly where the grammar spells it.
use Rattle.std.proofs.Common.{◌≡◌, ◌↔◌, ℕ, List, length, drop, Ok}
use Rattle.text_words.specs.Tokens.{tokens_from}
use Rattle.vertex_expr.specs.Tree.{Tree}
use Rattle.vertex_expr.specs.Writable.{Scope}
use Rattle.expr_text.specs.Expressions.{expression_at}
use Rattle.expr_text.specs.Laws.{IsExpression, rest_tokens}
use Rattle.expr_text.proofs.RoundTrip.{spelled_is_read}
use Rattle.expr_text.proofs.Printables.{expression_kept}
use Rattle.expr_text.proofs.TokenLists.{tokens_are}
use Rattle.expr_text.proofs.Sound.{expression_spelled}

pub expression_exactly_spelled : (s : Scope) (line : List ℕ) (from : ℕ) (t : Tree)
    → (expression_at s line from ≡ Ok t) ↔ IsExpression s t (rest_tokens line from)
unfolding expression_at
expression_exactly_spelled s line from t =
    let ks = tokens_from 0 from (drop from line) in (
      λ e. let kept = expression_kept s (length line) ks t e in record {
        spelled = expression_spelled s (length line) ks t (tokens_are 0 from (drop from line))
            e;
        few = kept.0.few;
        shallow = kept.1;
      },
      λ h. spelled_is_read s (length line) t ks h.spelled h.few h.shallow,
    )
