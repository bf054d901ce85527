-- What holds of reading and printing.
use Rattle.std.specs.Prelude.{◌≡◌, ◌≤◌, ◌↔◌, ℕ, List, drop, Ok, map}
use Rattle.text_words.specs.Token.{Token}
use Rattle.text_words.specs.Tokens.{tokens_from}
use Rattle.vertex_expr.specs.Tree.{Tree, nodes, depth, sums}
use Rattle.vertex_expr.specs.Names.{AreNames}
use Rattle.vertex_expr.specs.Writable.{Scope, IsTextTree}
use Rattle.expr_text.specs.Grammar.{Spells}
use Rattle.expr_text.specs.Printing.{text_of}
use Rattle.expr_text.specs.Expressions.{expression_at}

-- the tokens of a line from a place on
abbrev pub rest_tokens : List ℕ → ℕ → List Token
rest_tokens line from = map (λ p. p.0) (tokens_from 0 from (drop from line))

-- the grammar spells the tree by these tokens, with at most 32 parentheses open at once, and it has
-- at most 256 nodes and is at most 32 deep
pub record IsExpression (s : Scope) (t : Tree) (ks : List Token) : Type 0 where
  pub spelled : Spells s 32 sums t ks
  pub few : nodes t ≤ 256
  pub shallow : depth t ≤ 32

-- an expression is read exactly where the grammar spells it
abbrev pub FollowsGrammar : Type 0
FollowsGrammar =
    (s : Scope) (line : List ℕ) (from : ℕ) (t : Tree)
    → (expression_at s line from ≡ Ok t) ↔ IsExpression s t (rest_tokens line from)

-- the canonical text of a tree that a text can have, at the end of a line, is read as that tree
abbrev pub ReadsBack : Type 0
ReadsBack =
    (s : Scope) (t : Tree) (line : List ℕ) (from : ℕ) → s.lanes ≤ 8 → AreNames s.params
    → IsTextTree s t → drop from line ≡ text_of s.params t → expression_at s line from ≡ Ok t
