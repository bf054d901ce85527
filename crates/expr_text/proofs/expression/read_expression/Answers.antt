use Rattle.std.proofs.Common.{length, drop, sym, ◌∙◌, ap, subst}
use Rattle.std.specs.Prelude.{nat_le}
use Rattle.vertex_expr.specs.Tree.{Tree, depth}
use Rattle.vertex_expr.specs.Writable.{IsTextTree}
use Rattle.expr_text.specs.Scoped.{scope_of}
use Rattle.text_words.specs.Tokens.{tokens_from}
use Rattle.expr_text.proofs.Printables.{text_tree}
use Rattle.expr_text.proofs.expression.read_expression.Goals as goal

pub returns-then-is_shallow-clause-fits : goal.returns-then-is_shallow-clause-fits
returns-then-is_shallow-clause-fits c =
    let s = scope_of c.args.scope.now in
    let P : Tree → Type 0 = λ t. IsTextTree s t in
    subst P (sym c.into_expr.ensures.tree)
    (text_tree s (length c.args.line.now)
    (tokens_from 0 c.args.from (drop c.args.from c.args.line.now)) c.in_ok-tree.tree
    c.in_ok-tree.ensures
    (ap (λ (t : Tree). nat_le (depth t) 32) (sym c.get.ensures.tree)
    ∙ sym c.is_shallow.ensures.depth ∙ c.if-is_shallow.true))
