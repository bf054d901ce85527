-- Trees that a text can have name only params that are there.
use Rattle.std.proofs.Common.{◌≡◌, ℕ, pos, negsuc, List, [], ◌∷◌, length, get_or, refl}
use Rattle.std.proofs.Common.{sym, subst, arith}
use Rattle.std.specs.Prelude.{map, All}
use Rattle.std.proofs.lemmas.List.{get_or-map}
use Rattle.vertex_expr.specs.Node.{tree_of}
use Rattle.vertex_expr.specs.Tree.{Tree, literal, param, val, outdeg, weight, attr, id, agg, old}
use Rattle.vertex_expr.specs.Tree.{plus, minus, times, over, least, greatest, clamp, choose}
use Rattle.vertex_expr.specs.Writable.{Scope, IsPrintable, IsTextTree, AreExprs, names_of}
use Rattle.vertex_expr.specs.declared.expr.Expr.{Expr}
use Rattle.vertex_expr.specs.declared.program.NamedParam.{NamedParam}
use Rattle.expr_text.specs.PrintingCode.{AreBelow}

params_below : (s : Scope) (t : Tree) → IsPrintable s t → AreBelow (length s.params) t
params_below s (literal (pos n)) h = tt
params_below s (literal (negsuc n)) h = tt
params_below s (param k) h = h
params_below s (val k) h = tt
params_below s outdeg h = tt
params_below s weight h = tt
params_below s attr h = tt
params_below s id h = tt
params_below s (agg k) h = tt
params_below s (old k) h = tt
params_below s (plus a b) h = (params_below s a h.0, params_below s b h.1)
params_below s (minus a b) h = (params_below s a h.0, params_below s b h.1)
params_below s (times a b) h = (params_below s a h.0, params_below s b h.1)
params_below s (over a b) h = (params_below s a h.0, params_below s b h.1)
params_below s (least a b) h = (params_below s a h.0, params_below s b h.1)
params_below s (greatest a b) h = (params_below s a h.0, params_below s b h.1)
params_below s (clamp x a b) h = (params_below s x h.0, params_below s a h.1, params_below s b h.2)
params_below s (choose c a b x y) h =
    (params_below s a h.0, params_below s b h.1, params_below s x h.2, params_below s y h.3)

length-trees : (es : List Expr) → length (map tree_of es) ≡ length es
length-trees [] = refl
length-trees (e ∷ es) = let h = length-trees es in omega arith

pub length-names : (ps : List NamedParam) → length (names_of ps) ≡ length ps
length-names [] = refl
length-names (p ∷ ps) = let h = length-names ps in omega arith

exprs_below : (s : Scope) (es : List Expr) → All (IsTextTree s) (map tree_of es)
    → All (λ e. AreBelow (length s.params) (tree_of e)) es
exprs_below s es h = λ k d l.
    let same : get_or (map tree_of es) k (tree_of d) ≡ tree_of (get_or es k d) =
    get_or-map tree_of es k d (tree_of d) l in
    let fit : IsTextTree s (get_or (map tree_of es) k (tree_of d)) =
    h k (tree_of d) (omega (arith, length-trees es)) in
    params_below s (tree_of (get_or es k d)) (subst (IsPrintable s) same fit.fits)

pub trees_below : (s : Scope) (ts : List Tree) (es : List Expr) (n : ℕ) → AreExprs s ts
    → map tree_of es ≡ ts → length s.params ≡ n → All (λ e. AreBelow n (tree_of e)) es
trees_below s ts es n h e f =
    let P : List Tree → Type 0 = λ l. All (IsTextTree s) l in
    let Q : ℕ → Type 0 = λ m. All (λ e. AreBelow m (tree_of e)) es in
    subst Q f (exprs_below s es (subst P (sym e) h.fit))
