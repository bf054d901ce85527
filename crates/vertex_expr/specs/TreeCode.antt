-- How the logic stores a tree.
use Rattle.std.specs.Prelude.{ℕ, pos, negsuc, ◌==◌, if◌then◌else◌, ◌≡◌}
use Rattle.std.proofs.Common.{refl}
use Rattle.std.specs.Coded.{Coded, code_by}
use base.Stored.{Gv, gnil, gnum, gcons}
use Rattle.vertex_expr.specs.declared.expr.Compare.{Compare}
use Rattle.vertex_expr.specs.declared.expr.Compare.TheVariants.{Less, AtMost, Equal}
use Rattle.vertex_expr.specs.Tree.{Tree, literal, param, val, outdeg, weight, attr, id, agg, old}
use Rattle.vertex_expr.specs.Tree.{plus, minus, times, over, least, greatest, clamp, choose}

abbrev coded_gv : Coded Gv
coded_gv = record { code = λ g. g; inj = λ a b p. p }

abbrev number : ℕ → ℕ → Tree
number k n = if k == 0 then param n else if k == 1 then val n else if k == 2 then agg n else if k
    == 3 then old n else if k == 4 then literal (pos n) else literal (negsuc n)

abbrev bare : ℕ → Tree
bare k = if k == 0 then outdeg else if k == 1 then weight else if k == 2 then attr else id

abbrev two : ℕ → Tree → Tree → Tree
two k a b = if k == 0 then plus a b else if k == 1 then minus a b else if k == 2 then times a b
    else if k == 3 then over a b else if k == 4 then least a b else greatest a b

abbrev compare_at : ℕ → Compare
compare_at k = if k == 0 then Less else if k == 1 then AtMost else Equal

abbrev place : Compare → ℕ
place Less = 0
place AtMost = 1
place Equal = 2

abbrev leaf : ℕ → ℕ → Gv
leaf k n = gcons (gnum k) (gnum n)

abbrev pub put : Tree → Gv
put (literal (pos n)) = leaf 4 n
put (literal (negsuc n)) = leaf 5 n
put (param n) = leaf 0 n
put (val n) = leaf 1 n
put outdeg = gnum 0
put weight = gnum 1
put attr = gnum 2
put id = gnum 3
put (agg n) = leaf 2 n
put (old n) = leaf 3 n
put (plus a b) = gcons (gnum 0) (gcons (put a) (put b))
put (minus a b) = gcons (gnum 1) (gcons (put a) (put b))
put (times a b) = gcons (gnum 2) (gcons (put a) (put b))
put (over a b) = gcons (gnum 3) (gcons (put a) (put b))
put (least a b) = gcons (gnum 4) (gcons (put a) (put b))
put (greatest a b) = gcons (gnum 5) (gcons (put a) (put b))
put (clamp x a b) = gcons gnil (gcons (put x) (gcons (put a) (put b)))
put (choose c a b x y) = gcons (leaf 0 (place c))
    (gcons (gcons (put a) (put b)) (gcons (put x) (put y)))

abbrev pub got : Gv → Tree
got (gnum k) = bare k
got (gcons (gnum k) (gnum n)) = number k n
got (gcons (gnum k) (gcons a b)) = two k (got a) (got b)
got (gcons gnil (gcons x (gcons a b))) = clamp (got x) (got a) (got b)
got (gcons (gcons _ (gnum k)) (gcons (gcons a b) (gcons x y))) = choose (compare_at k) (got a)
    (got b) (got x) (got y)
got _ = outdeg

compare_back : (c : Compare) → compare_at (place c) ≡ c
compare_back Less = refl
compare_back AtMost = refl
compare_back Equal = refl

pub got-put : (t : Tree) → got (put t) ≡ t
got-put (literal (pos n)) = refl
got-put (literal (negsuc n)) = refl
got-put (param n) = refl
got-put (val n) = refl
got-put outdeg = refl
got-put weight = refl
got-put attr = refl
got-put id = refl
got-put (agg n) = refl
got-put (old n) = refl
got-put (plus a b) = λ i. plus (got-put a i) (got-put b i)
got-put (minus a b) = λ i. minus (got-put a i) (got-put b i)
got-put (times a b) = λ i. times (got-put a i) (got-put b i)
got-put (over a b) = λ i. over (got-put a i) (got-put b i)
got-put (least a b) = λ i. least (got-put a i) (got-put b i)
got-put (greatest a b) = λ i. greatest (got-put a i) (got-put b i)
got-put (clamp x a b) = λ i. clamp (got-put x i) (got-put a i) (got-put b i)
got-put (choose c a b x y) = λ i. choose (compare_back c i) (got-put a i) (got-put b i)
    (got-put x i) (got-put y i)

abbrev pub coded_tree : Coded Tree
coded_tree = code_by Gv coded_gv put got got-put
