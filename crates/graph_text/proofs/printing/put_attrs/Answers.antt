use Rattle.std.proofs.Common.{◌≡◌, ℕ, zero, suc, List, ◌+◌, ◌++◌, ◌∙◌, ap, sym, arith, append_assoc}
use Rattle.std.proofs.Common.{add-one}
use Rattle.std.specs.List.{flat_map, range_with_len}
use Rattle.std.proofs.lemmas.List.{append-nil}
use Rattle.graph_text.specs.Printed.{attr_text}
use Rattle.graph_text.proofs.printing.put_attrs.Goals as goal

more_from : (f : ℕ → List ℕ) (a n j : ℕ) → j ≡ a + n
    → flat_map f (range_with_len a (suc n)) ≡ flat_map f (range_with_len a n) ++ f j
more_from f a zero j is = let same : j ≡ a = omega arith in append-nil (f a) ∙ ap f (sym same)
more_from f a (suc n) j is =
    ap (λ (l : List ℕ). f a ++ l) (more_from f (a + 1) n j (omega arith))
    ∙ sym (append_assoc (f a) (flat_map f (range_with_len (a + 1) n)) (f j))

pub loop-vertex-preserved : goal.loop-vertex-preserved
loop-vertex-preserved c =
    let f : ℕ → List ℕ = attr_text c.args.attrs.now in
    let v = c.loop-vertex.vertex in
    c.in_ok-put_attr.ensures
    ∙ ap (λ (l : List ℕ). l ++ f v) c.loop-vertex.invariant
    ∙ append_assoc c.args.out.now (flat_map f (range_with_len 0 v)) (f v)
    ∙ ap (λ (l : List ℕ). c.args.out.now ++ l)
    (sym (ap (λ (k : ℕ). flat_map f (range_with_len 0 k)) (add-one v)
    ∙ more_from f 0 v v (omega arith)))
