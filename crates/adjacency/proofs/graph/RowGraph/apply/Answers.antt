use Rattle.std.proofs.Common.{ap, sym, ◌∙◌, ◌≡◌, ℕ, ℤ, List, ◌++◌, length, take, replicate}
use Rattle.std.proofs.Common.{pos, subst, arith}
use Rattle.std.specs.FinMap as finite
use Rattle.std.proofs.lemmas.List.{take-append-le, take_all}
use Rattle.swaps.specs.Swaps.{put_all, undo}
use Rattle.bolt_base.specs.Graph.{Graph as Plain, IsGood}
use Rattle.adjacency.specs.Row.{RowMap}
use Rattle.adjacency.specs.Rows.{weights_of, AreMirrored}
use Rattle.adjacency.specs.PlainOf.{plain_of}
use Rattle.adjacency.specs.Made.{IsMade, fresh_attrs, fresh_out, fresh_into}
use Rattle.adjacency.proofs.PutLemmas.{length_full}
use Rattle.adjacency.proofs.graph.RowGraph.apply.Goals as goal

take_front : {X : Type 0} (n : ℕ) (xs ys : List X) → length xs ≡ n → take n (xs ++ ys) ≡ xs
take_front n xs ys e = take-append-le n xs ys (omega arith) ∙ take_all n xs (omega arith)

pub invariant_of-self-2 : goal.invariant_of-self-2
invariant_of-self-2 g c =
    let old = c.self.inside in
    let f = c.in-Ok.fresh in
    let made : IsMade old.limits old.attrs.items old.out old.into c.args.edits.now f = subst
    (λ (a : List ℤ). IsMade old.limits a old.out old.into c.args.edits.now f)
    c.deref.ensures.value c.in-Ok.ensures.ok in
    let n : ℕ = c.len-old_vertices.result in
    let long : length old.attrs.items ≡ n = sym (c.len-old_vertices.ensures ∙ old.attrs.ok.0) in
    let out_long : length old.out ≡ n = c.self.invariant.mirrored.out_length ∙ long in
    let into_long : length old.into ≡ n = c.self.invariant.mirrored.into_length ∙ long in
    let attrs : c.swap_in.new.all.items ≡ fresh_attrs old.attrs.items f = c.swap_in.ensures.put
    ∙ ap (put_all f.attrs.items) c.in-Ok-grow.ensures.attrs in
    let out : c.swap_in-2.new.self ≡ fresh_out old.out f = c.swap_in-2.ensures.put
    ∙ ap (put_all f.out) c.in-Ok-grow.ensures.out in
    let into : c.swap_in-3.new.self ≡ fresh_into old.into f = c.swap_in-3.ensures.put
    ∙ ap (put_all f.into) c.in-Ok-grow.ensures.into in
    let same : plain_of c.swap_in.new.all.items c.swap_in-2.new.self
    ≡ plain_of (fresh_attrs old.attrs.items f) (fresh_out old.out f) =
    (λ i. record { attrs = attrs i; weights = ap weights_of out i }) in
    let was_a : take n (undo c.swap_in.new.items.items c.swap_in.new.all.items) ≡ old.attrs.items =
    ap (take n) (c.swap_in.ensures.back ∙ c.in-Ok-grow.ensures.attrs)
    ∙ take_front n old.attrs.items (replicate f.extra (pos 0)) long in
    let was_o : take n (undo c.swap_in-2.new.placed c.swap_in-2.new.self) ≡ old.out =
    ap (take n) (c.swap_in-2.ensures.back ∙ c.in-Ok-grow.ensures.out)
    ∙ take_front n old.out (replicate f.extra finite.empty) out_long in
    let was_i : take n (undo c.swap_in-3.new.placed c.swap_in-3.new.self) ≡ old.into =
    ap (take n) (c.swap_in-3.ensures.back ∙ c.in-Ok-grow.ensures.into)
    ∙ take_front n old.into (replicate f.extra finite.empty) into_long in
    record {
      mirrored = rw (attrs, out, into) made.mirrored;
      count = made.count ∙ ap (λ (rows : List RowMap). finite.len (weights_of rows)) (sym out);
      good = subst (IsGood old.limits) (sym same) made.good;
      aside = λ _. record {
        attrs = c.swap_in.ensures.inside;
        out = c.swap_in-2.ensures.inside;
        into = c.swap_in-3.ensures.inside;
        fewer = let wide = c.swap_in.ensures.length ∙ ap length c.in-Ok-grow.ensures.attrs
            ∙ length_full old.attrs.items f.extra in omega (arith, wide, long);
        count = c.self.invariant.count
            ∙ ap (λ (rows : List RowMap). finite.len (weights_of rows)) (sym was_o);
        mirrored = rw (was_o, was_i)
            (subst (λ (k : ℕ). AreMirrored k old.out old.into) long c.self.invariant.mirrored);
        good = subst (λ (h : Plain). IsGood old.limits h)
            (λ i. record { attrs = sym was_a i; weights = ap weights_of (sym was_o) i })
            c.self.invariant.good;
      };
    }
