use Rattle.std.proofs.Common.{sym, ap, ◌∙◌, subst, length, ℕ, ◌<◌}
use Rattle.std.proofs.lemmas.List.{length-set}
use Rattle.std.proofs.lemmas.List.Elements.{All-pop}
use Rattle.swaps.specs.Swaps.{undo, AreInside}
use Rattle.swaps.proofs.SwapLemmas.{undo-append}
use Rattle.swaps.proofs.put_back.Goals as goal

pub loop-place-preserved : goal.loop-place-preserved
loop-place-preserved g c =
    let xs = c.loop-place.all.items in
    let wide = length-set xs c.in-Some.place c.in-Some.item in
    record {
      same = sym (undo-append c.pop.new.self.items (c.in-Some.place, c.in-Some.item) xs)
          ∙ ap (λ ts. undo ts xs) (sym c.in-Some.ensures.items) ∙ c.loop-place.invariant.same;
      inside = subst (λ n. AreInside n c.pop.new.self.items) (sym wide)
          ((All-pop (λ (a : ℕ × g.row.X.Denot). a.0 < length xs) c.loop-place.items.items
          c.pop.new.self.items c.pop.result c.pop.ensures.items
          c.loop-place.invariant.inside).0);
      size = wide ∙ c.loop-place.invariant.size;
    }
