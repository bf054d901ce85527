use Rattle.std.proofs.Common.{ap, sym, ◌∙◌, ◌≡◌, length, arith, subst, Some, None, IsSome, Bool}
use Rattle.std.proofs.Common.{true, false, cond, T, take, length-take}
use Rattle.bolt_base.specs.Graph.{Graph as Plain, IsGood}
use Rattle.swaps.specs.Swaps.{undo}
use Rattle.swaps.proofs.SwapLemmas.{length-undo}
use Rattle.adjacency.specs.Rows.{AreMirrored, weights_of}
use Rattle.std.specs.FinMap as finite
use Rattle.adjacency.specs.State.{State}
use Rattle.adjacency.specs.StateOf.{IsAside, was_attrs, was_out, was_into}
use Rattle.adjacency.proofs.graph.RowGraph.revert.Goals as goal

flagged : (b : Bool) (g : Plain) → IsSome (cond b (Some g) None) → T b
flagged true g h = tt
flagged false g h = cc

pub invariant_of-self : goal.invariant_of-self
invariant_of-self g c =
    let fields = c.self.inside in
    let is : T fields.is_changed = flagged fields.is_changed _
    (subst (λ (s : State). IsSome s.before) (sym c.self.view_is) c.requires.is_some) in
    let aside : IsAside fields = c.self.invariant.aside is in
    let attrs = c.truncate.ensures.items ∙ ap (take fields.old_vertices) c.put_back.ensures.back in
    let out = c.truncate-2.ensures ∙ ap (take fields.old_vertices) c.put_back-2.ensures.back in
    let into = c.truncate-3.ensures ∙ ap (take fields.old_vertices) c.put_back-3.ensures.back in
    record {
      mirrored = rw (attrs, out, into)
          (subst (λ n. AreMirrored n (was_out fields) (was_into fields))
          (let old = aside.fewer in let e : fields.old_vertices
          ≡ length (was_attrs fields) = omega (
            arith,
            length-take fields.old_vertices
                (undo fields.old_attrs.items fields.attrs.items),
            length-undo
                fields.old_attrs.items fields.attrs.items,
          ) in e) aside.mirrored);
      count = aside.count ∙ sym (ap (λ rows. finite.len (weights_of rows)) out);
      good = subst (λ h. IsGood fields.limits h)
          (λ i. record { attrs = sym attrs i; weights = ap weights_of (sym out) i }) aside.good;
      aside = λ h. absurd h;
    }
