use Rattle.std.proofs.Common.{◌≡◌, ◌⊎◌, ◌-◌, ◌++◌, ℕ, List, inl, inr, length, drop, ap, sym, ◌∙◌}
use Rattle.std.proofs.Common.{arith, length-drop}
use Rattle.std.proofs.lemmas.List.{take_all}
use Rattle.refine_rows.proofs.MergeLemmas.{are_merged, merged_end}
use Rattle.refine_rows.proofs.merging.merge.Goals as goal
use Rattle.refine_rows.proofs.merging.merge.Goals.{then-loop-i-test+else-j-ys, else-loop-i-test}

pub returns : goal.returns
returns c =
    let xs : List ℕ = c.args.xs.now in
    let ys : List ℕ = c.args.ys.now in
    let left : List ℕ = drop c.loop-i.i xs in
    let right : List ℕ = drop c.loop-i.j ys in
    let left_long = length-drop c.loop-i.i xs in
    let right_long = length-drop c.loop-i.j ys in
    let left_all = take_all (length xs - c.loop-i.i) left (omega arith) in
    let right_all = take_all (length ys - c.loop-i.j) right (omega arith) in
    let ended : (length left ≡ 0) ⊎ (length right ≡ 0) = elim c.loop-i-test.branch [
      | then-loop-i-test+else-j-ys w ↦ inr (let e = w.if-j-ys.false in omega arith)
      | else-loop-i-test w ↦ inl (let e = w.loop-i-test.false in omega arith)
    ] in
    record {
      all = are_merged xs ys c.extend_from_slice-2.new.self.items
          (c.in_ok-extend_from_slice-2.ensures.items
          ∙ ap (λ (zs : List ℕ). c.extend_from_slice.new.self.items ++ zs) right_all
          ∙ ap (λ (zs : List ℕ). zs ++ right) c.in_ok-extend_from_slice.ensures.items
          ∙ ap (λ (zs : List ℕ). (c.loop-i.all.items ++ zs) ++ right) left_all
          ∙ sym (merged_end left right c.loop-i.all.items ended)
          ∙ c.loop-i.invariant.rest);
    }
