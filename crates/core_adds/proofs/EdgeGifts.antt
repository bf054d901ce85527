-- What is appended for an edge is what its gift says.
use Rattle.std.proofs.Common.{◌≡◌, ℕ, ℤ, pos, neg_ℤ, ◌+◌, ◌*◌, ◌-ℤ◌, ◌<◌, List, length, map, replicate}
use Rattle.std.proofs.Common.{refl, ap, ◌∙◌, arith}
use Rattle.std.specs.List.{range_with_len}
use Rattle.std.proofs.lemmas.Int.{ints}
use Rattle.std.proofs.lemmas.List.{get_or-replicate, length-replicate}
use Rattle.bolt_base.specs.Residue.{residue}
use Rattle.bolt_base.specs.declared.edge.Edge.{Edge}
use Rattle.vertex_expr.specs.declared.program.ProgramEntries.{ProgramEntries}
use Rattle.run_model.specs.Additions.{amounts_of}
use Rattle.run_model.specs.Program.{by_lane, lanes, number}
use Rattle.run_model.specs.Rows.{Contribution}
use Rattle.edge_map.proofs.Gifts.{AreLanes, by_lanes}
use Rattle.edge_map.proofs.Residues.{same_range}
use Rattle.core_adds.specs.Differences.{differences}
use Rattle.core_adds.specs.Sides.{added_gift, change_gift, removed_gift}

-- lane by lane f less h
gift_is : (p : ProgramEntries) (dst : ℕ) (xs ys : List ℤ) (f h d : ℕ → ℤ) → AreLanes (lanes p) f xs
    → AreLanes (lanes p) h ys → ((l : ℕ) → f l -ℤ h l ≡ d l)
    → differences dst xs ys ≡ amounts_of p (record { dst = dst; amount = d })
gift_is p dst xs ys f h d a b is =
    ap (λ n. map (λ l. record {
      word = dst * n + l;
      amount = residue (number xs l -ℤ number ys l);
    }) (range_with_len 0 n)) a.long
    ∙ same_range (λ l. record {
      word = dst * lanes p + l;
      amount = residue (number xs l -ℤ number ys l);
    }) (λ l. record { word = dst * lanes p + l; amount = residue (d l) }) 0 (lanes p)
    (λ l _ small.
    let lane : l < lanes p = omega arith in
    let same = (λ j. a.each l lane j -ℤ b.each l lane j) ∙ is l in
    λ j. record { word = dst * lanes p + l; amount = residue (same j) })

module _ (p : ProgramEntries) (e : Edge) where
  nothing : (zs xs : List ℤ) (width : ℕ) → zs ≡ replicate width (pos 0) → width ≡ length xs
      → length xs ≡ lanes p → AreLanes (lanes p) (λ _. pos 0) zs
  nothing zs xs width zero same long = record {
    long = ap length zero ∙ length-replicate width (pos 0) ∙ same ∙ long;
    each = λ l small. ap (λ ys. number ys l) zero
        ∙ get_or-replicate width l (pos 0) (pos 0) (omega arith);
  }

  pub removed_is : (give : Contribution) (zs xs : List ℤ) (width : ℕ)
      → xs ≡ by_lane p (λ l. give l e) → zs ≡ replicate width (pos 0) → width ≡ length xs
      → differences e.dst zs xs ≡ amounts_of p (removed_gift give e)
  removed_is give zs xs width is zero same =
      let gave = by_lanes p (λ l. give l e) xs is in
      gift_is p e.dst zs xs (λ _. pos 0) (λ l. give l e) (λ l. neg_ℤ (give l e))
      (nothing zs xs width zero same gave.long) gave (λ l. minus (give l e))
    where
      minus : (x : ℤ) → pos 0 -ℤ x ≡ neg_ℤ x
      minus x = omega (arith, ints)

  pub added_is : (give : Contribution) (xs zs : List ℤ) (width : ℕ)
      → xs ≡ by_lane p (λ l. give l e) → zs ≡ replicate width (pos 0) → width ≡ length xs
      → differences e.dst xs zs ≡ amounts_of p (added_gift give e)
  added_is give xs zs width is zero same =
      let gave = by_lanes p (λ l. give l e) xs is in
      gift_is p e.dst xs zs (λ l. give l e) (λ _. pos 0) (λ l. give l e) gave
      (nothing zs xs width zero same gave.long) (λ l. less (give l e))
    where
      less : (x : ℤ) → x -ℤ pos 0 ≡ x
      less x = omega (arith, ints)

  pub change_is : (before after : Contribution) (xs ys : List ℤ)
      → xs ≡ by_lane p (λ l. after l e) → ys ≡ by_lane p (λ l. before l e)
      → differences e.dst xs ys ≡ amounts_of p (change_gift before after e)
  change_is before after xs ys new old =
      gift_is p e.dst xs ys (λ l. after l e) (λ l. before l e) (λ l. after l e -ℤ before l e)
      (by_lanes p (λ l. after l e) xs new) (by_lanes p (λ l. before l e) ys old)
      (λ l. refl)
