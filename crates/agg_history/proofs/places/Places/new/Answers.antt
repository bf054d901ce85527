use Rattle.std.proofs.Common.{◌≡◌, ap, ◌∙◌, [], replicate, rules, map, refl, ℕ, zero, suc, ◌∷◌}
use Rattle.agg_history.specs.Places.{line_of}
use Rattle.agg_history.proofs.places.Places.new.Goals as goal

lines : (w n : ℕ) → map (line_of w []) (replicate n 0) ≡ replicate n (replicate w 0)
lines w zero = refl
lines w (suc n) = ap (λ xs. replicate w 0 ∷ xs) (lines w n)

pub returns : goal.returns
returns c =
    let zeros : c.in_ok-slots.slots.items
    ≡ replicate c.args.vertices 0 = c.in_ok-slots.ensures.items_if_clones_equal
    (search rules) in
    let none = c.new-2.ensures.items in
    let all = ap (λ xs. map (line_of c.args.width xs) c.in_ok-slots.slots.items) none
    ∙ ap (map (line_of c.args.width [])) zeros ∙ lines c.args.width c.args.vertices in
    λ i. record { width = c.args.width; touched = c.new.ensures.items i; table = all i }
