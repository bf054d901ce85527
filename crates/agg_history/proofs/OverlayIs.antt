-- The puts that an overlay has.
use Rattle.std.proofs.Common.{◌≡◌, ℕ, zero, suc, ◌+◌, ◌^◌, ◌<◌, ◌≤◌, length, get_or, Some, None}
use Rattle.std.proofs.Common.{refl, sym, ap, ◌∙◌, arith}
use Rattle.std.proofs.lemmas.List.{length-map}
use Rattle.agg_history.specs.Puts.{PutTable, round_at, put_at}
use Rattle.agg_history.specs.PutList.{ListedPuts, put_in}
use Rattle.agg_history.specs.Places.{place_at}
use Rattle.agg_history.specs.OverlayOf.{overlay_of, puts_of, vertices_in, IsOverlay}
use Rattle.agg_history.specs.declared.overlay.Overlay.TheInside.{Inside}
use Rattle.agg_history.proofs.NumberLemmas.{room_for_one}
use Rattle.agg_history.proofs.LookupLemmas.{place_within, numbered_put, unnumbered_put}
use Rattle.agg_history.proofs.LookupLemmas.{unput_number}
use Rattle.agg_history.proofs.OverlayLemmas.{round_is}

module _ (o : Inside) (t : PutTable) (is : overlay_of o ≡ t) (ok : IsOverlay o) where
  pub cut_is : o.cut ≡ t.cut
  cut_is = ap (λ (x : PutTable). x.cut) is

  pub lanes_is : o.lanes ≡ t.lanes
  lanes_is = ap (λ (x : PutTable). x.lanes) is

  pub vertices_is : o.vertices ≡ t.vertices
  vertices_is = ap (λ (x : PutTable). x.vertices) is

  pub puts_is : puts_of o ≡ t.puts
  puts_is = ap (λ (x : PutTable). x.puts) is

  module _ (i v : ℕ) (h : i ≤ t.cut) (l : v < t.vertices) where
    pub round_below : i < length o.rounds.items
    round_below = let r = ok.rounds in omega (arith, cut_is)

    pub vertex_below : v < length o.places.table
    vertex_below = let c = ok.count in omega (arith, vertices_is)

    pub width_below : i < o.places.width
    width_below = let w = ok.width in omega (arith, cut_is)

    iteration_below : i < o.cut + 1
    iteration_below = omega (arith, cut_is)

    -- a list of puts, found by its index
    pub listed_is : (d : ListedPuts) → (get_or o.rounds.items i d).puts ≡ round_at t.puts i
    listed_is d = sym (round_is o.rounds.items i d round_below)
        ∙ ap (λ puts. round_at puts i) puts_is

    -- what was not put yet
    module _ (new : put_at t.puts i v ≡ None) where
      pub new_place : place_at o.places.table v i ≡ 0
      new_place = unput_number (λ u. place_at o.places.table u i) (length o.places.table)
          (round_at (puts_of o) i) (ok.numbered i iteration_below) v vertex_below
          (ap (λ puts. put_at puts i v) puts_is ∙ new)

      pub put_room : length (round_at t.puts i) + 1 < 2 ^ 32
      put_room =
          let few = ok.few in
          let count = ok.count in
          let r = room_for_one (λ u. place_at o.places.table u i) (length o.places.table)
          (vertices_in (round_at (puts_of o) i))
          (ok.numbered i iteration_below) v vertex_below new_place in
          let e : length (round_at (puts_of o) i)
          ≡ length (round_at t.puts i) = ap (λ puts. length (round_at puts i)) puts_is in
          omega (arith, length-map (round_at (puts_of o) i) (λ put. put.0))

    -- where a vertex has a place, its put is there, and where it has none, there is none
    pub place_put : (p : ℕ) → place_at o.places.table v i ≡ suc p
        → put_at t.puts i v ≡ Some (put_in (round_at t.puts i) p).1
    place_put p e = ap (λ puts. put_at puts i v) (sym puts_is)
        ∙ numbered_put (λ u. place_at o.places.table u i) (length o.places.table)
        (round_at (puts_of o) i) (ok.numbered i iteration_below) v vertex_below p e
        ∙ ap (λ puts. Some (put_in (round_at puts i) p).1) puts_is

    pub place_below : (p : ℕ) → place_at o.places.table v i ≡ suc p → p < length (round_at t.puts i)
    place_below p e =
        let l = place_within (λ u. place_at o.places.table u i) (length o.places.table)
        (round_at (puts_of o) i) (ok.numbered i iteration_below) v vertex_below p e in
        let f : length (round_at (puts_of o) i)
        ≡ length (round_at t.puts i) = ap (λ puts. length (round_at puts i)) puts_is in
        omega arith

    pub no_place : place_at o.places.table v i ≡ 0 → put_at t.puts i v ≡ None
    no_place e = ap (λ puts. put_at puts i v) (sym puts_is)
        ∙ unnumbered_put (λ u. place_at o.places.table u i) (length o.places.table)
        (round_at (puts_of o) i) (ok.numbered i iteration_below) v vertex_below e

    pub place_few : place_at o.places.table v i ≤ length (round_at t.puts i)
    place_few = by_place (place_at o.places.table v i) refl
      where
        by_place : (p : ℕ) → place_at o.places.table v i ≡ p → p ≤ length (round_at t.puts i)
        by_place zero e = omega arith
        by_place (suc p) e = place_below p e
