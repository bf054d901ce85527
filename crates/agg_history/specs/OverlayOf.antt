-- The puts that an overlay has.
use Rattle.std.specs.Prelude.{◌≡◌, ℕ, ◌+◌, ◌^◌, ◌<◌, ◌≤◌, List, map, length}
use Rattle.std.specs.List.{All}
use Rattle.agg_history.specs.Puts.{Round, PutTable, round_at}
use Rattle.agg_history.specs.Numbered.{AreNumbered}
use Rattle.agg_history.specs.Places.{place_at}
use Rattle.agg_history.specs.declared.overlay.Overlay.TheInside.{Inside}

abbrev pub vertices_in : Round → List ℕ
vertices_in round = map (λ put. put.0) round

abbrev pub puts_of : Inside → List Round
puts_of o = map (λ list. list.puts) o.rounds.items

abbrev pub overlay_of : Inside → PutTable
overlay_of o = record {
  old_vertices = o.old_vertices;
  vertices = o.vertices;
  lanes = o.lanes;
  cut = o.cut;
  puts = puts_of o;
}

-- a list of puts for each iteration, and for each vertex its place in each list, counted from 1
pub record IsOverlay (o : Inside) : Type 0 where
  pub old : o.old_vertices ≤ o.vertices
  pub few : o.vertices < 2 ^ 32
  pub some : 1 ≤ o.lanes
  pub narrow : o.lanes ≤ 8
  pub short : o.cut ≤ 64
  pub width : o.places.width ≡ o.cut + 1
  pub count : length o.places.table ≡ o.vertices
  pub rounds : length o.rounds.items ≡ o.cut + 1
  pub wide : All (λ list. list.lanes ≡ o.lanes) o.rounds.items
  pub numbered : (i : ℕ) → i < o.cut + 1
      → AreNumbered (λ v. place_at o.places.table v i) (length o.places.table)
      (vertices_in (round_at (puts_of o) i))
