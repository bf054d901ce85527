-- The places that slots and flat numbers stand for.
use Rattle.std.specs.Prelude.{◌≡◌, ◌*◌, ◌^◌, ◌<◌, ◌≤◌, map, length, slice_index}
use Rattle.agg_history.specs.Numbered.{AreNumbered}
use Rattle.agg_history.specs.Places.{PlaceTable, line_of}
use Rattle.agg_history.specs.declared.places.Places.TheInside.{Inside}

abbrev pub places_of : Inside → PlaceTable
places_of p = record {
  width = p.width;
  touched = p.touched.items;
  table = map (line_of p.width p.places.items) p.slots.items;
}

-- a line for each touched vertex, whose slot tells which
pub record ArePlaces (p : Inside) : Type 0 where
  pub narrow : p.width ≤ 65
  pub few : length p.slots.items < 2 ^ 32
  pub long : length p.places.items ≡ length p.touched.items * p.width
  pub numbered : AreNumbered (λ v. slice_index p.slots.items v)
      (length p.slots.items) p.touched.items
