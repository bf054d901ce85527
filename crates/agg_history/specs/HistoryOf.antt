-- The history that cells stand for, and what is ready to be committed.
use Rattle.std.specs.Prelude.{◌≡◌, ℕ, ◌≤◌, Bool, List, map, take, length, sum_by, IfSome}
use Rattle.std.specs.Option.{option_map}
use Rattle.std.specs.List.{All, zip}
use Rattle.swaps.specs.Swaps.{put_all, AreInside, places}
use Rattle.bolt_base.specs.Keep.{Entry}
use Rattle.agg_history.specs.Entries.{Entries}
use Rattle.agg_history.specs.Pruned.{Pruned, HistoryState, rows_from, pruned}
use Rattle.agg_history.specs.declared.history.Draft.{Draft}
use Rattle.agg_history.specs.declared.history.History.TheInside.{Inside}

-- the tracks of the first n vertices
abbrev pub tracks_of : ℕ → List Entries → List (List Entry)
tracks_of n cells = map (λ c. c.all) (take n cells)

abbrev pub now_of : Inside → Pruned
now_of h = record
    { first = take h.vertices h.first.all; tracks = tracks_of h.vertices h.tracks.items }

-- the new entries of iteration 0, each with its vertex
abbrev pub heads_of : Draft → List (ℕ × Entry)
heads_of d = zip (places d.lists.items) d.heads.all

abbrev pub next_of : Inside → Draft → Pruned
next_of h d = record {
  first = take d.vertices (put_all (heads_of d) h.first.all);
  tracks = tracks_of d.vertices (put_all d.lists.items h.tracks.items);
}

abbrev pub history_of : Inside → HistoryState
history_of h = record {
  vertical = h.vertical;
  cut = h.cut;
  lanes = h.lanes;
  now = now_of h;
  next = option_map (next_of h) h.draft;
}

-- the tracks are what is kept of the rows that they stand for
abbrev pub IsLean : Bool → ℕ → Pruned → Type 0
IsLean vertical cut p = pruned vertical (rows_from cut p) ≡ p

abbrev pub HaveLanes : ℕ → List Entries → Type 0
HaveLanes lanes cells = All (λ c. c.lanes ≡ lanes) cells

-- new lists and entries of iteration 0 for vertices that have a place here
pub record IsDraft (h : Inside) (d : Draft) : Type 0 where
  pub firsts : length h.first.all ≡ d.vertices
  pub tracks : length h.tracks.items ≡ d.vertices
  pub inside : AreInside d.vertices d.lists.items
  pub heads : length d.heads.all ≡ length d.lists.items
  pub head_lanes : d.heads.lanes ≡ h.lanes
  pub track_lanes : All (λ list. list.1.lanes ≡ h.lanes) d.lists.items
  pub kept : d.kept ≡ sum_by (λ track. length track) (next_of h d).tracks
  pub lean : IsLean h.vertical h.cut (next_of h d)

-- past the vertices there is room for those that a commit adds
pub record IsHistory (h : Inside) : Type 0 where
  pub some : 1 ≤ h.lanes
  pub narrow : h.lanes ≤ 8
  pub short : h.cut ≤ 64
  pub firsts : h.vertices ≤ length h.first.all
  pub tracks : h.vertices ≤ length h.tracks.items
  pub first_lanes : h.first.lanes ≡ h.lanes
  pub track_lanes : HaveLanes h.lanes h.tracks.items
  pub kept : h.kept ≡ sum_by (λ track. length track) (now_of h).tracks
  pub lean : IsLean h.vertical h.cut (now_of h)
  pub draft : IfSome h.draft (IsDraft h)
