-- The iterations of a round: the additions that each one makes, and the row that they lead to.
use Rattle.std.specs.Prelude.{ℕ, ℤ, ◌+◌, ◌-◌, ◌*◌, ◌+ℤ◌, Bool, if◌then◌else◌, nat_lt, List, [], ◌∷◌}
use Rattle.std.specs.Prelude.{◌++◌, map, replicate, slice_index_or}
use Rattle.std.specs.Int.{cast_signed, int_wrap, w64}
use Rattle.std.specs.List.{flat_map, range_with_len, zip}
use Rattle.bolt_base.specs.Graph.{Graph, vertices}
use Rattle.bolt_base.specs.Keep.{Entry, Row, read}
use Rattle.bolt_base.specs.Pieces.{piece}
use Rattle.bolt_base.specs.Residue.{Amount}
use Rattle.bolt_base.specs.RowTable.{entry_at}
use Rattle.range_check.specs.Gathered.{empty_of}
use Rattle.run_model.specs.Additions.{adds, adds_of, items, tail_adds, tail_adds_of, tail_items}
use Rattle.run_model.specs.Additions.{word}
use Rattle.run_model.specs.Program.{lanes, by_lane, number, zeros, is_sum}
use Rattle.run_model.specs.Refined.{row_values}
use Rattle.run_model.specs.Rows.{Lists, at, each_vertex, gathered, begun, applied, entries}
use Rattle.run_model.specs.Steps.{step, is_new}
use Rattle.core_model.specs.State.{Given, Work}

-- ---- additions
-- the iteration is past the cut
abbrev pub is_tail : Given → ℕ → Bool
is_tail c i = nat_lt c.choice.cut i

-- the additions of an iteration from a graph to another one
abbrev pub additions : Given → Graph → Graph → ℕ → List Amount
additions c g h i = if is_tail c i then tail_adds c.program h i else adds c.program g h i

-- those of the items that are piece k of its work
abbrev pub piece_adds : Given → Graph → Graph → ℕ → ℕ → List Amount
piece_adds c g h i k =
    if is_tail c i
    then tail_adds_of c.program h i (piece (tail_items c.program h i) c.choice.workers k)
    else
    adds_of c.program (step c.program g h i)
    (piece (items c.program (step c.program g h i)) c.choice.workers k)

-- those of each piece; where contributions aren't added, and past the last iteration, there are
-- none
abbrev pub in_pieces : Given → Graph → Graph → ℕ → List (List Amount)
in_pieces c g h i =
    if is_sum c.program.combine
    then
    if nat_lt c.program.rounds i
    then []
    else map (piece_adds c g h i) (range_with_len 0 c.choice.workers)
    else []

-- the additions of all pieces
abbrev pub all_left : List (List Amount) → List Amount
all_left left = flat_map (λ some. some) left

-- ---- the words
abbrev pub no_words : Given → Graph → List ℕ
no_words c h = replicate (vertices h * lanes c.program) 0

abbrev pub word_in : List ℕ → ℕ → ℕ
word_in words w = slice_index_or words w 0

-- ---- work
-- an iteration begins, after these rows
abbrev pub begins : Given → Graph → Graph → ℕ → List Row → Work
begins c g h i rows = record {
  graph = h;
  iteration = i;
  rows = rows;
  words = no_words c h;
  left = in_pieces c g h i;
}

-- the first one, after the first row
abbrev pub first_work : Given → Graph → Graph → Work
first_work c g h = begins c g h 1 (entries c.program h 0 ∷ [])

-- ---- the next row
-- the values of the last row
abbrev pub last_values : Work → Lists
last_values w = row_values (vertices w.graph) w.rows (w.iteration - 1)

-- what the stored entries of a graph say of a vertex at an iteration
abbrev pub stored_entry : Given → Graph → List (List Entry) → ℕ → ℕ → Entry
stored_entry c g stored i v =
    read (zeros c.program, begun c.program g v) (slice_index_or stored v []) i

-- the aggregate that a vertex had: up to the cut that of the old graph, of which a new vertex had
-- none, and past it that of the iteration before
abbrev pub had_agg : Given → Graph → List (List Entry) → Work → ℕ → List ℤ
had_agg c g stored w v =
    if is_tail c w.iteration then (entry_at w.rows (w.iteration - 1) v).0
    else if is_new g v then by_lane c.program (λ _. empty_of c.program.combine)
    else (stored_entry c g stored w.iteration v).0

-- an aggregate and the words of its vertex, with wrap-around
abbrev pub with_words : Given → List ℕ → List ℤ → ℕ → List ℤ
with_words c words old v =
    by_lane c.program (λ l. int_wrap w64
    (number old l +ℤ cast_signed w64 (word_in words (word c.program v l))))

-- the aggregate that it has: for sums the old one and its words, or else what its edges come to
abbrev pub next_agg : Given → Graph → List (List Entry) → Work → ℕ → List ℤ
next_agg c g stored w v =
    if is_sum c.program.combine
    then with_words c w.words (had_agg c g stored w v) v
    else gathered c.program w.graph (last_values w) v

abbrev pub next_aggs : Given → Graph → List (List Entry) → Work → Lists
next_aggs c g stored w = each_vertex w.graph (next_agg c g stored w)

-- and its value
abbrev pub next_value : Given → Graph → List (List Entry) → Work → ℕ → List ℤ
next_value c g stored w v =
    applied c.program w.graph (next_agg c g stored w v) (at (last_values w) v) v

abbrev pub next_values : Given → Graph → List (List Entry) → Work → Lists
next_values c g stored w = each_vertex w.graph (next_value c g stored w)

abbrev pub next_row : Given → Graph → List (List Entry) → Work → Row
next_row c g stored w = zip (next_aggs c g stored w) (next_values c g stored w)

-- the iteration is applied, and the next one begins
abbrev pub settled : Given → Graph → List (List Entry) → Work → Work
settled c g stored w =
    begins c g w.graph (w.iteration + 1) (w.rows ++ next_row c g stored w ∷ [])
