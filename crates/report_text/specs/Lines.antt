-- The lines of numbers that commands write.
use Rattle.std.specs.Prelude.{ℕ, List, ◌++◌, codes, decimal}

-- a number behind its label
abbrev pub labelled : List ℕ → ℕ → List ℕ
labelled label n = label ++ decimal n

-- the entries that are kept, and the edges that were read, to the end of the line
abbrev pub counts : (kept visits : ℕ) → List ℕ
counts kept visits =
    labelled (codes " kept ") kept ++ labelled (codes " visits ") visits ++ codes "\n"

-- an opened graph: its vertices, its edges, the entries that are kept, and the edges that were read
abbrev pub open_line : (vertices edges kept visits : ℕ) → List ℕ
open_line vertices edges kept visits =
    labelled (codes "open vertices ") vertices ++ labelled (codes " edges ") edges
    ++ counts kept visits

-- how many edges a batch added and removed, and how many there are then
abbrev pub edge_counts : (added removed edges : ℕ) → List ℕ
edge_counts added removed edges =
    labelled (codes " accepted added ") added ++ labelled (codes " removed ") removed
    ++ labelled (codes " edges ") edges

-- an accepted batch: its number, how many edges it added and removed, how many there are then, the
-- entries that are kept, and the edges that were read
abbrev pub accepted_line : (number added removed edges kept visits : ℕ) → List ℕ
accepted_line number added removed edges kept visits =
    labelled (codes "batch ") number ++ edge_counts added removed edges ++ counts kept visits

-- the numbers of accepted and of refused batches
abbrev pub end_line : (accepted refused : ℕ) → List ℕ
end_line accepted refused =
    labelled (codes "end accepted ") accepted ++ labelled (codes " refused ") refused ++ codes "\n"

-- a graph on which a program was run once: its vertices, its edges, and the edges that were read
abbrev pub once_line : (vertices edges visits : ℕ) → List ℕ
once_line vertices edges visits =
    labelled (codes "once vertices ") vertices ++ labelled (codes " edges ") edges
    ++ labelled (codes " visits ") visits ++ codes "\n"
