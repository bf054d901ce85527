-- The lines that a live run writes of its entries and its replies.
use Rattle.std.specs.Prelude.{ℕ, ℤ, List, [], ◌++◌, Option, Some, None, codes, ⊤}
use Rattle.board.specs.declared.desk.Reply.{Reply}
use Rattle.board.specs.declared.query.Body.{Body}
use Rattle.board.specs.declared.query.Body.TheVariants.{Value, Total, Count, Prefix, NoVertex}
use Rattle.report_text.specs.Lines.{labelled, accepted_line}
use Rattle.report_text.specs.Refusals.{refused_line}
use Rattle.report_text.specs.Values.{lane_word, lane_words}
use Rattle.round_journal.specs.declared.outcome.Outcome.{Outcome}
use Rattle.round_journal.specs.declared.outcome.Outcome.TheVariants.{Accepted, Refused, Memory}

-- ---- entries
-- the ticket of an entry and its stream, before the words of its batch
abbrev pub entry_words : (ticket stream : ℕ) → List ℕ
entry_words ticket stream =
    labelled (codes "entry ") ticket ++ labelled (codes " stream ") stream ++ codes " "

-- what became of a batch, by its number in its stream; where memory was wanting nothing is written
abbrev pub batch_line : ℕ → Outcome → List ℕ
batch_line batch (Accepted round added removed edges kept visits) =
    accepted_line batch added removed edges kept visits
batch_line batch (Refused line cause) = refused_line batch (record { line = line; cause = cause })
batch_line batch Memory = []

abbrev pub entry_line : (ticket stream batch : ℕ) → Outcome → List ℕ
entry_line ticket stream batch outcome = entry_words ticket stream ++ batch_line batch outcome

-- an outcome that is written
abbrev pub IsDecided : Outcome → Type 0
IsDecided (Accepted round added removed edges kept visits) = ⊤
IsDecided (Refused line cause) = ⊤
IsDecided Memory = ⊥

-- ---- replies
-- the published prefix to which a reply belongs
abbrev pub prefix_word : ℕ → List ℕ
prefix_word prefix = labelled (codes " prefix ") prefix

-- what is replied
abbrev pub body_words : Body → List ℕ
body_words (Value value) = codes " value" ++ lane_words value
body_words (Total total) = codes " total" ++ lane_word total
body_words (Count count) = labelled (codes " atleast ") count
body_words Prefix = []
body_words (NoVertex vertices) = labelled (codes " novertex ") vertices

-- a reply, or none where the question is unknown
abbrev pub reply_words : Option Reply → List ℕ
reply_words None = codes " unknown"
reply_words (Some reply) = prefix_word reply.prefix ++ body_words reply.body

-- the reply of a desk to a question, by their numbers
abbrev pub reply_line : (desk number : ℕ) → Option Reply → List ℕ
reply_line desk number reply =
    labelled (codes "reply ") desk ++ labelled (codes " ") number ++ reply_words reply
    ++ codes "\n"

-- the last reply of a desk: the prefix to which it belongs, and the sum of lane 0
abbrev pub last_line : (desk prefix : ℕ) → ℤ → List ℕ
last_line desk prefix total =
    labelled (codes "last ") desk ++ prefix_word prefix ++ codes " total" ++ lane_word total
    ++ codes "\n"

-- a fact of the sum that is replied
abbrev pub IfTotal : (ℤ → Type 0) → Body → Type 0
IfTotal P (Value value) = ⊤
IfTotal P (Total total) = P total
IfTotal P (Count count) = ⊤
IfTotal P Prefix = ⊤
IfTotal P (NoVertex vertices) = ⊤

-- a sum is replied
abbrev pub IsTotal : Body → Type 0
IsTotal (Value value) = ⊥
IsTotal (Total total) = ⊤
IsTotal (Count count) = ⊥
IsTotal Prefix = ⊥
IsTotal (NoVertex vertices) = ⊥
