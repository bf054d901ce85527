-- The lines of a live run behind its opening.
use Rattle.std.specs.Prelude.{ℕ, ◌+◌, ◌==◌, if◌then◌else◌, List, [], ◌∷◌, ◌++◌, Option}
use Rattle.run_model.specs.Rows.{Lists}
use Rattle.batch_steps.specs.declared.reply.Reply.{Reply as Written}
use Rattle.board.specs.declared.desk.Reply.{Reply}
use Rattle.board.specs.declared.query.Body.{Body}
use Rattle.board.specs.declared.query.Body.TheVariants.{Value, Total, Count, Prefix, NoVertex}
use Rattle.live_text.specs.Lines.{entry_line, reply_line, last_line}
use Rattle.report_text.specs.Lines.{end_line}
use Rattle.report_text.specs.Values.{total_lines}
use Rattle.live_course.specs.declared.made.DeskReplies.{DeskReplies}
use Rattle.live_course.specs.declared.made.MadeEntry.{MadeEntry}
use Rattle.live_course.specs.Made.{accepted_count, refused_count}

-- a line for each entry, of which the first has this ticket
abbrev pub entry_lines : ℕ → List MadeEntry → List ℕ
entry_lines ticket [] = []
entry_lines ticket (e ∷ es) =
    entry_line ticket e.stream e.number e.outcome ++ entry_lines (ticket + 1) es

-- a line for each question of a desk, of which the first has this number
abbrev pub desk_lines : (desk number : ℕ) → List (Option Reply) → List ℕ
desk_lines desk number [] = []
desk_lines desk number (r ∷ rs) = reply_line desk number r ++ desk_lines desk (number + 1) rs

-- those of each desk, of which the first has this number; questions are counted from 1
abbrev pub reply_lines : ℕ → List DeskReplies → List ℕ
reply_lines desk [] = []
reply_lines desk (d ∷ ds) = desk_lines desk 1 d.replies ++ reply_lines (desk + 1) ds

-- the line of a desk's last reply, which is a sum
abbrev pub last_line_by : (desk prefix : ℕ) → Body → List ℕ
last_line_by desk prefix (Value value) = []
last_line_by desk prefix (Total total) = last_line desk prefix total
last_line_by desk prefix (Count count) = []
last_line_by desk prefix Prefix = []
last_line_by desk prefix (NoVertex vertices) = []

abbrev pub last_lines : ℕ → List DeskReplies → List ℕ
last_lines desk [] = []
last_lines desk (d ∷ ds) =
    last_line_by desk d.last.prefix d.last.body ++ last_lines (desk + 1) ds

-- all of them: tickets are counted from 1, and desks from 0
abbrev pub lines_of : List MadeEntry → List DeskReplies → List ℕ
lines_of made desks = entry_lines 1 made ++ reply_lines 0 desks ++ last_lines 0 desks

-- ---- the end
-- the sum of each lane of the last answer, and how many batches were accepted and refused
abbrev pub end_lines : List MadeEntry → ℕ → Lists → List ℕ
end_lines made width values =
    total_lines width values ++ end_line (accepted_count made) (refused_count made)

-- 1 where a batch was refused, and else 0
abbrev pub status_of : List MadeEntry → ℕ
status_of made = if refused_count made == 0 then 0 else 1

-- a live run whose opening has this text, and whose last answer has these values
abbrev pub live_reply : List ℕ → List MadeEntry → List DeskReplies → ℕ → Lists → Written
live_reply opening made desks width values = record {
  text = opening ++ lines_of made desks ++ end_lines made width values;
  status = status_of made;
}
