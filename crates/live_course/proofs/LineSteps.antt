-- The lines of one item more.
use Rattle.std.proofs.Common.{◌≡◌, ◌∙◌, ℕ, ◌+◌, ◌<◌, List, [], ◌∷◌, ◌++◌, length, take, get_or}
use Rattle.std.proofs.Common.{refl, sym, ap, arith, append_assoc}
use Rattle.std.proofs.lemmas.List.{append-nil, take_more, length-take-le}
use Rattle.std.specs.Prelude.{Option, ◌==◌, if◌then◌else◌}
use Rattle.run_model.specs.Rows.{Lists}
use Rattle.batch_steps.specs.declared.reply.Reply.{Reply as Written}
use Rattle.board.specs.declared.query.Body.{Body}
use Rattle.board.specs.declared.query.Body.TheVariants.{Value, Total, Count, Prefix, NoVertex}
use Rattle.report_text.specs.Lines.{end_line}
use Rattle.report_text.specs.Values.{total_lines}
use Rattle.live_course.specs.Made.{accepted_count, refused_count}
use Rattle.board.specs.declared.desk.Reply.{Reply}
use Rattle.live_text.specs.Lines.{IfTotal, IsTotal, entry_line, last_line, reply_line}
use Rattle.live_course.specs.declared.made.DeskReplies.{DeskReplies}
use Rattle.live_course.specs.declared.made.MadeEntry.{MadeEntry}
use Rattle.live_course.specs.Lines.{desk_lines, entry_lines, last_line_by, last_lines, live_reply}
use Rattle.live_course.specs.Lines.{end_lines, lines_of, reply_lines}

-- lines that are made of items by their numbers, from a first number on
module _ {X : Type 0} (line : ℕ → X → List ℕ) (lines : ℕ → List X → List ℕ)
    (none : (n : ℕ) → lines n [] ≡ [])
    (some : (n : ℕ) (x : X) (xs : List X) → lines n (x ∷ xs) ≡ line n x ++ lines (n + 1) xs) where
  behind : (n : ℕ) (xs : List X) (x : X)
      → lines n (xs ++ x ∷ []) ≡ lines n xs ++ line (n + length xs) x
  behind n [] x =
      some n x [] ∙ ap (λ l. line n x ++ l) (none (n + 1)) ∙ append-nil (line n x)
      ∙ ap (λ (m : ℕ). line m x) (omega arith) ∙ ap (λ l. l ++ line (n + 0) x) (sym (none n))
  behind n (y ∷ ys) x =
      some n y (ys ++ x ∷ []) ∙ ap (λ l. line n y ++ l) (behind (n + 1) ys x)
      ∙ sym (append_assoc (line n y) (lines (n + 1) ys) (line (n + 1 + length ys) x))
      ∙ ap (λ l. l ++ line (n + 1 + length ys) x) (sym (some n y ys))
      ∙ ap (λ (m : ℕ). lines n (y ∷ ys) ++ line m x) (omega arith)

  pub lines_more : (n at : ℕ) (xs : List X) (k : ℕ) (d x : X) (out next : List ℕ) → k < length xs
      → at ≡ n + k → x ≡ get_or xs k d → (before now : List ℕ) → now ≡ before ++ lines n (take k xs)
      → next ≡ line at x → out ≡ now ++ next → out ≡ before ++ lines n (take (k + 1) xs)
  lines_more n at xs k d x out next below place item before now so_far is grown =
      grown ∙ ap (λ l. l ++ next) so_far ∙ append_assoc before (lines n (take k xs)) next
      ∙ ap (λ l. before ++ (lines n (take k xs) ++ l)) is
      ∙ ap (λ y. before ++ (lines n (take k xs) ++ line at y)) item
      ∙ ap (λ (m : ℕ). before ++ (lines n (take k xs) ++ line m (get_or xs k d)))
      (omega (arith, place, length-take-le k xs (omega arith)))
      ∙ ap (λ l. before ++ l) (sym (behind n (take k xs) (get_or xs k d)))
      ∙ ap (λ l. before ++ lines n l) (sym (take_more xs k d below))

pub entries_more : (at : ℕ) (made : List MadeEntry) (k : ℕ) (d e : MadeEntry) (out next : List ℕ)
    → k < length made → at ≡ 1 + k → e ≡ get_or made k d → (before now : List ℕ)
    → now ≡ before ++ entry_lines 1 (take k made)
    → next ≡ entry_line at e.stream e.number e.outcome → out ≡ now ++ next
    → out ≡ before ++ entry_lines 1 (take (k + 1) made)
entries_more =
    lines_more (λ n e. entry_line n e.stream e.number e.outcome) entry_lines (λ n. refl)
    (λ n e es. refl) 1

pub desk_more : (desk at : ℕ) (replies : List (Option Reply)) (k : ℕ) (d r : Option Reply)
    (out next : List ℕ) → k < length replies → at ≡ 1 + k → r ≡ get_or replies k d
    → (before now : List ℕ) → now ≡ before ++ desk_lines desk 1 (take k replies)
    → next ≡ reply_line desk at r → out ≡ now ++ next
    → out ≡ before ++ desk_lines desk 1 (take (k + 1) replies)
desk_more desk =
    lines_more (λ n r. reply_line desk n r) (desk_lines desk) (λ n. refl) (λ n r rs. refl) 1

pub replies_more : (at : ℕ) (desks : List DeskReplies) (k : ℕ) (d x : DeskReplies)
    (out next : List ℕ) → k < length desks → at ≡ 0 + k → x ≡ get_or desks k d
    → (before now : List ℕ) → now ≡ before ++ reply_lines 0 (take k desks)
    → next ≡ desk_lines at 1 x.replies → out ≡ now ++ next
    → out ≡ before ++ reply_lines 0 (take (k + 1) desks)
replies_more =
    lines_more (λ n d. desk_lines n 1 d.replies) reply_lines (λ n. refl) (λ n d ds. refl) 0

pub lasts_more : (at : ℕ) (desks : List DeskReplies) (k : ℕ) (d x : DeskReplies)
    (out next : List ℕ) → k < length desks → at ≡ 0 + k → x ≡ get_or desks k d
    → (before now : List ℕ) → now ≡ before ++ last_lines 0 (take k desks)
    → next ≡ last_line_by at x.last.prefix x.last.body → out ≡ now ++ next
    → out ≡ before ++ last_lines 0 (take (k + 1) desks)
lasts_more =
    lines_more (λ n d. last_line_by n d.last.prefix d.last.body) last_lines (λ n. refl)
    (λ n d ds. refl) 0

-- the line of a last reply, which is a sum
pub last_is : (desk prefix : ℕ) (body : Body) (text : List ℕ) → IsTotal body
    → IfTotal (λ x. text ≡ last_line desk prefix x) body → text ≡ last_line_by desk prefix body
last_is desk prefix (Value value) text total is = absurd total
last_is desk prefix (Total x) text total is = is
last_is desk prefix (Count count) text total is = absurd total
last_is desk prefix Prefix text total is = absurd total
last_is desk prefix (NoVertex vertices) text total is = absurd total

-- ---- the whole text
joined : (o e r l t n : List ℕ)
    → ((((o ++ e) ++ r) ++ l) ++ t) ++ n ≡ (o ++ ((e ++ r) ++ l)) ++ (t ++ n)
joined o e r l t n =
    append_assoc (((o ++ e) ++ r) ++ l) t n
    ∙ ap (λ x. x ++ (t ++ n)) (ap (λ x. x ++ l) (append_assoc o e r) ∙ append_assoc o (e ++ r) l)

pub all_written : (opening : List ℕ) (made : List MadeEntry) (desks : List DeskReplies)
    (width : ℕ) (values : Lists) (t0 t1 t2 t3 t4 t5 : List ℕ) (status a r : ℕ) → t0 ≡ opening
    → t1 ≡ t0 ++ entry_lines 1 made → t2 ≡ t1 ++ reply_lines 0 desks
    → t3 ≡ t2 ++ last_lines 0 desks → t4 ≡ t3 ++ total_lines width values
    → t5 ≡ t4 ++ end_line a r → a ≡ accepted_count made → r ≡ refused_count made
    → status ≡ (if r == 0 then 0 else 1)
    → (let x : Written = record { text = t5; status = status } in x)
    ≡ live_reply opening made desks width values
all_written opening made desks width values t0 t1 t2 t3 t4 t5 status a r e0 e1 e2 e3 e4 e5 ea er
    es =
    let entries = entry_lines 1 made in
    let replies = reply_lines 0 desks in
    let lasts = last_lines 0 desks in
    let totals = total_lines width values in
    let before : List ℕ = (((opening ++ entries) ++ replies) ++ lasts) ++ totals in
    let up_to : t4 ≡ before =
    e4 ∙ ap (λ x. x ++ totals) (e3 ∙ ap (λ x. x ++ lasts) (e2 ∙ ap (λ x. x ++ replies)
    (e1 ∙ ap (λ x. x ++ entries) e0))) in
    let text : t5 ≡ (opening ++ lines_of made desks) ++ end_lines made width values =
    e5 ∙ ap (λ x. x ++ end_line a r) up_to ∙ ap (λ x. before ++ end_line x r) ea
    ∙ ap (λ x. before ++ end_line (accepted_count made) x) er
    ∙ joined opening entries replies lasts totals
    (end_line (accepted_count made) (refused_count made)) in
    ap (λ (x : List ℕ). let w : Written = record { text = x; status = status } in w) text
    ∙ ap (λ (x : ℕ). let w : Written = record {
      text = (opening ++ lines_of made desks) ++ end_lines made width values;
      status = x;
    } in w) (es ∙ ap (λ (x : ℕ). if x == 0 then 0 else 1) er)
