-- What keeps the rule over the published face.
use Rattle.std.proofs.Common.{◌≡◌, ◌≢◌, ℕ, zero, suc, ◌≤◌, take, length, arith, true}
use Rattle.std.proofs.Common.{true≢false, List, [], ◌∷◌, ◌++◌, set, refl, sym, ap, ◌∙◌, subst}
use Rattle.std.proofs.Common.{⊎_elim}
use mathlib.Core.Option.{some}
use lib.ListN.{get_elem?}
use Rattle.crossbeam_utils.specs.Register.{Admits, TurnsAt, Forks, Merges}
use Rattle.atomic_table.proofs.Lists.{at_set, at_snoc}
use Rattle.bolt_base.specs.Edits.{after}
use Rattle.bolt_base.specs.Graph.{Graph, vertices}
use Rattle.vertex_expr.specs.declared.program.ProgramEntries.{ProgramEntries}
use Rattle.run_model.specs.Logs.{Round, log_edits, with_changes}
use Rattle.run_model.specs.Program.{lanes}
use Rattle.run_model.specs.Rows.{Lists, answer}
use Rattle.run_model.proofs.LogLemmas.{right_begins}
use Rattle.run_model.proofs.RowLemmas.{values_whole}
use Rattle.board.specs.declared.kinds.Mark.{Mark}
use Rattle.board.specs.declared.kinds.Origin.{Origin}
use Rattle.board.specs.declared.kinds.Sheet.{Sheet}
use Rattle.board.specs.declared.face.Face.{Face}
use Rattle.board.specs.declared.face.Put.{Put}
use Rattle.board.specs.declared.face.Change.TheVariants.{Put as Noted}
use Rattle.board.specs.Log.{shows, round_of, rounds_of, origin_of, origin, IsRightLog, HasRoom}
use Rattle.board.specs.Halls.{with_changes_in}
use Rattle.board.specs.Sheets.{sheet_of, changed, IsRight, IsNext}
use Rattle.board.specs.Rules.{Knows, Agrees, stranger, Looks}
use Rattle.board.proofs.Going.{shows_round_more, right_log_goes_on, room_goes_on}
use Rattle.board.proofs.Flat.{AreWide}
use Rattle.board.proofs.Roomy.{changes_find_room}

known_by_one_more : (m : Mark) (views : List Mark) (v : Mark) → Knows m views
    → (v.known ≡ true → v ≡ m) → Knows m (views ++ v ∷ [])
known_by_one_more m views v h new seat u at =
    ⊎_elim (h seat u)
    (λ (e : v ≡ u). subst (λ (z : Mark). z.known ≡ true → z ≡ m) e new)
    (at_snoc views v u seat at)

known_by_another : (m : Mark) (views : List Mark) (seat : ℕ) (v : Mark) → Knows m views
    → (v.known ≡ true → v ≡ m) → Knows m (set views seat v)
known_by_another m views seat v h new j u e =
    ⊎_elim
    (λ (t : (j ≡ seat) × (v ≡ u)). subst (λ (z : Mark). z.known ≡ true → z ≡ m) t.1 new)
    (λ (t : (j ≢ seat) × (get_elem? views j ≡ some u)). h j u t.1)
    (at_set views seat j v u e)

-- the view of a table that nobody has looked at knows no board
pub knows_none : (m : Mark) → Knows m (stranger ∷ [])
knows_none m =
    known_by_one_more m [] stranger (λ seat v at. absurd (cc at)) (λ e. absurd (true≢false (sym e)))

pub rule_admits : Admits Agrees stranger
rule_admits x views h =
    (h.0, known_by_one_more (sheet_of x).mark views stranger h.1 (λ e. absurd (true≢false (sym e))))

-- the step to a face y of the same board
pub rule_turns : (seat : ℕ) (v : Mark) (x y : Face) → ((sheet_of y).mark ≡ (sheet_of x).mark)
    → (IsRight (sheet_of x) → IsRight (sheet_of y)) → TurnsAt Agrees seat v x y Looks
rule_turns seat v x y here right views h at =
    let m = (sheet_of y).mark in
    let old : Knows m views = subst (λ (z : Mark). Knows z views) (sym here) h.1 in (
      m,
      (right h.0, known_by_another m views seat m old (λ _. refl)),
      (right h.0, refl, old seat v at),
    )

pub rule_looks : (seat : ℕ) (v : Mark) (x : Face) → TurnsAt Agrees seat v x x Looks
rule_looks seat v x = rule_turns seat v x x refl (λ r. r)

pub rule_forks : (seat : ℕ) (v : Mark) → Forks Agrees seat v v v
rule_forks seat v x views h at =
    let m = (sheet_of x).mark in (
      h.0,
      known_by_one_more m (set views seat v) v
          (known_by_another m views seat v h.1 (h.1 seat v at)) (h.1 seat v at),
    )

pub rule_merges : (seat : ℕ) (v : Mark) (other : ℕ) (w : Mark)
    → Merges Agrees seat v other w w stranger
rule_merges seat v other w x views h at apart there =
    let m = (sheet_of x).mark in
    let known : w.known ≡ true → w ≡ m =
    ⊎_elim (λ (t : (other ≡ seat) × (w ≡ w)). absurd (apart t.0))
    (λ (t : (other ≢ seat) × (get_elem? views other ≡ some w)). h.1 other w t.1)
    (at_set views seat other w w there) in (
      h.0,
      known_by_another m (set views seat w) other stranger
          (known_by_another m views seat w h.1 known) (λ e. absurd (true≢false (sym e))),
    )

-- each value of an answer has the program's lanes
pub answers_are_wide : (p : ProgramEntries) (g : Graph) (width : ℕ) (values : Lists)
    → width ≡ lanes p → values ≡ answer p g → AreWide width values
answers_are_wide p g width values wide is =
    subst (AreWide width) (sym is)
    (λ k d h. (values_whole p g p.rounds).each_lane k d h ∙ sym wide)

-- the sheet after a note whose round follows
pub note_keeps_right : (s : Sheet) (p : Put) → IsNext s p → IsRight s
    → IsRight (changed s (Noted p))
note_keeps_right s p next right =
    let r = round_of p.note in
    let o = s.mark.origin in
    let log = rounds_of s.log in
    let same : origin_of p.front.seen.log ≡ o = ap (λ (m : Mark). m.origin) next.mark in
    let now = after o.graph (log_edits (take (length log) log)) in
    let is : shows o log ≡ answer o.program now =
    right.log (length log) (let le : length log ≤ length log = omega arith in le) in
    let before : AreWide s.width (shows o log) =
    answers_are_wide o.program now s.width (shows o log) right.width is in
    let behind : AreWide s.width (with_changes (shows o log) r.changes) =
    answers_are_wide o.program _ s.width _ right.width next.right in
    let answer_ : with_changes_in s.width s.room s.answer p.note.changes
    ≡ shows o (log ++ r ∷ []) =
    ap (λ (xs : Lists). with_changes_in s.width s.room xs p.note.changes) right.answer
    ∙ changes_find_room s.width s.room p.note.changes (shows o log) before behind next.room
    ∙ sym (shows_round_more o log r) in
    let move : (Q : Origin → List Round → Type 0) → Q o (log ++ r ∷ [])
    → Q (origin_of p.front.seen.log) (rounds_of p.front.seen.log) =
    λ Q h. subst (λ (q : Origin). Q q (rounds_of p.front.seen.log)) (sym same)
    (subst (Q o) (sym next.log) h) in
    record {
      answer = move
          (λ q l. with_changes_in s.width s.room s.answer p.note.changes ≡ shows q l) answer_;
      log = move IsRightLog (right_log_goes_on o log r right.log next.right);
      room = move (λ q l. HasRoom q s.room l)
          (room_goes_on o log r s.room right.room next.room);
      width = right.width ∙ ap (λ (q : Origin). lanes q.program) (sym same);
    }

room_at_start : (o : Origin) (room : ℕ) → length (answer o.program o.graph) ≤ room
    → HasRoom o room []
room_at_start o room few zero le = few
room_at_start o room few (suc k) le = absurd (omega arith)

-- the sheet of a new board
pub begins_right : (p : ProgramEntries) (g : Graph) (s : Sheet) → s.mark.origin ≡ origin p g
    → rounds_of s.log ≡ [] → s.answer ≡ answer p g → vertices g ≤ s.room → s.width ≡ lanes p
    → IsRight s
begins_right p g s here none start fits wide =
    let whole = (values_whole p g p.rounds).each_vertex in
    let few : length (answer p g) ≤ s.room = omega (arith, whole, fits) in
    let move : (Q : Origin → List Round → Type 0) → Q (origin p g) []
    → Q s.mark.origin (rounds_of s.log) =
    λ Q h. subst (λ (q : Origin). Q q (rounds_of s.log)) (sym here)
    (subst (Q (origin p g)) (sym none) h) in
    record {
      answer = move (λ q l. s.answer ≡ shows q l) start;
      log = move IsRightLog (right_begins p g);
      room = move (λ q l. HasRoom q s.room l) (room_at_start (origin p g) s.room few);
      width = wide ∙ ap (λ (q : Origin). lanes q.program) (sym here);
    }

pub start_fits : (p : ProgramEntries) (g : Graph) (start : Lists) (room : ℕ) → start ≡ answer p g
    → vertices g ≤ room → length start ≤ room
start_fits p g start room is fits =
    let whole = (values_whole p g p.rounds).each_vertex in
    omega (arith, ap length is, whole, fits)
