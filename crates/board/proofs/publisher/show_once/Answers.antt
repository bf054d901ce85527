use Rattle.std.proofs.Common.{rules, ◌≡◌, [], ◌∷◌, drop, fold, sym, ap, ◌∙◌, subst}
use Rattle.board.specs.declared.face.Face.{Face}
use Rattle.board.specs.declared.kinds.Sheet.{Sheet}
use Rattle.board.specs.Sheets.{sheet_of, changed, IsRight}
use Rattle.board.proofs.Keeping.{rule_turns}
use Rattle.board.proofs.publisher.show_once.Goals as goal

pub publish_as-writer-requires : goal.publish_as-writer-requires
publish_as-writer-requires g c next is =
    let w = c.append.new.self in
    let x : Face = w.desk.shown.value in
    let change = c.args.change in
    let pending : drop w.behind w.log.items ≡ change ∷ [] = search rules in
    let step : sheet_of next ≡ changed (sheet_of x) change = is
    ∙ ap (λ l. fold changed (sheet_of x) l) pending in
    let same : c.args.writer.desk.shown.value
    ≡ x = sym (ap (λ d. d.shown.value) c.append.ensures.desk) in
    let board : (changed (sheet_of x) change).mark
    ≡ (sheet_of x).mark = subst (λ (z : Face). (changed (sheet_of z) change).mark
    ≡ (sheet_of z).mark) same c.requires.board in
    let right : IsRight (sheet_of x)
    → IsRight (changed (sheet_of x) change) = subst
    (λ (z : Face). IsRight (sheet_of z) → IsRight (changed (sheet_of z) change)) same
    c.requires.right in
    rule_turns _ _ x next (ap (λ (s : Sheet). s.mark) step ∙ board)
    (λ r. subst IsRight (sym step) (right r))
