-- The desks of a list, each with its file of questions.
use Rattle.std.proofs.Common.{◌≡◌, ◌∙◌, ℕ, zero, suc, ◌<◌, List, [], ◌∷◌, ◌++◌, length, get_or}
use Rattle.std.proofs.Common.{◌+◌, take, refl, sym, ap, subst, arith, Option, Some}
use Rattle.std.proofs.lemmas.Iterator.{YieldsList}
use Rattle.std.specs.Iterator.{Yields}
use Rattle.std.proofs.lemmas.Iterator.Consumers.{YieldsList-turn}
use Rattle.std.proofs.lemmas.List.{take_more}
use Rattle.bolt_base.specs.Graph.{Graph}
use Rattle.bolt_base.specs.declared.edge.Edit.{Edit}
use Rattle.logbook.specs.Pages.{Book}
use Rattle.vertex_expr.specs.declared.program.ProgramEntries.{ProgramEntries}
use Rattle.board.specs.declared.kinds.Origin.{Origin}
use Rattle.live_text.specs.declared.question.Question.{Question}
use Rattle.live_course.specs.declared.made.DeskReplies.{DeskReplies}
use Rattle.live_course.specs.Replied.{AllReplied, IsReplied}
use Rattle.live_desks.specs.declared.asking.Asked.{Asked}
use Rattle.live_desks.specs.Asked.{AllAsked, IsAsked}

-- as many desks as files
pub as_many : (b : Book) (o : Origin) (qss : List (List Question)) (xs : List Asked)
    → AllAsked b o qss xs → length xs ≡ length qss
as_many b o [] [] h = refl
as_many b o [] (x ∷ xs) h = absurd h
as_many b o (qs ∷ qss) [] h = absurd h
as_many b o (qs ∷ qss) (x ∷ xs) h = ap suc (as_many b o qss xs h.1)

-- each was asked the questions of its file
was_asked : (b : Book) (o : Origin) (qss : List (List Question)) (xs : List Asked)
    → AllAsked b o qss xs → (k : ℕ) (x : Asked) → k < length xs → x ≡ get_or xs k x
    → IsAsked b o (get_or qss k []) x
was_asked b o [] [] h k x below is = absurd (omega (arith, below))
was_asked b o [] (y ∷ ys) h k x below is = absurd h
was_asked b o (qs ∷ qss) [] h k x below is = absurd h
was_asked b o (qs ∷ qss) (y ∷ ys) h zero x below is = subst (IsAsked b o qs) (sym is) h.0
was_asked b o (qs ∷ qss) (y ∷ ys) h (suc k) x below is =
    was_asked b o qss ys h.1 k x (omega (arith, below)) is

-- and so was the one that an iteration over them yields next
pub next_was_asked : {S : Type 0} {steps : S → Option Asked → S → Type 0} {s : S} (b : Book)
    (o : Origin) (qss : List (List Question)) (xs : List Asked) → AllAsked b o qss xs
    → YieldsList steps (λ x. x) s xs → (before : List Asked) (t : S) → Yields steps s before t
    → (r : Option Asked) (u : S) (x : Asked) → r ≡ Some x → steps t r u
    → (length before < length qss) × IsAsked b o (get_or qss (length before) []) x
next_was_asked b o qss xs h all before t so_far r u x is step =
    let next = YieldsList-turn all before t so_far r u x is step in
    let many = as_many b o qss xs h in
    (omega (arith, next.0, many), was_asked b o qss xs h (length before) x next.0 next.1)

-- one desk more
replied_behind : (p : ProgramEntries) (g : Graph) (batches : List (List Edit))
    (qss : List (List Question)) (ds : List DeskReplies) (qs : List Question) (d : DeskReplies)
    → AllReplied p g batches qss ds → IsReplied p g batches qs d
    → AllReplied p g batches (qss ++ qs ∷ []) (ds ++ d ∷ [])
replied_behind p g batches [] [] qs d h is = (is, tt)
replied_behind p g batches [] (x ∷ xs) qs d h is = absurd h
replied_behind p g batches (y ∷ ys) [] qs d h is = absurd h
replied_behind p g batches (y ∷ ys) (x ∷ xs) qs d h is =
    (h.0, replied_behind p g batches ys xs qs d h.1 is)

pub replied_more : (p : ProgramEntries) (g : Graph) (batches : List (List Edit))
    (qss : List (List Question)) (k n : ℕ) (ds : List DeskReplies) (d : DeskReplies)
    → k < length qss → n ≡ k + 1 → AllReplied p g batches (take k qss) ds
    → IsReplied p g batches (get_or qss k []) d
    → AllReplied p g batches (take n qss) (ds ++ d ∷ [])
replied_more p g batches qss k n ds d below more h is =
    subst (λ (l : List (List Question)). AllReplied p g batches l (ds ++ d ∷ []))
    (sym (ap (λ (m : ℕ). take m qss) more ∙ take_more qss k [] below))
    (replied_behind p g batches (take k qss) ds (get_or qss k []) d h is)
