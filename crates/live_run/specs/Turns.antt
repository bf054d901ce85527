-- Which files of questions threads ask, and which are left to be asked.
use Rattle.std.specs.Prelude.{◌≡◌, List, [], ◌∷◌}
use Rattle.std.specs.List.{All}
use Rattle.logbook.specs.Pages.{Book}
use Rattle.run_model.specs.Program.{lanes}
use Rattle.board.specs.Post.{Post}
use Rattle.board.specs.declared.kinds.Origin.{Origin}
use Rattle.live_text.specs.Questions.{AreWithin}
use Rattle.live_text.specs.declared.question.Question.{Question}
use Rattle.live_run.specs.declared.asking.Turn.{Turn}
use Rattle.live_run.specs.declared.asking.Turn.TheVariants.{Away, Later}

-- the desk is one of this board
pub record IsDeskOf (b : Book) (o : Origin) (d : Post) : Type 0 where
  pub book : d.book ≡ b
  pub origin : d.origin ≡ o

abbrev pub AreDesksOf : Book → Origin → List Post → Type 0
AreDesksOf b o desks = All (IsDeskOf b o) desks

-- a thread asks these questions at a desk of this board, or they are to be asked at one
abbrev pub IsTurn : Book → Origin → List Question → Turn → Type 0
IsTurn b o questions (Away child) =
    IsDeskOf b o child.promise.desk.value × (child.promise.questions.value ≡ questions)
IsTurn b o questions (Later desk) =
    IsDeskOf b o desk × AreWithin (lanes desk.origin.program) questions

-- a turn for each file of questions, in order
abbrev pub AllTurns : Book → Origin → List (List Question) → List Turn → Type 0
AllTurns b o [] [] = Unit {0}
AllTurns b o [] (t ∷ ts) = ⊥
AllTurns b o (qs ∷ qss) [] = ⊥
AllTurns b o (qs ∷ qss) (t ∷ ts) = IsTurn b o qs t × AllTurns b o qss ts

-- they are of some board
abbrev pub AreTurns : List (List Question) → List Turn → Type 0
AreTurns questions turns = (b : Book) × (o : Origin) × AllTurns b o questions turns
