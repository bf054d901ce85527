-- One more turn, and one more file that was asked.
use Rattle.std.proofs.Common.{◌≡◌, ℕ, zero, suc, ◌+◌, ◌<◌, ◌≤◌, List, [], ◌∷◌, ◌++◌, length, take}
use Rattle.std.proofs.Common.{get_or, refl, sym, ap, subst, arith, ◌∙◌}
use Rattle.std.proofs.Common.{length-append}
use Rattle.std.specs.List.{All}
use Rattle.std.proofs.Math.Seq.{take-append_seam, take-suc}
use Rattle.std.proofs.lemmas.List.{get_or_at}
use Rattle.std.proofs.lemmas.List.Elements.{All-take}
use Rattle.logbook.specs.Pages.{Book}
use Rattle.board.specs.Post.{Post}
use Rattle.board.specs.declared.kinds.Origin.{Origin}
use Rattle.live_text.specs.declared.question.Question.{Question}
use Rattle.live_desks.specs.declared.asking.Asked.{Asked}
use Rattle.live_desks.specs.Asked.{AllAsked, IsAsked}
use Rattle.live_run.specs.declared.asking.Turn.{Turn}
use Rattle.live_run.specs.Turns.{AllTurns, AreTurns, IsDeskOf, IsTurn}

-- a list up to one more item
take_more : {A : Type 0} (xs : List A) (k : ℕ) (d : A) → k < length xs
    → take k xs ++ get_or xs k d ∷ [] ≡ take (k + 1) xs
take_more xs k d lt =
    let one : suc k ≡ k + 1 = omega arith in
    sym (take-suc xs k d lt) ∙ ap (λ (n : ℕ). take n xs) one

module _ (b : Book) (o : Origin) where
  turns_snoc : (qss : List (List Question)) (ts : List Turn) (qs : List Question) (t : Turn)
      → AllTurns b o qss ts → IsTurn b o qs t → AllTurns b o (qss ++ qs ∷ []) (ts ++ t ∷ [])
  turns_snoc [] [] qs t all new = (new, tt)
  turns_snoc [] (x ∷ ts) qs t all new = absurd all
  turns_snoc (ys ∷ qss) [] qs t all new = absurd all
  turns_snoc (ys ∷ qss) (x ∷ ts) qs t all new = (all.0, turns_snoc qss ts qs t all.1 new)

  -- the turn of the next file
  pub turns_more : (qss : List (List Question)) (k : ℕ) (ts : List Turn) (d : List Question)
      (t : Turn) → k < length qss → AllTurns b o (take k qss) ts → IsTurn b o (get_or qss k d) t
      → AllTurns b o (take (k + 1) qss) (ts ++ t ∷ [])
  turns_more qss k ts d t lt all new =
      subst (λ (l : List (List Question)). AllTurns b o l (ts ++ t ∷ []))
      (take_more qss k d lt) (turns_snoc (take k qss) ts (get_or qss k d) t all new)

  asked_snoc : (qss : List (List Question)) (xs : List Asked) (qs : List Question) (x : Asked)
      → AllAsked b o qss xs → IsAsked b o qs x → AllAsked b o (qss ++ qs ∷ []) (xs ++ x ∷ [])
  asked_snoc [] [] qs x all new = (new, tt)
  asked_snoc [] (y ∷ xs) qs x all new = absurd all
  asked_snoc (ys ∷ qss) [] qs x all new = absurd all
  asked_snoc (ys ∷ qss) (y ∷ xs) qs x all new = (all.0, asked_snoc qss xs qs x all.1 new)

  -- the next file that was asked
  pub asked_more : (qss : List (List Question)) (k : ℕ) (xs : List Asked) (d : List Question)
      (x : Asked) → k < length qss → AllAsked b o (take k qss) xs
      → IsAsked b o (get_or qss k d) x → AllAsked b o (take (k + 1) qss) (xs ++ x ∷ [])
  asked_more qss k xs d x lt all new =
      subst (λ (l : List (List Question)). AllAsked b o l (xs ++ x ∷ []))
      (take_more qss k d lt) (asked_snoc (take k qss) xs (get_or qss k d) x all new)

  pub turns_length : (qss : List (List Question)) (ts : List Turn) → AllTurns b o qss ts
      → length ts ≡ length qss
  turns_length [] [] all = refl
  turns_length [] (t ∷ ts) all = absurd all
  turns_length (qs ∷ qss) [] all = absurd all
  turns_length (qs ∷ qss) (t ∷ ts) all = ap suc (turns_length qss ts all.1)

  -- the turn of a file
  pub turn_at : (qss : List (List Question)) (ts : List Turn) (k : ℕ) (d : List Question)
      (t : Turn) → AllTurns b o qss ts → k < length ts → t ≡ get_or ts k t
      → IsTurn b o (get_or qss k d) t
  turn_at [] [] k d t all lt is = absurd (omega arith)
  turn_at [] (x ∷ ts) k d t all lt is = absurd all
  turn_at (qs ∷ qss) [] k d t all lt is = absurd all
  turn_at (qs ∷ qss) (x ∷ ts) zero d t all lt is = subst (IsTurn b o qs) (sym is) all.0
  turn_at (qs ∷ qss) (x ∷ ts) (suc k) d t all lt is =
      turn_at qss ts k d t all.1 (omega arith) is

-- the next turn, which is of the next file
pub next_turn : (qss : List (List Question)) (ts : List Turn) (n file : ℕ) (t : Turn)
    (qs : List Question) → AreTurns qss ts → (n < length ts) × (t ≡ get_or ts n t) → file ≡ n
    → qs ≡ get_or qss file qs
    → (file < length qss) × ((b : Book) × (o : Origin) × IsTurn b o qs t)
next_turn qss ts n file t qs turns at same is =
    let b = turns.0 in
    let o = turns.1 in
    let long = turns_length b o qss ts turns.2 in
    let lt = at.0 in
    let low : file < length qss = omega (arith, long, lt, same) in
    let here : get_or qss n qs ≡ qs = ap (λ (k : ℕ). get_or qss k qs) (sym same) ∙ sym is in
    let turn : IsTurn b o qs t = subst (λ (x : List Question). IsTurn b o x t) here
    (turn_at b o qss ts n qs t turns.2 at.0 at.1) in
    (low, (b, o, turn))

pub all_last : {A : Type 0} (P : A → Type 0) (xs : List A) (x : A) → All P (xs ++ x ∷ []) → P x
all_last P xs x h =
    subst P (get_or_at xs x [] x (length xs) refl)
    (h (length xs) x (omega (arith, length-append xs (x ∷ []))))

pub all_front : {A : Type 0} (P : A → Type 0) (xs : List A) (x : A) → All P (xs ++ x ∷ [])
    → All P xs
all_front P xs x h =
    subst (All P) (take-append_seam xs (x ∷ []))
    (All-take P (length xs) (xs ++ x ∷ []) h)

-- a turn at a desk of the board
pub turn_of : (d : Post) (b : Book) (o : Origin) (qs : List Question) (t : Turn)
    → IsTurn d.book d.origin qs t → IsDeskOf b o d → IsTurn b o qs t
turn_of d b o qs t is of =
    subst (λ (x : Book). IsTurn x o qs t) of.book
    (subst (λ (x : Origin). IsTurn d.book x qs t) of.origin is)
