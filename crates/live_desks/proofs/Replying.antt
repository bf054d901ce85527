-- One reply more, on a log that has grown.
use Rattle.std.proofs.Common.{◌≡◌, ◌∙◌, ℕ, ◌≤◌, List, [], ◌∷◌, ◌++◌, length, take, fold, Option}
use Rattle.std.proofs.Common.{Some, None, ◌+◌, ◌<◌, get_or, sym, ap, subst, arith, length-append}
use Rattle.std.specs.Prelude.{IfSome}
use Rattle.std.proofs.lemmas.List.{take-append-le, take_more}
use mathlib.Core.List.{IsPrefix}
use Rattle.run_model.specs.Logs.{Round, with_changes}
use Rattle.run_model.specs.Rows.{Lists, answer}
use Rattle.board.specs.Queries.{means}
use Rattle.board.specs.declared.desk.Reply.{Reply}
use Rattle.board.specs.declared.kinds.Origin.{Origin}
use Rattle.live_text.specs.declared.question.Question.{Question}
use Rattle.live_text.specs.declared.question.Question.TheVariants.{Ask, Unknown}
use Rattle.live_course.specs.Replied.{AreReplies, IsReplyTo, NeverFall}
use Rattle.live_desks.specs.Asked.{HaveReplies}
use Rattle.live_desks.specs.Shown.{answer_at}

-- ---- a longer log
pub no_longer : (old new : List Round) → IsPrefix old new → length old ≤ length new
no_longer old new p =
    let whole = ap length p.1 in
    let parts = length-append old p.0 in
    omega arith

pub shown_before : (o : Origin) (old new : List Round) → IsPrefix old new → (k : ℕ)
    → k ≤ length old → answer_at o old k ≡ answer_at o new k
shown_before o old new p k le =
    ap (fold (λ (values : Lists) (r : Round). with_changes values r.changes)
    (answer o.program o.graph)) (sym (take-append-le k old p.0 le) ∙ ap (take k) p.1)

-- ---- the same replies where the same is shown
reply_stays : (s t : ℕ → Lists) (n m : ℕ) → n ≤ m → ((k : ℕ) → k ≤ n → s k ≡ t k)
    → (q : Question) (r : Option Reply) → IsReplyTo s n q r → IsReplyTo t m q r
reply_stays s t n m le same (Ask query) None h = absurd h
reply_stays s t n m le same (Ask query) (Some r) h =
    (omega (arith, h.0, le), h.1 ∙ ap (means query) (same r.prefix h.0))
reply_stays s t n m le same Unknown None h = tt
reply_stays s t n m le same Unknown (Some r) h = absurd h

pub replies_stay : (s t : ℕ → Lists) (n m : ℕ) → n ≤ m → ((k : ℕ) → k ≤ n → s k ≡ t k)
    → (qs : List Question) (rs : List (Option Reply)) → AreReplies s n qs rs → AreReplies t m qs rs
replies_stay s t n m le same [] [] h = tt
replies_stay s t n m le same [] (r ∷ rs) h = absurd h
replies_stay s t n m le same (q ∷ qs) [] h = absurd h
replies_stay s t n m le same (q ∷ qs) (r ∷ rs) h =
    (reply_stays s t n m le same q r h.0, replies_stay s t n m le same qs rs h.1)

-- ---- one more
replies_behind : (s : ℕ → Lists) (n : ℕ) (qs : List Question) (rs : List (Option Reply))
    (q : Question) (r : Option Reply) → AreReplies s n qs rs → IsReplyTo s n q r
    → AreReplies s n (qs ++ q ∷ []) (rs ++ r ∷ [])
replies_behind s n [] [] q r h is = (is, tt)
replies_behind s n [] (x ∷ xs) q r h is = absurd h
replies_behind s n (y ∷ ys) [] q r h is = absurd h
replies_behind s n (y ∷ ys) (x ∷ xs) q r h is = (h.0, replies_behind s n ys xs q r h.1 is)

-- a reply on all of a log is on no less than those before it
rises : (s : ℕ → Lists) (n m least : ℕ) → n ≤ m → least ≤ n → (qs : List Question)
    (rs : List (Option Reply)) (r : Option Reply) → AreReplies s n qs rs → NeverFall least rs
    → IfSome r (λ x. x.prefix ≡ m) → NeverFall least (rs ++ r ∷ [])
rises s n m least le low qs [] None h f is = tt
rises s n m least le low qs [] (Some r) h f is = (omega (arith, is, le, low), tt)
rises s n m least le low [] (x ∷ xs) r h f is = absurd h
rises s n m least le low (q ∷ qs) (None ∷ xs) r h f is = rises s n m least le low qs xs r h.1 f is
rises s n m least le low (Ask query ∷ qs) (Some x ∷ xs) r h f is =
    (f.0, rises s n m x.prefix le h.0.0 qs xs r h.1 f.1 is)
rises s n m least le low (Unknown ∷ qs) (Some x ∷ xs) r h f is = absurd h.0

pub reply_more : (o : Origin) (old new : List Round) (qs : List Question) (k : ℕ) (d : Question)
    (rs : List (Option Reply)) (r : Option Reply) → k < length qs
    → HaveReplies o old (take k qs) rs → IsPrefix old new
    → IsReplyTo (answer_at o new) (length new) (get_or qs k d) r
    → IfSome r (λ x. x.prefix ≡ length new) → HaveReplies o new (take (k + 1) qs) (rs ++ r ∷ [])
reply_more o old new qs k d rs r below had later is newest =
    let longer = no_longer old new later in
    let same = shown_before o old new later in record {
      replies = subst
          (λ (l : List Question). AreReplies (answer_at o new) (length new) l (rs ++ r ∷ []))
          (sym (take_more qs k d below))
          (replies_behind (answer_at o new) (length new) (take k qs) rs (get_or qs k d) r
          (replies_stay (answer_at o old) (answer_at o new) (length old) (length new) longer same
          (take k qs) rs had.replies) is);
      rising = rises (answer_at o old) (length old) (length new) 0 longer
          (let least : 0 ≤ length old = omega arith in least) (take k qs) rs r had.replies
          had.rising newest;
    }
