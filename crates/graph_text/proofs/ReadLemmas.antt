-- A graph text line by line.
use Rattle.std.proofs.Common.{◌≡◌, ℕ, zero, suc, ◌+◌, ◌-◌, ◌<◌, ◌≤◌, arith, inl, inr, Bool, true}
use Rattle.std.proofs.Common.{false, cond, not, length, take, drop, List, [], ◌∷◌, ◌++◌, map, sym}
use Rattle.std.proofs.Common.{ap, ◌∙◌, subst, refl, Option, Some, None, Result, Ok, Err}
use Rattle.std.proofs.Common.{length-append, length-drop}
use Rattle.std.specs.Prelude.{IfSome, IfErr, IsOk}
use Rattle.std.specs.Option.{option_map}
use Rattle.std.specs.List.{prefix_len, slice_split, onto_first}
use Rattle.std.proofs.lemmas.List.{length-take, drop_all, take_all, append-nil}
use Rattle.bolt_base.specs.declared.limits.Limits.{Limits}
use Rattle.bolt_base.specs.declared.limits.LineCause.{LineCause}
use Rattle.bolt_base.specs.Graph.{Graph}
use Rattle.bolt_io.specs.declared.whole.TheConstants.{MOST_BYTES}
use Rattle.bolt_io.specs.Told.{Told, left, taken_from}
use Rattle.bolt_io.proofs.TakenLemmas.{left-taken_from}
use Rattle.text_lines.specs.declared.line_feed.TheConstants.{BLOCK_BYTES}
use Rattle.lexical.specs.Bytes.{is_line_feed, is_no_line_feed}
use Rattle.lexical.specs.Lines.{lines_by}
use Rattle.text_lines.specs.Lines.{seen, seen_lines, seen_ended_lines, after_lines, lines_len}
use Rattle.text_lines.specs.Feed.{Feed, fresh_feed, ahead, ended_within, ended_ahead, bytes_after}
use Rattle.text_lines.specs.Feed.{rest, readable, answered, MeetsLimit, Advances}
use Rattle.text_lines.specs.Feed.{IsFront}
use Rattle.text_lines.specs.declared.feed.FeedError.{FeedError}
use Rattle.text_lines.specs.declared.feed.FeedError.TheVariants.{Shelf, Turns, Memory}
use Rattle.text_lines.specs.Reading.{StopsAt, IfMoreWanted as FeedIfMoreWanted}
use Rattle.lexical.proofs.Splitting.{IsSomeParts, first_of_split}
use Rattle.text_lines.proofs.FeedLemmas.{no_end, ended_ahead_front, ended_ahead_last}
use Rattle.text_lines.proofs.FeedLemmas.{bytes_after_front}
use Rattle.graph_text.specs.declared.graph.GraphRefusal.{GraphRefusal}
use Rattle.graph_text.specs.declared.graph.GraphRefusal.TheVariants.{Line, Shelf as GraphShelf}
use Rattle.graph_text.specs.declared.graph.GraphRefusal.TheVariants.{Turns as GraphTurns}
use Rattle.graph_text.specs.declared.graph.GraphRefusal.TheVariants.{Memory as GraphMemory}
use Rattle.graph_text.specs.Refusals.{IfLine, IfMoreWanted, IsTooLong, ReadsAsFar, reading_error}
use Rattle.graph_text.specs.Refusals.{refusal_of, read_far_by, graph_far}
use Rattle.graph_text.specs.ReadCode.{EndsInHand, ReadsGoodLines}
use Rattle.graph_text.specs.declared.bad_line.BadLine.{BadLine}
use Rattle.graph_text.specs.GraphText.{Draft, blank, graph_line, cause, taken_in, judged}
use Rattle.graph_text.specs.GraphText.{draft_after, complete, completed, graph_of}
use Rattle.graph_text.specs.GraphText.{EndedLinesAreGood}

abbrev pub Lines : Type 0
Lines = List (Option (List ℕ))

abbrev pub Read : Type 0
Read = Result Draft BadLine

lines_of_told : {X : Type 0} (o : Option X) (f : Lines → Read) (start : Option Lines) (r : Read)
    → option_map (λ _. r) o ≡ option_map f start → IfSome start (λ lines. f lines ≡ r)
lines_of_told o f None r e = tt
lines_of_told None f (Some x) r e = absurd (cc)
lines_of_told (Some y) f (Some x) r e = let same : r ≡ f x = cc in sym same

-- what is read of the lines that are still to come, which are `a`, is what is read of those that
-- were to come before; they
-- begin with the line of number n
module _ (l : Limits) (d : Draft) (n : ℕ) (g : Lines → Read) (start a : Option Lines)
    (so_far : option_map (draft_after l d n) a ≡ option_map g start) where
  -- at the end of the text
  pub read_end : (told : Option Told) → a ≡ option_map (λ _. []) told
      → IfSome start (λ lines. g lines ≡ Ok d)
  read_end told end =
      lines_of_told told g start (Ok d)
      (each told ∙ ap (option_map (draft_after l d n)) (sym end) ∙ so_far)
    where
      each : (o : Option Told) → (let r : Option Read = option_map (λ _. Ok d) o in r)
          ≡ option_map (draft_after l d n) (option_map (λ _. []) o)
      each None = refl
      each (Some t) = refl

  module _ (line : Option (List ℕ)) (more : Option Lines)
      (first : a ≡ option_map (λ lines. line ∷ lines) more) where
    one_line : option_map (λ lines. judged (cause l d (graph_line line)) n
        (draft_after l (taken_in d (graph_line line)) (n + 1) lines)) more ≡ option_map g start
    one_line = each more ∙ ap (option_map (draft_after l d n)) (sym first) ∙ so_far
      where
        each : (o : Option Lines) → option_map
            (λ lines. judged (cause l d (graph_line line)) n
            (draft_after l (taken_in d (graph_line line)) (n + 1) lines)) o
            ≡ option_map (draft_after l d n) (option_map (λ lines. line ∷ lines) o)
        each None = refl
        each (Some x) = refl

    -- at a line that is bad
    pub read_bad : (c : LineCause) → cause l d (graph_line line) ≡ Some c
        → IfSome start (λ lines. g lines ≡ Err (record { line = n; cause = c }))
    read_bad c is =
        lines_of_told more g start (Err (record { line = n; cause = c }))
        (ap (λ (o : Option LineCause). option_map
        (λ lines. judged o n (draft_after l (taken_in d (graph_line line)) (n + 1) lines)) more)
        (sym is) ∙ one_line)

    -- behind a line that is good
    pub read_good : cause l d (graph_line line) ≡ None → (e : Draft)
        → e ≡ taken_in d (graph_line line)
        → option_map (draft_after l e (n + 1)) more ≡ option_map g start
    read_good is e taken =
        ap (λ (x : Draft). option_map (draft_after l x (n + 1)) more) taken
        ∙ ap (λ (o : Option LineCause). option_map
        (λ lines. judged o n (draft_after l (taken_in d (graph_line line)) (n + 1) lines)) more)
        (sym is)
        ∙ one_line

-- a line was found, and nothing that is ahead changed
module _ (l : Limits) (d : Draft) (old told : Option Told) (g f : Feed) (lines : f.lines ≡ g.lines)
  where
    pub all_found : ahead told f ≡ ahead old g
        → option_map (draft_after l d (f.lines + 1)) (ahead told f)
        ≡ option_map (draft_after l d (g.lines + 1)) (ahead old g)
    all_found same =
        ap (option_map (draft_after l d (f.lines + 1))) same
        ∙ ap (λ (n : ℕ). option_map (draft_after l d (n + 1)) (ahead old g)) lines

    pub ended_found : ended_ahead told f ≡ ended_ahead old g
        → option_map (draft_after l d (f.lines + 1)) (ended_ahead told f)
        ≡ option_map (draft_after l d (g.lines + 1)) (ended_ahead old g)
    ended_found same =
        ap (option_map (draft_after l d (f.lines + 1))) same
        ∙ ap (λ (n : ℕ). option_map (draft_after l d (n + 1)) (ended_ahead old g)) lines

-- a line in front that an LF ends, where the slot has as many bytes as are taken at most
pub ended_front_limit : (told : Option Told) (f : Feed) (len whole : ℕ) → IfSome told (MeetsLimit f)
    → IsFront told f len whole → ended_ahead told f
    ≡ option_map (λ more. seen (take len f.pending) ∷ more) (ended_ahead told (answered whole f))
ended_front_limit told f len whole limit (inl ends) =
    ended_ahead_front told f len whole ends MOST_BYTES
ended_front_limit None f len whole limit (inr last) = refl
ended_front_limit (Some t) f len whole limit (inr last) =
    absurd (let few = last.fewer in let size : length (left t f.slot)
    ≡ 0 = ap length last.ended in omega arith)

-- where no line ended in the first bytes, none is ahead in them
pub no_lines_found : (start old told : Option Told) (first g f : Feed) (most slot m n : ℕ)
    → Advances start old slot m → Advances start told slot n
    → ended_within most told f ≡ ended_within most old g
    → (ended_within most start first ≡ option_map (λ _. []) start
    → ended_within most old g ≡ option_map (λ _. []) old)
    → ended_within most start first ≡ option_map (λ _. []) start
    → ended_within most told f ≡ option_map (λ _. []) told
no_lines_found None old told first g f most slot m n before after same so_far none =
    same ∙ so_far none ∙ ap (option_map (λ _. [])) (before.told ∙ sym after.told)
no_lines_found (Some t) old told first g f most slot m n before after same so_far none =
    same ∙ so_far none ∙ ap (option_map (λ _. [])) before.told
    ∙ sym (ap (option_map (λ _. [])) after.told)

-- what stands behind a line more
pub behind_more : (start told : Option Told) (first f now next : Feed) (n k : ℕ) → now ≡ next
    → bytes_after (suc (suc n)) told f ≡ bytes_after (suc n) told next
    → ((j : ℕ) → first.lines + j ≡ f.lines
    → bytes_after (suc (suc n)) told f ≡ bytes_after (suc (suc n + j)) start first)
    → first.lines + k ≡ f.lines + 1 → first.lines ≤ f.lines
    → bytes_after (suc n) told now ≡ bytes_after (suc (n + k)) start first
behind_more start told first f now next n k skipped front so_far count before =
    let same : suc n + (k - 1) ≡ n + k = omega arith in
    ap (bytes_after (suc n) told) skipped ∙ sym front ∙ so_far (k - 1) (omega arith)
    ∙ ap (λ (j : ℕ). bytes_after (suc j) start first) same

-- an error of reading as a refusal
pub wanted_as_refusal : (e : FeedError) (P : Type 0) → FeedIfMoreWanted P e
    → IfMoreWanted P (refusal_of e)
wanted_as_refusal (Shelf fault) P h = h
wanted_as_refusal (Turns n) P h = h
wanted_as_refusal Memory P h = tt

pub reading_error_of : (e : FeedError) → reading_error (refusal_of e) ≡ Some e
reading_error_of (Shelf fault) = refl
reading_error_of (Turns n) = refl
reading_error_of Memory = refl

-- ---- where lines end
-- a bad line is none of the lines before
bad_no_sooner : (l : Limits) (d : Draft) (n : ℕ) (lines : Lines)
    → IfErr (draft_after l d n lines) (λ bad. n ≤ bad.line)
bad_no_sooner l d n [] = tt
bad_no_sooner l d n (line ∷ lines) =
    pick (cause l d (graph_line line)) (draft_after l (taken_in d (graph_line line)) (n + 1) lines)
    (bad_no_sooner l (taken_in d (graph_line line)) (n + 1) lines)
  where
    pick : (o : Option LineCause) (r : Read) → IfErr r (λ bad. n + 1 ≤ bad.line)
        → IfErr (judged o n r) (λ bad. n ≤ bad.line)
    pick None (Ok d) h = tt
    pick None (Err bad) h = omega arith
    pick (Some why) r h = omega arith

-- so where lines were taken in without a bad one
pub no_sooner : (l : Limits) (d : Draft) (n : ℕ) (g : Lines → Read) (start now : Option Lines)
    → option_map (draft_after l d n) now ≡ option_map g start
    → IfSome start (λ lines. IfErr (g lines) (λ bad. n ≤ bad.line))
no_sooner l d n g None now is = tt
no_sooner l d n g (Some x) None is = absurd (cc is)
no_sooner l d n g (Some x) (Some y) is =
    let same : draft_after l d n y ≡ g x = cc is in
    subst (λ (r : Read). IfErr r (λ bad. n ≤ bad.line)) same (bad_no_sooner l d n y)

after_length : (n : ℕ) (xs : List ℕ) → length (after_lines n xs) ≤ length xs
after_length zero xs = omega arith
after_length (suc n) [] = omega arith
after_length (suc n) (b ∷ bs) = pick (is_line_feed b) (after_length n bs) (after_length (suc n) bs)
  where
    pick : (t : Bool) → length (after_lines n bs) ≤ length bs
        → length (after_lines (suc n) bs) ≤ length bs
        → length (cond t (after_lines n bs) (after_lines (suc n) bs)) ≤ suc (length bs)
    pick true h k = omega arith
    pick false h k = omega arith

after_fewer : (i j : ℕ) (xs : List ℕ) → i ≤ j
    → length (after_lines j xs) ≤ length (after_lines i xs)
after_fewer zero j xs h = after_length j xs
after_fewer (suc i) zero xs h = absurd (omega arith)
after_fewer (suc i) (suc j) [] h = omega arith
after_fewer (suc i) (suc j) (b ∷ bs) h =
    pick (is_line_feed b) (after_fewer i j bs (omega arith)) (after_fewer (suc i) (suc j) bs h)
  where
    pick : (t : Bool) → length (after_lines j bs) ≤ length (after_lines i bs)
        → length (after_lines (suc j) bs) ≤ length (after_lines (suc i) bs)
        → length (cond t (after_lines j bs) (after_lines (suc j) bs)) ≤ length
        (cond t (after_lines i bs) (after_lines (suc i) bs))
    pick true one other = one
    pick false one other = other

far_enough : (r : Read) (text : List ℕ) (k n : ℕ) → IfErr r (λ bad. k + 1 ≤ bad.line)
    → n ≤ lines_len (k + 1) text + BLOCK_BYTES → n ≤ length text
    → n ≤ read_far_by (completed r) text + BLOCK_BYTES
far_enough (Ok d) text k n later far all = omega arith
far_enough (Err bad) text k n later far all =
    let h = after_fewer (k + 1) bad.line text later in omega arith

-- a line in front ends in what was taken
pub front_in_hand : (told : Option Told) (f : Feed) (len whole : ℕ) → IsFront told f len whole
    → IfSome told (EndsInHand f)
front_in_hand None f len whole front = tt
front_in_hand (Some t) f len whole front =
    let more = take (MOST_BYTES - f.taken) (left t f.slot) in
    let is : after_lines 1 (rest t f) ≡ drop whole f.pending ++ more =
    some_is (bytes_after_front (Some t) f len whole front 0) in
    let size : length (drop whole f.pending ++ more) ≡ length (drop whole f.pending) + length more =
    length-append (drop whole f.pending) more in
    let same = ap length is in
    omega arith
  where
    some_is : {x y : List ℕ} → (let o : Option (List ℕ) = Some x in o) ≡ Some y → x ≡ y
    some_is e = cc e

-- bytes of which no line ends have no LF
nothing_ended : (bytes : List ℕ) → seen_ended_lines bytes ≡ []
    → prefix_len is_no_line_feed bytes ≡ length bytes
nothing_ended [] is = refl
nothing_ended (b ∷ bs) is = pick (is_line_feed b) (nothing_ended bs) is
  where
    some : IsSomeParts (slice_split is_line_feed bs)
    some = first_of_split is_line_feed bs

    cons_none : {x : Option (List ℕ)} {xs : Lines} → x ∷ xs ≡ [] → ⊥
    cons_none e = cc e

    others_none : (first : List ℕ) (others : List (List ℕ))
        → slice_split is_line_feed bs ≡ first ∷ others
        → map seen (lines_by (λ part. []) ((b ∷ first) ∷ others)) ≡ [] → seen_ended_lines bs ≡ []
    others_none first [] are none =
        ap (λ (l : List (List ℕ)). map seen (lines_by (λ part. []) l)) are
    others_none first (x ∷ xs) are none = absurd (cons_none none)

    pick : (t : Bool) → (seen_ended_lines bs ≡ [] → prefix_len is_no_line_feed bs ≡ length bs)
        → map seen (lines_by (λ part. [])
        (cond t ([] ∷ slice_split is_line_feed bs) (onto_first b (slice_split is_line_feed bs))))
        ≡ [] → cond (not t) (1 + prefix_len is_no_line_feed bs) 0 ≡ suc (length bs)
    pick true so_far none =
        absurd (cons_none (sym (ap (λ (l : List (List ℕ)). map seen
        (lines_by (λ part. []) ([] ∷ l))) some.are) ∙ none))
    pick false so_far none =
        let rest_none =
        others_none some.first some.others some.are
        (sym (ap (λ (l : List (List ℕ)). map seen (lines_by (λ part. []) (onto_first b l)))
        some.are) ∙ none) in
        let h = so_far rest_none in
        omega arith

-- ---- lines that end in the first bytes
module _ (l : Limits) (told : Option Told) (f : Feed) (len whole : ℕ)
    (front : IsFront told f len whole) (d e : Draft) (n most : ℕ) where
  -- a good line in front, and good ones behind it
  pub good_front : cause l d (graph_line (seen (take len f.pending))) ≡ None
      → e ≡ taken_in d (graph_line (seen (take len f.pending)))
      → IfSome (ended_within most told (answered whole f))
      (λ lines. IsOk (draft_after l e (n + 1) lines))
      → IfSome (ended_within most told f) (λ lines. IsOk (draft_after l d n lines))
  good_front good taken behind = each front
    where
      line : Option (List ℕ)
      line = seen (take len f.pending)

      one : (o : Option Lines) → IfSome o (λ lines. IsOk (draft_after l e (n + 1) lines))
          → IfSome (option_map (λ more. line ∷ more) o) (λ lines. IsOk (draft_after l d n lines))
      one None h = tt
      one (Some x) h =
          subst IsOk (ap (λ (y : Draft). draft_after l y (n + 1) x) taken
          ∙ ap (λ (o : Option LineCause). judged o n
          (draft_after l (taken_in d (graph_line line)) (n + 1) x)) (sym good)) h

      none : (o : Option Told) → IfSome (option_map (λ _. []) o)
          (λ lines. IsOk (draft_after l d n lines))
      none None = tt
      none (Some t) = refl

      each : IsFront told f len whole
          → IfSome (ended_within most told f) (λ lines. IsOk (draft_after l d n lines))
      each (inl ends) =
          subst (λ (o : Option Lines). IfSome o (λ lines. IsOk (draft_after l d n lines)))
          (sym (ended_ahead_front told f len whole ends most))
          (one (ended_within most told (answered whole f)) behind)
      each (inr last) =
          subst (λ (o : Option Lines). IfSome o (λ lines. IsOk (draft_after l d n lines)))
          (sym (ended_ahead_last told f len whole last most)) (none told)

pub good_none : (l : Limits) (d : Draft) (n : ℕ) (told : Option Told) (lines : Option Lines)
    → lines ≡ option_map (λ _. []) told → IfSome lines (λ x. IsOk (draft_after l d n x))
good_none l d n None lines is =
    subst (λ (o : Option Lines). IfSome o (λ x. IsOk (draft_after l d n x))) (sym is) tt
good_none l d n (Some t) lines is =
    subst (λ (o : Option Lines). IfSome o (λ x. IsOk (draft_after l d n x))) (sym is) refl

-- where no line ahead ends, none does behind a line in front
pub none_behind : (told : Option Told) (f : Feed) (len whole most : ℕ) → IsFront told f len whole
    → ended_within most told f ≡ option_map (λ _. []) told
    → ended_within most told (answered whole f) ≡ option_map (λ _. []) told
none_behind None f len whole most front is = refl
none_behind (Some t) f len whole most (inl ends) is =
    absurd (some_cons (sym (ended_ahead_front (Some t) f len whole ends most) ∙ is))
  where
    some_cons : {x : Option (List ℕ)} {xs : Lines}
        → (let o : Option Lines = Some (x ∷ xs) in o) ≡ Some [] → ⊥
    some_cons e = cc e
none_behind (Some t) f len whole most (inr last) is =
    let all = last.all in
    ap (λ (x : List ℕ). Some (seen_ended_lines (x ++ take (most - f.taken) (left t f.slot))))
    (drop_all whole f.pending (omega arith))
    ∙ ap (λ (x : List ℕ). Some (seen_ended_lines (take (most - f.taken) x))) last.ended
    ∙ ap (λ (x : List ℕ). Some (seen_ended_lines x)) (take_all (most - f.taken) [] (omega arith))

-- ---- a whole text
module _ (l : Limits) (told : Option Told) (slot : ℕ) (f : Feed) (fresh : f ≡ fresh_feed slot)
    (d : Draft) (empty : d ≡ blank) where
  first_read : (r : Read) → IfSome (ahead told f) (λ lines. draft_after l d (f.lines + 1) lines ≡ r)
      → IfSome told (λ t. draft_after l blank 1 (seen_lines (readable t slot)) ≡ r)
  first_read r h =
      each told (subst (λ (x : Feed). IfSome (ahead told x)
      (λ lines. draft_after l blank (x.lines + 1) lines ≡ r)) fresh
      (subst (λ (x : Draft). IfSome (ahead told f)
      (λ lines. draft_after l x (f.lines + 1) lines ≡ r)) empty h))
    where
      each : (o : Option Told) → IfSome (ahead o (fresh_feed slot))
          (λ lines. draft_after l blank 1 lines ≡ r)
          → IfSome o (λ t. draft_after l blank 1 (seen_lines (readable t slot)) ≡ r)
      each None h = tt
      each (Some t) h = h

  pub graph_read : (e : Draft) (g : Graph) → g ≡ complete e
      → IfSome (ahead told f) (λ lines. draft_after l d (f.lines + 1) lines ≡ Ok e)
      → IfSome told (λ t. graph_of l (readable t slot) ≡ Ok g)
  graph_read e g is h = each told (first_read (Ok e) h)
    where
      each : (o : Option Told) → IfSome o
          (λ t. draft_after l blank 1 (seen_lines (readable t slot)) ≡ Ok e)
          → IfSome o (λ t. graph_of l (readable t slot) ≡ Ok g)
      each None h = tt
      each (Some t) h =
          ap completed h ∙ ap (λ (x : Graph). (let r : Result Graph BadLine = Ok x in r)) (sym is)

  pub graph_bad : (bad : BadLine) → IfSome (ahead told f)
      (λ lines. draft_after l d (f.lines + 1) lines ≡ Err bad)
      → IfSome told (λ t. graph_of l (readable t slot) ≡ Err bad)
  graph_bad bad h = each told (first_read (Err bad) h)
    where
      each : (o : Option Told) → IfSome o
          (λ t. draft_after l blank 1 (seen_lines (readable t slot)) ≡ Err bad)
          → IfSome o (λ t. graph_of l (readable t slot) ≡ Err bad)
      each None h = tt
      each (Some t) h = ap completed h

-- how lines were read from a slot of which nothing had been taken
pub record ReadsFresh (l : Limits) (start told : Option Told) (f h : Feed) (d : Draft) : Type 0
  where
    pub takes : Advances start told f.slot (h.taken - f.taken)
    pub most : h.taken ≤ MOST_BYTES
    pub slot : h.slot ≡ f.slot
    pub held : length h.pending ≤ BLOCK_BYTES
    pub far : ReadsGoodLines l start told f h d

module _ (l : Limits) (t : Told) (told : Option Told) (slot : ℕ) (h : Feed)
    (below : slot < length t.slots) (reads : ReadsFresh l (Some t) told (fresh_feed slot) h blank)
  where
    abbrev after : Told
    after = taken_from slot (h.taken - 0) t

    rest_size : length (take (MOST_BYTES - h.taken) (left after h.slot)) + h.taken
        ≡ length (readable t slot)
    rest_size =
        let is : left after h.slot ≡ drop (h.taken - 0) (left t slot) =
        ap (left after) reads.slot ∙ left-taken_from slot t (h.taken - 0) 0 below in
        let within : h.taken - 0 ≤ length (left t slot) = reads.takes.within in
        let most = reads.most in
        omega (
          arith,
          ap (λ (x : List ℕ). length (take (MOST_BYTES - h.taken) x)) is,
          length-take
              (MOST_BYTES - h.taken) (drop (h.taken - 0) (left t slot)),
          length-drop (h.taken - 0)
              (left t slot),
          length-take MOST_BYTES (left t slot),
        )

    behind_next : length (after_lines 1 (rest after h))
        ≡ length (after_lines (h.lines + 1) (readable t slot))
    behind_next =
        let on =
        subst (λ (o : Option Told). bytes_after 1 o h
        ≡ bytes_after (suc (0 + h.lines)) (Some t) (fresh_feed slot)) reads.takes.told
        (reads.far.bytes_left 0 h.lines (omega arith)) in
        let next : suc (0 + h.lines) ≡ h.lines + 1 = omega arith in
        size_is on ∙ ap (λ (k : ℕ). length (after_lines k (readable t slot))) next
      where
        size_is : {x y : List ℕ} → (let o : Option (List ℕ) = Some x in o) ≡ Some y
            → length x ≡ length y
        size_is e = ap length (cc e)

    pub reads_line : IfSome told (EndsInHand h)
        → lines_len (h.lines + 1) (readable t slot) ≤ h.taken
    reads_line hand =
        let now : EndsInHand h after =
        subst (λ (o : Option Told). IfSome o (EndsInHand h)) reads.takes.told hand in
        omega (arith, now, rest_size, behind_next)

    pub reads_no_further : h.taken ≤ graph_far l (readable t slot) + BLOCK_BYTES
    reads_no_further =
        let all : length (after_lines 1 (rest after h)) ≤ length (rest after h) =
        after_length 1 (rest after h) in
        let size : length (rest after h)
        ≡ length h.pending + length
        (take (MOST_BYTES - h.taken) (left after h.slot)) = length-append h.pending
        (take (MOST_BYTES - h.taken) (left after h.slot)) in
        let held = reads.held in
        let far : h.taken ≤ lines_len (h.lines + 1) (readable t slot) + BLOCK_BYTES =
        omega (arith, all, size, held, rest_size, behind_next) in
        far_enough (draft_after l blank 1 (seen_lines (readable t slot))) (readable t slot) h.lines
        h.taken reads.far.no_sooner far (omega (arith, rest_size))

pub no_further : (l : Limits) (start told : Option Told) (slot : ℕ) (h : Feed)
    → IfSome start (λ t. slot < length t.slots) → ReadsFresh l start told (fresh_feed slot) h blank
    → IfSome start (λ t. h.taken ≤ graph_far l (readable t slot) + BLOCK_BYTES)
no_further l None told slot h below reads = tt
no_further l (Some t) told slot h below reads = reads_no_further l t told slot h below reads

-- and why they were read no further
pub record StopsFresh (l : Limits) (start told : Option Told) (f h : Feed) (d : Draft)
    (e : GraphRefusal) : Type 0 where
  pub stops : IfSome (reading_error e) (StopsAt h)
  pub front : IfLine (λ number _. (number ≡ h.lines + 1) × IfSome told (EndsInHand h)) e
  pub good : IfMoreWanted (IfSome (ended_within h.taken start f)
      (λ lines. IsOk (draft_after l d (f.lines + 1) lines))) e
  pub early : IfLine (λ number cause. IfSome start (MeetsLimit f)
      → IfSome (ended_ahead start f)
      (λ lines. draft_after l d (f.lines + 1) lines
      ≡ Err (record { line = number; cause = cause }))) e
  pub no_lines : ended_within h.taken start f ≡ option_map (λ _. []) start
      → ended_within h.taken told h ≡ option_map (λ _. []) told

pub as_far : (l : Limits) (start told : Option Told) (slot : ℕ) (h : Feed) (e : GraphRefusal)
    → IfSome start (λ t. slot < length t.slots) → ReadsFresh l start told (fresh_feed slot) h blank
    → StopsFresh l start told (fresh_feed slot) h blank e
    → IfSome start (ReadsAsFar l slot h.taken (Err e))
as_far l None told slot h e below reads stops = tt
as_far l (Some t) told slot h (Line number cause) below reads stops =
    (line, λ short. not_short short (stops.early (let long = short.long in omega arith)))
  where
    line : lines_len number (readable t slot) ≤ h.taken
    line =
        subst (λ (k : ℕ). lines_len k (readable t slot) ≤ h.taken) (sym stops.front.0)
        (reads_line l t told slot h below reads stops.front.1)

    not_short : IsTooLong l slot t → draft_after l blank 1 (seen_ended_lines (readable t slot))
        ≡ Err (record { line = number; cause = cause }) → ⊥
    not_short short is =
        let wrong : IsOk (let r : Read = Err (record { line = number; cause = cause }) in r) =
        subst IsOk is short.good in cc wrong
as_far l (Some t) told slot h (GraphShelf fault) below reads stops = (
  subst (λ (k : ℕ). EndedLinesAreGood l (take k (left t slot)))
      (let none : h.taken - 0 ≡ h.taken = omega arith in none) stops.good,
  stops.stops.0,
)
as_far l (Some t) told slot h (GraphTurns n) below reads stops =
    let full = stops.stops.1.all in
    let within : h.taken - 0 ≤ length (left t slot) = reads.takes.within in
    record {
      long = omega arith;
      good =
          subst (λ (k : ℕ). EndedLinesAreGood l (take k (left t slot)))
          (let none : h.taken - 0 ≡ MOST_BYTES = omega arith in none) stops.good;
    }
as_far l (Some t) told slot h GraphMemory below reads stops = λ full none.
    let start_none : ended_within h.taken (Some t) (fresh_feed slot) ≡ Some [] =
    ap (λ (k : ℕ). Some (seen_ended_lines (take k (left t slot))))
    (let same : h.taken - 0 ≡ MOST_BYTES = omega arith in same)
    ∙ ap (λ (x : Lines). Some x) none in
    let now =
    subst (λ (o : Option Told). ended_within h.taken o h ≡ option_map (λ _. []) o) reads.takes.told
    (stops.no_lines start_none) in
    let nothing : h.taken - h.taken ≡ 0 = omega arith in
    let pending : seen_ended_lines h.pending ≡ [] =
    only h.pending _ (h.taken - h.taken) nothing now in
    stops.stops (record { all = full; none = no_end h.pending (nothing_ended h.pending pending) })
  where
    only : (p x : List ℕ) (k : ℕ) → k ≡ 0
        → (let o : Option Lines = Some (seen_ended_lines (p ++ take k x)) in o) ≡ Some []
        → seen_ended_lines p ≡ []
    only p x k is e =
        let same : seen_ended_lines (p ++ take k x) ≡ [] = cc e in
        ap seen_ended_lines (sym (ap (λ (j : ℕ). p ++ take j x) is ∙ append-nil p)) ∙ same

-- facts of a refusal that follow from others
pub line_then : (e : GraphRefusal) (P Q : ℕ → LineCause → Type 0)
    → ((n : ℕ) (c : LineCause) → P n c → Q n c) → IfLine P e → IfLine Q e
line_then (Line n c) P Q k h = k n c h
line_then (GraphShelf fault) P Q k h = tt
line_then (GraphTurns n) P Q k h = tt
line_then GraphMemory P Q k h = tt
