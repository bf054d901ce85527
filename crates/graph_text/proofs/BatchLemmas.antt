-- A stream line by line.
use Rattle.std.proofs.Common.{◌≡◌, ◌⊎◌, inl, inr, ℕ, ◌+◌, ◌-◌, Bool, false, cond, List}
use Rattle.std.proofs.Common.{[], ◌∷◌, ◌++◌, map, take, refl, sym, ap, ◌∙◌, arith, Option}
use Rattle.std.proofs.Common.{Some, None}
use Rattle.std.specs.Prelude.{IfSome, IfNone, MatchOption}
use Rattle.std.specs.Option.{option_map}
use Rattle.std.specs.List.{onto_first}
use Rattle.bolt_io.specs.declared.whole.TheConstants.{MOST_BYTES}
use Rattle.bolt_io.specs.Told.{Told, left}
use Rattle.text_lines.specs.Lines.{seen, seen_ended_lines}
use Rattle.text_lines.specs.Feed.{Feed, ahead, ended_within, answered, MeetsLimit, IsAtEnd, IsFront}
use Rattle.text_lines.specs.Feed.{IsLastLine, Advances}
use Rattle.std.proofs.lemmas.List.{take_all}
use Rattle.text_lines.proofs.FeedLemmas.{ahead_end, ended_ahead_front, ended_ahead_last}
use Rattle.graph_text.specs.declared.batch_text.BatchText.{BatchText}
use Rattle.graph_text.specs.declared.batch_text.OpenBatch.{OpenBatch}
use Rattle.graph_text.specs.declared.stream_lines.StreamLine.{StreamLine}
use Rattle.graph_text.specs.declared.stream_lines.StreamLine.TheVariants.{Empty, Edit as EditLine}
use Rattle.graph_text.specs.declared.stream_lines.StreamLine.TheVariants.{Commit, Unknown}
use Rattle.graph_text.specs.StreamText.{stream_line, is_commit, parts_of, batches_by, unfinished}
use Rattle.graph_text.specs.StreamText.{no_batch}
use Rattle.graph_text.specs.OpenCode.{IsPaired, unopened, with_line, committed}
use Rattle.graph_text.specs.BatchCode.{batches_ahead, batches_within, NoBatchEnds, IsBatchStuck}
use Rattle.graph_text.specs.BatchCode.{IsFirstEnded}
use Rattle.lexical.proofs.Splitting.{first_of_split}
use Rattle.graph_text.proofs.OpenLemmas.{batches_on, batches_on_none, batches_on_end}
use Rattle.graph_text.proofs.OpenLemmas.{batches_on_commit, batches_on_more}

abbrev pub Lines : Type 0
Lines = List (Option (List ℕ))

is_no_commit : (x : StreamLine) → (x ≡ Commit → ⊥) → is_commit x ≡ false
is_no_commit Empty other = refl
is_no_commit (EditLine e) other = refl
is_no_commit Commit other = absurd (other refl)
is_no_commit Unknown other = refl

-- the batches of some lines, of which the first is the line of number n, where an open batch has
-- the lines before them
module _ (last : Option ℕ → List BatchText) where
  abbrev pub open_on : OpenBatch → ℕ → Option Lines → Option (List BatchText)
  open_on b n lines = option_map (λ l. batches_on last b n (parts_of l)) lines

  abbrev pub closed_on : ℕ → Option Lines → Option (List BatchText)
  closed_on n lines = option_map (λ l. batches_by last n (parts_of l)) lines

  pub open_first : (n : ℕ) (lines : Option Lines) → open_on unopened n lines ≡ closed_on n lines
  open_first n None = refl
  open_first n (Some l) = ap (λ (x : List BatchText). Some x) (batches_on_none last n (parts_of l))

  pub open_end : {T : Type 0} (b : OpenBatch) (n : ℕ) (told : Option T) (lines : Option Lines)
      → IsPaired b → lines ≡ option_map (λ _. []) told
      → open_on b n lines ≡ option_map (λ _. last b.first_line) told
  open_end b n None lines paired is = ap (open_on b n) is
  open_end b n (Some t) lines paired is =
      ap (open_on b n) is ∙ ap (λ (x : List BatchText). Some x) (batches_on_end last b n paired)

  module _ (b : OpenBatch) (n : ℕ) (line : Option (List ℕ)) (lines more : Option Lines)
      (paired : IsPaired b) (first : lines ≡ option_map (λ l. line ∷ l) more) where
    -- at a `commit`
    pub open_commit : stream_line line ≡ Commit
        → open_on b n lines ≡ option_map (λ l. committed b n ∷ l) (closed_on (n + 1) more)
    open_commit commit = ap (open_on b n) first ∙ each more
      where
        each : (o : Option Lines) → open_on b n (option_map (λ l. line ∷ l) o)
            ≡ option_map (λ l. committed b n ∷ l) (closed_on (n + 1) o)
        each None = refl
        each (Some l) =
            let parts = parts_of l in
            ap (λ (t : Bool). Some (batches_on last b n
            (cond t ([] ∷ parts) (onto_first (stream_line line) parts)))) (ap is_commit commit)
            ∙ ap (λ (x : List BatchText). Some x)
            (batches_on_commit last b n parts paired (first_of_split is_commit (map stream_line l)))

    -- at another line
    pub open_line : (c : OpenBatch) → (stream_line line ≡ Commit → ⊥)
        → c ≡ with_line b n (stream_line line) → open_on c (n + 1) more ≡ open_on b n lines
    open_line c other taken =
        ap (λ (x : OpenBatch). open_on x (n + 1) more) taken ∙ sym (each more)
        ∙ ap (open_on b n) (sym first)
      where
        each : (o : Option Lines) → open_on b n (option_map (λ l. line ∷ l) o)
            ≡ open_on (with_line b n (stream_line line)) (n + 1) o
        each None = refl
        each (Some l) =
            let parts = parts_of l in
            ap (λ (t : Bool). Some (batches_on last b n
            (cond t ([] ∷ parts) (onto_first (stream_line line) parts))))
            (is_no_commit (stream_line line) other)
            ∙ ap (λ (x : List BatchText). Some x)
            (sym (batches_on_more last b n (stream_line line) parts paired other
            (first_of_split is_commit (map stream_line l))))

-- a reader began at one feed and has come to another, with an open batch: the batches that end in
-- the first bytes are those that
-- are ahead, or a last line without an end was passed, and none had ended
pub record IsPast (start : Option Told) (first : Feed) (most : ℕ) : Type 0 where
  pub none : batches_within most start first ≡ option_map (λ t. []) start
  pub short : IfSome start (λ t. ¬ MeetsLimit first t)

abbrev pub EndsAhead : Option Told → Option Told → Feed → Feed → OpenBatch → ℕ → Type 0
EndsAhead start told first f b most =
    (open_on no_batch b (f.lines + 1) (ended_within most told f) ≡ batches_within most start first)
    ⊎ IsPast start first most

-- a shelf tells its bytes all along or never
pub told_alike : {X : Type 0} (x : X) (start told : Option Told) (slot n : ℕ)
    → Advances start told slot n → option_map (λ _. x) told ≡ option_map (λ _. x) start
told_alike x None told slot n moved = ap (option_map (λ _. x)) moved.told
told_alike x (Some t) told slot n moved = ap (option_map (λ _. x)) moved.told

-- at its end a feed has no line ahead that ends
pub ended_at_end : (told : Option Told) (f : Feed) → IsAtEnd told f → (most : ℕ)
    → ended_within most told f ≡ option_map (λ _. []) told
ended_at_end None f end most = refl
ended_at_end (Some t) f end most =
    ap (λ (l : List ℕ). Some (seen_ended_lines (l ++ take (most - f.taken) (left t f.slot)))) end.0
    ∙ ap (λ (l : List ℕ). Some (seen_ended_lines (take (most - f.taken) l))) end.1
    ∙ ap (λ (l : List ℕ). Some (seen_ended_lines l)) (take_all (most - f.taken) [] (omega arith))

module _ (start told : Option Told) (first f : Feed) (b : OpenBatch) (most : ℕ)
    (paired : IsPaired b) (alike : option_map (λ _. []) told
    ≡ (let o : Option (List BatchText) = option_map (λ _. []) start in o)) where
  -- where no line ahead ends, no batch had ended
  pub ends_none : ended_within most told f ≡ option_map (λ _. []) told
      → EndsAhead start told first f b most
      → batches_within most start first ≡ option_map (λ t. []) start
  ends_none is (inl e) =
      sym e ∙ open_end no_batch b (f.lines + 1) told (ended_within most told f) paired is ∙ alike
  ends_none is (inr past) = past.none

  module _ (len whole : ℕ) (short : IsLastLine told f len whole
      → IfSome start (λ t. ¬ MeetsLimit first t)) where
    -- a line in front that ends no batch
    pub ends_more : IsFront told f len whole → (c : OpenBatch)
        → (stream_line (seen (take len f.pending)) ≡ Commit → ⊥)
        → c ≡ with_line b (f.lines + 1) (stream_line (seen (take len f.pending)))
        → EndsAhead start told first f b most → EndsAhead start told first (answered whole f) c most
    ends_more front c other taken (inr past) = inr past
    ends_more (inl ends) c other taken (inl e) =
        inl (open_line no_batch b (f.lines + 1) (seen (take len f.pending))
        (ended_within most told f) (ended_within most told (answered whole f)) paired
        (ended_ahead_front told f len whole ends most) c other taken ∙ e)
    ends_more (inr last) c other taken (inl e) =
        inr (record {
          none = ends_none (ended_ahead_last told f len whole last most) (inl e);
          short = short last;
        })

    -- one that does
    pub ends_commit : IsFront told f len whole → stream_line (seen (take len f.pending)) ≡ Commit
        → EndsAhead start told first f b most
        → IsFirstEnded (committed b (f.lines + 1)) most start told first (answered whole f)
    ends_commit front commit (inr past) = inl past.none
    ends_commit (inl ends) commit (inl e) =
        inr (sym e ∙ open_commit no_batch b (f.lines + 1) (seen (take len f.pending))
        (ended_within most told f) (ended_within most told (answered whole f)) paired
        (ended_ahead_front told f len whole ends most) commit)
    ends_commit (inr last) commit (inl e) =
        inl (ends_none (ended_ahead_last told f len whole last most) (inl e))

-- before the first line
pub ends_fresh : (start : Option Told) (first : Feed) (b : OpenBatch) (most : ℕ) → b ≡ unopened
    → EndsAhead start start first first b most
ends_fresh start first b most is =
    inl (ap (λ (x : OpenBatch). open_on no_batch x (first.lines + 1)
    (ended_within most start first)) is
    ∙ open_first no_batch (first.lines + 1) (ended_within most start first))

-- a line was found, and nothing that is ahead changed
pub ends_found : (start old told : Option Told) (first g f : Feed) (b : OpenBatch) (most : ℕ)
    → f.lines ≡ g.lines → ended_within most told f ≡ ended_within most old g
    → EndsAhead start old first g b most → EndsAhead start told first f b most
ends_found start old told first g f b most lines same (inl e) =
    inl (ap (open_on no_batch b (f.lines + 1)) same
    ∙ ap (λ (n : ℕ). open_on no_batch b (n + 1) (ended_within most old g)) lines ∙ e)
ends_found start old told first g f b most lines same (inr past) = inr past

pub open_found : (old told : Option Told) (g f : Feed) (b : OpenBatch) → f.lines ≡ g.lines
    → ahead told f ≡ ahead old g → open_on unfinished b (f.lines + 1) (ahead told f)
    ≡ open_on unfinished b (g.lines + 1) (ahead old g)
open_found old told g f b lines same =
    ap (open_on unfinished b (f.lines + 1)) same
    ∙ ap (λ (n : ℕ). open_on unfinished b (n + 1) (ahead old g)) lines

-- at the end of the text
module _ (start told : Option Told) (first f : Feed) (b : OpenBatch) (paired : IsPaired b)
    (end : IsAtEnd told f) (read : open_on unfinished b (f.lines + 1) (ahead told f)
    ≡ batches_ahead start first) where
  last_batches : batches_ahead start first ≡ option_map (λ _. unfinished b.first_line) told
  last_batches =
      sym read ∙ open_end unfinished b (f.lines + 1) told (ahead told f) paired
      (ahead_end told f end)

  none_ahead : batches_ahead told f ≡ option_map (λ _. []) told
  none_ahead =
      sym (open_first unfinished (f.lines + 1) (ahead told f))
      ∙ open_end unfinished unopened (f.lines + 1) told (ahead told f)
      (record { lines = refl; few = omega arith }) (ahead_end told f end)

  -- a batch that has no end is the last one
  pub batch_at_end : (r : Option BatchText)
      → MatchOption r (unfinished b.first_line ≡ []) (λ x. unfinished b.first_line ≡ x ∷ [])
      → IfSome r (λ x. batches_ahead start first
      ≡ option_map (λ rest. x ∷ rest) (batches_ahead told f))
  batch_at_end None is = tt
  batch_at_end (Some x) is =
      last_batches ∙ ap (λ (l : List BatchText). option_map (λ _. l) told) is ∙ each told
      ∙ ap (option_map (λ rest. x ∷ rest)) (sym none_ahead)
    where
      each : (o : Option Told) → option_map (λ _. x ∷ []) o
          ≡ option_map (λ rest. x ∷ rest) (option_map (λ _. []) o)
      each None = refl
      each (Some t) = refl

  pub none_at_end : (r : Option BatchText)
      → MatchOption r (unfinished b.first_line ≡ []) (λ x. unfinished b.first_line ≡ x ∷ [])
      → IfNone r (batches_ahead start first ≡ option_map (λ _. []) told)
  none_at_end None is = last_batches ∙ ap (λ (l : List BatchText). option_map (λ _. l) told) is
  none_at_end (Some x) is = tt

-- no batch ends in the first bytes
pub no_batch_ends : (start : Option Told) (first : Feed) (most : ℕ)
    → batches_within most start first ≡ option_map (λ t. []) start
    → IfSome start (NoBatchEnds most first)
no_batch_ends None first most is = tt
no_batch_ends (Some t) first most is = cc

pub batch_stuck : (start : Option Told) (first : Feed) → IfSome start (MeetsLimit first)
    → IfSome start (NoBatchEnds MOST_BYTES first) → IfSome start (IsBatchStuck first)
batch_stuck None first limit none = tt
batch_stuck (Some t) first limit none = record { limit = limit; none = none }

pub short_not_stuck : (start : Option Told) (first : Feed)
    → IfSome start (λ t. ¬ MeetsLimit first t) → IfSome start (λ t. ¬ IsBatchStuck first t)
short_not_stuck None first not = tt
short_not_stuck (Some t) first not = λ stuck. not stuck.limit

-- where a batch ended the next one was to be had
pub batch_not_stuck : (start told : Option Told) (first f : Feed) (b : OpenBatch) (len whole : ℕ)
    → IsPaired b → (IsLastLine told f len whole → IfSome start (λ t. ¬ MeetsLimit first t))
    → IsFront told f len whole
    → stream_line (seen (take len f.pending)) ≡ Commit → EndsAhead start told first f b MOST_BYTES
    → IfSome start (λ t. ¬ IsBatchStuck first t)
batch_not_stuck start told first f b len whole paired short front commit (inr past) =
    short_not_stuck start first past.short
batch_not_stuck start told first f b len whole paired short (inr last) commit (inl e) =
    short_not_stuck start first (short last)
batch_not_stuck start told first f b len whole paired short (inl ends) commit (inl e) =
    each start (sym e ∙ open_commit no_batch b (f.lines + 1) (seen (take len f.pending))
    (ended_within MOST_BYTES told f) (ended_within MOST_BYTES told (answered whole f)) paired
    (ended_ahead_front told f len whole ends MOST_BYTES) commit)
  where
    each : (a : Option Told) → batches_within MOST_BYTES a first
        ≡ option_map (λ l. committed b (f.lines + 1) ∷ l)
        (closed_on no_batch (f.lines + 1 + 1) (ended_within MOST_BYTES told (answered whole f)))
        → IfSome a (λ t. ¬ IsBatchStuck first t)
    each None is = tt
    each (Some t) is =
        λ stuck. one (closed_on no_batch (f.lines + 1 + 1)
        (ended_within MOST_BYTES told (answered whole f))) is stuck.none
      where
        some_is : {x y : List BatchText} → (let o : Option (List BatchText) = Some x in o) ≡ Some y
            → x ≡ y
        some_is e = cc e

        one : (o : Option (List BatchText))
            → batches_within MOST_BYTES (Some t) first
            ≡ option_map (λ l. committed b (f.lines + 1) ∷ l) o → NoBatchEnds MOST_BYTES first t → ⊥
        one None is none = cc is
        one (Some l) is none =
            let wrong : (let xs : List BatchText = [] in xs) ≡ committed b (f.lines + 1) ∷ l =
            sym none ∙ some_is is in
            cc wrong
