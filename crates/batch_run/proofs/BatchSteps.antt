-- How the reply to a stream is written, batch after batch.
use Rattle.bolt_io.specs.declared.whole.TheConstants.{MOST_BYTES}
use Rattle.std.specs.Prelude.{◌≡◌, ◌⊎◌, ℕ, ◌-◌, ◌≤◌, List, [], ◌∷◌, ◌++◌, length, take}
use Rattle.std.specs.Prelude.{Option, Some, None, Result, Ok, Err, IfSome, IfErr}
use Rattle.std.specs.Option.{option_map}
use Rattle.std.proofs.Common.{refl, sym, ◌∙◌, ap, subst, arith, inl, inr, append_assoc}
use Rattle.std.proofs.lemmas.List.{append-nil, take-take, length-take}
use Rattle.bolt_io.specs.Told.{Told, left, taken_from}
use Rattle.bolt_io.specs.Written.{Wrote, WrotePart}
use Rattle.bolt_io.proofs.WrittenLemmas.{Wrote-then, Wrote-none, WrotePart-then, WrotePart-more}
use Rattle.bolt_io.proofs.WrittenLemmas.{WrotePart-none}
use Rattle.text_lines.specs.declared.feed.FeedError.{FeedError}
use Rattle.text_lines.specs.declared.feed.FeedError.TheVariants.{Shelf as FeedShelf}
use Rattle.text_lines.specs.declared.feed.FeedError.TheVariants.{Turns as FeedTurns}
use Rattle.text_lines.specs.declared.feed.FeedError.TheVariants.{Memory as FeedMemory}
use Rattle.text_lines.specs.Feed.{Feed, Advances, readable}
use Rattle.text_lines.specs.Reading.{Blames, IfTurns, IfMoreWanted, StopsAt}
use Rattle.graph_text.specs.declared.batch_text.BatchText.{BatchText}
use Rattle.graph_text.specs.BatchCode.{batches_ahead, batches_within, NoBatchEnds, IsFirstEnded}
use Rattle.graph_text.specs.StreamText.{batches}
use Rattle.batch_steps.specs.declared.reply.Reply.{Reply}
use Rattle.batch_steps.specs.Steps.{Steps, prepend, rest_reply, batch_texts}
use Rattle.batch_steps.specs.Ended.{ended_batches}
use Rattle.command_files.specs.declared.stop.Stop.{Stop}
use Rattle.command_files.specs.declared.stop.Stop.TheVariants.{ShelfFailed, TooLong}
use Rattle.command_files.specs.Replied.{Gives, Leads}
use Rattle.command_files.specs.Stops.{IsOfWriting, ShelfCause, feed_stop}
use Rattle.batch_run.specs.Ahead.{reply_ahead, WroteUpTo, texts_within, KeptUp, IsReadStop}
use Rattle.batch_run.specs.Ahead.{Streamed, StandsAt}

module _ {S : Type 0} (steps : Steps S) where
  -- a batch, and then the others
  pub batch_ahead : (told later : Option Told) (f g : Feed) (s : S) (b : BatchText)
      → batches_ahead told f ≡ option_map (λ rest. b ∷ rest) (batches_ahead later g)
      → reply_ahead steps s told f ≡ option_map (prepend (steps.text s b))
      (reply_ahead steps (steps.next s b) later g)
  batch_ahead told later f g s b is =
      ap (option_map (rest_reply steps s)) is ∙ each (batches_ahead later g)
    where
      each : (o : Option (List BatchText))
          → option_map (rest_reply steps s) (option_map (λ rest. b ∷ rest) o)
          ≡ option_map (prepend (steps.text s b)) (option_map (rest_reply steps (steps.next s b)) o)
      each None = refl
      each (Some bs) = refl

  -- no batch more
  pub none_ahead : (told later : Option Told) (f : Feed) (s : S)
      → batches_ahead told f ≡ option_map (λ _. []) later
      → reply_ahead steps s told f ≡ option_map (λ _. steps.end s) later
  none_ahead told later f s is = ap (option_map (rest_reply steps s)) is ∙ each later
    where
      each : (o : Option Told) → option_map (rest_reply steps s) (option_map (λ _. []) o)
          ≡ option_map (λ _. steps.end s) o
      each None = refl
      each (Some t) = refl

-- none of a shelf's batches, or one and then others, as texts
none_of : {S : Type 0} (steps : Steps S) (s : S) (bs : Option (List BatchText)) (told : Option Told)
    → bs ≡ option_map (λ _. []) told
    → option_map (batch_texts steps s) bs ≡ option_map (λ _. []) told
none_of steps s bs told is = ap (option_map (batch_texts steps s)) is ∙ each told
  where
    each : (o : Option Told) → option_map (batch_texts steps s) (option_map (λ _. []) o)
        ≡ option_map (λ _. []) o
    each None = refl
    each (Some t) = refl

one_of : {S : Type 0} (steps : Steps S) (s next : S) (b : BatchText)
    (bs more : Option (List BatchText)) → next ≡ steps.next s b → bs ≡ option_map (λ m. b ∷ m) more
    → option_map (batch_texts steps s) bs
    ≡ option_map (λ w. steps.text s b ++ w) (option_map (batch_texts steps next) more)
one_of steps s next b bs more same is =
    ap (option_map (batch_texts steps s)) is ∙ each more
    ∙ ap (λ (x : _). option_map (λ w. steps.text s b ++ w)
    (option_map (batch_texts steps x) more)) (sym same)
  where
    each : (o : Option (List BatchText))
        → option_map (batch_texts steps s) (option_map (λ m. b ∷ m) o)
        ≡ option_map (λ w. steps.text s b ++ w) (option_map (batch_texts steps (steps.next s b)) o)
    each None = refl
    each (Some bs) = refl

-- the first batch of so many bytes, or no batch
pub texts_within-first : {S : Type 0} (steps : Steps S) (s next : S) (b : BatchText) (most : ℕ)
    (told later : Option Told) (f g : Feed) → next ≡ steps.next s b
    → IsFirstEnded b most told later f g
    → (texts_within steps s told f most ≡ option_map (λ _. []) told)
    ⊎ (texts_within steps s told f most
    ≡ option_map (λ w. steps.text s b ++ w) (texts_within steps next later g most))
texts_within-first steps s next b most told later f g same (inl is) =
    inl (none_of steps s (batches_within most told f) told is)
texts_within-first steps s next b most told later f g same (inr is) =
    inr (one_of steps s next b (batches_within most told f) (batches_within most later g) same is)

pub texts_within-none : {S : Type 0} (steps : Steps S) (s : S) (most : ℕ) (told : Option Told)
    (f : Feed) → IfSome told (NoBatchEnds most f)
    → texts_within steps s told f most ≡ option_map (λ _. []) told
texts_within-none steps s most None f none = refl
texts_within-none steps s most (Some t) f none =
    ap (λ (bs : List BatchText). let o : Option (List ℕ) = Some (batch_texts steps s bs) in o) none

-- no batch was taken
pub KeptUp-none : (f : ℕ → Option (List ℕ)) (n : ℕ) (w : Option (List ℕ)) → KeptUp f f n w w
KeptUp-none f n w = record { text = []; wrote = Wrote-none w; is = λ most le. inr (each (f most)) }
  where
    each : (o : Option (List ℕ)) → o ≡ option_map (λ w. [] ++ w) o
    each None = refl
    each (Some x) = refl

-- what was written before stays
leads_on : (o : Option (List ℕ)) (a b c : Option (List ℕ)) (text : List ℕ)
    → IfSome o (λ w. Leads w a b) → Wrote b c text → IfSome o (λ w. Leads w a c)
leads_on None a b c text h wrote = tt
leads_on (Some w) a b c text h wrote = (
  h.0 ++ text,
  subst (Wrote a c) (append_assoc w h.0 text)
      (Wrote-then a b c (w ++ h.0) text h.1 wrote),
)

-- all that had to be written was
all_written : (o : Option (List ℕ)) (told : Option Told) (a b : Option (List ℕ)) (text : List ℕ)
    → Wrote a b text → o ≡ option_map (λ w. text ++ w) (option_map (λ _. []) told)
    → IfSome o (λ w. Leads w a b)
all_written o told a b text wrote is =
    subst (λ (x : Option (List ℕ)). IfSome x (λ w. Leads w a b)) (sym is) (each told)
  where
    each : (o : Option Told) → IfSome (option_map (λ w. text ++ w) (option_map (λ _. []) o))
        (λ w. Leads w a b)
    each None = tt
    each (Some t) = ([], subst (Wrote a b) (sym (append-nil (text ++ []) ∙ append-nil text)) wrote)

-- a text more
pub KeptUp-then : (a b c : ℕ → Option (List ℕ)) (n k : ℕ) (old mid new : Option (List ℕ))
    (text : List ℕ) (told : Option Told) → KeptUp a b n old mid → n ≤ k → Wrote mid new text
    → ((most : ℕ) → k ≤ most → (b most ≡ option_map (λ _. []) told)
    ⊎ (b most ≡ option_map (λ w. text ++ w) (c most))) → KeptUp a c k old new
KeptUp-then a b c n k old mid new text told so_far later wrote step = record {
  text = so_far.text ++ text;
  wrote = Wrote-then old mid new so_far.text text so_far.wrote wrote;
  is = λ most le. both most (so_far.is most (omega (arith, later, le))) (step most le);
}
  where
    each : (o : Option (List ℕ)) → option_map (λ w. so_far.text ++ w)
        (option_map (λ w. text ++ w) o) ≡ option_map (λ w. (so_far.text ++ text) ++ w) o
    each None = refl
    each (Some x) =
        ap (λ (l : List ℕ). let y : Option (List ℕ) = Some l in y)
        (sym (append_assoc so_far.text text x))

    both : (most : ℕ) → IfSome (a most) (λ w. Leads w old mid)
        ⊎ (a most ≡ option_map (λ w. so_far.text ++ w) (b most))
        → (b most ≡ option_map (λ _. []) told) ⊎ (b most ≡ option_map (λ w. text ++ w) (c most))
        → IfSome (a most) (λ w. Leads w old new)
        ⊎ (a most ≡ option_map (λ w. (so_far.text ++ text) ++ w) (c most))
    both most (inl leads) h = inl (leads_on (a most) old mid new text leads wrote)
    both most (inr is) (inl none) =
        inl (leads_on (a most) old mid new text
        (all_written (a most) told old mid so_far.text so_far.wrote
        (is ∙ ap (option_map (λ w. so_far.text ++ w)) none)) wrote)
    both most (inr is) (inr one) =
        inr (is ∙ ap (option_map (λ w. so_far.text ++ w)) one ∙ each (c most))

-- no further batch ended in the bytes that were taken
pub KeptUp-stop : (a b : ℕ → Option (List ℕ)) (n most : ℕ) (old new : Option (List ℕ))
    (told : Option Told) → KeptUp a b n old new → n ≤ most → b most ≡ option_map (λ _. []) told
    → IfSome (a most) (λ w. Leads w old new)
KeptUp-stop a b n most old new told so_far le none = both (so_far.is most le)
  where
    both : IfSome (a most) (λ w. Leads w old new)
        ⊎ (a most ≡ option_map (λ w. so_far.text ++ w) (b most))
        → IfSome (a most) (λ w. Leads w old new)
    both (inl leads) = leads
    both (inr is) =
        all_written (a most) told old new so_far.text so_far.wrote
        (is ∙ ap (option_map (λ w. so_far.text ++ w)) none)

-- before anything is written
pub up_to-none : (r : Option Reply) (w : Option (List ℕ)) → WroteUpTo r r w w
up_to-none r w = record { text = []; wrote = Wrote-none w; is = each r }
  where
    each : (o : Option Reply) → o ≡ option_map (prepend []) o
    each None = refl
    each (Some x) = refl

-- a text more
pub up_to-then : (a b c : Option Reply) (old mid new : Option (List ℕ)) (text : List ℕ)
    → WroteUpTo a b old mid → Wrote mid new text → b ≡ option_map (prepend text) c
    → WroteUpTo a c old new
up_to-then a b c old mid new text so_far wrote is = record {
  text = so_far.text ++ text;
  wrote = Wrote-then old mid new so_far.text text so_far.wrote wrote;
  is = so_far.is ∙ ap (option_map (prepend so_far.text)) is ∙ each c;
}
  where
    each : (o : Option Reply) → option_map (prepend so_far.text) (option_map (prepend text) o)
        ≡ option_map (prepend (so_far.text ++ text)) o
    each None = refl
    each (Some x) =
        ap (λ (l : List ℕ). (let y : Option Reply = Some (record { text = l; status = x.status }) in
        y)) (sym (append_assoc so_far.text text x.text))

-- a part of what was still to be written
pub up_to-part : (a b : Option Reply) (old mid new : Option (List ℕ)) → WroteUpTo a b old mid
    → IfSome b (λ r. WrotePart mid new r.text) → IfSome a (λ r. WrotePart old new r.text)
up_to-part a None old mid new so_far part =
    subst (λ (o : Option Reply). IfSome o (λ r. WrotePart old new r.text)) (sym so_far.is) tt
up_to-part a (Some y) old mid new so_far part =
    subst (λ (o : Option Reply). IfSome o (λ r. WrotePart old new r.text)) (sym so_far.is)
    (WrotePart-then old mid new so_far.text y.text so_far.wrote part)

-- nothing of it
pub up_to-nothing : (a b : Option Reply) (old new : Option (List ℕ)) → WroteUpTo a b old new
    → IfSome a (λ r. WrotePart old new r.text)
up_to-nothing a b old new so_far = up_to-part a b old new new so_far (each b)
  where
    each : (o : Option Reply) → IfSome o (λ r. WrotePart new new r.text)
    each None = tt
    each (Some y) = WrotePart-none new y.text

-- a part of the next batch's text
pub part-behind : (b c : Option Reply) (text : List ℕ) (mid new : Option (List ℕ))
    → b ≡ option_map (prepend text) c → WrotePart mid new text
    → IfSome b (λ r. WrotePart mid new r.text)
part-behind b c text mid new is part =
    subst (λ (o : Option Reply). IfSome o (λ r. WrotePart mid new r.text)) (sym is) (each c)
  where
    each : (o : Option Reply) → IfSome (option_map (prepend text) o) (λ r. WrotePart mid new r.text)
    each None = tt
    each (Some y) = WrotePart-more mid new text y.text part

-- ---- the stream of a slot
module _ {S : Type 0} (steps : Steps S) (told : Option Told) (slot : ℕ) (s : S) where
  -- a part of the reply
  pub Gives-part : (feed : Feed) (old new : Option (List ℕ)) (e : Stop)
      → feed ≡ record { slot = slot; pending = []; lines = 0; taken = 0 }
      → IfSome (reply_ahead steps s told feed) (λ r. WrotePart old new r.text)
      → IfSome told (λ t. Gives (rest_reply steps s (batches (readable t slot))) old new
      (Err e))
  Gives-part feed old new e is_fresh part =
      let P : Feed → Type 0 =
      λ f. IfSome (reply_ahead steps s told f) (λ r. WrotePart old new r.text) in
      each told (subst P is_fresh part)
    where
      each : (o : Option Told) → IfSome
          (reply_ahead steps s o (let f : Feed = record
          { slot = slot; pending = []; lines = 0; taken = 0 } in f)) (λ r. WrotePart old new r.text)
          → IfSome o (λ t. Gives (rest_reply steps s (batches (readable t slot))) old new (Err e))
      each None part = tt
      each (Some t) part = record { part = part; whole = tt; status = tt }

  -- all but the end, and then the end as far as it was given
  pub Gives-end : (later : Option Told) (n : ℕ) (feed : Feed) (last : Reply)
      (old mid new : Option (List ℕ)) (r : Result ℕ Stop)
      → feed ≡ record { slot = slot; pending = []; lines = 0; taken = 0 }
      → later ≡ option_map (taken_from feed.slot n) told
      → WroteUpTo (reply_ahead steps s told feed) (option_map (λ _. last) later) old mid
      → Gives last mid new r
      → IfSome told (λ t. Gives (rest_reply steps s (batches (readable t slot))) old new r)
  Gives-end later n feed last old mid new r is_fresh is_later so_far gives =
      let P : Feed → Type 0 =
      λ f. WroteUpTo (reply_ahead steps s told f) (option_map (λ _. last) later) old mid in
      let R : Option Told → Type 0 =
      λ o. WroteUpTo (reply_ahead steps s told
      (let f : Feed = record { slot = slot; pending = []; lines = 0; taken = 0 } in f))
      (option_map (λ _. last) o) old mid in
      let here : later ≡ option_map (taken_from slot n) told =
      subst (λ (f : Feed). later ≡ option_map (taken_from f.slot n) told) is_fresh is_later in
      each told (subst R here (subst P is_fresh so_far))
    where
      done : (x : Reply) (r : Result ℕ Stop) → WroteUpTo (Some x) (Some last) old mid
          → Gives last mid new r → Gives x old new r
      done x (Ok status) h g =
          let text : x.text ≡ h.text ++ last.text = cc (h.is) in
          let same : last.status ≡ x.status = cc (h.is) in
          record {
            part =
                subst (WrotePart old new) (sym text)
                (WrotePart-then old mid new h.text last.text h.wrote g.part);
            whole =
                subst (Wrote old new) (sym text)
                (Wrote-then old mid new h.text last.text h.wrote g.whole);
            status = g.status ∙ same;
          }
      done x (Err e) h g =
          let text : x.text ≡ h.text ++ last.text = cc (h.is) in
          record {
            part = subst (WrotePart old new) (sym text)
                (WrotePart-then old mid new h.text last.text h.wrote g.part);
            whole = tt;
            status = tt;
          }

      each : (o : Option Told) → WroteUpTo
          (reply_ahead steps s o (let f : Feed = record
          { slot = slot; pending = []; lines = 0; taken = 0 } in f))
          (option_map (λ _. last) (option_map (taken_from slot n) o)) old mid
          → IfSome o (λ t. Gives (rest_reply steps s (batches (readable t slot))) old new r)
      each None h = tt
      each (Some t) h = done (rest_reply steps s (batches (readable t slot))) r h gives

  -- the batches that ended in the bytes that were taken
  pub Leads-taken : (feed : Feed) (n : ℕ) (old new : Option (List ℕ))
      → feed ≡ record { slot = slot; pending = []; lines = 0; taken = 0 } → n ≤ MOST_BYTES
      → IfSome (texts_within steps s told feed n) (λ w. Leads w old new)
      → IfSome told (λ t. Leads (batch_texts steps s (ended_batches (take n (readable t slot))))
      old new)
  Leads-taken feed n old new is_fresh few leads =
      let P : Feed → Type 0 = λ f. IfSome (texts_within steps s told f n) (λ w. Leads w old new) in
      each told (subst P is_fresh leads)
    where
      each : (o : Option Told) → IfSome
          (texts_within steps s o (let f : Feed = record
          { slot = slot; pending = []; lines = 0; taken = 0 } in f) n) (λ w. Leads w old new)
          → IfSome o (λ t. Leads (batch_texts steps s (ended_batches (take n (readable t slot))))
          old new)
      each None h = tt
      each (Some t) h =
          let all : n - 0 ≡ n = omega arith in
          subst (λ (b : List ℕ). Leads (batch_texts steps s (ended_batches b)) old new)
          (ap (λ (k : ℕ). take k (left t slot)) all
          ∙ sym (take-take n MOST_BYTES (left t slot) few)) h

-- a part that only writes stops no reading
pub not_read_stop : {A : Type 0} (r : Result A Stop) → IfErr r IsOfWriting → IsReadStop r → ⊥
not_read_stop (Ok s) writing (inl is) = cc
not_read_stop (Ok s) writing (inr is) = cc
not_read_stop (Err e) writing (inl is) = writing.0 (cc)
not_read_stop (Err e) writing (inr is) = writing.1 (cc)

-- why a reading stopped, whatever it was to answer
pub read_stop_as : {A B : Type 0} (e : Stop) → IsReadStop (let r : Result A Stop = Err e in r)
    → IsReadStop (let r : Result B Stop = Err e in r)
read_stop_as {A} {B} e (inl is) =
    let same : e ≡ ShelfFailed = cc in
    inl (ap (λ (x : Stop). let r : Result B Stop = Err x in r) same)
read_stop_as {A} {B} e (inr is) =
    let same : e ≡ TooLong = cc in inr (ap (λ (x : Stop). let r : Result B Stop = Err x in r) same)

-- what an error of the reader is as a stop
pub feed_cause : (e : FeedError) (old new : ℕ) → Blames old new (Some e)
    → ShelfCause old new (feed_stop e)
feed_cause (FeedShelf fault) old new h = h
feed_cause (FeedTurns taken) old new h = h
feed_cause FeedMemory old new h = h

pub feed_turns : {A : Type 0} (e : FeedError) (P : ℕ → Type 0) (Q : Type 0)
    → IfTurns (λ n. P n × Q) e → (let r : Result A Stop = Err (feed_stop e) in r) ≡ Err TooLong → Q
feed_turns (FeedShelf fault) P Q h is = cc
feed_turns (FeedTurns taken) P Q h is = h.1
feed_turns FeedMemory P Q h is = cc

pub feed_wanted : {A : Type 0} (e : FeedError) (P : Type 0) → IfMoreWanted P e
    → IsReadStop (let r : Result A Stop = Err (feed_stop e) in r) → P
feed_wanted (FeedShelf fault) P h is = h
feed_wanted (FeedTurns taken) P h is = h
feed_wanted FeedMemory P h (inl is) = cc
feed_wanted FeedMemory P h (inr is) = cc

-- a stop stands where the error of its feed does
pub feed_stands : (feed : Feed) (e : FeedError) → StopsAt feed e → StandsAt feed (feed_stop e)
feed_stands feed (FeedShelf fault) h = h
feed_stands feed (FeedTurns taken) h = h.1
feed_stands feed FeedMemory h = h

pub read_stop-ok : {A : Type 0} (x : A) → IsReadStop (let r : Result A Stop = Ok x in r) → ⊥
read_stop-ok x (inl is) = cc
read_stop-ok x (inr is) = cc

-- no more was taken than is read of a slot
taken_within : (told later : Option Told) (slot n : ℕ) → Advances told later slot n → n ≤ MOST_BYTES
    → IfSome told (λ t. n ≤ length (readable t slot))
taken_within None later slot n moved few = tt
taken_within (Some t) later slot n moved few =
    omega (arith, length-take MOST_BYTES (left t slot), moved.within, few)

-- ---- a run over the stream of a slot, by a feed that took so many bytes
module _ {S : Type 0} (steps : Steps S) (s : S) (told later : Option Told) (slot taken : ℕ)
    (feed : Feed) (is_fresh : feed ≡ record { slot = slot; pending = []; lines = 0; taken = 0 })
    (moved : Advances told later feed.slot (taken - feed.taken)) (most : taken ≤ MOST_BYTES) where
  went : Advances told later slot taken
  went =
      let here : Advances told later slot (taken - 0) =
      subst (λ (f : Feed). Advances told later f.slot (taken - f.taken)) is_fresh moved in
      let all : taken - 0 ≡ taken = omega arith in
      subst (λ (n : ℕ). Advances told later slot n) all here

  -- it stopped before the end
  pub Streamed-stopped : (old new : Option (List ℕ)) (e : Stop)
      → IfSome (reply_ahead steps s told feed) (λ r. WrotePart old new r.text)
      → (IsReadStop (let r : Result ℕ Stop = Err e in r)
      → IfSome (texts_within steps s told feed taken) (λ w. Leads w old new))
      → Streamed steps s told later slot old new (Err e)
  Streamed-stopped old new e part kept_up = record {
    taken = taken;
    advances = went;
    within = taken_within told later slot taken went most;
    reply = Gives-part steps told slot s feed old new e is_fresh part;
    kept_up = λ is. Leads-taken steps told slot s feed taken old new is_fresh most (kept_up is);
  }

  -- it came to the end, which was written or not
  pub Streamed-end : (last : Reply) (old mid new : Option (List ℕ)) (r : Result ℕ Stop)
      → WroteUpTo (reply_ahead steps s told feed) (option_map (λ _. last) later) old mid
      → Gives last mid new r → IfErr r IsOfWriting → Streamed steps s told later slot old new r
  Streamed-end last old mid new r so_far gives writing = record {
    taken = taken;
    advances = went;
    within = taken_within told later slot taken went most;
    reply =
        Gives-end steps told slot s later (taken - feed.taken) feed last old mid new r is_fresh
        moved.told so_far gives;
    kept_up = λ is. absurd (not_read_stop r writing is);
  }
