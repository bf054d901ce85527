-- What the words of `make` name.
use Rattle.std.specs.Prelude.{◌≡◌, ℕ, List, [], ◌∷◌, Option, Result, Ok, Err, IfErr, IfOk}
use Rattle.std.proofs.Common.{refl, sym, ap, subst}
use Rattle.bolt_io.specs.Told.{Told}
use Rattle.bolt_io.specs.declared.files.Slot.{Slot}
use Rattle.batch_run.specs.Conducts.{Conducts, World, world_of}
use Rattle.batch_run.proofs.FinishSteps.{Conducts-unread}
use Rattle.batch_steps.specs.Files.{Content, Named}
use Rattle.batch_steps.specs.declared.reply.Reply.{Reply}
use Rattle.cli_words.specs.Lines.{command_of}
use Rattle.cli_words.specs.declared.command.Command.{Command}
use Rattle.cli_words.specs.declared.command.Command.TheVariants.{Make as MakeCommand}
use Rattle.cli_words.specs.declared.command.MakeForm.{MakeForm}
use Rattle.cli_words.specs.declared.command.WordsRefusal.{WordsRefusal}
use Rattle.command_course.specs.Still.{make_course, course, course_by, files_before, files_by}
use Rattle.command_course.specs.Still.{named, count_by, opened_with, slots_by}
use Rattle.command_course.specs.Still.{IsDecided, IsDecidedBy, IsMakeDecided}
use Rattle.command_files.specs.Files.{content, AreFirst, AreRead}
use Rattle.command_files.specs.Reads.{Follows, Reads}
use Rattle.command_files.specs.Replied.{Gives}
use Rattle.command_files.specs.Stops.{BlamesSink, IsOfWriting}
use Rattle.command_files.specs.declared.stop.Stop.{Stop}
use Rattle.command_files.specs.declared.stop.Stop.TheVariants.{Memory}
use Rattle.command_files.proofs.FileSteps.{Reads-nothing}
use Rattle.command_files.proofs.ReadSteps.{told_all, told_map}
use Rattle.batch_run.proofs.ReplySteps.{Conducts-replied, Conducts-same}

-- no slot has taken all of no file
none_read : (c : Content) (ss : List Slot) → AreFirst ss [] → AreRead c ss []
none_read c [] first = tt
none_read c (s ∷ ss) first = absurd first

-- no file is to be read, and none was
no_file : (told : Option Told) (i : ℕ) (reply : Reply) → Reads (λ (c : Content). [])
    (λ (y : Reply). Unit {0}) 0 (λ (y : Reply). 0) told told i i
    (let x : Result Reply Stop = Ok reply in x)
no_file told i reply =
    let h : Reads (λ (c : Content). []) (λ (y : Reply). ⊥) 0 (λ (y : Reply). 0) told told i i
    (let x : Result Reply Stop = Ok reply in x) =
    Reads-nothing (λ (c : Content). []) (λ (y : Reply). ⊥) 0 (λ (y : Reply). 0) told told i i
    reply refl refl (λ d. d) refl
    (told_all (λ t. let fs : List Named = [] in fs ≡ []) told (λ t. refl)) in
    record {
      more = h.more;
      told = h.told;
      count = h.count;
      within = h.within;
      full = h.full;
      follows =
          told_map (λ t. Follows (content t) [] (λ (y : Reply). ⊥) h.more
          (let x : Result Reply Stop = Ok reply in x)) (λ t. Follows (content t) []
          (λ (y : Reply). Unit {0}) h.more (let x : Result Reply Stop = Ok reply in x)) told
          (λ t k. record {
            first = k.first;
            all = k.all;
            done = λ d. none_read (content t) h.more k.first;
            too_long = λ wrong. k.too_long wrong;
            not_long = k.not_long;
          }) h.follows;
    }

module _ (words : List (List ℕ)) (seed n m b e : ℕ) (form : MakeForm)
    (is : command_of words
    ≡ (let r : Result Command WordsRefusal = Ok (MakeCommand seed n m b e form) in r)) where
  course-make : (c : Content) → make_course seed n m b e form ≡ course words c
  unfolding course
  course-make c = ap (λ (r : Result Command WordsRefusal). course_by words r c) (sym is)

  files-make : (c : Content) → [] ≡ files_before words c
  unfolding files_before
  files-make c = ap (λ (r : Result Command WordsRefusal). files_by words r c) (sym is)

  named-make : 0 ≡ named words
  unfolding named
  named-make = ap count_by (sym is)

  slots-make : (s : ℕ) → 0 ≡ opened_with words s
  unfolding opened_with
  slots-make s = ap (λ (r : Result Command WordsRefusal). slots_by r s) (sym is)

  -- what was conducted for what is made was for the words
  Conducts-make : (old new : World) (r : Result ℕ Stop)
      → Conducts (λ _. make_course seed n m b e form) (λ _. []) 0 (λ _. 0) old new r
      → Conducts (course words) (files_before words) (named words) (opened_with words) old new r
  Conducts-make old new r h =
      Conducts-same (λ _. make_course seed n m b e form) (course words) (λ _. [])
      (files_before words) 0 (named words) (λ _. 0) (opened_with words) course-make files-make
      named-make slots-make old new r h

  pub decided-make : (r : Result ℕ Stop) (status : ℕ) → IfOk r (λ s. s ≡ status)
      → IsMakeDecided form status → IfOk r (IsDecided words)
  unfolding IsDecided
  decided-make (Ok s) status same own =
      subst (λ (r : Result Command WordsRefusal). IsDecidedBy r s) (sym is)
      (subst (IsMakeDecided form) (sym same) own)
  decided-make (Err stop) status same own = tt

  module _ (told : Option Told) (i f : ℕ) (old new : Option (List ℕ)) (g h : ℕ) where
    -- the reply was written as far as it could be
    pub made-replied : (reply : Reply) (r : Result ℕ Stop)
        → make_course seed n m b e form ≡ Err reply → Gives reply old new r
        → IfErr r IsOfWriting → BlamesSink r g h
        → Conducts (course words) (files_before words) (named words) (opened_with words)
        (world_of told i f old g) (world_of told i f new h) r
    made-replied reply r is_reply gives writing sink =
        Conducts-make (world_of told i f old g) (world_of told i f new h) r
        (Conducts-replied (λ _. make_course seed n m b e form) (λ _. [])
        (λ (y : Reply). Unit {0}) 0 (λ (y : Reply). 0) (λ _. 0) told told i i f f old new g h
        reply r (no_file told i reply)
        (told_all (λ t. make_course seed n m b e form ≡ Err reply) told (λ t. is_reply)) refl
        (λ made. tt) gives gives.status writing refl sink)

    -- there was no memory for it
    pub made-stopped : Conducts (course words) (files_before words) (named words)
        (opened_with words) (world_of told i f old g) (world_of told i f old g) (Err Memory)
    made-stopped =
        Conducts-make (world_of told i f old g) (world_of told i f old g) (Err Memory)
        (Conducts-unread (λ _. make_course seed n m b e form) (λ _. []) 0 (λ _. 0) told i f old
        old g g told i f Memory refl refl (λ wrong. cc) (λ wrong. cc) refl)
