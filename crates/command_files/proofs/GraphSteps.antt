-- The file of a graph that is opened and then read.
use Rattle.bolt_io.specs.declared.whole.TheConstants.{MOST_BYTES}
use Rattle.std.specs.Prelude.{◌≡◌, ℕ, ◌+◌, ◌<◌, ◌≤◌, List, [], ◌∷◌, length, take, Option}
use Rattle.std.specs.Prelude.{Result, Ok, Err, IfSome, IfOk, OnOk, OnErr, IsOk, IsErrOf}
use Rattle.std.specs.Option.{option_map}
use Rattle.std.proofs.Common.{sym, ap, subst, arith}
use Rattle.std.proofs.lemmas.List.{length-take}
use Rattle.bolt_base.specs.declared.limits.Limits.{Limits}
use Rattle.bolt_base.specs.Graph.{Graph}
use Rattle.bolt_io.specs.Told.{Told, left, opened_at, TellsSlots}
use Rattle.graph_text.specs.declared.bad_line.BadLine.{BadLine}
use Rattle.graph_text.specs.GraphText.{graph_of, EndedLinesAreGood}
use Rattle.graph_text.specs.Refusals.{IsTooLong, graph_far}
use Rattle.text_lines.specs.Feed.{readable}
use Rattle.command_files.specs.declared.stop.Stop.{Stop}
use Rattle.command_files.specs.declared.stop.Stop.TheVariants.{TooLong}
use Rattle.command_files.specs.Files.{content, whole_file, IsLong}
use Rattle.command_files.specs.Reads.{TookTo, Reads}
use Rattle.batch_steps.specs.Graphs.{graph_to_end, graph_file}
use Rattle.command_files.proofs.FileSteps.{opened_left, opened_bytes, opened_fact, Reads-file}

-- a fact of an Ok, where it is one
pub at_ok : {A E : Type 0} (r : Result A E) (P : Type 0) → OnOk r P → IsOk r → P
at_ok (Ok x) P h is = h
at_ok (Err e) P h is = cc

-- it gives 2^40 bytes without an end where the slot does
pub too_long_file : (l : Limits) (name : List ℕ) (k : ℕ) (t : Told) → length t.slots ≡ k
    → IsTooLong l k (opened_at name t) → IsLong (content t) (graph_file l name (content t))
too_long_file l name k t tells cut =
    let all : left (opened_at name t) k ≡ whole_file t name = opened_left t k name tells in
    let long : MOST_BYTES ≤ length (whole_file t name) =
    subst (λ (b : List ℕ). MOST_BYTES ≤ length b) all cut.long in
    record {
      to_end = subst (λ (b : List ℕ). EndedLinesAreGood l (take MOST_BYTES b)) all cut.good;
      long = omega (arith, length-take MOST_BYTES (whole_file t name), long);
    }

pub not_too_long_file : (l : Limits) (name : List ℕ) (k : ℕ) (t : Told) → length t.slots ≡ k
    → ¬ IsTooLong l k (opened_at name t) → ¬ IsLong (content t) (graph_file l name (content t))
not_too_long_file l name k t tells not = λ is.
    let all : whole_file t name ≡ left (opened_at name t) k = sym (opened_left t k name tells) in
    let long : MOST_BYTES ≤ length (whole_file t name) =
    omega (arith, length-take MOST_BYTES (whole_file t name), is.long) in
    not (record {
      long = subst (λ (b : List ℕ). MOST_BYTES ≤ length b) all long;
      good = subst (λ (b : List ℕ). EndedLinesAreGood l (take MOST_BYTES b)) all is.to_end;
    })

short_not_long : (l : Limits) (name : List ℕ) (k : ℕ) (t : Told) → length t.slots ≡ k
    → length (left (opened_at name t) k) < MOST_BYTES
    → ¬ IsLong (content t) (graph_file l name (content t))
short_not_long l name k t tells short = λ is.
    let all : left (opened_at name t) k ≡ whole_file t name = opened_left t k name tells in
    omega (arith, length-take MOST_BYTES (whole_file t name), is.long, short, ap length all)

-- nor where it was read to its end, or refused before
pub graph_not_long : (l : Limits) (name : List ℕ) (k : ℕ) (a b : Option Told)
    (r : Result Graph BadLine) → TellsSlots a k → b ≡ option_map (opened_at name) a
    → OnOk r (IfSome b (λ t. length (left t k) < MOST_BYTES))
    → OnErr r (IfSome b (λ t. ¬ IsTooLong l k t))
    → IfSome a (λ t. ¬ IsLong (content t) (graph_file l name (content t)))
graph_not_long l name k a b (Ok x) tells opened short early =
    opened_fact (λ t. length (left t k) < MOST_BYTES)
    (λ t. ¬ IsLong (content t) (graph_file l name (content t))) a b k name
    (short_not_long l name k) tells opened short
graph_not_long l name k a b (Err e) tells opened short early =
    opened_fact (λ t. ¬ IsTooLong l k t) (λ t. ¬ IsLong (content t) (graph_file l name (content t)))
    a b k name (not_too_long_file l name k) tells opened early

-- the graph of the file is that of its slot
pub graph_of-file : (l : Limits) (name : List ℕ) (old mid : Option Told) (i slot : ℕ)
    (r : Result (Result Graph BadLine) Stop) → TellsSlots old i → slot ≡ i
    → mid ≡ option_map (opened_at name) old
    → IfOk r (λ x. IfSome mid (λ t. graph_of l (readable t slot) ≡ x))
    → IfOk r (λ x. IfSome old (λ t. graph_of l (content t name) ≡ x))
graph_of-file l name old mid i slot (Err e) tells is_slot opened h = tt
graph_of-file l name old mid i slot (Ok x) tells is_slot opened h =
    opened_bytes (λ (bytes : List ℕ). graph_of l (take MOST_BYTES bytes) ≡ x) old mid slot name
    (subst (TellsSlots old) (sym is_slot) tells) opened h

-- the graph's file was opened, and then read from its slot
module _ (l : Limits) (name : List ℕ) (old mid new : Option Told) (i j k slot : ℕ)
    (r : Result (Result Graph BadLine) Stop) where
  pub Reads-graph : TellsSlots old i → slot ≡ i → mid ≡ option_map (opened_at name) old → j ≡ i + 1
      → TookTo (graph_far l) mid new slot → k ≡ j
      → IfOk r (λ x. OnOk x (IfSome mid (λ t. length (left t slot) < MOST_BYTES)))
      → IfOk r (λ x. OnOk x (IfSome new (λ t. left t slot ≡ [])))
      → IfOk r (λ x. OnErr x (IfSome mid (λ t. ¬ IsTooLong l slot t)))
      → (IsErrOf r TooLong → IfSome mid (IsTooLong l slot))
      → Reads (λ c. graph_file l name c ∷ []) IsOk 1 (λ _. 1) old new i k r
  Reads-graph tells is_slot opened one_more took same short end early too_long =
      let tells_it : TellsSlots old slot = subst (TellsSlots old) (sym is_slot) tells in
      Reads-file name (graph_far l) (graph_to_end l) IsOk old mid new i j k slot r tells is_slot
      opened one_more took same
      (whole r (IfSome mid (λ t. length (left t slot) < MOST_BYTES)) short)
      (whole r (IfSome new (λ t. left t slot ≡ [])) end)
      (λ is. opened_fact (IsTooLong l slot)
      (λ t. IsLong (content t) (graph_file l name (content t))) old mid slot name
      (too_long_file l name slot) tells_it opened (too_long is))
      (not_long r short early)
    where
      whole : (r : Result (Result Graph BadLine) Stop) (P : Type 0) → IfOk r (λ x. OnOk x P)
          → IfOk r (λ x. IsOk x → P)
      whole (Ok x) P h = at_ok x P h
      whole (Err e) P h = tt

      not_long : (r : Result (Result Graph BadLine) Stop)
          → IfOk r (λ x. OnOk x (IfSome mid (λ t. length (left t slot) < MOST_BYTES)))
          → IfOk r (λ x. OnErr x (IfSome mid (λ t. ¬ IsTooLong l slot t)))
          → OnOk r (IfSome old (λ t. ¬ IsLong (content t) (graph_file l name (content t))))
      not_long (Ok x) short early =
          graph_not_long l name slot old mid x (subst (TellsSlots old) (sym is_slot) tells) opened
          short early
      not_long (Err e) short early = tt
