-- Why a graph's reading stopped, and how far it went.
use Rattle.bolt_io.specs.declared.whole.TheConstants.{MOST_BYTES}
use Rattle.std.specs.Prelude.{◌≡◌, ℕ, ◌-◌, ◌<◌, length, Option, Result}
use Rattle.std.specs.Prelude.{Ok, Err, IfSome}
use Rattle.std.proofs.Common.{ap, subst, arith}
use Rattle.bolt_base.specs.declared.limits.Limits.{Limits}
use Rattle.bolt_base.specs.Graph.{Graph}
use Rattle.bolt_io.specs.Told.{Told, left}
use Rattle.text_lines.specs.Feed.{Advances, readable}
use Rattle.text_lines.specs.Reading.{Blames}
use Rattle.graph_text.specs.declared.bad_line.BadLine.{BadLine}
use Rattle.graph_text.specs.declared.graph.GraphRefusal.{GraphRefusal}
use Rattle.graph_text.specs.declared.graph.GraphRefusal.TheVariants.{Line, Shelf, Turns}
use Rattle.graph_text.specs.declared.graph.GraphRefusal.TheVariants.{Memory as NoMemory}
use Rattle.graph_text.specs.GraphText.{graph_of}
use Rattle.graph_text.specs.Refusals.{IfLine, IsTooLong, ReadsAsFar, ReadsGraph, reading_error}
use Rattle.graph_text.specs.Refusals.{graph_far}
use Rattle.command_files.specs.declared.stop.Stop.{Stop}
use Rattle.command_files.specs.declared.stop.Stop.TheVariants.{ShelfFailed, Memory}
use Rattle.command_files.specs.declared.stop.Stop.TheVariants.{TooLong}
use Rattle.command_files.specs.Reads.{TookTo}
use Rattle.command_files.specs.Stops.{bad_or_stop, ShelfCause}
use Rattle.command_files.proofs.ReadSteps.{told_map}

-- the bytes that were taken
pub TookTo-graph : {A : Type 0} (told : A → Option Told) (opened faults : A → ℕ) (old new : A)
    (l : Limits) (slot : ℕ) (r : Result Graph GraphRefusal)
    → ReadsGraph told opened faults old new l slot r
    → TookTo (graph_far l) (told old) (told new) slot
TookTo-graph told opened faults old new l slot r h =
    let all : h.taken - 0 ≡ h.taken = omega arith in (
      h.taken,
      subst (λ (n : ℕ). Advances (told old) (told new) slot n) all h.reads.takes,
      h.no_further,
    )

pub short-graph : (l : Limits) (slot n : ℕ) (g : Graph) (told : Option Told)
    → IfSome told (ReadsAsFar l slot n (Ok g))
    → IfSome told (λ t. length (left t slot) < MOST_BYTES)
short-graph l slot n g told h =
    told_map (ReadsAsFar l slot n (Ok g)) (λ t. length (left t slot) < MOST_BYTES) told
    (λ t far. omega (arith, far.0, far.1)) h

-- a line was bad
module _ (refusal : GraphRefusal) (bad : BadLine) (is : bad_or_stop refusal ≡ Ok bad) where
  is_line : refusal ≡ Line bad.line bad.cause
  is_line = each refusal is
    where
      each : (x : GraphRefusal) → bad_or_stop x ≡ Ok bad → x ≡ Line bad.line bad.cause
      each (Line number cause) same =
          let line : (let b : BadLine = record { line = number; cause = cause } in b) ≡ bad = cc in
          ap (λ (b : BadLine). let x : GraphRefusal = Line b.line b.cause in x) line
      each (Shelf fault) same = cc
      each (Turns taken) same = cc
      each NoMemory same = cc

  pub refused-graph : (l : Limits) (slot : ℕ) (told : Option Told)
      → IfLine (λ number cause. IfSome told
      (λ t. graph_of l (readable t slot) ≡ Err (record { line = number; cause = cause }))) refusal
      → IfSome told (λ t. graph_of l (readable t slot) ≡ Err bad)
  refused-graph l slot told h =
      subst (IfLine (λ number cause. IfSome told
      (λ t. graph_of l (readable t slot) ≡ Err (record { line = number; cause = cause }))))
      is_line h

  pub early-graph : (l : Limits) (slot n : ℕ) (told : Option Told)
      → IfSome told (ReadsAsFar l slot n (Err refusal)) → IfSome told (λ t. ¬ IsTooLong l slot t)
  early-graph l slot n told h =
      let here : IfSome told (ReadsAsFar l slot n
      (let r : Result Graph GraphRefusal = Err (Line bad.line bad.cause) in r)) = subst
      (λ (x : GraphRefusal). IfSome told
      (ReadsAsFar l slot n (let r : Result Graph GraphRefusal = Err x in r))) is_line h in
      told_map (ReadsAsFar l slot n (let r : Result Graph GraphRefusal = Err
      (Line bad.line bad.cause) in r)) (λ t. ¬ IsTooLong l slot t) told (λ t far. far.1) here

  pub calm-graph : (old new : ℕ) → Blames old new (reading_error refusal) → new ≡ old
  calm-graph old new h = subst (λ (x : GraphRefusal). Blames old new (reading_error x)) is_line h

-- the reading stopped
pub too_long-graph : (refusal : GraphRefusal) (l : Limits) (slot n : ℕ) (told : Option Told)
    → bad_or_stop refusal ≡ Err TooLong → IfSome told (ReadsAsFar l slot n (Err refusal))
    → IfSome told (IsTooLong l slot)
too_long-graph (Line number cause) l slot n told is h = cc
too_long-graph (Shelf fault) l slot n told is h = cc
too_long-graph (Turns taken) l slot n told is h = h
too_long-graph NoMemory l slot n told is h = cc

pub cause-graph : (refusal : GraphRefusal) (e : Stop) (old new : ℕ) → bad_or_stop refusal ≡ Err e
    → Blames old new (reading_error refusal) → ShelfCause old new e
cause-graph (Line number cause) e old new is h = cc
cause-graph (Shelf fault) e old new is h =
    let same : ShelfFailed ≡ e = cc in subst (ShelfCause old new) same h
cause-graph (Turns taken) e old new is h =
    let same : TooLong ≡ e = cc in subst (ShelfCause old new) same h
cause-graph NoMemory e old new is h =
    let same : Memory ≡ e = cc in subst (ShelfCause old new) same h
