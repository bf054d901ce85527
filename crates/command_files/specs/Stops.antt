-- Why a command stops before its text ends.
use Rattle.std.specs.Prelude.{◌≡◌, ◌≢◌, ℕ, Result, Ok, Err, MatchResult}
use Rattle.bolt_io.specs.Faults.{Rose}
use Rattle.bolt_io.specs.declared.fault.OpenFault.{OpenFault}
use Rattle.bolt_io.specs.declared.fault.OpenFault.TheVariants.{Failed as OpenFailed}
use Rattle.bolt_io.specs.declared.fault.OpenFault.TheVariants.{Memory as OpenMemory}
use Rattle.bolt_io.specs.declared.fault.SinkFault.{SinkFault}
use Rattle.bolt_io.specs.declared.fault.SinkFault.TheVariants.{Failed as SinkFaultFailed}
use Rattle.bolt_io.specs.declared.fault.SinkFault.TheVariants.{Memory as SinkMemory}
use Rattle.text_lines.specs.declared.feed.FeedError.{FeedError}
use Rattle.text_lines.specs.declared.feed.FeedError.TheVariants.{Shelf as FeedShelf}
use Rattle.text_lines.specs.declared.feed.FeedError.TheVariants.{Turns as FeedTurns}
use Rattle.text_lines.specs.declared.feed.FeedError.TheVariants.{Memory as FeedMemory}
use Rattle.graph_text.specs.declared.bad_line.BadLine.{BadLine}
use Rattle.graph_text.specs.declared.graph.GraphRefusal.{GraphRefusal}
use Rattle.graph_text.specs.declared.graph.GraphRefusal.TheVariants.{Line as GraphLine}
use Rattle.graph_text.specs.declared.graph.GraphRefusal.TheVariants.{Shelf as GraphShelf}
use Rattle.graph_text.specs.declared.graph.GraphRefusal.TheVariants.{Turns as GraphTurns}
use Rattle.graph_text.specs.declared.graph.GraphRefusal.TheVariants.{Memory as GraphMemory}
use Rattle.command_files.specs.declared.stop.Stop.{Stop}
use Rattle.command_files.specs.declared.stop.Stop.TheVariants.{ShelfFailed, SinkFailed, Memory}
use Rattle.command_files.specs.declared.stop.Stop.TheVariants.{TooLong}

-- the shelf's count of faults rose where the shelf is to blame, and else stayed
abbrev pub ShelfCause : ℕ → ℕ → Stop → Type 0
ShelfCause old new ShelfFailed = Rose old new
ShelfCause old new SinkFailed = new ≡ old
ShelfCause old new Memory = new ≡ old
ShelfCause old new TooLong = new ≡ old

-- the sink's count of faults rose where the sink is to blame, and else stayed
abbrev pub SinkCause : ℕ → ℕ → Stop → Type 0
SinkCause old new ShelfFailed = new ≡ old
SinkCause old new SinkFailed = Rose old new
SinkCause old new Memory = new ≡ old
SinkCause old new TooLong = new ≡ old

-- the same of a result, which has no fault where it is Ok
abbrev pub BlamesShelf : {T : Type 0} → Result T Stop → ℕ → ℕ → Type 0
BlamesShelf r old new = MatchResult r (λ _. new ≡ old) (ShelfCause old new)

abbrev pub BlamesSink : {T : Type 0} → Result T Stop → ℕ → ℕ → Type 0
BlamesSink r old new = MatchResult r (λ _. new ≡ old) (SinkCause old new)

-- a part that only writes has no fault of the shelf, and meets no file that is too long
abbrev pub IsOfWriting : Stop → Type 0
IsOfWriting e = (e ≢ ShelfFailed) × (e ≢ TooLong)

-- a part that only reads has no fault of the sink
abbrev pub IsOfReading : Stop → Type 0
IsOfReading e = e ≢ SinkFailed

-- the status of a command that stops
abbrev pub status_of : Stop → ℕ
status_of ShelfFailed = 5
status_of SinkFailed = 6
status_of Memory = 7
status_of TooLong = 8

-- what each fault below stops a command for
abbrev pub open_stop : OpenFault → Stop
open_stop OpenFailed = ShelfFailed
open_stop OpenMemory = Memory

abbrev pub sink_stop : SinkFault → Stop
sink_stop SinkFaultFailed = SinkFailed
sink_stop SinkMemory = Memory

abbrev pub feed_stop : FeedError → Stop
feed_stop (FeedShelf fault) = ShelfFailed
feed_stop (FeedTurns taken) = TooLong
feed_stop FeedMemory = Memory

-- a graph's refusal for a bad line, or what its reading stops a command for
abbrev pub bad_or_stop : GraphRefusal → Result BadLine Stop
bad_or_stop (GraphLine number cause) = Ok (record { line = number; cause = cause })
bad_or_stop (GraphShelf fault) = Err ShelfFailed
bad_or_stop (GraphTurns taken) = Err TooLong
bad_or_stop GraphMemory = Err Memory
