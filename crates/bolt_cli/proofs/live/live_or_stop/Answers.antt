use Rattle.std.proofs.Common.{◌≡◌, Ok, Err, sym}
use Rattle.cli_words.specs.Words.{texts}
use Rattle.command_live.specs.Replies.{IsOfLive}
use Rattle.command_live.specs.Words.{IsLiveDecided}
use Rattle.bolt_cli.proofs.LiveSteps.{decided-live, Conducts-words, ConductsLive-refused}
use Rattle.bolt_cli.proofs.WordSteps.{ok_map}
use Rattle.bolt_cli.proofs.live.live_or_stop.Goals as goal

pub returns-in-Ok-clause-conducts : goal.returns-in-Ok-clause-conducts
returns-in-Ok-clause-conducts g c =
    Conducts-words (texts c.args.words.now) (Ok c.in-Ok.command) (sym c.in-Ok.ensures.command)
    _ _ c.live_command.result c.live_command.ensures.conducts

pub returns-in-Ok-clause-decided : goal.returns-in-Ok-clause-decided
returns-in-Ok-clause-decided g c =
    let words = texts c.args.words.now in
    ok_map c.live_command.result IsOfLive (IsLiveDecided words)
    (decided-live words (Ok c.in-Ok.command) (sym c.in-Ok.ensures.command))
    c.live_command.ensures.decided

pub returns-in-Err-clause-conducts : goal.returns-in-Err-clause-conducts
returns-in-Err-clause-conducts g c =
    let words = texts c.args.words.now in
    Conducts-words words (Err c.in-Err.refusal) (sym c.in-Err.ensures.command) _ _
    c.refuse_words.result
    (ConductsLive-refused words c.in-Err.refusal (g.S.Shelf.told c.args.shelf.now)
    (g.S.Shelf.opened c.args.shelf.now) (g.S.Shelf.faults c.args.shelf.now)
    (g.K.Sink.written c.args.out.now) (g.K.Sink.written c.refuse_words.new.out)
    (g.K.Sink.faults c.args.out.now) (g.K.Sink.faults c.refuse_words.new.out)
    c.refuse_words.result c.refuse_words.ensures.gives c.refuse_words.ensures.status
    c.refuse_words.ensures.writing c.refuse_words.ensures.cause)

pub returns-in-Err-clause-decided : goal.returns-in-Err-clause-decided
returns-in-Err-clause-decided g c =
    let words = texts c.args.words.now in
    ok_map c.refuse_words.result (λ s. s ≡ 2) (IsLiveDecided words)
    (decided-live words (Err c.in-Err.refusal) (sym c.in-Err.ensures.command))
    c.refuse_words.ensures.status
