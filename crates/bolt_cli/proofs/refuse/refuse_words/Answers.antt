use Rattle.std.proofs.Common.{ℕ, List, subst}
use Rattle.batch_steps.specs.declared.reply.Reply.{Reply}
use Rattle.command_files.specs.Replied.{Gives}
use Rattle.bolt_cli.proofs.refuse.refuse_words.Goals as goal

pub returns-clause-gives : goal.returns-clause-gives
returns-clause-gives g c =
    subst (λ (w : List ℕ). Gives (let x : Reply = record { text = w; status = 2 } in x)
    (g.K.Sink.written c.args.out.now) (g.K.Sink.written c.put_reply.new.out) c.put_reply.result)
    c.in_ok-text.ensures c.put_reply.ensures.gives
