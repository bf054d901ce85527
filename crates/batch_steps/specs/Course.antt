-- What a command is to write and to read, whichever command it is.
use Rattle.std.specs.Prelude.{ℕ, List, [], ◌∷◌, Result, Ok, Err}
use Rattle.graph_text.specs.declared.batch_text.BatchText.{BatchText}
use Rattle.graph_text.specs.StreamText.{batches}
use Rattle.batch_steps.specs.declared.reply.Reply.{Reply}
use Rattle.batch_steps.specs.Steps.{Steps, prepend, rest_reply, batch_texts}
use Rattle.batch_steps.specs.Files.{Content, Named, stream_file}

-- a command that wasn't refused: its opening text, the name of its stream, what it writes of the
-- stream's first batches, and the
-- reply to all of them
pub record Opening : Type 0 where
  pub text : List ℕ
  pub stream : List ℕ
  pub of_batches : List BatchText → List ℕ
  pub rest : List BatchText → Reply

-- a run from a state of its own
abbrev pub opening_of : {S : Type 0} → Steps S → S → List ℕ → List ℕ → Opening
opening_of steps s text stream =
    record {
      text = text;
      stream = stream;
      of_batches = batch_texts steps s;
      rest = rest_reply steps
          s;
    }

-- the refusal, or the opening text and then the reply to the stream
abbrev pub reply_of : Result Opening Reply → Content → Reply
reply_of (Err refusal) c = refusal
reply_of (Ok o) c = prepend o.text (o.rest (batches (c o.stream)))

-- the stream is read where nothing was refused
abbrev pub stream_of : Result Opening Reply → Content → List Named
stream_of (Err refusal) c = []
stream_of (Ok o) c = stream_file c o.stream ∷ []
