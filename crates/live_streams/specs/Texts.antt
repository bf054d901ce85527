-- The files of a live run.
use Rattle.std.specs.Prelude.{ℕ, List, map}
use Rattle.graph_text.specs.StreamText.{batches}
use Rattle.graph_text.specs.declared.batch_text.BatchText.{BatchText}
use Rattle.batch_steps.specs.Files.{Content, Named, stream_file}
use Rattle.live_text.specs.Questions.{questions}
use Rattle.live_text.specs.declared.question.Question.{Question}

-- each file of these names is read to its end
abbrev pub whole_files : List (List ℕ) → Content → List Named
whole_files names c = map (λ name. stream_file c name) names

-- the batches of each
abbrev pub streams_of : List (List ℕ) → Content → List (List BatchText)
streams_of names c = map (λ name. batches (c name)) names

-- the questions of each, to a program with that many lanes
abbrev pub questions_of : ℕ → List (List ℕ) → Content → List (List Question)
questions_of lanes names c = map (λ name. questions lanes (c name)) names
