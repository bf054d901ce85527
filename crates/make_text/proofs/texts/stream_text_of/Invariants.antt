use Rattle.std.proofs.Common.{◌≡◌, take}
use Rattle.make_text.specs.Texts.{stream_text}
use Rattle.make_text.proofs.texts.stream_text_of.Given as goal

abbrev pub invariant-loop-batch : goal.invariant-loop-batch
invariant-loop-batch l = l.text ≡ stream_text (take l.batch-index l.batch-items)
