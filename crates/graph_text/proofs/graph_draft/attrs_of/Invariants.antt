use Rattle.std.proofs.Common.{◌≡◌, map, pos}
use Rattle.std.specs.List.{range_with_len}
use Rattle.std.specs.Option.{unwrap_or}
use Rattle.graph_text.specs.DraftCode.{attr_at}
use Rattle.graph_text.proofs.graph_draft.attrs_of.Given as goal

abbrev pub invariant-loop-v : goal.invariant-loop-v
invariant-loop-v l =
    l.attrs ≡ map (λ v. unwrap_or (attr_at l.given v) (pos 0)) (range_with_len 0 l.v)
