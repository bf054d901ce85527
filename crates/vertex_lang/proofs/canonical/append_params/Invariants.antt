use Rattle.std.proofs.Common.{◌≡◌, ◌++◌, drop}
use Rattle.vertex_lang.specs.Canonical.{ended_lines, param_lines}
use Rattle.vertex_lang.proofs.canonical.append_params.Given as goal

abbrev pub invariant-loop-param : goal.invariant-loop-param
invariant-loop-param l =
    l.out ++ ended_lines (param_lines (drop l.param-index l.params))
    ≡ l.initial.out ++ ended_lines (param_lines l.params)
