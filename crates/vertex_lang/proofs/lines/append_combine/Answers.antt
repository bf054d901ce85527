use Rattle.std.proofs.Common.{rules, FitsSigned, w64, to_z-of_z}
use Rattle.vertex_lang.proofs.lines.append_combine.Goals as goal

pub returns-in-Max : goal.returns-in-Max
returns-in-Max c =
    let h : FitsSigned w64 c.in-Max.empty = search rules in
    rw c.in-Max.is (rw to_z-of_z at c.append_empty.ensures)
