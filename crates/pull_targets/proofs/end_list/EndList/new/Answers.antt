use Rattle.std.proofs.Common.{rules, ◌≡◌, replicate, false}
use Rattle.pull_targets.proofs.EndLemmas.{none_marked}
use Rattle.pull_targets.proofs.end_list.EndList.new.Goals as goal

pub invariant_of-result : goal.invariant_of-result
invariant_of-result c =
    let marks : c.in_ok-vec.field-0.items ≡ replicate c.args.marks false =
    c.in_ok-vec.ensures.items_if_clones_equal (search rules) in
    rw (marks, c.new.ensures.items) (none_marked c.args.vertices c.args.marks)
