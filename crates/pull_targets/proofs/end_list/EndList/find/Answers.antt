use Rattle.std.proofs.Common.{◌≡◌, ◌<◌, Bool, List, ℕ, length, length-set, set, true, ap, ◌∙◌}
use Rattle.std.proofs.Common.{sym, subst, arith}
use Rattle.std.proofs.lemmas.List.{with_items_is}
use Rattle.pull_targets.specs.EndList.{AreMarked, EndState}
use Rattle.pull_targets.proofs.EndLemmas.{marked_more}
use Rattle.pull_targets.proofs.end_list.EndList.find.Goals as goal

pub invariant_of-self-then-not-is_set : goal.invariant_of-self-then-not-is_set
invariant_of-self-then-not-is_set c =
    let n : ℕ = c.self.inside.vertices in
    let marks : List Bool = c.self.inside.marks.items in
    let size : n ≡ c.args.self.now.vertices =
    ap (λ (s : EndState). s.vertices) c.self.view_is in
    let there : c.args.v < n = omega (arith, c.requires.vertex) in
    let new : c.set_mark.new.marks ≡ set marks c.args.v true =
    c.set_mark.ensures ∙ ap (λ ms. set ms c.args.v true) c.deref_mut.ensures.value in
    let long : length c.set_mark.new.marks ≡ c.self.inside.marks.len =
    omega (
      arith,
      ap length new,
      length-set marks c.args.v true,
      c.self.inside.marks.ok.0,
    ) in
    let more = marked_more n marks c.self.inside.ends.items c.self.invariant c.args.v there in
    subst (λ (ms : List Bool). AreMarked n ms c.push.new.self.items)
    (sym (with_items_is c.self.inside.marks c.set_mark.new.marks long ∙ new))
    (subst (λ (es : List ℕ). AreMarked n (set marks c.args.v true) es)
    (sym c.in_ok-push.ensures.items) more)
