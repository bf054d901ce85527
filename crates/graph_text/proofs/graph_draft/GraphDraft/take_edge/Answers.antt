use Rattle.std.proofs.Common.{◌≡◌, ◌∙◌, ap, sym, subst}
use Rattle.std.specs.Bool.{OnTrue}
use Rattle.std.specs.FinMap as finite
use Rattle.graph_text.specs.DraftCode.{draft_of, named_in}
use Rattle.graph_text.specs.declared.graph_draft.GraphDraft.{GraphDraft}
use Rattle.graph_text.proofs.DraftLemmas.{ends_bad, is_present, is_absent, not_fresh, is_fresh}
use Rattle.graph_text.proofs.DraftLemmas.{edge_taken}
use Rattle.graph_text.proofs.graph_draft.GraphDraft.take_edge.Goals as goal

pub returns-in-Some-clause-cause : goal.returns-in-Some-clause-cause
returns-in-Some-clause-cause c =
    ends_bad c.args.limits.now (draft_of c.args.self.now) c.args.edge c.in-Some.cause
    c.in-Some.ensures

pub returns-then-present-clause-cause : goal.returns-then-present-clause-cause
returns-then-present-clause-cause c =
    is_present c.args.limits.now (draft_of c.args.self.now) c.args.edge c.in_default.ensures
    (sym c.contains-present.ensures ∙ c.if-present.true)

pub returns-else-present-clause-cause : goal.returns-else-present-clause-cause
returns-else-present-clause-cause c =
    c.in-Some-room_cause.ensures.cause
    ∙ is_absent c.args.limits.now (draft_of c.args.self.now) c.args.edge c.in_default.ensures
    (sym c.contains-present.ensures ∙ c.if-present.false)

pub returns-then-not-branch-clause-cause : goal.returns-then-not-branch-clause-cause
returns-then-not-branch-clause-cause c =
    is_present c.args.limits.now (draft_of c.args.self.now) c.args.edge c.in_default.ensures
    (not_fresh c.args.self.now.edges c.args.edge _ c.in_ok-put.ensures.fresh
    c.if-not-branch.true)

pub returns-clause-cause : goal.returns-clause-cause
returns-clause-cause c =
    c.in_default-room_cause.ensures.cause
    ∙ is_absent c.args.limits.now (draft_of c.args.self.now) c.args.edge c.in_default.ensures
    (is_fresh c.args.self.now.edges c.args.edge _ c.in_ok-put.ensures.fresh
    c.if-not-branch.false)

pub returns-clause-taken : goal.returns-clause-taken
returns-clause-taken c =
    let e = c.args.edge in
    let put : c.put.new.self ≡ finite.insert c.args.self.now.edges (e.src, e.dst) e.weight =
    subst (λ fresh. OnTrue fresh (c.put.new.self
    ≡ finite.insert c.args.self.now.edges (e.src, e.dst) e.weight)) c.if-not-branch.false
    c.in_ok-put.ensures.put in
    let before : GraphDraft =
    record {
      begun = c.args.self.now.begun;
      counted = c.args.self.now.counted;
      named = c.args.self.now.named;
      attrs = c.args.self.now.attrs;
      edges = c.put.new.self;
    } in
    ap draft_of (c.name.ensures ∙ ap (named_in before) c.max.ensures)
    ∙ edge_taken c.args.self.now e c.put.new.self put
