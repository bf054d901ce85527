use Rattle.std.proofs.Common.{ap, sym, ◌∙◌}
use Rattle.std.specs.FinMap as finite
use Rattle.adjacency.specs.Rows.{row_at, full_of}
use Rattle.adjacency.proofs.PatchLemmas.{get_patched}
use Rattle.bolt_base.specs.TouchedPairs.{over}
use Rattle.adjacency.proofs.DraftLemmas.{row_full, read_any, choose}
use Rattle.adjacency.proofs.draft.Draft.spot.Goals as goal

pub returns-in-Some-get : goal.returns-in-Some-get
returns-in-Some-get g c =
    let full = full_of c.self.inside.base.now c.self.inside.extra in
    let row = ap (λ d. row_at d.rows c.args.at) (sym c.self.view_is)
    ∙ read_any full c.self.inside.changes c.self.invariant c.args.at
    ∙ ap (λ o. choose full c.args.at o (row_at full c.args.at)) (sym c.in-Some.ensures.value) in
    record {
      degree = c.self.invariant.degrees c.args.at c.in-Some.changed.now
          (sym c.in-Some.ensures.value)
          ∙ ap finite.len (sym row);
      weight = sym (ap (λ r. finite.get r c.args.end) row
          ∙ get_patched (row_at full c.args.at) c.in-Some.changed.now.patch c.args.end
          ∙ ap (λ o. over o (finite.get (row_at full c.args.at) c.args.end))
          (sym c.get-in-Some.ensures ∙ c.in-Some-get.is));
    }

pub returns-in-None-get : goal.returns-in-None-get
returns-in-None-get g c =
    let full = full_of c.self.inside.base.now c.self.inside.extra in
    let row = ap (λ d. row_at d.rows c.args.at) (sym c.self.view_is)
    ∙ read_any full c.self.inside.changes c.self.invariant c.args.at
    ∙ ap (λ o. choose full c.args.at o (row_at full c.args.at)) (sym c.in-Some.ensures.value) in
    record {
      degree = c.self.invariant.degrees c.args.at c.in-Some.changed.now
          (sym c.in-Some.ensures.value)
          ∙ ap finite.len (sym row);
      weight = c.weight.ensures ∙ ap (λ r. finite.get r c.args.end)
          (sym (row_full c.self.inside.base.now c.self.inside.extra c.args.at))
          ∙ sym (ap (λ r. finite.get r c.args.end) row
          ∙ get_patched (row_at full c.args.at) c.in-Some.changed.now.patch c.args.end
          ∙ ap (λ o. over o (finite.get (row_at full c.args.at) c.args.end))
          (sym c.get-in-Some.ensures ∙ c.in-None-get.is));
    }

pub returns-in-None : goal.returns-in-None
returns-in-None g c =
    let full = full_of c.self.inside.base.now c.self.inside.extra in
    let row = ap (λ d. row_at d.rows c.args.at) (sym c.self.view_is)
    ∙ read_any full c.self.inside.changes c.self.invariant c.args.at
    ∙ ap (λ o. choose full c.args.at o (row_at full c.args.at)) (sym c.in-None.ensures.value)
    ∙ row_full c.self.inside.base.now c.self.inside.extra c.args.at in
    record {
      degree = c.degree.ensures ∙ ap finite.len (sym row);
      weight = c.weight-in-None.ensures ∙ ap (λ r. finite.get r c.args.end) (sym row);
    }
