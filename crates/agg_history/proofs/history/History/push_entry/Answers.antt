use Rattle.std.proofs.Common.{◌≡◌, ◌++◌, ◌∷◌, [], sym, ap, ◌∙◌, suc, ◌-◌, length, min, subst, arith}
use Rattle.std.proofs.Common.{OnOk}
use Rattle.bolt_base.specs.Keep.{Entry}
use Rattle.agg_history.specs.Entries.{Entries, entry_in}
use Rattle.agg_history.specs.Pruned.{track_of}
use Rattle.agg_history.proofs.HistoryIs.{first_is, track_is, read_is, read_first, read_later}
use Rattle.agg_history.proofs.history.History.push_entry.Goals as goal

pub returns-then-place-eq0 : goal.returns-then-place-eq0
returns-then-place-eq0 c =
    let track = ap (λ (e : Entries). e.all) c.index-track.ensures
    ∙ track_is c.self.inside c.args.self.now c.self.view_is c.self.invariant c.args.v
    c.requires.vertex c.index-track.result.now in
    let place : min c.args.i (length (track_of c.args.self.now.now.tracks c.args.v))
    ≡ 0 = ap (λ es. min c.args.i (length es)) (sym track)
    ∙ ap (min c.args.i) (sym c.len.ensures) ∙ sym c.min-place.ensures ∙ c.if-place-eq0.true in
    let entry = first_is c.self.inside c.args.self.now c.self.view_is c.self.invariant c.args.v
    c.requires.vertex
    ∙ sym (read_first (entry_in c.args.self.now.now.first c.args.v)
    (track_of c.args.self.now.now.tracks c.args.v) c.args.i place)
    ∙ sym (read_is c.self.inside c.args.self.now c.self.view_is c.self.invariant c.args.v
    c.requires.vertex c.args.i c.requires.iteration) in
    subst (λ (e : Entry). OnOk c.push_from.result
    (c.push_from.new.self
    ≡ record c.args.entries.now { all = c.args.entries.now.all ++ e ∷ [] })) entry
    c.push_from.ensures.ok

pub returns : goal.returns
returns c =
    let track = ap (λ (e : Entries). e.all) c.index-track.ensures
    ∙ track_is c.self.inside c.args.self.now c.self.view_is c.self.invariant c.args.v
    c.requires.vertex c.index-track.result.now in
    let place : min c.args.i (length (track_of c.args.self.now.now.tracks c.args.v))
    ≡ suc (c.min-place.result - 1) =
    ap (λ es. min c.args.i (length es)) (sym track) ∙ ap (min c.args.i) (sym c.len.ensures)
    ∙ sym c.min-place.ensures
    ∙ (let e : c.min-place.result
    ≡ suc (c.min-place.result - 1) = omega (arith, c.if-place-eq0.false) in e) in
    let entry = ap (λ es. entry_in es (c.min-place.result - 1)) track
    ∙ sym (read_later (entry_in c.args.self.now.now.first c.args.v)
    (track_of c.args.self.now.now.tracks c.args.v) c.args.i (c.min-place.result - 1) place)
    ∙ sym (read_is c.self.inside c.args.self.now c.self.view_is c.self.invariant c.args.v
    c.requires.vertex c.args.i c.requires.iteration) in
    subst (λ (e : Entry). OnOk c.push_from-2.result
    (c.push_from-2.new.self
    ≡ record c.args.entries.now { all = c.args.entries.now.all ++ e ∷ [] })) entry
    c.push_from-2.ensures.ok
