use Rattle.std.proofs.Common.{ap, ◌∙◌, ◌≡◌, ◌+◌, ◌*◌, ◌++◌, length, take, drop, arith}
use Rattle.std.proofs.Common.{length-append, length-take, length-drop}
use Rattle.std.proofs.lemmas.List.{with_items_is}
use Rattle.bolt_base.specs.Keep.{Entry}
use Rattle.agg_history.specs.Entries.{entry_in, words_of, chunks}
use Rattle.agg_history.proofs.CellLemmas.{lanes_is, put_end, put_is}
use Rattle.agg_history.proofs.cells.Cells.set_from.Goals as goal

pub overwrite-requires : goal.overwrite-requires
overwrite-requires c =
    omega (
      arith,
      put_end c.self.inside c.args.self.now c.self.view_is c.self.invariant c.args.place
          c.requires.place (entry_in c.args.other.now.all c.args.j)
          (c.words_at.ensures.agg ∙ c.requires.lanes) (c.words_at.ensures.val ∙ c.requires.lanes),
      ap length c.words_at.ensures.value,
      ap length c.deref_mut.ensures.value,
    )

pub returns : goal.returns
returns c =
    let e : Entry = entry_in c.args.other.now.all c.args.j in
    let agg = c.words_at.ensures.agg ∙ c.requires.lanes in
    let val = c.words_at.ensures.val ∙ c.requires.lanes in
    let end = put_end c.self.inside c.args.self.now c.self.view_is c.self.invariant c.args.place
    c.requires.place e agg val in
    let at = c.args.place * (2 * c.self.inside.lanes) in
    let new = c.overwrite.ensures
    ∙ ap (λ ws. take at ws
    ++ (c.words_at.result.now ++ drop (at + length c.words_at.result.now) ws))
    c.deref_mut.ensures.value
    ∙ ap (λ xs. take at c.self.inside.words.items
    ++ (xs ++ drop (at + length xs) c.self.inside.words.items)) c.words_at.ensures.value in
    let long : length c.overwrite.new.words ≡ c.self.inside.words.len =
    omega (
      arith,
      ap length new,
      end,
      length-append (take at c.self.inside.words.items)
          (words_of e ++ drop (at + length (words_of e)) c.self.inside.words.items),
      length-append (words_of e) (drop (at + length (words_of e)) c.self.inside.words.items),
      length-take at c.self.inside.words.items,
      length-drop (at + length (words_of e)) c.self.inside.words.items,
      c.self.inside.words.ok.0,
    ) in
    let all = ap (chunks c.self.inside.lanes c.self.inside.len)
    (with_items_is c.self.inside.words c.overwrite.new.words long ∙ new)
    ∙ put_is c.self.inside c.args.self.now c.self.view_is c.self.invariant c.args.place
    c.requires.place e agg val in
    λ i. record {
      lanes = lanes_is c.self.inside c.args.self.now c.self.view_is c.self.invariant i;
      all = all i;
    }
