use Rattle.std.proofs.Common.{◌≡◌, ◌<◌, ◌+◌, ◌++◌, ◌∷◌, [], ℕ, length, get_or, take, set, sym}
use Rattle.std.proofs.Common.{ap, ◌∙◌, subst, arith}
use Rattle.std.specs.List.{zip}
use Rattle.std.proofs.lemmas.List.{take_more, take_all, get_or-map, length-map}
use Rattle.std.proofs.lemmas.Slice.Zip.{length-zip, get_or-zip}
use Rattle.swaps.specs.Swaps.{put_all, places}
use Rattle.swaps.proofs.SwapLemmas.{put_all-append, length-put_all}
use Rattle.bolt_base.specs.Keep.{no_entry}
use Rattle.agg_history.specs.Entries.{Entries, entry_in}
use Rattle.agg_history.proofs.history.commit.put_heads.Goals as goal

pub set_from-requires-clause-place : goal.set_from-requires-clause-place
set_from-requires-clause-place c =
    let below : c.loop-k.k < length c.args.lists.now = omega
    (arith, c.loop-k.invariant.end, c.requires.count) in
    let there : c.index-lists-k.result.0 < length c.args.first.now.all = subst
    (λ (list : ℕ × Entries). list.0 < length c.args.first.now.all) (sym c.index-lists-k.is)
    (c.requires.inside c.loop-k.k c.index-lists-k.result below) in
    let items = zip (places c.args.lists.now) c.args.heads.now.all in
    omega (
      arith,
      there,
      ap (λ (e : Entries). length e.all) c.loop-k.invariant.all,
      length-put_all (take c.loop-k.k items) c.args.first.now.all,
    )

pub loop-k-preserved : goal.loop-k-preserved
loop-k-preserved c =
    let below : c.loop-k.k < length c.args.lists.now = omega
    (arith, c.loop-k.invariant.end, c.requires.count) in
    let inside : c.loop-k.k < length c.args.heads.now.all = omega (arith, c.requires.count) in
    let numbers = places c.args.lists.now in
    let items = zip numbers c.args.heads.now.all in
    let count = length-map c.args.lists.now (λ (list : ℕ × Entries). list.0) in
    let place : get_or numbers c.loop-k.k 0
    ≡ c.index-lists-k.result.0 = get_or-map
    (λ (list : ℕ × Entries). list.0) c.args.lists.now c.loop-k.k c.index-lists-k.result 0 below
    ∙ ap (λ (list : ℕ × Entries). list.0) (sym c.index-lists-k.is) in
    let item : get_or items c.loop-k.k (0, no_entry)
    ≡ (c.index-lists-k.result.0, entry_in c.args.heads.now.all c.loop-k.k) =
    get_or-zip numbers c.args.heads.now.all c.loop-k.k (0, no_entry) (omega arith) inside
    ∙ ap (λ v. (v, entry_in c.args.heads.now.all c.loop-k.k)) place in
    let more : take (c.loop-k.k + 1) items ≡ take c.loop-k.k items
    ++ (c.index-lists-k.result.0, entry_in c.args.heads.now.all c.loop-k.k) ∷ [] =
    take_more items c.loop-k.k (0, no_entry)
    (omega (arith, length-zip numbers c.args.heads.now.all))
    ∙ ap (λ x. take c.loop-k.k items ++ x ∷ []) item in
    record {
      all = c.set_from.ensures
          ∙ (λ i. record (c.loop-k.invariant.all i) {
            all = set (c.loop-k.invariant.all i).all c.index-lists-k.result.0
                (entry_in c.args.heads.now.all c.loop-k.k);
          })
          ∙ ap (λ xs. record c.args.first.now { all = xs })
          (sym (put_all-append (take c.loop-k.k items)
          (c.index-lists-k.result.0, entry_in c.args.heads.now.all c.loop-k.k)
          c.args.first.now.all) ∙ ap (λ ts. put_all ts c.args.first.now.all) (sym more));
      end = c.loop-k.invariant.end;
    }

pub returns : goal.returns
returns c =
    let items = zip (places c.args.lists.now) c.args.heads.now.all in
    c.loop-k.invariant.all
    ∙ ap (λ ts. record c.args.first.now { all = put_all ts c.args.first.now.all })
    (take_all c.loop-k.k items
    (omega (
      arith,
      c.loop-k.invariant.end,
      length-zip (places c.args.lists.now) c.args.heads.now.all,
    )))
