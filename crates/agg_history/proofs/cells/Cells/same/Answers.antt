use Rattle.std.proofs.Common.{ap, sym, ◌∙◌, refl, int_eq}
use Rattle.std.specs.Cmp.{signed_Decides}
use Rattle.std.specs.Cmp.Lexicographic.{pointwise}
use Rattle.std.proofs.lemmas.Slice.Eq.{slice_eq-Decides}
use Rattle.agg_history.specs.Entries.{entry_in, words_of}
use Rattle.agg_history.proofs.Chunks.{same_words}
use Rattle.agg_history.proofs.cells.Cells.same.Goals as goal

pub returns : goal.returns
returns c =
    let d = slice_eq-Decides signed_Decides c.words_at.result.now c.words_at-2.result.now
    (pointwise int_eq c.words_at.result.now c.words_at-2.result.now) refl in (
      λ t. same_words (entry_in c.args.self.now.all c.args.i)
          (entry_in c.args.self.now.all c.args.j)
          (c.words_at.ensures.agg ∙ sym c.words_at-2.ensures.agg)
          (sym c.words_at.ensures.value ∙ d.0 (sym c.eq.ensures ∙ t) ∙ c.words_at-2.ensures.value),
      λ e. c.eq.ensures
          ∙ d.1 (c.words_at.ensures.value ∙ ap words_of e ∙ sym c.words_at-2.ensures.value),
    )
