use Rattle.std.proofs.Common.{◌≡◌, ap, sym, ◌∙◌, take}
use Rattle.std.specs.Cmp.{signed_Decides}
use Rattle.std.proofs.lemmas.Slice.Eq.{slice_eq-Decides}
use Rattle.bolt_base.specs.Padded.{padded}
use Rattle.bolt_base.proofs.lanes.Lanes.same.Goals as goal

pub returns-then-self-other : goal.returns-then-self-other
returns-then-self-other c =
    let decides = slice_eq-Decides signed_Decides c.self.inside.word c.other.inside.word
    c.eq.result c.eq.ensures in (
      (λ t. let words : c.self.inside.word ≡ c.other.inside.word = decides.0 t in
          sym c.self.view_is ∙ ap (λ w. take w c.self.inside.word) c.if-self-other.true
          ∙ ap (take c.other.inside.width) words ∙ c.other.view_is),
      (λ e. let words : c.self.inside.word ≡ c.other.inside.word = sym c.self.invariant.zeros
          ∙ ap padded (c.self.view_is ∙ e ∙ sym c.other.view_is)
          ∙ c.other.invariant.zeros in decides.1 words),
    )
