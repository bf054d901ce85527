use Rattle.std.proofs.Common.{◌≡◌, ℕ, List, ◌∷◌, ◌<◌, ◌≤◌, length, take, drop, get_or, sym, ◌∙◌}
use Rattle.std.proofs.Common.{ap, arith, length-drop}
use Rattle.std.specs.List.{prefix_len}
use Rattle.std.proofs.lemmas.List.{drop_all}
use Rattle.lexical.specs.Bytes.{is_blank}
use Rattle.lexical.specs.Words.{split_words}
use Rattle.lexical.proofs.WordLemmas.{split_words-blanks, split_words-word, rest_starts_word}
use Rattle.lexical.proofs.words.next_word.Goals as goal

pub returns-then-start-text : goal.returns-then-start-text
returns-then-start-text c =
    let text = c.args.text.now in
    let n = c.blanks_len-start.result in
    let all : length text ≤ n = omega arith in
    split_words-blanks text n c.blanks_len-start.ensures.value
    ∙ ap split_words (drop_all n text all)

pub returns : goal.returns
returns c =
    let text = c.args.text.now in
    let n = c.blanks_len-start.result in
    let m = c.word_len-n.result in
    let rest = c.split_at.result.1.now in
    let back : rest ≡ drop n text = c.split_at.ensures.back in
    let is = c.blanks_len-start.ensures.value in
    let less : prefix_len is_blank text < length text = omega arith in
    let some : 0 < length rest = omega (arith, ap length back, length-drop n text) in
    let begins : is_blank (get_or rest 0 0) ≡ Rattle.std.proofs.Common.false =
    ap (λ (l : List ℕ). is_blank (get_or l 0 0)) back
    ∙ ap (λ (k : ℕ). is_blank (get_or (drop k text) 0 0)) is ∙ rest_starts_word text less in
    split_words-blanks text n is ∙ ap split_words (sym back) ∙ split_words-word rest some begins
    ∙ ap (λ (k : ℕ). take k rest ∷ split_words (drop k rest)) (sym c.word_len-n.ensures.value)
    ∙ ap (λ (l : List ℕ). l ∷ split_words (drop m rest)) (sym c.split_at-2.ensures.front)
    ∙ ap (λ (l : List ℕ). c.split_at-2.result.0.now ∷ split_words l) (sym c.split_at-2.ensures.back)
