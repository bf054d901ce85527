-- Tokens and places.
use Rattle.std.proofs.Common.{◌≡◌, ℕ, zero, suc, ◌+◌, ◌-◌, ◌<◌, Bool, false, cond, List, [], ◌∷◌}
use Rattle.std.proofs.Common.{length, get_or, drop, refl, sym, ◌∙◌, ap, arith}
use Rattle.std.proofs.lemmas.List.{drop_more, drop-drop}
use Rattle.text_words.specs.Token.{Token}
use Rattle.lexical.specs.Bytes.{is_blank}
use Rattle.text_words.specs.Tokens.{first_token, tokens_from}

-- bytes that an earlier token taken
pub tokens_from-taken : (k at : ℕ) (bs : List ℕ)
    → tokens_from k at bs ≡ tokens_from 0 (at + k) (drop k bs)
tokens_from-taken zero at bs = ap (λ n. tokens_from 0 n bs) (omega arith)
tokens_from-taken (suc k) at [] = refl
tokens_from-taken (suc k) at (b ∷ bs) =
    tokens_from-taken k (at + 1) bs ∙ ap (λ n. tokens_from 0 n (drop k bs)) (omega arith)

pub token_at : (b : ℕ) (bs : List ℕ) (at n : ℕ) (t : Token) → is_blank b ≡ false
    → first_token b bs ≡ (t, n) → 0 < n
    → tokens_from 0 at (b ∷ bs) ≡ (t, at) ∷ tokens_from 0 (at + n) (drop n (b ∷ bs))
token_at b bs at zero t off e some = absurd (omega arith)
token_at b bs at (suc m) t off e some =
    ap (λ (d : Bool). cond d (tokens_from 0 (at + 1) bs)
    (((first_token b bs).0, at) ∷ tokens_from ((first_token b bs).1 - 1) (at + 1) bs)) off
    ∙ ap (λ (p : Token × ℕ). (p.0, at) ∷ tokens_from (p.1 - 1) (at + 1) bs) e
    ∙ ap (λ (k : ℕ). (t, at) ∷ tokens_from k (at + 1) bs) (let h : suc m - 1 ≡ m = omega arith in h)
    ∙ ap (λ (l : List (Token × ℕ)). (t, at) ∷ l)
    (tokens_from-taken m (at + 1) bs ∙ ap (λ k. tokens_from 0 k (drop m bs)) (omega arith))

-- the token at a place of a text
pub token_in : (text : List ℕ) (at n : ℕ) (t : Token) → at < length text
    → is_blank (get_or text at 0) ≡ false
    → first_token (get_or (drop at text) 0 0) (drop 1 (drop at text)) ≡ (t, n) → 0 < n
    → tokens_from 0 at (drop at text) ≡ (t, at) ∷ tokens_from 0 (at + n) (drop (at + n) text)
token_in text at n t l off e some =
    let cut : drop at text ≡ get_or text at 0 ∷ drop (at + 1) text = drop_more text at 0 l in
    let front : first_token (get_or text at 0) (drop (at + 1) text) ≡ (t, n) =
    ap (λ (r : List ℕ). first_token (get_or r 0 0) (drop 1 r)) (sym cut) ∙ e in
    ap (tokens_from 0 at) cut ∙ token_at (get_or text at 0) (drop (at + 1) text) at n t off front
    some
    ∙ ap (λ (r : List ℕ). (t, at) ∷ tokens_from 0 (at + n) r)
    (ap (drop n) (sym cut) ∙ drop-drop n at text)
