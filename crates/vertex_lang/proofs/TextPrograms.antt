-- What a text says is a program that a text can have.
use Rattle.std.proofs.Common.{◌≡◌, ℕ, ◌+◌, List, [], ◌∷◌, take, drop, Option, Some}
use Rattle.std.proofs.Common.{None, Result, Ok, refl, subst, arith}
use Rattle.vertex_expr.specs.Writable.{IsWritable}
use Rattle.vertex_expr.specs.declared.program.ProgramEntries.{ProgramEntries}
use Rattle.lexical.specs.Words.{Word, words_from}
use Rattle.lexical.specs.Lines.{lines_from}
use Rattle.text_words.specs.Fields.{◌>>=◌, ascii_word, word_end, ended_at}
use Rattle.text_words.specs.declared.error.LangError.{LangError}
use Rattle.text_words.specs.declared.error.Keyword.{Keyword}
use Rattle.text_words.proofs.FieldFacts.{On, on_then, on_any}
use Rattle.vertex_lang.specs.declared.draft.Draft.{Draft}
use Rattle.vertex_lang.specs.Keywords.{order, keyword_of}
use Rattle.vertex_lang.specs.Entries.{entry_at}
use Rattle.vertex_lang.specs.Drafts.{blank, admitted, entered, keyed, begun, line_step, lines_read}
use Rattle.vertex_lang.specs.Drafts.{complete, first_due}
use Rattle.vertex_lang.specs.ProgramOf.{entries_of}
use Rattle.vertex_lang.proofs.GoodDrafts.{IsGood, IsAdmitted, admitted_on, good_draft_writable}
use Rattle.vertex_lang.proofs.EntriesKept.{entry_kept}

abbrev Good : Draft → Type 0
Good d = IsGood d.stage d.entries

entered_kept : (d : Draft) (line : List ℕ) (at from : ℕ) (k : Keyword) → Good d
    → On Good (entered d line at from k)
unfolding entered
entered_kept d line at from k h =
    on_then (λ _. IsAdmitted d k) Good (admitted d k at)
    (λ u. entry_at d.entries k line from >>= λ e. ended_at line e.1 >>= λ v. Ok
    (record { stage = order k + 1; entries = e.0 })) (admitted_on d k at)
    (λ u a. on_then (λ r. IsGood (order k + 1) r.0) Good (entry_at d.entries k line from)
    (λ e. ended_at line e.1 >>= λ v. Ok (record { stage = order k + 1; entries = e.0 }))
    (entry_kept d k line from h a)
    (λ e g. on_then (λ _. Unit {0}) Good (ended_at line e.1)
    (λ v. Ok (record { stage = order k + 1; entries = e.0 })) (on_any (ended_at line e.1))
    (λ v t. g)))

keyed_kept : (d : Draft) (line : List ℕ) (w : Word) (k : Option Keyword) → Good d
    → On Good (keyed d line w k)
keyed_kept d line w None h = tt
keyed_kept d line w (Some k) h = entered_kept d line w.at (word_end w) k h

begun_kept : (d : Draft) (line : List ℕ) (ws : List Word) → Good d → On Good (begun d line ws)
begun_kept d line [] h = h
begun_kept d line (w ∷ ws) h =
    on_then (λ _. Unit {0}) Good (ascii_word w) (λ v. keyed d line v (keyword_of v.bytes))
    (on_any (ascii_word w)) (λ v t. keyed_kept d line v (keyword_of v.bytes) h)

line_kept : (d : Draft) (line : List ℕ) (from : ℕ) → Good d → On Good (line_step d line from)
unfolding line_step
line_kept d line from h = begun_kept d line (words_from 0 from (drop from line)) h

lines_kept : (d : Draft) (text : List ℕ) (ls : List (ℕ × ℕ)) → Good d
    → On Good (lines_read d text ls)
lines_kept d text [] h = h
lines_kept d text (l ∷ ls) h =
    on_then Good Good (line_step d (take l.1 text) l.0) (λ e. lines_read e text ls)
    (line_kept d (take l.1 text) l.0 h) (λ e g. lines_kept e text ls g)

blank_good : Good blank
blank_good = record {
  begun =
      record {
        name = λ l. absurd (omega arith);
        vertices = λ l. absurd (omega arith);
        degree = λ l.
            absurd (omega arith);
        edges = λ l. absurd (omega arith);
        weight = λ l. absurd
            (omega arith);
        attr = λ l. absurd (omega arith);
        rounds = λ l. absurd (omega arith);
        combine = λ l. absurd (omega arith);
      };
  params =
      record {
        few = omega arith;
        names = record
            { form = λ k l. absurd (omega arith); free = λ k l. absurd (omega arith) };
        values = λ k d l. absurd (omega arith);
      };
  lanes = record { few = omega arith; each = λ k d l. absurd (omega arith) };
  trees =
      record {
        no_init = λ l. refl;
        no_contribute = λ l. refl;
        no_apply = λ l. refl;
        few_init = omega arith;
        few_contribute = omega arith;
        few_apply = omega arith;
        init = λ k d l. absurd (omega arith);
        contribute = λ k d l. absurd (omega arith);
        apply = λ k d l. absurd (omega arith);
      };
}

pub entries_writable : (text : List ℕ) → On IsWritable (entries_of text)
unfolding entries_of
entries_writable text =
    on_then Good IsWritable (lines_read blank text (lines_from 0 0 text))
    (λ d. complete d (first_due d)) (lines_kept blank text (lines_from 0 0 text) blank_good)
    (λ d h. whole d h (first_due d) refl)
  where
    whole : (d : Draft) → Good d → (o : Option Keyword) → first_due d ≡ o
        → On IsWritable (complete d o)
    whole d h None e = good_draft_writable d h e
    whole d h (Some k) e = tt

pub writable_of : (text : List ℕ) (g : ProgramEntries) → entries_of text ≡ Ok g → IsWritable g
writable_of text g e =
    let P : Result ProgramEntries LangError → Type 0 = λ o. On IsWritable o in
    subst P e (entries_writable text)
