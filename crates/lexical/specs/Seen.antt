-- What contracts see of the code's words.
use Rattle.lexical.specs.Words.{Word}
use Rattle.lexical.specs.declared.words.Word.{Word as CodeWord}

abbrev pub word_of : CodeWord → Word
word_of w = record { at = w.at; bytes = w.bytes.now }
