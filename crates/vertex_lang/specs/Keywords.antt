-- The words that begin entries, in the order of the entries.
use Rattle.std.specs.Prelude.{ℕ, ◌==◌, if◌then◌else◌, List, Option, Some, None, codes}
use Rattle.std.specs.Str.{bytes_eq}
use Rattle.text_words.specs.declared.error.Keyword.{Keyword}
use Rattle.text_words.specs.declared.error.Keyword.TheVariants.{Program, Vertices, Degree, Edges}
use Rattle.text_words.specs.declared.error.Keyword.TheVariants.{Weight, Attr, Rounds, Combine}
use Rattle.text_words.specs.declared.error.Keyword.TheVariants.{Param, Lane, Init, Contribute}
use Rattle.text_words.specs.declared.error.Keyword.TheVariants.{Apply}

-- the place of a word's entry in the order
abbrev pub order : Keyword → ℕ
order Program = 0
order Vertices = 1
order Degree = 2
order Edges = 3
order Weight = 4
order Attr = 5
order Rounds = 6
order Combine = 7
order Param = 8
order Lane = 9
order Init = 10
order Contribute = 11
order Apply = 12

-- the entry that a word begins
unfoldable pub keyword_of : List ℕ → Option Keyword
keyword_of w =
    if bytes_eq w (codes "program") then Some Program
    else if bytes_eq w (codes "vertices") then Some Vertices
    else if bytes_eq w (codes "degree") then Some Degree
    else if bytes_eq w (codes "edges") then Some Edges
    else if bytes_eq w (codes "weight") then Some Weight
    else if bytes_eq w (codes "attr") then Some Attr
    else if bytes_eq w (codes "rounds") then Some Rounds
    else if bytes_eq w (codes "combine") then Some Combine
    else if bytes_eq w (codes "param") then Some Param
    else if bytes_eq w (codes "lane") then Some Lane
    else if bytes_eq w (codes "init") then Some Init
    else if bytes_eq w (codes "contribute") then Some Contribute
    else if bytes_eq w (codes "apply") then Some Apply
    else None

-- the entry at this place of the order, of the first eight, which stand once
unfoldable pub once_at : ℕ → Keyword
once_at k =
    if k == 0 then Program else if k == 1 then Vertices else if k == 2 then Degree else if k == 3
    then Edges
    else if k == 4 then Weight else if k == 5 then Attr else if k == 6 then Rounds else Combine
