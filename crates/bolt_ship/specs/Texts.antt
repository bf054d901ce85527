-- The texts of the programs that are offered by name.
use Rattle.std.specs.Prelude.{ℕ, List, [], ◌∷◌, ◌++◌, Option, Some, None, codes}
use Rattle.std.specs.Prelude.{if◌then◌else◌}
use Rattle.std.specs.Str.{bytes_eq}

-- lines, each ended by a line feed
abbrev pub ended_lines : List (List ℕ) → List ℕ
ended_lines [] = []
ended_lines (l ∷ ls) = l ++ 10 ∷ ended_lines ls

-- ranks by links: 1000000 stands for 1
abbrev pub rank_text : List ℕ
rank_text = ended_lines (
    codes "program rank"
    ∷ codes "vertices 1000000"
    ∷ codes "degree 1000000"
    ∷ codes "edges 8000000"
    ∷ codes "weight -1000000 1000000"
    ∷ codes "attr -1000000 1000000"
    ∷ codes "rounds 10"
    ∷ codes "combine sum"
    ∷ codes "lane 0 0 1000000000000"
    ∷ codes "init 0 1000000"
    ∷ codes "contribute 0 val[0] / outdeg"
    ∷ codes "apply 0 clamp(150000 + agg[0] * 17 / 20, 0, 1000000000000)"
    ∷ [])

-- two labels, each lane a share of 1000000
abbrev pub labels2_text : List ℕ
labels2_text = ended_lines (
    codes "program labels2"
    ∷ codes "vertices 1000000"
    ∷ codes "degree 1000000"
    ∷ codes "edges 8000000"
    ∷ codes "weight 1 1000"
    ∷ codes "attr 0 2"
    ∷ codes "rounds 10"
    ∷ codes "combine sum"
    ∷ codes "lane 0 0 1000000"
    ∷ codes "lane 1 0 1000000"
    ∷ codes "init 0 if(attr = 1, 1000000, 0)"
    ∷ codes "init 1 if(attr = 2, 1000000, 0)"
    ∷ codes "contribute 0 val[0] * weight"
    ∷ codes "contribute 1 val[1] * weight"
    ∷ (codes "apply 0 if(attr = 1, 1000000, if(0 < attr, 0, clamp(agg[0] * 1000000 /"
    ++ codes " max(agg[0] + agg[1], 1), 0, 1000000)))")
    ∷ (codes "apply 1 if(attr = 2, 1000000, if(0 < attr, 0, clamp(agg[1] * 1000000 /"
    ++ codes " max(agg[0] + agg[1], 1), 0, 1000000)))")
    ∷ [])

-- four labels, each lane a share of 1000000
abbrev pub labels4_text : List ℕ
labels4_text = ended_lines (
    codes "program labels4"
    ∷ codes "vertices 1000000"
    ∷ codes "degree 1000000"
    ∷ codes "edges 8000000"
    ∷ codes "weight 1 1000"
    ∷ codes "attr 0 4"
    ∷ codes "rounds 10"
    ∷ codes "combine sum"
    ∷ codes "lane 0 0 1000000"
    ∷ codes "lane 1 0 1000000"
    ∷ codes "lane 2 0 1000000"
    ∷ codes "lane 3 0 1000000"
    ∷ codes "init 0 if(attr = 1, 1000000, 0)"
    ∷ codes "init 1 if(attr = 2, 1000000, 0)"
    ∷ codes "init 2 if(attr = 3, 1000000, 0)"
    ∷ codes "init 3 if(attr = 4, 1000000, 0)"
    ∷ codes "contribute 0 val[0] * weight"
    ∷ codes "contribute 1 val[1] * weight"
    ∷ codes "contribute 2 val[2] * weight"
    ∷ codes "contribute 3 val[3] * weight"
    ∷ (codes "apply 0 if(attr = 1, 1000000, if(0 < attr, 0, clamp(agg[0] * 1000000 /"
    ++ codes " max(agg[0] + agg[1] + agg[2] + agg[3], 1), 0, 1000000)))")
    ∷ (codes "apply 1 if(attr = 2, 1000000, if(0 < attr, 0, clamp(agg[1] * 1000000 /"
    ++ codes " max(agg[0] + agg[1] + agg[2] + agg[3], 1), 0, 1000000)))")
    ∷ (codes "apply 2 if(attr = 3, 1000000, if(0 < attr, 0, clamp(agg[2] * 1000000 /"
    ++ codes " max(agg[0] + agg[1] + agg[2] + agg[3], 1), 0, 1000000)))")
    ∷ (codes "apply 3 if(attr = 4, 1000000, if(0 < attr, 0, clamp(agg[3] * 1000000 /"
    ++ codes " max(agg[0] + agg[1] + agg[2] + agg[3], 1), 0, 1000000)))")
    ∷ [])

-- least distances from the vertices of attribute 1
abbrev pub dist_text : List ℕ
dist_text = ended_lines (
    codes "program dist"
    ∷ codes "vertices 1000000"
    ∷ codes "degree 1000000"
    ∷ codes "edges 8000000"
    ∷ codes "weight 0 1000000"
    ∷ codes "attr 0 1"
    ∷ codes "rounds 16"
    ∷ codes "combine min 1000000000000000"
    ∷ codes "param far 1000000000000000"
    ∷ codes "lane 0 0 1000000000000000"
    ∷ codes "init 0 if(attr = 1, 0, far)"
    ∷ codes "contribute 0 min(val[0] + weight, far)"
    ∷ codes "apply 0 min(old[0], agg[0])"
    ∷ [])

-- weights of the whole of i64, one edge to each vertex
abbrev pub wide_text : List ℕ
wide_text = ended_lines (
    codes "program wide"
    ∷ codes "vertices 1000000"
    ∷ codes "degree 1"
    ∷ codes "edges 1000000"
    ∷ codes "weight -9223372036854775808 9223372036854775807"
    ∷ codes "attr 0 0"
    ∷ codes "rounds 2"
    ∷ codes "combine sum"
    ∷ codes "lane 0 -9223372036854775808 9223372036854775807"
    ∷ codes "init 0 0"
    ∷ codes "contribute 0 weight"
    ∷ codes "apply 0 agg[0]"
    ∷ [])

-- the text of a name, if it is one of theirs
abbrev pub text_of : List ℕ → Option (List ℕ)
text_of name =
    if bytes_eq name (codes "rank") then Some rank_text
    else (if bytes_eq name (codes "labels2") then Some labels2_text
    else (if bytes_eq name (codes "labels4") then Some labels4_text
    else (if bytes_eq name (codes "dist") then Some dist_text
    else (if bytes_eq name (codes "wide") then Some wide_text else None))))
