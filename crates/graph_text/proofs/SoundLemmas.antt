-- Lines that aren't bad keep a draft within the limits, and its graph is good.
use Rattle.std.proofs.Common.{◌≡◌, ℕ, ℤ, pos, ◌+◌, ◌<◌, ◌≤◌, max, Bool, true, false, not, cond}
use Rattle.std.proofs.Common.{List, [], length, map, refl, sym, ap, ◌∙◌, subst, arith, Option, Some}
use Rattle.std.proofs.Common.{None}
use Rattle.std.specs.Prelude.{nat_lt, nat_le, nat_eq, unwrap_or}
use Rattle.std.specs.List.{All, range_with_len}
use Rattle.std.specs.FinMap as finite
use Rattle.std.proofs.lemmas.Bool.Decides.{nat_tests}
use Rattle.std.proofs.lemmas.Bool.{eqb-true}
use Rattle.std.proofs.lemmas.List.Elements.{All-weaker, All-map}
use Rattle.std.proofs.lemmas.List.FromFn.{length-map-range_with_len}
use Rattle.bolt_base.specs.declared.edge.Edge.{Edge}
use Rattle.bolt_base.specs.declared.limits.Limits.{Limits}
use Rattle.bolt_base.specs.declared.limits.LineCause.{LineCause}
use Rattle.bolt_base.specs.declared.limits.LineCause.TheVariants.{Syntax, Vertex, Attribute}
use Rattle.bolt_base.specs.Graph.{Graph, Weights, IsBetween, IsGood, edges, outdeg, indeg}
use Rattle.bolt_base.specs.Edits.{unless, is_between}
use Rattle.bolt_base.proofs.EditLemmas.{length_added, outdeg_added, indeg_added, All-added}
use Rattle.bolt_base.proofs.GoodLemmas.{is_between-true, good_addition}
use Rattle.graph_text.specs.GraphText.{Draft, bound, drafted, cause, taken_in, complete}
use Rattle.graph_text.specs.declared.graph_lines.GraphLine.{GraphLine}
use Rattle.graph_text.specs.declared.graph_lines.GraphLine.TheVariants.{Empty, Vertices, Attr}
use Rattle.graph_text.specs.declared.graph_lines.GraphLine.TheVariants.{Edge as EdgeLine, Unknown}
use Rattle.graph_text.specs.EdgeIndex.{edges_alone, one_if}
use Rattle.graph_text.specs.DraftGood.{IsSound}

unless-none : (b : Bool) (why : LineCause) (rest : Option LineCause) → unless b why rest ≡ None
    → (b ≡ true) × (rest ≡ None)
unless-none true why rest h = (refl, h)
unless-none false why rest h = absurd (cc)

not_true : (b : Bool) → not b ≡ true → b ≡ false
not_true true e = sym e
not_true false e = refl

few_more : (b : Bool) (n d : ℕ) → (b ≡ true → n < d) → n ≤ d → one_if b + n ≤ d
few_more true n d free fits = let room = free refl in omega arith
few_more false n d free fits = omega arith

length_drafted : (d : Draft) (n : ℕ) → length (drafted d n).attrs ≡ n
length_drafted d n = length-map-range_with_len (λ v. unwrap_or (d.attr v) (pos 0)) 0 n

sound_vertices : (l : Limits) (d : Draft) (n : ℕ) → cause l d (Vertices n) ≡ None → IsSound l d
    → IsSound l (taken_in d (Vertices n))
unfolding cause taken_in
sound_vertices l d n good so_far =
    let first = unless-none (not d.begun) Syntax _ good in
    let few = unless-none (nat_le n l.vertices) Vertex None first.1 in
    let none : d.named ≡ 0 = so_far.fresh (not_true d.begun first.0) in
    let fits : n ≤ l.vertices = at_most n l.vertices few.0 in
    record {
      fresh = λ h. absurd (cc);
      few_vertices = fits;
      named = omega arith;
      attrs = so_far.attrs;
      few_edges = so_far.few_edges;
      weights = so_far.weights;
      ends = so_far.ends;
      out_degrees = so_far.out_degrees;
      in_degrees = so_far.in_degrees;
    }
  where
    at_most : (a b : ℕ) → nat_le a b ≡ true → a ≤ b
    at_most a b h = grind (arith, nat_tests)

sound_attr : (l : Limits) (d : Draft) (u : ℕ) (a : ℤ) → cause l d (Attr u a) ≡ None → IsSound l d
    → IsSound l (taken_in d (Attr u a))
unfolding cause taken_in
sound_attr l d u a good so_far =
    let inside = unless-none (nat_lt u (bound l d)) Vertex _ good in
    let range = unless-none (is_between l.attr_lo l.attr_hi a) Attribute _ inside.1 in
    let below : u < bound l d = less u (bound l d) inside.0 in
    let named = so_far.named in
    record {
      fresh = λ h. absurd (cc);
      few_vertices = so_far.few_vertices;
      named = omega arith;
      attrs =
          λ v b. pick v b (nat_eq v u) (is_between-true l.attr_lo l.attr_hi a range.0)
          (so_far.attrs v b);
      few_edges = so_far.few_edges;
      weights = so_far.weights;
      ends =
          All-weaker (λ e. (e.src < d.named) × (e.dst < d.named))
          (λ e. (e.src < max d.named (u + 1)) × (e.dst < max d.named (u + 1)))
          (λ e h. let s = h.0 in let t = h.1 in (omega arith, omega arith))
          (edges (edges_alone d.weights)) so_far.ends;
      out_degrees = so_far.out_degrees;
      in_degrees = so_far.in_degrees;
    }
  where
    less : (a b : ℕ) → nat_lt a b ≡ true → a < b
    less a b h = grind (arith, nat_tests)

    pick : (v : ℕ) (b : ℤ) (t : Bool) → IsBetween l.attr_lo l.attr_hi a
        → (d.attr v ≡ Some b → IsBetween l.attr_lo l.attr_hi b)
        → cond t (Some a) (d.attr v) ≡ Some b → IsBetween l.attr_lo l.attr_hi b
    pick v b true here before is =
        let same : a ≡ b = cc in subst (IsBetween l.attr_lo l.attr_hi) same here
    pick v b false here before is = before is

sound_edge : (l : Limits) (d : Draft) (e : Edge) → cause l d (EdgeLine e) ≡ None → IsSound l d
    → IsSound l (taken_in d (EdgeLine e))
unfolding cause taken_in
sound_edge l d e good so_far =
    let g = drafted d (bound l d) in
    let a = good_addition l g e good in
    let size = length_drafted d (bound l d) in
    let src = a.src in
    let dst = a.dst in
    let named = so_far.named in
    let h = edges_alone d.weights in
    record {
      fresh = λ f. absurd (cc);
      few_vertices = so_far.few_vertices;
      named = omega arith;
      attrs = so_far.attrs;
      few_edges = let room = a.room in omega (arith, length_added h e a.absent);
      weights =
          All-added h e a.absent (λ x. IsBetween l.weight_lo l.weight_hi x.weight) a.weight
          so_far.weights;
      ends =
          All-added h e a.absent (λ x. (x.src < max d.named (max e.src e.dst + 1))
          × (x.dst < max d.named (max e.src e.dst + 1))) (omega arith, omega arith)
          (All-weaker (λ x. (x.src < d.named) × (x.dst < d.named))
          (λ x. (x.src < max d.named (max e.src e.dst + 1))
          × (x.dst < max d.named (max e.src e.dst + 1)))
          (λ x k. let s = k.0 in let t = k.1 in (omega arith, omega arith)) (edges h) so_far.ends);
      out_degrees = λ u. subst (λ n. n ≤ l.degree) (sym (outdeg_added h e a.absent u))
          (few_more (nat_eq e.src u) (outdeg h u) l.degree
          (λ t. subst (λ k. outdeg h k < l.degree) (eqb-true e.src u t) a.out_degree)
          (so_far.out_degrees u));
      in_degrees = λ v. subst (λ n. n ≤ l.degree) (sym (indeg_added h e a.absent v))
          (few_more (nat_eq e.dst v) (indeg h v) l.degree
          (λ t. subst (λ k. indeg h k < l.degree) (eqb-true e.dst v t) a.in_degree)
          (so_far.in_degrees v));
    }

sound_empty : (l : Limits) (d : Draft) → IsSound l d → IsSound l (taken_in d Empty)
unfolding taken_in
sound_empty l d so_far = so_far

sound_unknown : (l : Limits) (d : Draft) → IsSound l d → IsSound l (taken_in d Unknown)
unfolding taken_in
sound_unknown l d so_far = so_far

-- a line that isn't bad
pub sound_line : (l : Limits) (d : Draft) (line : GraphLine) → cause l d line ≡ None → IsSound l d
    → IsSound l (taken_in d line)
sound_line l d Empty good so_far = sound_empty l d so_far
sound_line l d (Vertices n) good so_far = sound_vertices l d n good so_far
sound_line l d (Attr u a) good so_far = sound_attr l d u a good so_far
sound_line l d (EdgeLine e) good so_far = sound_edge l d e good so_far
sound_line l d Unknown good so_far = sound_unknown l d so_far

-- no line
pub sound_none : (l : Limits) (d : Draft) → d.named ≡ 0 → d.counted ≡ None
    → ((v : ℕ) → d.attr v ≡ None) → d.weights ≡ finite.empty → IsSound l d
sound_none l d named counted attrs weights =
    let empty : edges (edges_alone d.weights) ≡ [] =
    ap (λ (m : Weights). edges (edges_alone m)) weights
    ∙ ap (map Rattle.bolt_base.specs.Graph.edge) Rattle.bolt_base.proofs.Order.entries-empty in
    let free : bound l d ≡ l.vertices = ap (λ (o : Option ℕ). unwrap_or o l.vertices) counted in
    record {
      fresh = λ _. named;
      few_vertices = omega arith;
      named = omega arith;
      attrs = λ v a is. absurd (none_some a (sym (attrs v) ∙ is));
      few_edges = omega (arith, ap length empty);
      weights =
          subst (All (λ e. IsBetween l.weight_lo l.weight_hi e.weight)) (sym empty)
          (λ k x h. absurd (omega arith));
      ends =
          subst (All (λ e. (e.src < d.named) × (e.dst < d.named))) (sym empty)
          (λ k x h. absurd (omega arith));
      out_degrees =
          λ u. let zero_out : outdeg (edges_alone d.weights) u
          ≡ 0 = ap (λ (es : List Edge). length
          (Rattle.std.specs.List.filter (λ e. nat_eq e.src u) es)) empty in omega arith;
      in_degrees =
          λ v. let zero_in : indeg (edges_alone d.weights) v
          ≡ 0 = ap (λ (es : List Edge). length
          (Rattle.std.specs.List.filter (λ e. nat_eq e.dst v) es)) empty in omega arith;
    }
  where
    none_some : (a : ℤ) → None ≡ Some a → ⊥
    none_some a e = cc

-- the graph of a sound draft is good
pub good_complete : (l : Limits) (d : Draft) → IsBetween l.attr_lo l.attr_hi (pos 0) → IsSound l d
    → IsGood l (complete d)
good_complete l d zero_inside so_far =
    let n = unwrap_or d.counted d.named in
    let size = length_drafted d n in
    let counts = number d.counted so_far.named so_far.few_vertices in
    let enough = counts.0 in
    let few = counts.1 in
    record {
      few_vertices = omega arith;
      few_edges = so_far.few_edges;
      attrs =
          All-map (IsBetween l.attr_lo l.attr_hi) (λ v. unwrap_or (d.attr v) (pos 0))
          (range_with_len 0 n) (λ k x h. given
          (d.attr (Rattle.std.specs.Prelude.slice_index_or (range_with_len 0 n) k x))
          (so_far.attrs _));
      weights = so_far.weights;
      ends =
          All-weaker (λ e. (e.src < d.named) × (e.dst < d.named))
          (λ e. (e.src < length (complete d).attrs) × (e.dst < length (complete d).attrs))
          (λ e h. let s = h.0 in let t = h.1 in (omega arith, omega arith))
          (edges (edges_alone d.weights)) so_far.ends;
      out_degrees = so_far.out_degrees;
      in_degrees = so_far.in_degrees;
    }
  where
    number : (o : Option ℕ) → d.named ≤ unwrap_or o l.vertices → unwrap_or o l.vertices ≤ l.vertices
        → (d.named ≤ unwrap_or o d.named) × (unwrap_or o d.named ≤ l.vertices)
    number None a b = (omega arith, omega arith)
    number (Some m) a b = (a, b)

    given : (o : Option ℤ) → ((a : ℤ) → o ≡ Some a → IsBetween l.attr_lo l.attr_hi a)
        → IsBetween l.attr_lo l.attr_hi (unwrap_or o (pos 0))
    given None h = zero_inside
    given (Some a) h = h a refl
