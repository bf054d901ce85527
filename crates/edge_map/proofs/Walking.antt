-- The edges out of a dirty source, one after the other.
use Rattle.std.proofs.Common.{append-nil, ◌≡◌, ℕ, suc, ◌+◌, ◌<◌, ◌≤◌, Bool, true, false, eqb}
use Rattle.std.proofs.Common.{cond, List}
use Rattle.std.proofs.Common.{[], ◌∷◌, ◌++◌, length, drop, map, Some, slice_get, refl, sym, ap, ◌∙◌}
use Rattle.std.proofs.Common.{subst, arith, add-one, append_assoc, drop-cons, length-append}
use Rattle.std.specs.List.{All}
use Rattle.std.proofs.lemmas.List.{map-append, drop-drop, drop_all}
use Rattle.std.proofs.lemmas.List.Concat.{flat_map-append}
use Rattle.std.proofs.lemmas.List.Elements.{All-filter}
use Rattle.std.proofs.lemmas.Option.{get_or_from_slice_get}
use Rattle.bolt_base.specs.Graph.{Graph, IsBetween, IsGood, edges, out_edges, vertices}
use Rattle.bolt_base.specs.Residue.{Amount}
use Rattle.bolt_base.specs.declared.edge.Edge.{Edge}
use Rattle.bolt_base.specs.declared.limits.Limits.{Limits}
use Rattle.vertex_expr.specs.declared.program.ProgramEntries.{ProgramEntries}
use Rattle.agg_words.specs.View.{View}
use Rattle.run_model.specs.Additions.{Gift, amounts_of}
use Rattle.run_model.proofs.InRange.{no_edge}
use Rattle.edge_map.specs.Additions.{source_at, change_gift, adds_of_gifts, ends_of_gifts}
use Rattle.edge_map.specs.Grew.{Grew}
use Rattle.edge_map.specs.Walks.{Walked, begins, from_source, unadded, walked_out}
use Rattle.edge_map.specs.declared.tasks.Tasks.{Tasks}
use Rattle.edge_map.specs.declared.tasks.TaskEdge.{TaskEdge}

unadded_skip : (k : ℕ) (xs : List TaskEdge) (e : Edge) (es : List Edge) → begins k e.dst xs ≡ true
    → unadded k xs (e ∷ es) ≡ unadded k (drop 1 xs) es
unadded_skip k [] e es h = absurd (cc)
unadded_skip k (x ∷ xs) e es h = ap (λ (b : Bool). cond b (unadded k xs es)
    (e ∷ unadded k (x ∷ xs) es)) h

unadded_keep : (k : ℕ) (xs : List TaskEdge) (e : Edge) (es : List Edge) → begins k e.dst xs ≡ false
    → unadded k xs (e ∷ es) ≡ e ∷ unadded k xs es
unadded_keep k [] e [] h = refl
unadded_keep k [] e (f ∷ es) h = refl
unadded_keep k (x ∷ xs) e es h = ap (λ (b : Bool). cond b (unadded k xs es)
    (e ∷ unadded k (x ∷ xs) es)) h

module _ (p : ProgramEntries) (g : Graph) (t : Tasks) (place : ℕ) where
  abbrev outs : List Edge
  outs = out_edges g (source_at t place).vertex

  abbrev gift : Edge → Gift
  gift e = change_gift p (source_at t place) e

  pub walk_none : (next : ℕ) (first : View) (before : List ℕ) → drop next t.added
      ≡ from_source place t.added → Walked p g t place next 0 first first before before
  walk_none next first before e = record {
    done = [];
    rest = ap (λ (xs : List TaskEdge). unadded place xs outs) e;
    grew = λ start more ends h. subst (λ (l : List ℕ). Grew start first (more ++ []) l before)
        (sym (append-nil ends)) (subst (λ (l : List Amount). Grew start first l ends before)
        (sym (append-nil more)) h);
  }

  at_k : (k : ℕ) (e : Edge) → k < length outs → slice_get outs k ≡ Some e → drop k outs
      ≡ e ∷ drop (k + 1) outs
  at_k k e small is = rw add-one (drop-cons outs k no_edge small
      ∙ ap (λ (x : Edge). x ∷ drop (suc k) outs) (get_or_from_slice_get outs k e no_edge is))

  pub walk_skip : (next k : ℕ) (e : Edge) (first last : View) (before after : List ℕ)
      → Walked p g t place next k first last before after → k < length outs → slice_get outs k
      ≡ Some e
      → begins place e.dst (drop next t.added) ≡ true
      → Walked p g t place (next + 1) (k + 1) first last before after
  walk_skip next k e first last before after w small is passes = record {
    done = w.done;
    rest = ap (λ (l : List Edge). w.done ++ l)
        (ap (λ (xs : List TaskEdge). unadded place xs (drop (k + 1) outs))
        (sym (drop-drop 1 next t.added))
        ∙ sym (unadded_skip place (drop next t.added) e (drop (k + 1) outs) passes)
        ∙ ap (unadded place (drop next t.added)) (sym (at_k k e small is)))
        ∙ w.rest;
    grew = w.grew;
  }

  kept : (next k : ℕ) (e : Edge) (first last : View) (before after : List ℕ)
      (w : Walked p g t place next k first last before after) → k < length outs → slice_get outs k
      ≡ Some e
      → begins place e.dst (drop next t.added) ≡ false → (w.done ++ e ∷ [])
      ++ unadded place (drop next t.added) (drop (k + 1) outs) ≡ walked_out g t place
  kept next k e first last before after w small is fails =
      append_assoc w.done (e ∷ []) (unadded place (drop next t.added) (drop (k + 1) outs))
      ∙ ap (λ (l : List Edge). w.done ++ l)
      (sym (unadded_keep place (drop next t.added) e (drop (k + 1) outs) fails)
      ∙ ap (unadded place (drop next t.added)) (sym (at_k k e small is))) ∙ w.rest

  pub walk_some : (next k : ℕ) (e : Edge) (first last : View) (before after : List ℕ)
      → Walked p g t place next k first last before after → k < length outs → slice_get outs k
      ≡ Some e
      → begins place e.dst (drop next t.added) ≡ false → 0 < length (walked_out g t place)
  walk_some next k e first last before after w small is fails =
      let all = ap length (kept next k e first last before after w small is fails) in
      let a = length-append (w.done ++ e ∷ [])
      (unadded place (drop next t.added) (drop (k + 1) outs)) in
      let b = length-append w.done (e ∷ []) in
      omega arith

  pub walk_keep : (next k : ℕ) (e : Edge) (first last later : View) (before after ever : List ℕ)
      → Walked p g t place next k first last before after → k < length outs → slice_get outs k
      ≡ Some e
      → begins place e.dst (drop next t.added) ≡ false
      → ((start : View) (more : List Amount) (ends : List ℕ) → Grew start last more ends after
      → Grew start later (more ++ amounts_of p (gift e)) (ends ++ e.dst ∷ []) ever)
      → Walked p g t place next (k + 1) first later before ever
  walk_keep next k e first last later before after ever w small is fails step =
      let gifts_more : map gift (w.done ++ e ∷ []) ≡ map gift w.done
      ++ gift e ∷ [] = map-append gift w.done (e ∷ []) in
      let adds_more : adds_of_gifts p (map gift (w.done ++ e ∷ []))
      ≡ adds_of_gifts p (map gift w.done) ++ amounts_of p (gift e) =
      ap (adds_of_gifts p) gifts_more
      ∙ flat_map-append (amounts_of p) (map gift w.done) (gift e ∷ [])
      ∙ ap (λ (l : List Amount). adds_of_gifts p (map gift w.done) ++ l)
      (append-nil (amounts_of p (gift e))) in
      let ends_more : ends_of_gifts (map gift (w.done ++ e ∷ [])) ≡ ends_of_gifts (map gift w.done)
      ++ e.dst ∷ [] = ap ends_of_gifts gifts_more
      ∙ map-append (λ (x : Gift). x.dst) (map gift w.done) (gift e ∷ []) in
      record {
        done = w.done ++ e ∷ [];
        rest = kept next k e first last before after w small is fails;
        grew = λ start more ends h.
            let one = step start (more ++ adds_of_gifts p (map gift w.done))
            (ends ++ ends_of_gifts (map gift w.done)) (w.grew start more ends h) in
            subst (λ (l : List Amount). Grew start later l
            (ends ++ ends_of_gifts (map gift (w.done ++ e ∷ []))) ever)
            (append_assoc more (adds_of_gifts p (map gift w.done)) (amounts_of p (gift e))
            ∙ ap (λ (l : List Amount). more ++ l) (sym adds_more))
            (subst (λ (l : List ℕ). Grew start later
            ((more ++ adds_of_gifts p (map gift w.done)) ++ amounts_of p (gift e)) l ever)
            (append_assoc ends (ends_of_gifts (map gift w.done)) (e.dst ∷ [])
            ∙ ap (λ (l : List ℕ). ends ++ l) (sym ends_more)) one);
      }

  pub walk_done : (next k : ℕ) (first last : View) (before after : List ℕ)
      → Walked p g t place next k first last before after → length outs ≤ k
      → (start : View) (more : List Amount) (ends : List ℕ) → Grew start first more ends before
      → Grew start last (more ++ adds_of_gifts p (map gift (walked_out g t place)))
      (ends ++ ends_of_gifts (map gift (walked_out g t place))) after
  walk_done next k first last before after w past start more ends h =
      let all : w.done ≡ walked_out g t place = sym
      (ap (λ (l : List Edge). w.done ++ unadded place (drop next t.added) l)
      (drop_all k outs past) ∙ append-nil w.done) ∙ w.rest in
      subst (λ (l : List Edge). Grew start last (more ++ adds_of_gifts p (map gift l))
      (ends ++ ends_of_gifts (map gift l)) after) all (w.grew start more ends h)

-- an edge out of a vertex of a good graph
pub record IsFair (l : Limits) (g : Graph) (e : Edge) : Type 0 where
  pub there : e.dst < vertices g
  pub weight : IsBetween l.weight_lo l.weight_hi e.weight

pub out_fair : (l : Limits) (g : Graph) → IsGood l g → (u k : ℕ) (e : Edge)
    → k < length (out_edges g u) → slice_get (out_edges g u) k ≡ Some e → IsFair l g e
out_fair l g good u k e small is =
    let all : All (IsFair l g) (edges g) = λ i d h. record
    { there = (good.ends i d h).1; weight = good.weights i d h } in
    subst (IsFair l g) (get_or_from_slice_get (out_edges g u) k e no_edge is)
    (All-filter (λ x. eqb x.src u) (IsFair l g) (edges g) all k no_edge small)

-- the same under other names
pub walk_same : (p : ProgramEntries) (g : Graph) (t : Tasks) (place next next' k : ℕ)
    (first last last' : View) (before after after' : List ℕ)
    → Walked p g t place next k first last before after
    → next' ≡ next → last' ≡ last → after' ≡ after
    → Walked p g t place next' k first last' before after'
walk_same p g t place next next' k first last last' before after after' w a b c =
    subst (λ (l : List ℕ). Walked p g t place next' k first last' before l) (sym c)
    (subst (λ (v : View). Walked p g t place next' k first v before after) (sym b)
    (subst (λ (n : ℕ). Walked p g t place n k first last before after) (sym a) w))
