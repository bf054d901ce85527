-- The additions of the items of an iteration.
use Rattle.std.proofs.Common.{◌≡◌, ℕ, Bool, List, [], ◌∷◌, ◌++◌, map, filter, refl, sym, ◌∙◌}
use Rattle.std.proofs.Common.{append-nil, subst}
use Rattle.std.specs.List.{All}
use Rattle.std.proofs.lemmas.List.{map-append}
use Rattle.std.proofs.lemmas.List.Elements.{All-filter}
use Rattle.bolt_base.specs.Change.{added, removed, stayed}
use Rattle.bolt_base.specs.Graph.{Graph, edges}
use Rattle.bolt_base.specs.LawsOfChange.{edge_stays}
use Rattle.bolt_base.specs.Residue.{Amount}
use Rattle.bolt_base.specs.declared.edge.Edge.{Edge}
use Rattle.bolt_base.proofs.EdgeParts.{stayed-filter}
use Rattle.bolt_base.proofs.EdgeParts.{stayed-filter_old}
use Rattle.vertex_expr.specs.declared.program.ProgramEntries.{ProgramEntries}
use Rattle.run_model.specs.Additions.{added_edge, amounts_of, dirty_vertex, item_adds, now}
use Rattle.run_model.specs.Additions.{removed_edge, was}
use Rattle.run_model.specs.Given.{IsBefore, IsEdge}
use Rattle.run_model.specs.Rows.{Lists}
use Rattle.run_model.specs.Steps.{Step, dirty}
use Rattle.run_model.proofs.InRange.{edges_fine}
use Rattle.core_adds.specs.Sides.{added_gift, adds_by_item, change_adds, removed_gift}

-- ---- the edges of a change are edges of their graphs
module _ (p : ProgramEntries) (g h : Graph) where
  each_edge : (f : Graph) (vals : Lists) → IsBefore p f vals → All (IsEdge p f) (edges f)
  each_edge f vals before k d small =
      let fine = edges_fine p f before.safe before.good k d small in
      record { source = fine.source; weight = fine.weight; some = fine.some }

  pub filtered : (f : Graph) (vals : Lists) → IsBefore p f vals → (test : Edge → Bool)
      → All (IsEdge p f) (filter test (edges f))
  filtered f vals before test =
      All-filter test (IsEdge p f) (edges f) (each_edge f vals before)

  pub stayed_had : (vals : Lists) → IsBefore p g vals → All (IsEdge p g) (stayed g h)
  stayed_had vals before = subst (All (IsEdge p g)) (sym (stayed-filter_old g h))
      (filtered g vals before (edge_stays g h))

  pub stayed_has : (vals : Lists) → IsBefore p h vals → All (IsEdge p h) (stayed g h)
  stayed_has vals before = subst (All (IsEdge p h)) (sym (stayed-filter g h))
      (filtered h vals before (edge_stays g h))

-- ---- item after item
mapped_as : {X Y Z : Type 0} (f : Y → Z) (k : X → Y) (q : X → Z) → ((x : X) → f (k x) ≡ q x)
    → (xs : List X) → map f (map k xs) ≡ map q xs
mapped_as f k q is [] = refl
mapped_as f k q is (x ∷ xs) = λ j. is x j ∷ mapped_as f k q is xs j

pub by_item : (p : ProgramEntries) (s : Step)
    → map (λ e. amounts_of p (removed_gift (was p s) e)) (removed s.old_graph s.new_graph)
    ++ map (λ e. amounts_of p (added_gift (now p s) e)) (added s.old_graph s.new_graph)
    ++ map (change_adds p s (stayed s.old_graph s.new_graph)) (dirty p s)
    ≡ adds_by_item p s
by_item p s =
    let stay = stayed s.old_graph s.new_graph in
    let f = item_adds p stay (was p s) (now p s) in
    let gone = removed s.old_graph s.new_graph in
    let come = added s.old_graph s.new_graph in
    let r = mapped_as f removed_edge (λ e. amounts_of p (removed_gift (was p s) e))
    (λ e. append-nil (amounts_of p (removed_gift (was p s) e))) gone in
    let a = mapped_as f added_edge (λ e. amounts_of p (added_gift (now p s) e))
    (λ e. append-nil (amounts_of p (added_gift (now p s) e))) come in
    let d = mapped_as f dirty_vertex (change_adds p s stay) (λ u. refl) (dirty p s) in
    sym (map-append f (map removed_edge gone ++ map added_edge come)
    (map dirty_vertex (dirty p s))
    ∙ (λ j. (map-append f (map removed_edge gone) (map added_edge come)
    ∙ (λ i. r i ++ a i)) j ++ d j))

-- the lists that are appended one after the other
pub all_pushed : (p : ProgramEntries) (s : Step) (none first second third : List (List Amount))
    → (gone come stay : List Edge) (us : List ℕ) → none ≡ []
    → first ≡ none ++ map (λ e. amounts_of p (removed_gift (was p s) e)) gone
    → second ≡ first ++ map (λ e. amounts_of p (added_gift (now p s) e)) come
    → third ≡ second ++ map (change_adds p s stay) us
    → gone ≡ removed s.old_graph s.new_graph → come ≡ added s.old_graph s.new_graph
    → stay ≡ stayed s.old_graph s.new_graph → us ≡ dirty p s → third ≡ adds_by_item p s
all_pushed p s none first second third gone come stay us n a b d r c t u =
    let one = a ∙ (λ j. n j ++ map (λ e. amounts_of p (removed_gift (was p s) e)) (r j)) in
    let two = b ∙ (λ j. one j ++ map (λ e. amounts_of p (added_gift (now p s) e)) (c j)) in
    d ∙ (λ j. two j ++ map (change_adds p s (t j)) (u j)) ∙ by_item p s
