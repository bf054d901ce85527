-- What the words hold once the additions of an iteration were made.
use Rattle.std.proofs.Common.{◌≡◌, ℕ, zero, suc, ◌+◌, ◌*◌, ◌%◌, ◌^◌, ◌<◌, Bool, true, false}
use Rattle.std.proofs.Common.{cond, List}
use Rattle.std.proofs.Common.{[], ◌∷◌, ◌++◌, get_or, refl, sym, ap, ◌∙◌, arith}
use Rattle.std.specs.List.{All}
use Rattle.bolt_base.specs.Graph.{vertices}
use Rattle.bolt_base.specs.Residue.{sum_at}
use Rattle.bolt_base.proofs.ResidueLemmas.{sum_at-append}
use Rattle.agg_words.specs.Known.{IsClear}
use Rattle.agg_words.specs.View.{View, times}
use Rattle.agg_words.specs.declared.layout.Layout.{Layout}
use Rattle.vertex_expr.specs.declared.program.ProgramEntries.{ProgramEntries}
use Rattle.run_model.specs.Additions.{adds_of, items, word}
use Rattle.run_model.specs.Program.{lanes, is_sum}
use Rattle.run_model.specs.Refined.{with_words, target_agg}
use Rattle.run_model.specs.Rows.{gathered}
use Rattle.run_model.specs.Steps.{Step, is_target}
use Rattle.run_model.proofs.Within.{others_none}
use Rattle.edge_map.specs.Additions.{task_gifts, task_adds, ends_of_gifts}
use Rattle.edge_map.specs.Ready.{HasRoom}
use Rattle.edge_map.specs.Targets.{AreTargets}
use Rattle.edge_map.specs.TaskLaws.{IsGoodStep, AreTasksOf}
use Rattle.edge_map.specs.declared.tasks.Tasks.{Tasks}
use Rattle.edge_map.proofs.Gifts.{word_room}
use Rattle.edge_map.proofs.Rising.{times_here, times_grow}
use Rattle.edge_map.proofs.SameTasks.{adds_same, ends_same, targets_listed, target_there}
use Rattle.sum_steps.specs.Laws.{IsSpread, SpreadLeavesTargets, TakenSumsAreNew, OthersKeep}
use Rattle.sum_steps.specs.Taken.{AreLeft}

-- what stands in a list stands there at least once
times_at : (xs : List ℕ) → All (λ x. 0 < times x xs) xs
times_at [] k d h = absurd (omega arith)
times_at (x ∷ xs) zero d h = let here = times_here x x xs refl in omega arith
times_at (x ∷ xs) (suc k) d h =
    let rest = times_at xs k d (omega arith) in
    let more = times_grow (get_or xs k d) x xs in
    omega arith

module _ (p : ProgramEntries) (s : Step) (t : Tasks) (k : Layout) (good : IsGoodStep p s)
    (are : AreTasksOf p s t) (room : HasRoom p s.new_graph k.words k.bits) (old new : View)
    (us : List ℕ) (clear : IsClear k old) (units : new.units ≡ old.units)
    (grown : new.amounts ≡ old.amounts ++ task_adds p s.new_graph t)
    (named : AreTargets (ends_of_gifts (task_gifts p s.new_graph t)) us new) where
  target_in : (u : ℕ) → 0 < times u us → u < vertices s.new_graph
  target_in u there =
      let ends = ends_same p s t good.old_good are u in
      target_there p s good.old_good good.new_good good.grown u (ends.0 (named.only u there))

  sum_is : (w : ℕ) → w < k.words → sum_at w new.amounts ≡ sum_at w (adds_of p s (items p s))
  sum_is w inside =
      let same = adds_same p s t are good.old_good in
      let parts = sum_at-append w old.amounts (adds_of p s (items p s)) in
      let none = clear.words w inside in
      ap (sum_at w) (grown ∙ ap (λ l. old.amounts ++ l) same) ∙ parts
      ∙ ap (λ n. (n + sum_at w (adds_of p s (items p s))) % 2 ^ 64) none
      ∙ (let small : sum_at w (adds_of p s (items p s)) < 2 ^ 64 = omega arith in omega arith)

  word_in : (u l : ℕ) → 0 < times u us → l < lanes p → word p u l < k.words
  word_in u l there small =
      let fits = word_room p s.new_graph k.words k.bits u room (target_in u there) in
      let more : (u + 1) * lanes p ≡ u * lanes p + lanes p = omega arith in
      omega arith

  are_left : AreLeft p k (adds_of p s (items p s)) us new
  are_left = record {
    units = units ∙ clear.units;
    once = named.once;
    held = λ u l there small. sum_is (word p u l) (word_in u l there small);
    zero = λ u l none small inside.
        sum_is (word p u l) inside
        ∙ others_none p s u l small
        (elim (is_target p s u) as (λ b. is_target p s u ≡ b → is_target p s u ≡ false) [
          | true ↦ λ e. absurd (let there = named.all u
              ((ends_same p s t good.old_good are u).1 e) in omega arith)
          | false ↦ λ e. e
        ] refl);
  }

  pub is_spread : IsSpread p s k us new
  is_spread = record {
    targets = targets_listed p s t good.old_good good.new_good good.grown are us new named;
    left = are_left;
    words = λ i d h. word_room p s.new_graph k.words k.bits (get_or us i d) room
        (target_in (get_or us i d) (times_at us i d h));
    bits = λ i d h. let there = target_in (get_or us i d) (times_at us i d h) in let fits =
        room.bits in omega arith;
    marks = λ i d h. let same = named.marks (get_or new.marks i d) in let there = times_at
        new.marks i d h in omega arith;
  }

pub spread_leaves : SpreadLeavesTargets
spread_leaves p s t k good are room old new us clear units grown named = is_spread p s t k good are
    room old new us clear units grown named

pub taken_sums : TakenSumsAreNew
taken_sums p s sum old v target =
    let amounts = adds_of p s (items p s) in
    sym (ap (λ (b : Bool). cond b (target_agg p s old v) old) target
    ∙ ap (λ c. cond (is_sum c) (with_words p amounts old v) (gathered p s.new_graph s.new_row v))
    sum)

pub others_keep : OthersKeep
others_keep p s old v none = ap (λ (b : Bool). cond b (target_agg p s old v) old) none
