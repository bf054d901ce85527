-- A row that stores nothing.
use Rattle.std.proofs.Common.{◌≡◌, ℕ, ℤ, None, sym, ap, ◌∙◌}
use Rattle.std.specs.Ordering.{nat_cmp}
use Rattle.std.specs.FinMap as finite
use Rattle.adjacency.specs.Row.{RowMap}
use Rattle.adj_pages.specs.Stored.{stored}
use Rattle.adj_pages.specs.declared.paged_row.Form.{Form}
use Rattle.adj_pages.specs.declared.paged_row.Form.TheVariants.{Empty}

pub stored_empty : (f : Form) (r : RowMap) → stored f ≡ r → f ≡ Empty → r ≡ finite.empty
stored_empty f r view is = sym view ∙ ap stored is

pub len_empty : (f : Form) (r : RowMap) → stored f ≡ r → f ≡ Empty → finite.len r ≡ 0
len_empty f r view is = ap finite.len (stored_empty f r view is) ∙ finite.len-empty nat_cmp ℤ

pub get_empty : (f : Form) (r : RowMap) → stored f ≡ r → f ≡ Empty → (k : ℕ)
    → finite.get r k ≡ None
get_empty f r view is k =
    ap (λ (m : RowMap). finite.get m k) (stored_empty f r view is) ∙ finite.get-empty nat_cmp k
