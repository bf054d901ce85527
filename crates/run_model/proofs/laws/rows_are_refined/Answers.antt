use Rattle.run_model.proofs.RefinedRows.{row_entry, entry_is_again, laid_is, seen_is}
use Rattle.run_model.proofs.RefinedRows.{refinement_begins, refinement_goes_on, refinement_grows}
use Rattle.run_model.proofs.RefinedRows.{refinement_leads_on, tail_rows_go_on}
use Rattle.run_model.proofs.laws.rows_are_refined.Goals as goal

pub returns : goal.returns
returns c = record {
  rows = row_entry;
  entries = λ p g h safe good_g good_h cut i v some low there. entry_is_again p g h good_g cut i v
      low safe good_h some there;
  new = λ p g h good put cut. laid_is p g h good put cut;
  seen = λ p g h good put cut. seen_is p g h good put cut;
  begins = refinement_begins;
  goes_on = λ p g h safe good_g good_h put cut i v some low there rs t. refinement_goes_on p g h
      good_g put cut safe good_h i v some low there rs t;
  grows = refinement_grows;
  leads_on = λ p g h good put cut. refinement_leads_on p g h good put cut;
  tail = λ p h safe good i aggs vals before some r. tail_rows_go_on p h safe good i some aggs vals
      before r;
}
