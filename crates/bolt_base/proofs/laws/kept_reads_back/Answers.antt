use Rattle.bolt_base.proofs.KeepLemmas.{is_rest, rest_least, rest_only, read_stored}
use Rattle.bolt_base.specs.Keep.{rest_at}
use Rattle.bolt_base.proofs.laws.kept_reads_back.Goals as goal

pub returns : goal.returns
returns c = record {
  rest = is_rest;
  least = λ entries n some equal. rest_least entries (rest_at entries) (is_rest entries some) n
      equal;
  only = rest_only;
  back = read_stored;
}
