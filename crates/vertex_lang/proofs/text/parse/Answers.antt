use Rattle.vertex_lang.proofs.TextPrograms.{writable_of}
use Rattle.vertex_lang.proofs.text.parse.Goals as goal

pub new-program-requires : goal.new-program-requires
new-program-requires c =
    record {
      writable = writable_of c.args.text.now c.in_ok-entries.entries c.in_ok-entries.ensures;
    }
