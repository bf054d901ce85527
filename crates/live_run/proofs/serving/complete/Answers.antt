use Rattle.std.proofs.Common.{rules, ◌≡◌, List}
use Rattle.live_course.specs.declared.made.MadeEntry.{MadeEntry}
use Rattle.live_run.proofs.Living.{has_lived}
use Rattle.live_run.proofs.serving.complete.Goals as goal

pub returns : goal.returns
returns g c =
    let left = c.in_ok-make_left.ensures in
    let o = c.make_left.new.publisher in
    let s = c.make_left.new.works in
    let engine : c.into_worked-engine.result.engine ≡ s.engine = search rules in
    let made : c.from_vec.result ≡ s.made = search rules in
    has_lived o s c.args.publisher.now.origin c.args.works.engine.choice c.args.works.files
    c.args.questions.now _ left.standing left.whole c.into_worked-engine.ensures.ready
    c.in_ok-desks.ensures.replied engine made left.origin left.choice left.files
