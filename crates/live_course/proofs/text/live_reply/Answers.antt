use Rattle.live_course.proofs.LineSteps.{all_written}
use Rattle.live_course.proofs.text.live_reply.Goals as goal

pub returns : goal.returns
returns g c =
    all_written c.args.opening.now c.args.made.now c.args.desks.now c.args.width
    (g.V.ValueRow.values c.args.row.now) c.in_ok-text.text c.push_entries.new.out
    c.push_replies.new.out c.push_lasts.new.out c.push_totals.new.out c.push_end.new.out
    c.status_of-status.result c.accepted_count.result c.refused_count-refused.result
    c.in_ok-text.ensures c.in_ok-push_entries.ensures c.in_ok-push_replies.ensures
    c.in_ok-push_lasts.ensures c.in_ok-push_totals.ensures c.in_ok-push_end.ensures
    c.accepted_count.ensures c.refused_count-refused.ensures c.status_of-status.ensures
