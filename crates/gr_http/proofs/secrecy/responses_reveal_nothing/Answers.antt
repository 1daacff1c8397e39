use Rattle.gr_http.proofs.AlikeReplies.{responses_alike}
use Rattle.gr_http.proofs.secrecy.responses_reveal_nothing.Goals as goal

pub returns : goal.returns
returns c =
    responses_alike c.replies_reveal_nothing.ensures c.responses_are_replies_or_faults.ensures c.plans_reveal_nothing.ensures
