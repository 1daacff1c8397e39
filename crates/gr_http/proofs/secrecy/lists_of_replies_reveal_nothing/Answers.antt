use Rattle.gr_http.proofs.AlikeReplies.{lists_alike}
use Rattle.gr_http.proofs.secrecy.lists_of_replies_reveal_nothing.Goals as goal

pub returns : goal.returns
returns c = lists_alike c.replies_reveal_nothing.ensures
