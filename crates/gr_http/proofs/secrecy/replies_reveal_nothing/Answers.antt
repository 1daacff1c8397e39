use Rattle.gr_http.proofs.AlikeReplies.{replies_alike}
use Rattle.gr_http.proofs.secrecy.replies_reveal_nothing.Goals as goal

pub returns : goal.returns
returns c =
    replies_alike c.plans_reveal_nothing.ensures c.answers_reveal_nothing.ensures c.commands_keep_a_desk_valid.ensures
    c.sheets_reveal_nothing.ensures
