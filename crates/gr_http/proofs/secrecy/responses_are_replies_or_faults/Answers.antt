use Rattle.gr_http.proofs.AlikeReplies.{reply_or_fault}
use Rattle.gr_http.proofs.secrecy.responses_are_replies_or_faults.Goals as goal

pub returns : goal.returns
returns c = reply_or_fault
