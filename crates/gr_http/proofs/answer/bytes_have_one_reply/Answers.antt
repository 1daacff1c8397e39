use Rattle.gr_http.proofs.AnsweredRequests.{one_reply}
use Rattle.gr_http.proofs.answer.bytes_have_one_reply.Goals as goal

pub returns : goal.returns
returns c = one_reply c.received_is_determined.ensures c.sheets_are_determined.ensures c.each_list_has_one_outcome.ensures
