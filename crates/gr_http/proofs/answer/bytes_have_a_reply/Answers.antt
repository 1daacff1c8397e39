use Rattle.gr_http.proofs.AnsweredRequests.{some_reply}
use Rattle.gr_http.proofs.answer.bytes_have_a_reply.Goals as goal

pub returns : goal.returns
returns c = some_reply c.sheets_are_shown_or_refused.ensures c.each_list_has_an_outcome.ensures
