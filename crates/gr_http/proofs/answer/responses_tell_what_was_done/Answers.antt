use Rattle.gr_http.proofs.ToldLemmas.{responses_tell}
use Rattle.gr_http.proofs.answer.responses_tell_what_was_done.Goals as goal

pub returns : goal.returns
returns g c = responses_tell g.S.Store
