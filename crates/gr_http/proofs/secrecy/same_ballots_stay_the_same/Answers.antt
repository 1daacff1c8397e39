use Rattle.gr_http.proofs.AlikeReplies.{ballots_stay}
use Rattle.gr_http.proofs.secrecy.same_ballots_stay_the_same.Goals as goal

pub returns : goal.returns
returns c = ballots_stay c.votes_put_their_ballot.ensures c.only_votes_touch_ballots.ensures c.received_is_determined.ensures
