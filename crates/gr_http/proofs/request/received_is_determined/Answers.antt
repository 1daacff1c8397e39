-- There is one head at most.
use Rattle.gr_http.proofs.RequestParts.{received_is_determined}
use Rattle.gr_http.proofs.request.received_is_determined.Goals as goal

pub returns : goal.returns
returns c = received_is_determined
