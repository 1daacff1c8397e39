use Rattle.gr_core.proofs.Contents.DiscussionEndLemmas.{timely}
use Rattle.gr_core.proofs.laws.discussions_are_timely.Goals as goal

pub returns : goal.returns
returns c = timely
