use Rattle.gr_core.proofs.ResolutionLaws.CourseLemmas.{follow}
use Rattle.gr_core.proofs.laws.ends_follow_the_course.Goals as goal

pub returns : goal.returns
returns c = follow
