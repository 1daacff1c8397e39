use Rattle.gr_count.proofs.ElectionFindings.{has_findings}
use Rattle.gr_count.proofs.laws.elections_have_findings.Goals as goal

pub returns : goal.returns
returns c = has_findings
