use Rattle.gr_count.proofs.ElectionFindings.{same_findings}
use Rattle.gr_count.proofs.laws.findings_are_determined.Goals as goal

pub returns : goal.returns
returns c = same_findings
