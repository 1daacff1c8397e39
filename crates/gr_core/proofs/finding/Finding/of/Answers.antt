use Rattle.std.proofs.Common.{◌≡◌, subst, rules}
use Rattle.std.specs.Prelude.{OnOk}
use Rattle.gr_core.specs.Machine.Act.{Vote, act_of}
use Rattle.gr_core.specs.Machine.Refusal.{HasBadRanks}
use Rattle.gr_core.proofs.finding.Finding.of.Goals as goal

pub returns-in-AddChoice-clause-found : goal.returns-in-AddChoice-clause-found
returns-in-AddChoice-clause-found c = c.addition_found.ensures.found c.args.at

pub returns-in-Sponsor-clause-found : goal.returns-in-Sponsor-clause-found
returns-in-Sponsor-clause-found c = c.sponsor_found.ensures.found c.args.at

pub returns-in-Unsponsor-clause-found : goal.returns-in-Unsponsor-clause-found
returns-in-Unsponsor-clause-found c = c.unsponsor_found.ensures.found c.args.at

pub returns-in-Withdraw-clause-found : goal.returns-in-Withdraw-clause-found
returns-in-Withdraw-clause-found c = c.withdrawal_found.ensures.found c.args.at

pub returns-in-Adopt-clause-found : goal.returns-in-Adopt-clause-found
returns-in-Adopt-clause-found c = c.adoption_found.ensures.found c.args.at

pub returns-in-Amend-clause-found : goal.returns-in-Amend-clause-found
returns-in-Amend-clause-found c = c.amendment_found.ensures.found c.args.at

pub returns-in-Vary-clause-found : goal.returns-in-Vary-clause-found
returns-in-Vary-clause-found c = c.variation_found.ensures.found c.args.at

pub returns-in-Vote-clause-found : goal.returns-in-Vote-clause-found
returns-in-Vote-clause-found c = c.vote_found.ensures.found c.args.at

pub returns-in-Vote-clause-good : goal.returns-in-Vote-clause-good
returns-in-Vote-clause-good c =
    let vote = Vote c.in-Vote.resolution c.deref-in-Vote.result.now c.deref-in-Vote-2.result.now c.deref-in-Vote-3.result.now in
    let same : vote ≡ act_of c.args.command.now = search rules in
    subst (λ act. OnOk c.vote_found.result (¬ (HasBadRanks c.args.tables.now act))) same c.vote_found.ensures.good

pub returns-in-Close-clause-found : goal.returns-in-Close-clause-found
returns-in-Close-clause-found c = c.close_found.ensures.found c.args.at

pub returns-in-Cast-clause-found : goal.returns-in-Cast-clause-found
returns-in-Cast-clause-found c = c.cast_found.ensures.found c.args.at
