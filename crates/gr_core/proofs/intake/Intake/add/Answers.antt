use Rattle.gr_core.specs.Columns.Stored.{fields_of_header, fields_of_developer, fields_of_resolution, fields_of_choice, fields_of_sponsor, fields_of_ballot}
use Rattle.gr_core.proofs.Columns.IntakeLemmas.{desk_taken, developer_taken, resolution_taken, choice_taken, sponsor_taken, ballot_taken}
use Rattle.gr_core.proofs.Columns.IntakeLemmas.{developer_damaged, resolution_damaged, choice_damaged, sponsor_damaged, ballot_damaged}
use Rattle.gr_core.proofs.intake.Intake.add.Goals as goal

pub returns-in-Developer-clause-ok : goal.returns-in-Developer-clause-ok
returns-in-Developer-clause-ok c rows taken =
    rw c.in-Developer.is (developer_taken c.add_developer.result rows (fields_of_developer c.in-Developer.row) c.args.self.now c.add_developer.new.roll
    (c.add_developer.ensures.ok rows.developers) taken)

pub returns-in-Developer-clause-damaged : goal.returns-in-Developer-clause-damaged
returns-in-Developer-clause-damaged c rows taken damaged =
    rw c.in-Developer.is (developer_damaged rows (fields_of_developer c.in-Developer.row) c.args.self.now taken
    (λ behind are. c.add_developer.ensures.damaged rows.developers behind are damaged))

pub returns-in-Resolution-clause-ok : goal.returns-in-Resolution-clause-ok
returns-in-Resolution-clause-ok c rows taken =
    rw c.in-Resolution.is (resolution_taken c.add_resolution.result rows (fields_of_resolution c.in-Resolution.row) c.args.self.now
    c.add_resolution.new.resolutions
    (c.add_resolution.ensures.ok rows.resolutions) taken)

pub returns-in-Resolution-clause-damaged : goal.returns-in-Resolution-clause-damaged
returns-in-Resolution-clause-damaged c rows taken damaged =
    rw c.in-Resolution.is (resolution_damaged rows (fields_of_resolution c.in-Resolution.row) c.args.self.now taken
    (λ behind are. c.add_resolution.ensures.damaged rows.resolutions behind are damaged))

pub returns-in-Choice-clause-ok : goal.returns-in-Choice-clause-ok
returns-in-Choice-clause-ok c rows taken =
    rw c.in-Choice.is (choice_taken c.add_choice.result rows (fields_of_choice c.in-Choice.row) c.args.self.now c.add_choice.new.choices
    (c.add_choice.ensures.ok rows.choices) taken)

pub returns-in-Choice-clause-damaged : goal.returns-in-Choice-clause-damaged
returns-in-Choice-clause-damaged c rows taken damaged =
    rw c.in-Choice.is (choice_damaged rows (fields_of_choice c.in-Choice.row) c.args.self.now taken
    (λ behind are. c.add_choice.ensures.damaged rows.choices behind are damaged))

pub returns-in-Sponsor-clause-ok : goal.returns-in-Sponsor-clause-ok
returns-in-Sponsor-clause-ok c rows taken =
    rw c.in-Sponsor.is (sponsor_taken c.add_sponsor.result rows (fields_of_sponsor c.in-Sponsor.row) c.args.self.now c.add_sponsor.new.sponsors
    (c.add_sponsor.ensures.ok rows.sponsors) taken)

pub returns-in-Sponsor-clause-damaged : goal.returns-in-Sponsor-clause-damaged
returns-in-Sponsor-clause-damaged c rows taken damaged =
    rw c.in-Sponsor.is (sponsor_damaged rows (fields_of_sponsor c.in-Sponsor.row) c.args.self.now taken
    (λ behind are. c.add_sponsor.ensures.damaged rows.sponsors behind are damaged))

pub returns-in-Ballot-clause-ok : goal.returns-in-Ballot-clause-ok
returns-in-Ballot-clause-ok c rows taken =
    rw c.in-Ballot.is (ballot_taken c.add_ballot.result rows (fields_of_ballot c.in-Ballot.row) c.args.self.now c.add_ballot.new.ballots
    (c.add_ballot.ensures.ok rows.ballots) taken)

pub returns-in-Ballot-clause-damaged : goal.returns-in-Ballot-clause-damaged
returns-in-Ballot-clause-damaged c rows taken damaged =
    rw c.in-Ballot.is (ballot_damaged rows (fields_of_ballot c.in-Ballot.row) c.args.self.now taken
    (λ behind are. c.add_ballot.ensures.damaged rows.ballots behind are damaged))

pub returns-in-Header-clause-ok : goal.returns-in-Header-clause-ok
returns-in-Header-clause-ok c rows taken =
    rw c.in-Header.is (desk_taken rows (fields_of_header c.in-Header.row) c.args.self.now c.with-self.result
    (c.with-self.ensures rows.desk taken.desk) taken)
