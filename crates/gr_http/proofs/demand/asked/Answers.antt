-- Where no resolution is named, what is asked is the same for each.
use Rattle.gr_http.proofs.demand.asked.Goals as goal

pub returns-in-Developers : goal.returns-in-Developers
returns-in-Developers c = rw c.in-Developers.is (c.set_developer.ensures c.args.resolution)

pub returns-in-Import : goal.returns-in-Import
returns-in-Import c = rw c.in-Import.is (c.import_roll.ensures c.args.resolution)

pub returns-in-Resolutions : goal.returns-in-Resolutions
returns-in-Resolutions c = rw c.in-Resolutions.is (c.propose.ensures c.args.resolution)
