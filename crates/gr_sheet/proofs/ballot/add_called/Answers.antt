use Rattle.gr_sheet.proofs.ballot.add_called.Goals as goal

pub returns : goal.returns
returns c = rw c.end_of_voting.ensures at c.write.ensures.bytes
