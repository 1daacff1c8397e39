use Rattle.gr_sheet.proofs.status_sheet.add_discussion.Goals as goal

pub returns-in-Some : goal.returns-in-Some
returns-in-Some c = rw (c.in-Some.is, ← c.end.ensures) c.write.ensures.bytes
