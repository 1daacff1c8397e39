use Rattle.gr_sheet.proofs.choice.add_proposed_by.Goals as goal

pub returns-in-Developer : goal.returns-in-Developer
returns-in-Developer c = rw c.in-Developer.is (rw c.as_str-login.ensures.value at c.write.ensures.bytes)

pub returns-in-Leader : goal.returns-in-Leader
returns-in-Leader c = rw c.in-Leader.is c.write-in-Leader.ensures.bytes

pub returns-in-Committee : goal.returns-in-Committee
returns-in-Committee c = rw c.in-Committee.is c.write-in-Committee.ensures.bytes
