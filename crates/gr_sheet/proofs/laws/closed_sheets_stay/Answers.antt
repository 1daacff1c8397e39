use Rattle.gr_sheet.proofs.ClosedSheets.{sheets_stay}
use Rattle.gr_sheet.proofs.laws.closed_sheets_stay.Goals as goal

pub returns : goal.returns
returns c =
    sheets_stay c.closed_votes_stay.ensures c.acts_touch_one_resolution.ensures c.casting_votes_choose_among_the_tied.ensures
    c.commands_keep_a_desk_valid.ensures
