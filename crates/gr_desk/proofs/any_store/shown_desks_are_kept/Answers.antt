use Rattle.gr_desk.proofs.any_store.shown_desks_are_kept.Goals as goal

pub returns-clause-current : goal.returns-clause-current
returns-clause-current g c clean opens s leaves =
    let kept = c.left_desks_are_held.ensures clean opens s leaves in
    record { settled = kept.0; tables = kept.1; holds = kept.2 }

pub returns-clause-desk1 : goal.returns-clause-desk1
returns-clause-desk1 g c clean opens s leaves =
    let kept = c.left_desks_of_version_1_are_held.ensures clean opens s leaves in
    record { settled = kept.0; tables = kept.1; holds = kept.2 }
