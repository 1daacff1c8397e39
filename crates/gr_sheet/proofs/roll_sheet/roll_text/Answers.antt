use Rattle.std.proofs.Common.{◌++◌, ap, ◌∙◌, map, codes, decimal}
use Rattle.std.specs.List.{flat_map}
use Rattle.std.specs.FinMap.{len}
use Rattle.gr_core.specs.InMemory.Tables.{developer_entry}
use Rattle.gr_sheet.specs.RollSheet.{developer_line, roll_head}
use Rattle.gr_sheet.proofs.DeveloperCounts.{len-map}
use Rattle.gr_sheet.proofs.roll_sheet.roll_text.Goals as goal

pub loop-login-init : goal.loop-login-init
loop-login-init c =
    let desk = c.args.desk.now in
    let developers = c.developers-developers.result.now in
    let same = c.developers-developers.ensures.roll in
    let all = c.len-all.ensures.len ∙ len-map desk developers same in
    let current = c.current_count-current.ensures.count in
    let entries = c.into_iter-login-iterator.ensures.into_iter_gives.0 in
    ap (λ text. text ++ flat_map developer_line (map developer_entry c.into_iter-login-iterator.result)) (c.in_ok-text.ensures.ok
    ∙ ap (λ n. codes "Developers: " ++ (decimal n ++ (codes "\nCurrent: " ++ (decimal c.current_count-current.result ++ codes "\n")))) all
    ∙ ap (λ n. codes "Developers: " ++ (decimal (len desk.developers) ++ (codes "\nCurrent: " ++ (decimal n ++ codes "\n")))) current)
    ∙ ap (λ es. roll_head desk ++ flat_map developer_line es) (ap (map developer_entry) entries ∙ same)
