use Rattle.std.proofs.Common.{◌≡◌, ◌++◌, cond, [], codes, decimal, string_bytes, count_by}
use Rattle.std.specs.List.{flat_map}
use Rattle.std.specs.BTreeMap.{values}
use Rattle.gr_core.specs.Parts.Sponsor.{is_active}
use Rattle.gr_sheet.proofs.choice.add_logins.Given as goal

-- the logins so far and those of the entries that are left are all of them
abbrev pub invariant-loop-login : goal.invariant-loop-login
invariant-loop-login l =
    string_bytes l.text ++ flat_map (λ entry. cond (is_active entry.1) (codes " " ++ string_bytes entry.0) []) l.login-iterator
    ≡ string_bytes l.fn.text ++ (codes "Sponsors: " ++ (decimal (count_by is_active (values l.sponsors))
    ++ flat_map (λ entry. cond (is_active entry.1) (codes " " ++ string_bytes entry.0) []) l.sponsors.entries))
