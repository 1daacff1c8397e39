use Rattle.std.proofs.Common.{codes, map, refl, string_bytes}
use Rattle.gr_desk.specs.Words.{file_app, import_app, init_app, once_app, serve_app, sheet_app}
use Rattle.gr_desk.proofs.WordLemmas.{help_of}
use Rattle.gr_desk.proofs.words.subcommand.Goals as goal

pub returns-in-init-clause-help : goal.returns-in-init-clause-help
returns-in-init-clause-help c =
    help_of c.init.result 0 (codes "init") init_app (map string_bytes c.args.words.now) refl
    c.init.ensures.begins c.init.ensures.help

pub returns-in-once-clause-help : goal.returns-in-once-clause-help
returns-in-once-clause-help c =
    help_of c.once.result 1 (codes "once") once_app (map string_bytes c.args.words.now) refl
    c.once.ensures.begins c.once.ensures.help

pub returns-in-serve-clause-help : goal.returns-in-serve-clause-help
returns-in-serve-clause-help c =
    help_of c.serve.result 2 (codes "serve") serve_app (map string_bytes c.args.words.now) refl
    c.serve.ensures.begins c.serve.ensures.help

pub returns-in-import-clause-help : goal.returns-in-import-clause-help
returns-in-import-clause-help c =
    help_of c.import.result 3 (codes "import") import_app (map string_bytes c.args.words.now) refl
    c.import.ensures.begins c.import.ensures.help

pub returns-in-roll-clause-help : goal.returns-in-roll-clause-help
returns-in-roll-clause-help c =
    help_of c.roll.result 4 (codes "roll") (file_app (codes "roll")) (map string_bytes c.args.words.now) refl
    c.roll.ensures.begins c.roll.ensures.help

pub returns-in-status-clause-help : goal.returns-in-status-clause-help
returns-in-status-clause-help c =
    help_of c.status.result 5 (codes "status") (sheet_app (codes "status")) (map string_bytes c.args.words.now) refl
    c.status.ensures.begins c.status.ensures.help

pub returns-in-tally-clause-help : goal.returns-in-tally-clause-help
returns-in-tally-clause-help c =
    help_of c.tally.result 6 (codes "tally") (sheet_app (codes "tally")) (map string_bytes c.args.words.now) refl
    c.tally.ensures.begins c.tally.ensures.help

pub returns-in-result-clause-help : goal.returns-in-result-clause-help
returns-in-result-clause-help c =
    help_of c.result.result 7 (codes "result") (sheet_app (codes "result")) (map string_bytes c.args.words.now) refl
    c.result.ensures.begins c.result.ensures.help

pub returns-in-migrate-clause-help : goal.returns-in-migrate-clause-help
returns-in-migrate-clause-help c =
    help_of c.migrate.result 8 (codes "migrate") (file_app (codes "migrate")) (map string_bytes c.args.words.now) refl
    c.migrate.ensures.begins c.migrate.ensures.help
