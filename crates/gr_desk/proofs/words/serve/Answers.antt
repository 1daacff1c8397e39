use Rattle.std.proofs.Common.{arith, codes, refl, subst, ◌≤◌}
use Rattle.clap.specs.Matches.{found_of}
use Rattle.clap.specs.Walk.{rows_of}
use Rattle.gr_desk.specs.declared.limits.TheConstants.{MIN_PORT, MAX_PORT, MIN_COUNT, MAX_COUNT}
use Rattle.gr_desk.specs.Words.{HasMoment, HasNumberWithin, HasText, serve_app}
use Rattle.gr_desk.proofs.SubcommandLemmas.{found_rows, has_number, serve_found, within}
use Rattle.gr_desk.proofs.words.serve.Goals as goal

pub text-requires : goal.text-requires
text-requires c = (serve_found _ c.in_ok-matches.matches c.in_ok-matches.ensures.parsed c.in_ok-serve.ensures).0

pub number-requires : goal.number-requires
number-requires c =
    let found = serve_found _ c.in_ok-matches.matches c.in_ok-matches.ensures.parsed c.in_ok-serve.ensures in
    has_number (rows_of (found_of c.in_ok-matches.matches)) (codes "port") MIN_PORT MAX_PORT (omega arith) found.1

pub overflow_cast-result : goal.overflow_cast-result
overflow_cast-result c =
    let found = serve_found _ c.in_ok-matches.matches c.in_ok-matches.ensures.parsed c.in_ok-serve.ensures in
    let port = within (rows_of (found_of c.in_ok-matches.matches)) (codes "port") MIN_PORT MAX_PORT c.number.result found.1
    c.number.ensures in
    let most : c.number.result ≤ MAX_PORT = port.2 in
    omega arith

pub number-requires-2 : goal.number-requires-2
number-requires-2 c =
    let found = serve_found _ c.in_ok-matches.matches c.in_ok-matches.ensures.parsed c.in_ok-serve.ensures in
    has_number (rows_of (found_of c.in_ok-matches.matches)) (codes "count") MIN_COUNT MAX_COUNT (omega arith) found.2

pub overflow_cast-result-2 : goal.overflow_cast-result-2
overflow_cast-result-2 c =
    let found = serve_found _ c.in_ok-matches.matches c.in_ok-matches.ensures.parsed c.in_ok-serve.ensures in
    let count = within (rows_of (found_of c.in_ok-matches.matches)) (codes "count") MIN_COUNT MAX_COUNT c.number-2.result
    found.2 c.number-2.ensures in
    let most : c.number-2.result ≤ MAX_COUNT = count.2 in
    omega arith

pub moment-requires : goal.moment-requires
moment-requires c = (serve_found _ c.in_ok-matches.matches c.in_ok-matches.ensures.parsed c.in_ok-serve.ensures).3

pub returns-clause-line : goal.returns-clause-line
returns-clause-line c =
    let rows = rows_of (found_of c.in_ok-matches.matches) in
    let found = serve_found _ c.in_ok-matches.matches c.in_ok-matches.ensures.parsed c.in_ok-serve.ensures in
    let port = within rows (codes "port") MIN_PORT MAX_PORT c.number.result found.1 c.number.ensures in
    let count = within rows (codes "count") MIN_COUNT MAX_COUNT c.number-2.result found.2 c.number-2.ensures in
    let same = found_rows _ serve_app _ c.in_ok-matches.matches c.in_ok-serve.ensures refl c.in_ok-matches.ensures.matches in (
      c.requires,
      subst (λ rows. HasText rows (codes "file") c.text.result.now) same c.text.ensures,
      subst (λ rows. HasNumberWithin MIN_PORT MAX_PORT rows (codes "port") c.number.result) same port,
      subst (λ rows. HasNumberWithin MIN_COUNT MAX_COUNT rows (codes "count") c.number-2.result) same count,
      subst (λ rows. HasMoment rows c.moment.result) same c.moment.ensures,
    )
