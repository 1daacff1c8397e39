use Rattle.gr_desk_tests.proofs.one_file.connected.Goals as goal

pub returns-in-Ok-clause-found : goal.returns-in-Ok-clause-found
returns-in-Ok-clause-found g c = record {
  found = λ clean.
      let opened = c.in-Ok.ensures.opened clean in
      let found = c.in-Ok.ensures.found clean in
      (opened.0, opened.1, record { holds = found.holds; reads = found.reads });
}
