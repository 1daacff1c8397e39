-- What a clause reads of an input over a reader.
use Rattle.std.specs.Prelude.{ℕ}
use Rattle.gr_http.specs.declared.input.FromRead.{FromRead}

-- the reader below
abbrev pub reader_of : {R : Type 0} → FromRead R → R
reader_of input = input.reader

-- how many of its reads failed
abbrev pub read_failures : {R : Type 0} → FromRead R → ℕ
read_failures input = input.failures
