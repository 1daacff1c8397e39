-- What a clause reads of an output over a writer.
use Rattle.std.specs.Prelude.{ℕ}
use Rattle.gr_http.specs.declared.output.ToWrite.{ToWrite}

-- the writer below
abbrev pub writer_of : {W : Type 0} → ToWrite W → W
writer_of output = output.writer

-- how many of its writes failed
abbrev pub write_failures : {W : Type 0} → ToWrite W → ℕ
write_failures output = output.failures
