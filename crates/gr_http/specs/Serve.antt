-- Serving connections.
use Rattle.std.specs.Prelude.{ℕ, List, codes}
use Rattle.gr_http.specs.declared.serve.NotServed.{NotServed}
use Rattle.gr_http.specs.declared.serve.NotServed.TheVariants.{Accept, Lost}
use Rattle.gr_http.specs.Answer.{lost_text}

-- what prints of a connection that was not served
abbrev pub not_served_text : NotServed → List ℕ
not_served_text Accept = codes "no connection could be accepted"
not_served_text (Lost why) = lost_text why
