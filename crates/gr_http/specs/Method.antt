-- The methods by which routes are asked (RFC 9110, section 9.3).
use Rattle.std.specs.Prelude.{ℕ, List, codes}
use Rattle.gr_http.specs.declared.method.AllowedMethod.{AllowedMethod}
use Rattle.gr_http.specs.declared.method.AllowedMethod.TheVariants.{Get, Post}

abbrev pub method_of : AllowedMethod → List ℕ
method_of Get = codes "GET"
method_of Post = codes "POST"
