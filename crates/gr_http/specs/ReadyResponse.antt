-- A response that is ready to be written.
use Rattle.std.specs.Prelude.{◌≡◌, ℕ, List, string_bytes}
use Rattle.gr_http.specs.declared.response.ReadyResponse.{ReadyResponse}
use Rattle.gr_http.specs.declared.response.ReadyResponse.TheVariants.{Line, Sheet}
use Rattle.gr_http.specs.Response.{Response, response_bytes}

abbrev pub ready_bytes : ReadyResponse → List ℕ
ready_bytes (Line status text) = text.bytes
ready_bytes (Sheet text) = string_bytes text

abbrev pub ready_status : ReadyResponse → ℕ
ready_status (Line status text) = status
ready_status (Sheet text) = 200

-- what is ready is this response
pub record IsReady (ready : ReadyResponse) (response : Response) : Type 0 where
  pub bytes : ready_bytes ready ≡ response_bytes response
  pub status : ready_status ready ≡ response.status

-- what is ready is a response with the property
abbrev pub Prepares : ReadyResponse → (Response → Type 0) → Type 0
Prepares ready P = (response : Response) × IsReady ready response × P response
