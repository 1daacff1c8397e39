-- How long responses are, and the fixed text of those that tell a fault.
use Rattle.std.proofs.Common.{◌≡◌, ℕ, ◌+◌, ◌<◌, ◌≤◌, ◌^◌, List, [], ◌∷◌, ◌++◌, length, Option, Some, None, codes, decimal, ap, ◌∙◌, arith, length-append, append_assoc, append-nil}
use Rattle.std.specs.Prelude.{IfSome}
use Rattle.std.specs.List.{concat}
use Rattle.std.proofs.lemmas.Fmt.{length-decimal-le}
use Rattle.gr_http.specs.declared.response.TheConstants.{MAX_PHRASE_BYTES, MAX_ALLOWED_BYTES, MAX_RESPONSE_HEAD_BYTES}
use Rattle.gr_http.specs.Response.{phrase_of, IsShortStatus, Response, status_line, allow_line, body_lines, response_bytes}

three : (a b c : List ℕ) → length (concat (a ∷ b ∷ c ∷ [])) ≡ length a + (length b + length c)
three a b c =
    let inner : length (c ++ []) ≡ length c = ap length (append-nil c) in
    let middle : length (b ++ (c ++ [])) ≡ length b + length (c ++ []) = length-append b (c ++ []) in
    let outer : length (a ++ (b ++ (c ++ []))) ≡ length a + length (b ++ (c ++ [])) = length-append a (b ++ (c ++ [])) in
    omega arith

five : (a b c d e : List ℕ) → length (concat (a ∷ b ∷ c ∷ d ∷ e ∷ [])) ≡ length a + (length b + (length c + (length d + length e)))
five a b c d e =
    let rest : length (concat (c ∷ d ∷ e ∷ [])) ≡ length c + (length d + length e) = three c d e in
    let middle : length (b ++ concat (c ∷ d ∷ e ∷ [])) ≡ length b + length (concat (c ∷ d ∷ e ∷ [])) = length-append b (concat (c ∷ d ∷ e ∷ [])) in
    let outer : length (a ++ (b ++ concat (c ∷ d ∷ e ∷ []))) ≡ length a + length (b ++ concat (c ∷ d ∷ e ∷ [])) =
    length-append a (b ++ concat (c ∷ d ∷ e ∷ [])) in
    omega arith

pub status_line-short : (status : ℕ) → IsShortStatus status → length (status_line status) ≤ 47
unfolding status_line
status_line-short status short =
    let phrase : length (phrase_of status) ≤ MAX_PHRASE_BYTES = short.phrase in
    let small : status < 1000 = short.code in
    let digits : length (decimal status) ≤ 3 = length-decimal-le 3 status (omega arith) (omega arith) (omega arith) in
    let parts = five (codes "HTTP/1.1 ") (decimal status) (codes " ") (phrase_of status) (codes "\r\n") in
    omega arith

pub allow_line-short : (allow : Option (List ℕ)) → IfSome allow (λ method. length method ≤ MAX_ALLOWED_BYTES) → length (allow_line allow) ≤ 17
unfolding allow_line
allow_line-short None short = omega arith
allow_line-short (Some method) short =
    let parts = three (codes "Allow: ") method (codes "\r\n") in
    omega arith

pub body_lines-short : (count : ℕ) → count < 2 ^ 64 → length (body_lines count) ≤ 101
unfolding body_lines
body_lines-short count small =
    let digits : length (decimal count) ≤ 20 = length-decimal-le 20 count (omega arith) (omega arith) small in
    let parts = three (codes "Content-Type: text/plain; charset=utf-8\r\nContent-Length: ") (decimal count) (codes "\r\nConnection: close\r\n\r\n") in
    omega arith

-- a head has room
pub head-short : (status : ℕ) (allow : Option (List ℕ)) (count : ℕ) → IsShortStatus status → IfSome allow (λ method. length method ≤ MAX_ALLOWED_BYTES)
    → count < 2 ^ 64 → length (status_line status) + (length (allow_line allow) + length (body_lines count)) ≤ MAX_RESPONSE_HEAD_BYTES
head-short status allow count status_short allow_short small =
    omega (arith, status_line-short status status_short, allow_line-short allow allow_short, body_lines-short count small)

-- the lines of a head, one after the other
pub head-bytes : (status allow lines start a b c : List ℕ) → start ≡ [] → a ≡ start ++ status → b ≡ a ++ allow → c ≡ b ++ lines
    → c ≡ status ++ (allow ++ lines)
head-bytes status allow lines start a b c empty first second third =
    third ∙ ap (λ x. x ++ lines) (second ∙ ap (λ x. x ++ allow) (first ∙ ap (λ x. x ++ status) empty))
    ∙ append_assoc status allow lines

-- a head and the body after it
pub response-bytes : (response : Response) (head whole : List ℕ)
    → head ≡ status_line response.status ++ (allow_line response.allow ++ body_lines (length response.body))
    → whole ≡ head ++ response.body → whole ≡ response_bytes response
unfolding response_bytes
response-bytes response head whole is behind =
    let status = status_line response.status in
    let allow = allow_line response.allow in
    let lines = body_lines (length response.body) in
    behind ∙ ap (λ x. x ++ response.body) is
    ∙ append_assoc status (allow ++ lines) response.body
    ∙ ap (λ x. status ++ x) (append_assoc allow lines response.body)
