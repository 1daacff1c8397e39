use Rattle.std.proofs.Common.{◌≡◌, ap, ◌∙◌, ◌++◌, refl, string_bytes, rules}
use Rattle.gr_http.specs.Response.{sheet_response}
use Rattle.gr_http.proofs.ResponseLemmas.{response-bytes}
use Rattle.gr_http.proofs.response.of_sheet.Goals as goal

pub returns : goal.returns
returns c =
    let text = c.args.text.now in
    let head = c.head-head.result.bytes in
    let first : string_bytes c.push_str.new.self ≡ head = search rules in
    let both : string_bytes c.push_str-2.new.self ≡ string_bytes c.push_str.new.self ++ text = search rules in
    record {
      bytes = response-bytes (sheet_response text) head (string_bytes c.push_str-2.new.self) (search rules)
          (both ∙ ap (λ l. l ++ text) first);
      status = refl;
    }
