-- What requests in hand ask: those that post a form, with its length in the one field of their head.
use Rattle.std.proofs.Common.{◌≡◌, ◌∷◌, ◌++◌, ◌<◌, ◌≤◌, ℕ, List, [], codes, refl, lit≤, lit<, true, nat_lt, Result, Ok, length, inr}
use lib.Utf8.{encode}
use Rattle.std.specs.List.{list_all}
use Rattle.std.specs.Str.{chars, is_utf8}
use Rattle.std.specs.Str.Lossy.{utf8_lossy, utf8_valid_len}
use Rattle.std.proofs.lemmas.Str.{IsUtf8-from_ascii}
use Rattle.std.proofs.lemmas.Str.Ascii.{IsAscii-from_all}
use Rattle.std.proofs.lemmas.List.Sums.{AllPass-from_list_all}
use Rattle.std.proofs.lemmas.List.Elements.{All-cons, All-nil}
use Rattle.std.proofs.lemmas.Bool.{ltb-true}
use Rattle.httparse.specs.Grammar.{IsField, RequestHead, IsRequestHead, crlf, is_token_byte, is_uri_byte, is_value_byte, print_request, trim_ows}
use Rattle.form_urlencoded.specs.Form.{raw_pairs, split}
use Rattle.percent_encoding.specs.Percent.{percent_decode}
use Rattle.gr_http.specs.Demand.{Demand, Do, demand_of}
use Rattle.gr_http.specs.Length.{is_named}
use Rattle.gr_http.specs.Route.{resolution_in, route_of}
use Rattle.gr_http.specs.Request.{Texts, received_from}
use Rattle.gr_http.specs.Answer.{Asks}
use Rattle.gr_http.specs.declared.limits.TheConstants.{MAX_HEAD_BYTES}
use Rattle.gr_http.specs.declared.problem.Problem.{Problem}
use Rattle.gr_desk_tests.specs.Witness.{call, close, further, proposal, vote}
use Rattle.gr_desk_tests.specs.declared.witness.TheConstants.{CALL, CLOSE, FURTHER, PROPOSAL, VOTE}

-- the head of a request that posts a body, whose length is written so
abbrev pub head_of : List ℕ → List ℕ → RequestHead
head_of target digits = record {
  blank = [];
  method = codes "POST";
  target = target;
  minor = 1;
  line_end = crlf;
  fields = record { name = codes "Content-Length"; raw = 32 ∷ digits; end = crlf } ∷ [];
  last = crlf;
}

abbrev pub texts_of : List ℕ → List ℕ → Texts
texts_of target body = record { method = codes "POST"; target = target; body = body }

is_head : (target digits : List ℕ) → 0 < length target → list_all is_uri_byte target ≡ true
    → list_all (λ b. nat_lt b 128) target ≡ true → list_all is_value_byte (32 ∷ digits) ≡ true → IsRequestHead (head_of target digits)
unfolding is_token_byte
is_head target digits some uri ascii value = record {
  method = (lit< tt, AllPass-from_list_all is_token_byte (codes "POST") refl);
  target = (some, AllPass-from_list_all is_uri_byte target uri);
  target_text = IsUtf8-from_ascii target (IsAscii-from_all target (λ k d inside.
      ltb-true _ 128 (AllPass-from_list_all (λ b. nat_lt b 128) target ascii k d inside)));
  minor = lit≤ tt;
  fields = All-cons IsField (record { name = codes "Content-Length"; raw = 32 ∷ digits; end = crlf }) []
      (record {
        name = (lit< tt, AllPass-from_list_all is_token_byte (codes "Content-Length") refl);
        raw = AllPass-from_list_all is_value_byte (32 ∷ digits) value;
      }) (All-nil IsField);
}

posts : (bytes target digits body : List ℕ) (demand : Result Demand Problem)
    → bytes ≡ print_request (head_of target digits) ++ body → 0 < length target → list_all is_uri_byte target ≡ true
    → list_all (λ b. nat_lt b 128) target ≡ true → list_all is_value_byte (32 ∷ digits) ≡ true
    → length (print_request (head_of target digits)) ≤ MAX_HEAD_BYTES
    → Ok (texts_of target body) ≡ received_from (head_of target digits) body → demand ≡ demand_of (Ok (texts_of target body))
    → Asks bytes demand
posts bytes target digits body demand same some uri ascii value short received asked = (
  Ok (texts_of target body),
  inr (
    head_of target digits,
    body,
    record { reads = (is_head target digits some uri ascii value, same); short = short; few_fields = lit≤ tt },
    received,
  ),
  asked,
)

pub asks_proposal : Asks PROPOSAL.now (Ok (Do proposal))
unfolding print_request trim_ows is_named route_of resolution_in raw_pairs split percent_decode utf8_lossy utf8_valid_len is_utf8 chars encode
asks_proposal =
    posts PROPOSAL.now (codes "/resolutions") (codes "41") (codes "author=@leader&summary=Red&text=a&ratio=1") (Ok (Do proposal))
    refl (lit< tt) refl refl refl (lit≤ tt) refl refl

pub asks_call : Asks CALL.now (Ok (Do call))
unfolding print_request trim_ows is_named route_of resolution_in raw_pairs split percent_decode utf8_lossy utf8_valid_len is_utf8 chars encode
asks_call =
    posts CALL.now (codes "/resolutions/1/call") (codes "6") (codes "days=7") (Ok (Do call)) refl (lit< tt) refl refl refl (lit≤ tt) refl refl

pub asks_vote : Asks VOTE.now (Ok (Do vote))
unfolding print_request trim_ows is_named route_of resolution_in raw_pairs split percent_decode utf8_lossy utf8_valid_len is_utf8 chars encode
asks_vote =
    posts VOTE.now (codes "/resolutions/1/vote") (codes "35") (codes "login=alice&ranks=12&token=tokenA01") (Ok (Do vote))
    refl (lit< tt) refl refl refl (lit≤ tt) refl refl

pub asks_close : Asks CLOSE.now (Ok (Do close))
unfolding print_request trim_ows is_named route_of resolution_in raw_pairs split percent_decode utf8_lossy utf8_valid_len is_utf8 chars encode
asks_close =
    posts CLOSE.now (codes "/resolutions/1/close") (codes "0") (codes "") (Ok (Do close)) refl (lit< tt) refl refl refl (lit≤ tt) refl refl

pub asks_further : Asks FURTHER.now (Ok (Do further))
unfolding print_request trim_ows is_named route_of resolution_in raw_pairs split percent_decode utf8_lossy utf8_valid_len is_utf8 chars encode
asks_further =
    posts FURTHER.now (codes "/developers") (codes "37") (codes "login=carol&name=Carol&status=current") (Ok (Do further))
    refl (lit< tt) refl refl refl (lit≤ tt) refl refl
