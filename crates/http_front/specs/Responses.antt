-- The text of a response (RFC 9112, section 4; which fields it has is this project's own).
use Rattle.std.specs.Prelude.{ℕ, List, [], ◌++◌, length, decimal, ◌==◌, ◌&&◌, nat_le, nat_lt, if◌then◌else◌, codes, unwrap_or}
use Rattle.http.specs.StatusCode.{reason_phrase}
use Rattle.httparse.specs.Ascii.{crlf_bytes}
use Rattle.http_front.specs.declared.response.Response.{Response}

-- the reason that goes with a status, which is empty where there is none
abbrev pub reason_of : ℕ → List ℕ
reason_of status = if nat_le 100 status && nat_lt status 1000 then unwrap_or (reason_phrase status) [] else []

-- the first line
unfoldable pub status_line : ℕ → List ℕ → List ℕ
status_line status reason = codes "HTTP/1.1 " ++ decimal status ++ codes " " ++ reason ++ crlf_bytes

-- the lines that each response has
unfoldable pub fixed_lines : List ℕ
fixed_lines = codes "Content-Type: text/plain" ++ crlf_bytes ++ codes "Cache-Control: no-cache" ++ crlf_bytes ++ codes "Connection: close" ++ crlf_bytes

-- the line of the Guacamole status, which is left out where there is none
unfoldable pub code_line : ℕ → List ℕ
code_line code = codes "Guacamole-Status-Code: " ++ decimal code ++ crlf_bytes

abbrev pub code_lines : ℕ → List ℕ
code_lines code = if code == 0 then [] else code_line code

-- the line of the body's length, and the empty line
unfoldable pub length_lines : ℕ → List ℕ
length_lines size = codes "Content-Length: " ++ decimal size ++ crlf_bytes ++ crlf_bytes

abbrev pub response_head : ℕ → ℕ → ℕ → List ℕ
response_head status code size = status_line status (reason_of status) ++ fixed_lines ++ code_lines code ++ length_lines size

-- the head, and the body behind it
abbrev pub response_text : Response → List ℕ
response_text r = response_head r.status r.code (length r.body) ++ r.body
