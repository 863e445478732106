-- The text of an answer that has a file of the page (RFC 9112, section 4; which fields it has is this project's own).
use Rattle.std.specs.Prelude.{ℕ, List, ◌++◌, length, decimal, codes}
use Rattle.httparse.specs.Ascii.{crlf_bytes}
use Rattle.page_files.specs.declared.file.PageFile.{PageFile}

-- the first line
unfoldable pub status_line : List ℕ
status_line = codes "HTTP/1.1 200 OK" ++ crlf_bytes

-- what a browser may do with it: show it as what it is, with scripts, styles and requests of this site alone, in no frame
-- of another page, and not without asking for it anew
unfoldable pub fixed_lines : List ℕ
fixed_lines =
    codes "Content-Security-Policy: default-src 'self'; img-src 'self' data:; frame-ancestors 'none'" ++ crlf_bytes
    ++ codes "X-Content-Type-Options: nosniff" ++ crlf_bytes
    ++ codes "X-Frame-Options: DENY" ++ crlf_bytes
    ++ codes "Referrer-Policy: no-referrer" ++ crlf_bytes
    ++ codes "Cache-Control: no-cache" ++ crlf_bytes
    ++ codes "Connection: close" ++ crlf_bytes

-- the line of its kind
unfoldable pub kind_line : List ℕ → List ℕ
kind_line kind = codes "Content-Type: " ++ kind ++ crlf_bytes

-- the line of its length, and the empty line
unfoldable pub length_lines : ℕ → List ℕ
length_lines size = codes "Content-Length: " ++ decimal size ++ crlf_bytes ++ crlf_bytes

-- the head, and the file behind it
abbrev pub answer_text : PageFile → List ℕ
answer_text file = status_line ++ fixed_lines ++ kind_line file.kind.now ++ length_lines (length file.body.now) ++ file.body.now
