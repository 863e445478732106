-- What decoding into the room behind some bytes leaves.
use Rattle.std.proofs.Common.{◌≡◌, ℕ, ◌+◌, ◌*◌, ◌/◌, ◌<◌, ◌≤◌, List, ◌++◌, length, length-append, take, Bool, true, false, Option, Some, None, refl, ap, sym, ◌∙◌, arith}
use Rattle.std.proofs.lemmas.Bool.{ltb-true, ltb-false, le-leb, lt-leb}
use Rattle.std.proofs.lemmas.List.{take-append-le, length-take-le}
use Rattle.std.proofs.Math.Seq.{take-append-add, take-append_seam}
use Rattle.std.specs.Prelude.{Ok, Err, nat_lt, if◌then◌else◌}
use Rattle.std.specs.Result.{result_ok}
use Rattle.base64.proofs.Decoding.{length-groups_bytes}
use Rattle.base64.specs.declared.decode.DecodeError.{DecodeError}
use Rattle.base64.specs.declared.decode.DecodeSliceError.{DecodeSliceError}
use Rattle.base64.specs.declared.decode.DecodeSliceError.TheVariants.{OutputSliceTooSmall}
use Rattle.base64.specs.Decode.{bytes_fit, decode_outcome, decoded_bytes, groups_before_last, groups_bytes, groups_error, lone_error, or_else, or_error, suffix_bytes, suffix_error}
use Rattle.base64.specs.Engines.{standard}
use Rattle.base64.specs.GeneralPurpose.{decode_slice_of, decoded_bytes_of, decoded_of}
use Rattle.clip_stream.specs.Clips.{extended}

fit_ok_by : (n out count : ℕ) (less : Bool) → nat_lt out n ≡ less → (if less then Err OutputSliceTooSmall else Ok n) ≡ Ok count → (n ≡ count) × (n ≤ out)
fit_ok_by n out count true is e = cc
fit_ok_by n out count false is e = (cc, ltb-false out n is)

fit_ok : (n out count : ℕ) → bytes_fit n out ≡ Ok count → (n ≡ count) × (n ≤ out)
fit_ok n out count e = fit_ok_by n out count (nat_lt out n) refl e

fit_err_by : (n out : ℕ) (e : DecodeSliceError) (less : Bool) → nat_lt out n ≡ less → (if less then Err OutputSliceTooSmall else Ok n) ≡ Err e → out < n
fit_err_by n out e true is h = ltb-true out n is
fit_err_by n out e false is h = cc

fit_err : (n out : ℕ) (e : DecodeSliceError) → bytes_fit n out ≡ Err e → out < n
fit_err n out e h = fit_err_by n out e (nat_lt out n) refl h

ok_by : (lone others : Option DecodeError) (few : Bool) (n out count : ℕ) → or_error lone (if few then Err OutputSliceTooSmall else or_error others (bytes_fit n out)) ≡ Ok count → (or_else lone others ≡ None) × (n ≡ count) × (n ≤ out)
ok_by (Some e) others few n out count h = cc
ok_by None others true n out count h = cc
ok_by None (Some e) false n out count h = cc
ok_by None None false n out count h = let fits = fit_ok n out count h in (refl, fits.0, fits.1)

too_long : (bytes more : List ℕ) (out : ℕ) → length bytes + out ≡ 262144 → out < length more → extended bytes (Some more) ≡ None
too_long bytes more out room long = ap (λ (b : Bool). if b then Some (bytes ++ more) else None) (lt-leb (length bytes + length more) 262144 (omega arith))

err_by : (lone others : Option DecodeError) (few : Bool) (bytes more : List ℕ) (out : ℕ) (e : DecodeSliceError) → (few ≡ true → out < length more) → length bytes + out ≡ 262144
    → or_error lone (if few then Err OutputSliceTooSmall else or_error others (bytes_fit (length more) out)) ≡ Err e → extended bytes (result_ok (decode_outcome (or_else lone others) more)) ≡ None
err_by (Some e) others few bytes more out f less room h = refl
err_by None (Some e) few bytes more out f less room h = refl
err_by None None true bytes more out f less room h = too_long bytes more out room (less refl)
err_by None None false bytes more out f less room h = too_long bytes more out room (fit_err (length more) out f h)

-- the groups before the last are among the bytes
groups_few : (dec s : List ℕ) (pad out : ℕ) → nat_lt (out / 3) (groups_before_last (length s)) ≡ true → out < length (decoded_bytes dec pad s)
groups_few dec s pad out is =
    let q : ℕ = groups_before_last (length s) in
    let less : out / 3 < q = ltb-true (out / 3) q is in
    omega (arith, less, length-groups_bytes dec s q, length-append (groups_bytes dec s q) (suffix_bytes dec pad (4 * q) s))

-- what was decoded into a room fits there
pub decoded_whole : (encoded : List ℕ) (out count : ℕ) → Ok count ≡ decode_slice_of standard encoded out
    → (decoded_of standard encoded ≡ Some (decoded_bytes_of standard encoded)) × (length (decoded_bytes_of standard encoded) ≡ count) × (count ≤ out)
unfolding decoded_of
decoded_whole encoded out count e =
    let dec = standard.decode_table in
    let q : ℕ = groups_before_last (length encoded) in
    let found = ok_by (lone_error dec 61 encoded) (or_else (groups_error dec encoded q) (suffix_error dec 61 false standard.config.decode_padding_mode (4 * q) encoded)) (nat_lt (out / 3) q) (length (decoded_bytes dec 61 encoded)) out count (sym e) in
    (ap (λ (o : Option DecodeError). result_ok (decode_outcome o (decoded_bytes dec 61 encoded))) found.0, found.1, omega (arith, found.1, found.2))

-- what wasn't doesn't decode, or is too long
pub decoded_none : (encoded bytes : List ℕ) (out : ℕ) (f : DecodeSliceError) → length bytes + out ≡ 262144 → Err f ≡ decode_slice_of standard encoded out → extended bytes (decoded_of standard encoded) ≡ None
unfolding decoded_of
decoded_none encoded bytes out f room e =
    let dec = standard.decode_table in
    let q : ℕ = groups_before_last (length encoded) in
    err_by (lone_error dec 61 encoded) (or_else (groups_error dec encoded q) (suffix_error dec 61 false standard.config.decode_padding_mode (4 * q) encoded)) (nat_lt (out / 3) q) bytes (decoded_bytes dec 61 encoded) out f
    (groups_few dec encoded 61 out) room (sym e)

-- bytes that were put into the room behind others
pub put_behind : (end count : ℕ) (room into rest : List ℕ) → end ≤ length room → count ≤ length into → take (end + count) (take end room ++ (into ++ rest)) ≡ take end room ++ take count into
put_behind end count room into rest a b =
    let long : length (take end room) ≡ end = length-take-le end room a in
    ap (λ m. take (m + count) (take end room ++ (into ++ rest))) (sym long)
    ∙ take-append-add (take end room) (into ++ rest) count
    ∙ ap (λ x. take end room ++ x) (take-append-le count into rest b)

-- the bytes with what was decoded behind them
pub extended-some : (end count : ℕ) (bytes room into rest more left : List ℕ) → take end room ≡ bytes → end ≤ length room → into ≡ more ++ left → length more ≡ count → length bytes + count ≤ 262144
    → extended bytes (Some more) ≡ Some (take (end + count) (take end room ++ (into ++ rest)))
extended-some end count bytes room into rest more left front within e n fits =
    let decoded : take count into ≡ more = ap (take count) e ∙ ap (λ m. take m (more ++ left)) (sym n) ∙ take-append_seam more left in
    ap (λ (b : Bool). if b then Some (bytes ++ more) else None) (le-leb (length bytes + length more) 262144 (omega arith))
    ∙ ap Some (ap (λ x. bytes ++ x) (sym decoded) ∙ ap (λ x. x ++ take count into) (sym front) ∙ sym (put_behind end count room into rest within (omega (arith, ap length e, length-append more left))))
