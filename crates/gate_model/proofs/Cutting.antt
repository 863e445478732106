-- The law of every cutting, for any head that shrinks its list and is stable.
use Rattle.std.proofs.Common.{◌≡◌, ℕ, zero, suc, ◌≤◌, List, [], ◌∷◌, ◌++◌, length, Option, Some, None, refl, ap, sym, ◌∙◌, arith, append_assoc}
use Rattle.gate_model.specs.text.Reading.{Head, after, read_on, read_within, read, IsHead, Resumes}

module _ {A B : Type 0} (head : Head A B) (is : IsHead head) where
  after-after : (a b : List B) (r : List B × List A) → after a (after b r) ≡ after (a ++ b) r
  after-after a b r = ap (λ given. (given, r.1)) (sym (append_assoc a b r.0))

  -- more turns than the list is long change nothing
  enough : (n m : ℕ) (xs : List A) → length xs ≤ n → length xs ≤ m → read_within head n xs ≡ read_within head m xs
  enough zero zero xs a b = refl
  enough zero (suc m) xs a b = found (head xs) refl
    where
      found : (o : Option (List B × List A)) → head xs ≡ o → ([], xs) ≡ read_on xs (read_within head m) o
      found None e = refl
      found (Some p) e = absurd (omega (arith, is.shrinks xs p.1 p.0 e, a))
  enough (suc n) zero xs a b = found (head xs) refl
    where
      found : (o : Option (List B × List A)) → head xs ≡ o → read_on xs (read_within head n) o ≡ ([], xs)
      found None e = refl
      found (Some p) e = absurd (omega (arith, is.shrinks xs p.1 p.0 e, b))
  enough (suc n) (suc m) xs a b = found (head xs) refl (λ ys. enough n m ys)
    where
      found : (o : Option (List B × List A)) → head xs ≡ o
          → ((ys : List A) → length ys ≤ n → length ys ≤ m → read_within head n ys ≡ read_within head m ys)
          → read_on xs (read_within head n) o ≡ read_on xs (read_within head m) o
      found None e shorter = refl
      found (Some p) e shorter = ap (after p.0) (shorter p.1 (omega (arith, is.shrinks xs p.1 p.0 e, a)) (omega (arith, is.shrinks xs p.1 p.0 e, b)))

  -- a whole thing at the front, and then the rest
  pub read-whole : (xs rest : List A) (given : List B) → head xs ≡ Some (given, rest) → read head xs ≡ after given (read head rest)
  unfolding read
  read-whole [] rest given e = absurd (omega (arith, is.shrinks [] rest given e))
  read-whole (x ∷ xs) rest given e =
      ap (read_on (x ∷ xs) (read_within head (length xs))) e
      ∙ ap (after given) (enough (length xs) (length rest) rest (omega (arith, is.shrinks (x ∷ xs) rest given e)) (omega arith))

  -- nothing whole at the front
  pub read-unfinished : (xs : List A) → head xs ≡ None → read head xs ≡ ([], xs)
  unfolding read
  read-unfinished [] e = refl
  read-unfinished (x ∷ xs) e = ap (read_on (x ∷ xs) (read_within head (length xs))) e

  read-nothing : (ys : List A) → read head ([] ++ ys) ≡ after (read head []).0 (read head ((read head []).1 ++ ys))
  unfolding read
  read-nothing ys = refl

  resumes_within : (n : ℕ) (xs more : List A) → length xs ≤ n → read head (xs ++ more) ≡ after (read head xs).0 (read head ((read head xs).1 ++ more))
  resumes_within zero [] more le = read-nothing more
  resumes_within zero (x ∷ xs) more le = absurd (omega arith)
  resumes_within (suc n) xs more le = found (head xs) refl (λ ys. resumes_within n ys)
    where
      found : (o : Option (List B × List A)) → head xs ≡ o
          → ((ys : List A) (zs : List A) → length ys ≤ n → read head (ys ++ zs) ≡ after (read head ys).0 (read head ((read head ys).1 ++ zs)))
          → read head (xs ++ more) ≡ after (read head xs).0 (read head ((read head xs).1 ++ more))
      found None e shorter = rw (read-unfinished xs e) refl
      found (Some p) e shorter =
          read-whole (xs ++ more) (p.1 ++ more) p.0 (is.stable xs more p.1 p.0 e)
          ∙ (ap (after p.0) (shorter p.1 more (omega (arith, is.shrinks xs p.1 p.0 e, le)))
          ∙ (after-after p.0 (read head p.1).0 (read head ((read head p.1).1 ++ more))
          ∙ ap (λ (r : List B × List A). after r.0 (read head (r.1 ++ more))) (sym (read-whole xs p.1 p.0 e))))

  -- what is left has nothing whole at its front
  rest_within : (n : ℕ) (xs : List A) → length xs ≤ n → head (read head xs).1 ≡ None
  rest_within zero xs le = found (head xs) refl
    where
      found : (o : Option (List B × List A)) → head xs ≡ o → head (read head xs).1 ≡ None
      found None e = rw (read-unfinished xs e) e
      found (Some p) e = absurd (omega (arith, is.shrinks xs p.1 p.0 e, le))
  rest_within (suc n) xs le = found (head xs) refl (λ ys. rest_within n ys)
    where
      found : (o : Option (List B × List A)) → head xs ≡ o → ((ys : List A) → length ys ≤ n → head (read head ys).1 ≡ None) → head (read head xs).1 ≡ None
      found None e shorter = rw (read-unfinished xs e) e
      found (Some p) e shorter = rw (read-whole xs p.1 p.0 e) (shorter p.1 (omega (arith, is.shrinks xs p.1 p.0 e, le)))

  pub rest-unfinished : (xs : List A) → head (read head xs).1 ≡ None
  rest-unfinished xs = rest_within (length xs) xs (omega arith)

  pub resumes : Resumes head
  resumes xs more = resumes_within (length xs) xs more (omega arith)
