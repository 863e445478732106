-- The values of `connect`.
use Rattle.std.proofs.Common.{◌≡◌, ℕ, ◌+◌, List, [], ◌∷◌, Some, length, drop, refl, ap, sym, ◌∙◌, arith}
use Rattle.std.specs.Prelude.{Option, Bool, slice_get}
use Rattle.gate_model.specs.declared.sharing.Share.{Share}
use Rattle.guac_handshake.specs.Asks.{ask_of, beginning, cols_of, is_read_only, mode_of, port_of, rows_of, term_of}
use Rattle.guac_handshake.specs.declared.ask.Ask.{Ask}

peel : {A : Type 0} (xs : List A) (n : ℕ) → length xs ≡ n + 1 → (x : A) × (ys : List A) × (xs ≡ x ∷ ys) × (length ys ≡ n)
peel [] n e = absurd (omega arith)
peel (x ∷ xs) n e = (x, xs, refl, omega arith)

none_left : {A : Type 0} (xs : List A) → length xs ≡ 0 → xs ≡ []
none_left [] e = refl
none_left (x ∷ xs) e = absurd (omega arith)

abbrev Spelled : List (List ℕ) → Type 0
Spelled values = (a b c d e f g : List ℕ) × (values ≡ a ∷ b ∷ c ∷ d ∷ e ∷ f ∷ g ∷ [])

seven : (values : List (List ℕ)) → length values ≡ 7 → Spelled values
seven values is =
    let p0 = peel values 6 is in
    let p1 = peel p0.1 5 p0.3 in
    let p2 = peel p1.1 4 p1.3 in
    let p3 = peel p2.1 3 p2.3 in
    let p4 = peel p3.1 2 p3.3 in
    let p5 = peel p4.1 1 p4.3 in
    let p6 = peel p5.1 0 p5.3 in
    let last = none_left p6.1 p6.3 in (
      p0.0,
      p1.0,
      p2.0,
      p3.0,
      p4.0,
      p5.0,
      p6.0,
      p0.2
          ∙ ap (λ (l : List (List ℕ)). p0.0 ∷ l) (p1.2
          ∙ ap (λ (l : List (List ℕ)). p1.0 ∷ l) (p2.2
          ∙ ap (λ (l : List (List ℕ)). p2.0 ∷ l) (p3.2
          ∙ ap (λ (l : List (List ℕ)). p3.0 ∷ l) (p4.2
          ∙ ap (λ (l : List (List ℕ)). p4.0 ∷ l) (p5.2
          ∙ ap (λ (l : List (List ℕ)). p5.0 ∷ l) (p6.2
          ∙ ap (λ (l : List (List ℕ)). p6.0 ∷ l) last)))))),
    )

-- seven values, the opcode first, are those of a session that is to begin
pub begin_values : (values : List (List ℕ)) (host port term read_only sharing : List ℕ) (size : Option (ℕ × ℕ)) → length values ≡ 7 → slice_get values 2 ≡ Some host → slice_get values 3 ≡ Some port → slice_get values 4 ≡ Some term → slice_get values 5 ≡ Some read_only → slice_get values 6 ≡ Some sharing → beginning (drop 1 values) size ≡ ask_of host (port_of port) (term_of term) (mode_of sharing) (is_read_only read_only) size
begin_values values host port term read_only sharing size count h p t r s =
    let q = seven values count in
    let e = q.7 in
    let hh : Some q.2 ≡ Some host = sym (ap (λ (l : List (List ℕ)). slice_get l 2) e) ∙ h in
    let pp : Some q.3 ≡ Some port = sym (ap (λ (l : List (List ℕ)). slice_get l 3) e) ∙ p in
    let tt' : Some q.4 ≡ Some term = sym (ap (λ (l : List (List ℕ)). slice_get l 4) e) ∙ t in
    let rr : Some q.5 ≡ Some read_only = sym (ap (λ (l : List (List ℕ)). slice_get l 5) e) ∙ r in
    let ss : Some q.6 ≡ Some sharing = sym (ap (λ (l : List (List ℕ)). slice_get l 6) e) ∙ s in
    ap (λ (l : List (List ℕ)). beginning (drop 1 l) size) e ∙ cc (hh, pp, tt', rr, ss)

-- an Ask of these values
asking : List ℕ → ℕ → List ℕ → Share → Bool → ℕ → ℕ → Option Ask
asking host port term mode read_only cols rows = Some (record { host = host; port = port; term = term; mode = mode; read_only = read_only; cols = cols; rows = rows })

asked_so : (host : List ℕ) (port : ℕ) (term : List ℕ) (mode : Share) (r : Bool) (size : Option (ℕ × ℕ)) → asking host port term mode r (cols_of size) (rows_of size) ≡ ask_of host (Some port) (Some term) (Some mode) r size
unfolding asking
asked_so host port term mode r size = refl

-- values that are all in form make an Ask
pub ask_is : (host h : List ℕ) (port cols rows : ℕ) (term : List ℕ) (mode : Share) (read_only r : Bool) (size : Option (ℕ × ℕ)) (p : Option ℕ) (t : Option (List ℕ)) (m : Option Share) → h ≡ host → p ≡ Some port → t ≡ Some term → m ≡ Some mode → read_only ≡ r → cols ≡ cols_of size → rows ≡ rows_of size → Some (record { host = h; port = port; term = term; mode = mode; read_only = read_only; cols = cols; rows = rows }) ≡ ask_of host p t m r size
unfolding asking
ask_is host h port cols rows term mode read_only r size p t m eh ep et em er ec ew =
    ap (λ (x : List ℕ). asking x port term mode read_only cols rows) eh
    ∙ ap (λ (x : Bool). asking host port term mode x cols rows) er
    ∙ ap (λ (x : ℕ). asking host port term mode r x rows) ec
    ∙ ap (λ (x : ℕ). asking host port term mode r (cols_of size) x) ew
    ∙ asked_so host port term mode r size
    ∙ ap (λ (x : Option ℕ). ask_of host x (Some term) (Some mode) r size) (sym ep)
    ∙ ap (λ (x : Option (List ℕ)). ask_of host p x (Some mode) r size) (sym et)
    ∙ ap (λ (x : Option Share). ask_of host p t x r size) (sym em)
