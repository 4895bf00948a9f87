-- The head of a request by its fields, and a line by its words.
use Rattle.std.proofs.Common.{◌≡◌, ℕ, ◌≤◌, List, [], ◌∷◌, map, length, get_or, take, ◌-◌, ◌^◌, ◌<◌, inl, inr, Bool, true, false, cond, leb, Option, Some, None, Result, Ok, Err, sym, subst, refl, ap, ◌∙◌, arith, Bor, ne_eqb, le-leb, leb-false}
use lib.ListN.{length-map}
use Rattle.std.proofs.Math.ListN.{get_or-map}
use borrow.Author.Tests.{lt-leb}
use native.Mathlib.Nat.{one-le-pow, pow-le-pow_right}
use Rattle.std.proofs.lemmas.Bool.{cases_lt}
use Rattle.std.specs.Option.{IfSome, MatchOption, ok_or}
use Rattle.std.specs.Result.{OkIff, MatchResult, IsErrAnd, IsOkAnd}
use Rattle.message.specs.declared.request.RequestHead.{RequestHead}
use Rattle.sheet.specs.declared.fault.Fault.TheVariants as fault
use Rattle.sheet.specs.declared.fault.Field.{Field}
use Rattle.sheet.specs.declared.fault.Field.TheVariants as field
use Rattle.sheet.specs.declared.line.Entry.{Entry}
use Rattle.sheet.specs.declared.line.LineError.{LineError}
use Rattle.sheet.specs.declared.line.LineError.TheVariants as error
use Rattle.sheet.specs.declared.numeral.Base.{Base}
use Rattle.sheet.specs.declared.numeral.Base.TheVariants.{Decimal, Hexadecimal}
use Rattle.message.specs.Request.{Request}
use Rattle.sheet.specs.Numeral.{and_then, at_most, bytes_of, digits_of, number_of, value}
use Rattle.sheet.specs.Line.{small_of, address_of, mask_of, word, head_by, head_of, request_by, request_of, told, Reading, reading, nothing, unreadable, blaming, ReadsField, view, view_entry, view_error}

-- what a slice has past its end
abbrev pub absent : Bor (List ℕ)
absent = record { ref_ptr = (0, 0); now = [] }

word_now : (words : List (Bor (List ℕ))) (k : ℕ) → (get_or words k absent).now ≡ word (map (λ x. x.now) words) k
word_now words k = sym (get_or-map (λ x. x.now) words k absent)

-- the number that a field of k bits holds, where its type takes no larger one
field_read : (E : Type 0) (k : ℕ) (base : Base) (word : List ℕ) (f : Field) (r : Result ℕ Field) → k ≤ 64 → ReadsField {E = E} (λ n t. OkIff t (n < 2 ^ k) n) base word f r → r ≡ ok_or (number_of base (2 ^ k - 1) word) f
unfolding number_of
field_read E k base [] f r h reads = reads
field_read E k base (b ∷ bs) f r h reads = by (digits_of base (b ∷ bs)) reads
  where
    narrow : 2 ^ k ≤ 2 ^ 64
    narrow = pow-le-pow_right (omega arith) h

    held : (v : ℕ) (t : Result ℕ E) → OkIff t (v < 2 ^ k) v → r ≡ blaming f t → r ≡ ok_or (at_most (2 ^ k - 1) v) f
    held v (Ok x) fits e = e ∙ ap Ok fits.1 ∙ sym (ap (λ t. ok_or (cond t (Some v) None) f) (le-leb v (2 ^ k - 1) (omega (arith, fits.0))))
    held v (Err d) over e = e ∙ sym (ap (λ t. ok_or (cond t (Some v) None) f) (lt-leb v (2 ^ k - 1) (elim (cases_lt v (2 ^ k)) [ inl lt ↦ absurd (over lt) | inr ge ↦ omega (arith, one-le-pow k 2 (omega arith)) ])))

    of_value : (v : ℕ) (t : Bool) → leb v (2 ^ 64 - 1) ≡ t → MatchOption (cond t (Some v) None) (r ≡ Err f) (λ n. (t : Result ℕ E) × OkIff t (n < 2 ^ k) n × (r ≡ blaming f t)) → r ≡ ok_or (at_most (2 ^ k - 1) v) f
    of_value v true e reads = held v reads.0 reads.1 reads.2
    of_value v false e reads = reads ∙ sym (ap (λ t. ok_or (cond t (Some v) None) f) (lt-leb v (2 ^ k - 1) (omega (arith, narrow, leb-false _ _ e))))

    by : (o : Option (List ℕ)) → MatchOption (and_then o (λ ds. at_most (2 ^ 64 - 1) (value base ds))) (r ≡ Err f) (λ n. (t : Result ℕ E) × OkIff t (n < 2 ^ k) n × (r ≡ blaming f t)) → r ≡ ok_or (and_then o (λ ds. at_most (2 ^ k - 1) (value base ds))) f
    by None reads = reads
    by (Some ds) reads = of_value (value base ds) (leb (value base ds) (2 ^ 64 - 1)) refl reads

pub small : (E : Type 0) (word : List ℕ) (f : Field) (r : Result ℕ Field) → ReadsField {E = E} (λ n t. OkIff t (n < 2 ^ 8) n) Decimal word f r → r ≡ ok_or (small_of word) f
small E word f r reads = field_read E 8 Decimal word f r (omega arith) reads

pub address : (E : Type 0) (word : List ℕ) (f : Field) (r : Result ℕ Field) → ReadsField {E = E} (λ n t. OkIff t (n < 2 ^ 32) n) Hexadecimal word f r → r ≡ ok_or (address_of word) f
address E word f r reads = field_read E 32 Hexadecimal word f r (omega arith) reads

pub mask : (E : Type 0) (word : List ℕ) (f : Field) (r : Result ℕ Field) → ReadsField {E = E} (λ n t. OkIff t (n < 2 ^ 64) n) Hexadecimal word f r → r ≡ ok_or (mask_of word) f
mask E word f r reads = field_read E 64 Hexadecimal word f r (omega arith) reads

-- the error that a result is, and that a `?` passes on as it is
pub is_error : {A E : Type 0} (r : Result A E) (e : E) → IsErrAnd r (λ d. d ≡ e) → r ≡ Err e
is_error (Err d) e h = ap Err h
is_error (Ok a) e h = absurd h

-- what `map_err` gives where it blames the field
pub blamed : {A E : Type 0} (t : Result A E) (r : Result A Field) (f : Field) → MatchResult t (λ x. r ≡ Ok x) (λ e. IsErrAnd r (λ d. d ≡ f)) → r ≡ blaming f t
blamed (Ok a) r f h = h
blamed (Err e) r f h = is_error r f h

-- the next field, read only where this one could be
abbrev pub then_field : {A B : Type 0} → Result A Field → (A → Result B Field) → Result B Field
then_field (Ok a) next = next a
then_field (Err f) next = Err f

abbrev pub head_from : (opcode param size source address mask : Result ℕ Field) → Result RequestHead Field
head_from opcode param size source address mask =
    then_field opcode (λ o. then_field param (λ p. then_field size (λ z. then_field source (λ s. then_field address (λ a. then_field mask (λ m. Ok (record { opcode = o; param = p; size = z; source = s; address = a; mask = m })))))))

same_head : (o p z s a m : Option ℕ) → head_from (ok_or o field.Opcode) (ok_or p field.Param) (ok_or z field.Size) (ok_or s field.Source) (ok_or a field.Address) (ok_or m field.Mask) ≡ head_by o p z s a m
same_head None p z s a m = refl
same_head (Some o) None z s a m = refl
same_head (Some o) (Some p) None s a m = refl
same_head (Some o) (Some p) (Some z) None a m = refl
same_head (Some o) (Some p) (Some z) (Some s) None m = refl
same_head (Some o) (Some p) (Some z) (Some s) (Some a) None = refl
same_head (Some o) (Some p) (Some z) (Some s) (Some a) (Some m) = refl

-- a head by what was read of its six words; a word that was not read stands for itself
pub head_is : (words : List (Bor (List ℕ))) {o p z s a m : Result ℕ Field} → o ≡ ok_or (small_of (get_or words 0 absent).now) field.Opcode → p ≡ ok_or (small_of (get_or words 1 absent).now) field.Param → z ≡ ok_or (small_of (get_or words 2 absent).now) field.Size → s ≡ ok_or (small_of (get_or words 3 absent).now) field.Source → a ≡ ok_or (address_of (get_or words 4 absent).now) field.Address → m ≡ ok_or (mask_of (get_or words 5 absent).now) field.Mask → head_from o p z s a m ≡ head_of (map (λ x. x.now) words)
unfolding head_of
head_is words o p z s a m =
    (λ i. head_from (o i) (p i) (z i) (s i) (a i) (m i))
    ∙ same_head _ _ _ _ _ _
    ∙ (λ i.
    head_by
    (small_of (word_now words 0 i))
    (small_of (word_now words 1 i))
    (small_of (word_now words 2 i))
    (small_of (word_now words 3 i))
    (address_of (word_now words 4 i))
    (mask_of (word_now words 5 i)))

-- a request by what was read of its head and its data
pub request_is : (ws : List (List ℕ)) (last : List ℕ) {h : Result RequestHead Field} {bs : Option (List ℕ)} → h ≡ head_of ws → bs ≡ bytes_of last → request_by h bs ≡ request_of ws last
unfolding request_of
request_is ws last h bs = λ i. request_by (h i) (bs i)

-- an answer that blames a field
pub blames : (r : Result Entry LineError) (f : Field) (q : Result Request Field) → IsErrAnd r (λ e. e ≡ error.Fault (fault.Field f)) → Err f ≡ q → IfSome (view_entry r) (λ said. said ≡ told q)
blames (Ok entry) f q h same = absurd h
blames (Err e) f q h same = subst (λ d. IfSome (view_error d) (λ said. said ≡ told q)) (sym h) (ap told same)

pub no_words : (xs : List (Bor (List ℕ))) → length xs ≡ 0 → nothing ≡ reading (map (λ x. x.now) xs)
unfolding reading
no_words [] h = refl
no_words (x ∷ xs) h = absurd (omega arith)

pub miscounted : (xs : List (Bor (List ℕ))) → (length xs ≡ 0 → ⊥) → (length xs ≡ 6 → ⊥) → (length xs ≡ 7 → ⊥) → unreadable fault.WordCount ≡ reading (map (λ x. x.now) xs)
unfolding reading
miscounted xs n0 n6 n7 = rw (length-map xs (λ x. x.now), ne_eqb _ _ n0, ne_eqb _ _ n6, ne_eqb _ _ n7) refl

-- six words and what stands behind them, if it is one word or none
pub counted : (xs : List (Bor (List ℕ))) (last : List ℕ) → 6 ≤ length xs → length xs ≤ 7 → last ≡ (get_or xs 6 absent).now → told (request_of (map (λ x. x.now) (take 6 xs)) last) ≡ reading (map (λ x. x.now) xs)
unfolding reading request_of head_of
counted [] last l g w = absurd (omega arith)
counted (a ∷ []) last l g w = absurd (omega arith)
counted (a ∷ b ∷ []) last l g w = absurd (omega arith)
counted (a ∷ b ∷ c ∷ []) last l g w = absurd (omega arith)
counted (a ∷ b ∷ c ∷ d ∷ []) last l g w = absurd (omega arith)
counted (a ∷ b ∷ c ∷ d ∷ e ∷ []) last l g w = absurd (omega arith)
counted (a ∷ b ∷ c ∷ d ∷ e ∷ f ∷ []) last l g w = ap (λ v. told (request_of (map (λ x. x.now) (a ∷ b ∷ c ∷ d ∷ e ∷ f ∷ [])) v)) w
counted (a ∷ b ∷ c ∷ d ∷ e ∷ f ∷ x ∷ []) last l g w = ap (λ v. told (request_of (map (λ x. x.now) (a ∷ b ∷ c ∷ d ∷ e ∷ f ∷ [])) v)) w
counted (a ∷ b ∷ c ∷ d ∷ e ∷ f ∷ x ∷ y ∷ xs) last l g w = absurd (omega arith)

-- an answer with its request in `Some`
pub some_same : (r : Result Entry LineError) (m : Result (Option Entry) LineError) → MatchResult r (λ x. IsOkAnd m (λ y. y ≡ Some x)) (λ e. m ≡ Err e) → view_entry r ≡ view m
some_same (Ok x) (Ok y) h = ap (λ e. view (Ok e)) (sym h)
some_same (Ok x) (Err e) h = absurd h
some_same (Err e) m h = ap view (sym h)

-- what an answer tells, by another name
pub says : (o : Option Reading) {a b : Reading} → a ≡ b → IfSome o (λ said. said ≡ a) → IfSome o (λ said. said ≡ b)
says None e h = h
says (Some said) e h = h ∙ e
