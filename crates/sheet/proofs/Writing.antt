-- A line that writes a request is read as it.
use Rattle.std.proofs.Common.{◌≡◌, ℕ, zero, suc, ◌+◌, ◌-◌, ◌*◌, ◌/◌, ◌%◌, ◌^◌, ◌<◌, ◌≤◌, cond, List, [], ◌∷◌, length, Some, None, Ok, sym, refl, ap, ◌∙◌, ⊎_elim, mod-eq_of_lt, mul_comm, pow-suc, arith}
use native.Mathlib.Nat.{pow-zero, mod-one, one-le-pow}
use lib.Arith.{mod-mul}
use Rattle.std.proofs.lemmas.Nat.{mod_below}
use Rattle.std.proofs.lemmas.Bool.{cases_lt, le-leb}
use Rattle.std.proofs.lemmas.Bool.Decides.{nat_tests}
use Rattle.std.specs.Option.{option_map}
use Rattle.std.specs.List.{AllByRecursion as All}
use Rattle.message.specs.declared.request.RequestHead.{RequestHead}
use Rattle.message.specs.Request.{Request}
use Rattle.sheet.specs.declared.numeral.Base.{Base}
use Rattle.sheet.specs.declared.numeral.Base.TheVariants.{Decimal, Hexadecimal}
use Rattle.sheet.specs.Numeral.{and_then, radix, digit_of, digits_of, value, at_most, number_of, byte_of, bytes_of}
use Rattle.sheet.specs.Text.{blank, comment}
use Rattle.sheet.specs.Words.{Plain, Typed}
use Rattle.sheet.specs.Line.{request, reading, head_of, request_of, line_of}
use Rattle.sheet.specs.Written.{digit_text, numeral, pairs, data_words, request_words, written, Fits}
use Rattle.sheet.proofs.Positions.{radix_pos, bytes_more}
use Rattle.sheet.proofs.Spaced.{words_spaced}

-- a digit's text is read as the digit
text_low : (base : Base) (d : ℕ) → d < 10 → digit_of base (digit_text d) ≡ Some d
text_low base d lt =
    let t : digit_text d ≡ 48 + d = grind (arith, nat_tests) in
    ap (digit_of base) t ∙ grind (arith, nat_tests)

text_high : (d : ℕ) → 10 ≤ d → d < 16 → digit_of Hexadecimal (digit_text d) ≡ Some d
text_high d le lt =
    let t : digit_text d ≡ 87 + d = grind (arith, nat_tests) in
    ap (digit_of Hexadecimal) t ∙ grind (arith, nat_tests)

text_read : (base : Base) (d : ℕ) → d < radix base → digit_of base (digit_text d) ≡ Some d
text_read Decimal d lt = text_low Decimal d lt
text_read Hexadecimal d lt = ⊎_elim (text_low Hexadecimal d) (λ le. text_high d le lt) (cases_lt d 10)

-- the digits of a numeral, and their value
abbrev places : Base → ℕ → ℕ → List ℕ
places base zero n = []
places base (suc k) n = (n / radix base ^ k % radix base) ∷ places base k n

places_length : (base : Base) (k n : ℕ) → length (places base k n) ≡ k
places_length base zero n = refl
places_length base (suc k) n = ap suc (places_length base k n)

digits_read : (base : Base) (k n : ℕ) → digits_of base (numeral base k n) ≡ Some (places base k n)
digits_read base zero n = refl
digits_read base (suc k) n =
    let d = n / radix base ^ k % radix base in
    ap (λ o. and_then o (λ e. option_map (λ ds. e ∷ ds) (digits_of base (numeral base k n)))) (text_read base d (mod_below (n / radix base ^ k) (radix base) (radix_pos base)))
    ∙ ap (option_map (λ ds. d ∷ ds)) (digits_read base k n)

-- n % b ^ (k + 1) by its highest digit
top_digit : (b k n : ℕ) → 0 < b → n / b ^ k % b * b ^ k + n % b ^ k ≡ n % b ^ suc k
top_digit b k n pos =
    sym (ap (λ m. n % m) (pow-suc b k ∙ mul_comm (b ^ k) b) ∙ mod-mul n {m = b} {c = b ^ k} pos (one-le-pow k b pos))

value_read : (base : Base) (k n : ℕ) → value base (places base k n) ≡ n % radix base ^ k
value_read base zero n = sym (ap (λ m. n % m) (pow-zero (radix base)) ∙ mod-one n)
value_read base (suc k) n =
    let d = n / radix base ^ k % radix base in
    ap (λ m. d * radix base ^ m + value base (places base k n)) (places_length base k n)
    ∙ ap (λ v. d * radix base ^ k + v) (value_read base k n)
    ∙ top_digit (radix base) k n (radix_pos base)

number_read : (base : Base) (limit k n : ℕ) → n ≤ limit → n < radix base ^ suc k → number_of base limit (numeral base (suc k) n) ≡ Some n
unfolding number_of
number_read base limit k n le lt =
    ap (λ o. and_then o (λ ds. at_most limit (value base ds))) (digits_read base (suc k) n)
    ∙ ap (at_most limit) (value_read base (suc k) n ∙ mod-eq_of_lt lt)
    ∙ ap (λ t. cond t (Some n) None) (le-leb n limit le)

-- the bytes of data
byte_read : (b : ℕ) → b < 2 ^ 8 → byte_of (digit_text (b / 16 ^ 1 % 16)) (digit_text (b / 16 ^ 0 % 16)) ≡ Some b
byte_read b lt =
    ap (λ o. and_then o (λ h. option_map (λ l. h * 16 + l) (digit_of Hexadecimal (digit_text (b / 16 ^ 0 % 16))))) (text_read Hexadecimal (b / 16 ^ 1 % 16) (mod_below (b / 16 ^ 1) 16 (omega arith)))
    ∙ ap (option_map (λ l. b / 16 ^ 1 % 16 * 16 + l)) (text_read Hexadecimal (b / 16 ^ 0 % 16) (mod_below (b / 16 ^ 0) 16 (omega arith)))
    ∙ ap Some (omega arith)

bytes_read : (bs : List ℕ) → All (λ b. b < 2 ^ 8) bs → bytes_of (pairs bs) ≡ Some bs
unfolding bytes_of
bytes_read [] h = refl
bytes_read (b ∷ bs) h =
    bytes_more (digit_text (b / 16 ^ 1 % 16)) (digit_text (b / 16 ^ 0 % 16)) (pairs bs)
    ∙ ap (λ o. and_then o (λ c. option_map (λ more. c ∷ more) (bytes_of (pairs bs)))) (byte_read b h.0)
    ∙ ap (option_map (λ more. b ∷ more)) (bytes_read bs h.1)

-- a numeral can be typed
text_plain : (d : ℕ) → Plain (digit_text d)
unfolding blank comment
text_plain d = grind (arith, nat_tests)

numeral_plain : (base : Base) (k n : ℕ) → All Plain (numeral base k n)
numeral_plain base zero n = tt
numeral_plain base (suc k) n = (text_plain (n / radix base ^ k % radix base), numeral_plain base k n)

numeral_typed : (base : Base) (k n : ℕ) → Typed (numeral base (suc k) n)
numeral_typed base k n = (omega arith, numeral_plain base (suc k) n)

pairs_plain : (bs : List ℕ) → All Plain (pairs bs)
pairs_plain [] = tt
pairs_plain (b ∷ bs) = (text_plain (b / 16 ^ 1 % 16), (text_plain (b / 16 ^ 0 % 16), pairs_plain bs))

data_typed : (bs : List ℕ) → All Typed (data_words bs)
data_typed [] = tt
data_typed (b ∷ bs) = ((omega arith, pairs_plain (b ∷ bs)), tt)

-- the words of a request
words_typed : (q : Request) → All Typed (request_words q)
words_typed q = (
  numeral_typed Decimal 2 q.head.opcode,
  (
    numeral_typed Decimal 2 q.head.param,
    (
      numeral_typed Decimal 2 q.head.size,
      (
        numeral_typed Decimal 2 q.head.source,
        (
          numeral_typed Hexadecimal 7 q.head.address,
          (numeral_typed Hexadecimal 15 q.head.mask, data_typed q.bytes),
        ),
      ),
    ),
  ),
)

small_read : (n : ℕ) → n < 2 ^ 8 → number_of Decimal 255 (numeral Decimal 3 n) ≡ Some n
small_read n lt = number_read Decimal 255 2 n (omega arith) (omega arith)

head_read : (q : Request) → Fits q → head_of (request_words q) ≡ Ok q.head
unfolding head_of
head_read q f =
    rw (
      small_read q.head.opcode f.opcode,
      small_read q.head.param f.param,
      small_read q.head.size f.size,
      small_read q.head.source f.source,
      number_read Hexadecimal (2 ^ 32 - 1) 7 q.head.address (omega (arith, f.address)) f.address,
      number_read Hexadecimal (2 ^ 64 - 1) 15 q.head.mask (omega (arith, f.mask)) f.mask,
    )

-- the words of a request say it, with data and without
words_read : (head : RequestHead) (bytes : List ℕ) → Fits (record { head = head; bytes = bytes }) → reading (request_words (record { head = head; bytes = bytes })) ≡ request (record { head = head; bytes = bytes })
unfolding reading request_of
words_read head [] f = rw (head_read (record { head = head; bytes = [] }) f, bytes_read [] tt)
words_read head (b ∷ bs) f = rw (head_read (record { head = head; bytes = b ∷ bs }) f, bytes_read (b ∷ bs) f.bytes)

pub written_read : (q : Request) → Fits q → line_of (written q) ≡ request q
unfolding written
written_read q f = ap reading (words_spaced (request_words q) (words_typed q)) ∙ words_read q.head q.bytes f
