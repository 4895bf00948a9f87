-- A request as a line writes it, each number with all the digits that its field can need.
use Rattle.std.specs.Prelude.{ℕ, zero, suc, ◌+◌, ◌/◌, ◌%◌, ◌^◌, ◌<◌, cond, List, [], ◌∷◌, ◌++◌, nat_lt}
use Rattle.std.specs.List.{AllByRecursion}
use Rattle.message.specs.Request.{Request}
use Rattle.sheet.specs.declared.numeral.Base.{Base}
use Rattle.sheet.specs.declared.numeral.Base.TheVariants.{Decimal, Hexadecimal}
use Rattle.sheet.specs.Numeral.{radix}
use Rattle.sheet.specs.Words.{spaced}

-- the byte of text for a digit: `0` is 48, `a` 97
abbrev pub digit_text : ℕ → ℕ
digit_text d = cond (nat_lt d 10) (48 + d) (87 + d)

-- the k lowest digits of a number, the highest of them first
abbrev pub numeral : Base → ℕ → ℕ → List ℕ
numeral base zero n = []
numeral base (suc k) n = digit_text (n / radix base ^ k % radix base) ∷ numeral base k n

-- two digits for each byte
abbrev pub pairs : List ℕ → List ℕ
pairs [] = []
pairs (b ∷ bs) = numeral Hexadecimal 2 b ++ pairs bs

-- a word for data, where there is any
abbrev pub data_words : List ℕ → List (List ℕ)
data_words [] = []
data_words (b ∷ bs) = pairs (b ∷ bs) ∷ []

-- the words of a request, field by field
abbrev pub request_words : Request → List (List ℕ)
request_words q =
    numeral Decimal 3 q.head.opcode
    ∷ numeral Decimal 3 q.head.param
    ∷ numeral Decimal 3 q.head.size
    ∷ numeral Decimal 3 q.head.source
    ∷ numeral Hexadecimal 8 q.head.address
    ∷ numeral Hexadecimal 16 q.head.mask
    ∷ data_words q.bytes

-- a line that writes the request
unfoldable pub written : Request → List ℕ
written q = spaced (request_words q)

-- each number fits its field
pub record Fits (q : Request) : Type 0 where
  pub opcode : q.head.opcode < 2 ^ 8
  pub param : q.head.param < 2 ^ 8
  pub size : q.head.size < 2 ^ 8
  pub source : q.head.source < 2 ^ 8
  pub address : q.head.address < 2 ^ 32
  pub mask : q.head.mask < 2 ^ 64
  pub bytes : AllByRecursion (λ b. b < 2 ^ 8) q.bytes
