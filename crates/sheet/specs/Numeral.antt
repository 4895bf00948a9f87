-- Numbers and bytes as a sheet writes them.
use Rattle.std.specs.Prelude.{ℕ, ◌+◌, ◌-◌, ◌*◌, ◌^◌, Bool, cond, ◌&&◌, List, [], ◌∷◌, length, Some, None, Option, nat_le}
use Rattle.std.specs.Option.{option_map}
use Rattle.sheet.specs.declared.numeral.Base.{Base}
use Rattle.sheet.specs.declared.numeral.Base.TheVariants.{Decimal, Hexadecimal}

-- the next answer, asked for only where there is a first
abbrev pub and_then : {A B : Type 0} → Option A → (A → Option B) → Option B
and_then None next = None
and_then (Some a) next = next a

-- how many digits a base has
abbrev pub radix : Base → ℕ
radix Decimal = 10
radix Hexadecimal = 16

-- whether a byte is one of a row of bytes, its ends included
abbrev pub among : ℕ → ℕ → ℕ → Bool
among low high byte = nat_le low byte && nat_le byte high

-- what a letter is worth as a digit: only a base above ten has such
abbrev pub letter_of : Base → ℕ → Option ℕ
letter_of Decimal byte = None
letter_of Hexadecimal byte =
    cond (among 97 102 byte) (Some (byte - 97 + 10)) (cond (among 65 70 byte) (Some (byte - 65 + 10)) None)

-- what a byte of text is worth as a digit: `0` is 48, `a` 97 and `A` 65
abbrev pub digit_of : Base → ℕ → Option ℕ
digit_of base byte = cond (among 48 57 byte) (Some (byte - 48)) (letter_of base byte)

-- the digits of a word, where each of its bytes is one
abbrev pub digits_of : Base → List ℕ → Option (List ℕ)
digits_of base [] = Some []
digits_of base (b ∷ bs) = and_then (digit_of base b) (λ d. option_map (λ ds. d ∷ ds) (digits_of base bs))

-- positional notation: each place weighs the radix times the place after it
abbrev pub value : Base → List ℕ → ℕ
value base [] = 0
value base (d ∷ ds) = d * radix base ^ length ds + value base ds

-- a number that keeps within the limit
abbrev pub at_most : ℕ → ℕ → Option ℕ
at_most limit n = cond (nat_le n limit) (Some n) None

-- a value with one digit more behind it, within the limit
abbrev pub appended_of : Base → ℕ → ℕ → ℕ → Option ℕ
appended_of base limit n byte = and_then (digit_of base byte) (λ d. at_most limit (n * radix base + d))

-- the number that a word writes: it has a digit, nothing but digits, and a value within the limit
unfoldable pub number_of : Base → ℕ → List ℕ → Option ℕ
number_of base limit [] = None
number_of base limit (b ∷ bs) = and_then (digits_of base (b ∷ bs)) (λ ds. at_most limit (value base ds))

-- digits taken by pairs, each pair a byte, the high half first
abbrev pub paired : List ℕ → Option (List ℕ)
paired [] = Some []
paired (high ∷ []) = None
paired (high ∷ low ∷ ds) = option_map (λ bytes. (high * 16 + low) ∷ bytes) (paired ds)

-- the bytes that a word of hexadecimal digits writes
unfoldable pub bytes_of : List ℕ → Option (List ℕ)
bytes_of word = and_then (digits_of Hexadecimal word) paired

-- the byte that one pair of digits writes
abbrev pub byte_of : ℕ → ℕ → Option ℕ
byte_of high low = and_then (digit_of Hexadecimal high) (λ h. option_map (λ l. h * 16 + l) (digit_of Hexadecimal low))
