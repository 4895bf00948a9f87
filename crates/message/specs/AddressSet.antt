-- Sets of addresses, each told by its base and its mask.
use Rattle.std.specs.Prelude.{◌≡◌, ℕ, ◌+◌, ◌-◌, ◌%◌, ◌^◌, ◌<◌, ◌≤◌, Bool, true, ◌&&◌, ◌==◌, bit_and, bit_or, bit_xor}
use Rattle.message.specs.Bits.{bit}
use Rattle.message.specs.declared.request.RequestHead.{RequestHead}

-- NOT, on 32 bits
abbrev pub inverted : ℕ → ℕ
inverted n = 2 ^ 32 - 1 - n

-- two addresses that differ at most where the mask is set
abbrev pub agree_outside : ℕ → ℕ → ℕ → Bool
agree_outside mask a b = bit_and (bit_xor a b) (inverted mask) == 0

-- the lowest bits of the mask are set, as many as `count`
abbrev pub low_bits_set : ℕ → ℕ → Bool
low_bits_set mask count = mask % 2 ^ count == 2 ^ count - 1

-- an address lies in a set if it differs from the base at most where the mask is set
abbrev pub contains : ℕ → ℕ → ℕ → Bool
contains base mask address = agree_outside mask address base

-- two sets overlap if their bases differ at most where either mask is set
abbrev pub overlap : ℕ → ℕ → ℕ → ℕ → Bool
overlap base₁ mask₁ base₂ mask₂ = agree_outside (bit_or mask₁ mask₂) base₁ base₂

-- a request lies in a set that contains its address and whose mask has its lowest `size` bits set
abbrev pub lies_in : ℕ → ℕ → RequestHead → Bool
lies_in base mask q = contains base mask q.address && low_bits_set mask q.size

-- two addresses have the same binary digits wherever the mask has none
abbrev pub SameDigits : ℕ → ℕ → ℕ → Type 0
SameDigits mask a b = (i : ℕ) → i < 32 → bit mask i ≡ 0 → bit a i ≡ bit b i

-- a 32-bit address of the set
abbrev pub Member : ℕ → ℕ → ℕ → Type 0
Member base mask address = (address < 2 ^ 32) × (contains base mask address ≡ true)

-- some address lies in both sets
abbrev pub Meet : ℕ → ℕ → ℕ → ℕ → Type 0
Meet base₁ mask₁ base₂ mask₂ = (a : ℕ) × Member base₁ mask₁ a × Member base₂ mask₂ a

-- every byte of a request lies in the set
abbrev pub EveryByte : ℕ → ℕ → RequestHead → Type 0
EveryByte base mask q = (a : ℕ) → q.address ≤ a → a < q.address + 2 ^ q.size → Member base mask a
