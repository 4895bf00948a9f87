-- What a message is for, on either channel, and what that asks of its size, its address and its data.
use Rattle.std.specs.Prelude.{◌≡◌, ℕ, ◌%◌, ◌^◌, ◌≤◌, Bool, true, cond, not, Ok, Err, Result, ◌==◌}
use Rattle.message.specs.declared.refusal.Refusal.{Refusal}
use Rattle.message.specs.declared.refusal.Refusal.TheVariants as no
use Rattle.message.specs.Refusal.{unless_refused}

-- the kinds of a channel: of which opcode and param, of which sizes their messages may be, and whether these carry data
pub record Kinds (K : Type 0) : Type 0 where
  pub of : ℕ → ℕ → Result K Refusal
  pub fits : K → ℕ → Bool
  pub carries : K → Bool

-- no message covers more than 64 bytes
abbrev pub Small : {K : Type 0} → Kinds K → Type 0
Small {K} ks = (k : K) (size : ℕ) → ks.fits k size ≡ true → size ≤ 6

-- the address is a multiple of the bytes that the message covers
abbrev pub aligned : ℕ → ℕ → Bool
aligned address size = address % 2 ^ size == 0

-- how many bytes of data a message carries
abbrev pub length_of : {K : Type 0} → Kinds K → K → ℕ → ℕ
length_of ks k size = cond (ks.carries k) (2 ^ size) 0

-- the refusals of a message at an address that need no mask and no data
abbrev pub fitted : {K : Type 0} → Kinds K → K → ℕ → ℕ → Result K Refusal
fitted ks k size address =
    cond (not (ks.fits k size)) (Err no.Size) (
    cond (not (aligned address size)) (Err no.Address) (Ok k))

-- the kind of a message at an address, or the first refusal before its mask and its data are judged
unfoldable pub placed : {K : Type 0} → Kinds K → ℕ → ℕ → ℕ → ℕ → Result K Refusal
placed ks opcode param size address = unless_refused (ks.of opcode param) (λ k. fitted ks k size address)

-- the refusal that judges the length of the data
abbrev pub measured : {K : Type 0} → Kinds K → K → ℕ → ℕ → Result K Refusal
measured ks k size count = cond (not (count == length_of ks k size)) (Err no.Data) (Ok k)
