-- The number of each refusal, for the whole product.
use Rattle.std.specs.Prelude.{ℕ, Ok, Err, Result}
use Rattle.message.specs.declared.refusal.Refusal.{Refusal}
use Rattle.message.specs.declared.refusal.Refusal.TheVariants as no

abbrev pub refusal_number : Refusal → ℕ
refusal_number no.Opcode = 1
refusal_number no.Param = 2
refusal_number no.Size = 3
refusal_number no.Address = 4
refusal_number no.Mask = 5
refusal_number no.Data = 6
refusal_number no.Source = 7
refusal_number no.TooLarge = 8
refusal_number no.SourceOwed = 9
refusal_number no.NotReady = 10
refusal_number no.NothingAtHand = 11
refusal_number no.BufferShort = 12
refusal_number no.LogShort = 13
refusal_number no.NoPort = 14
refusal_number no.SlotTaken = 15
refusal_number no.Parameter = 16
refusal_number no.BaseInMask = 17
refusal_number no.SetsOverlap = 18
refusal_number no.HeadDiffers = 19
refusal_number no.Corrupt = 20

-- an answer's number: 0 where the call was carried out, else its refusal's
abbrev pub number_of : {A : Type 0} → Result A Refusal → ℕ
number_of (Ok a) = 0
number_of (Err e) = refusal_number e

-- the next judgement, made only where the one before refused nothing
abbrev pub unless_refused : {A B : Type 0} → Result A Refusal → (A → Result B Refusal) → Result B Refusal
unless_refused (Ok a) next = next a
unless_refused (Err e) next = Err e
