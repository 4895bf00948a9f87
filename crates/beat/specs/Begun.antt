-- A message that is being read, and answers to its reader.
use Rattle.std.specs.Prelude.{◌≡◌, ℕ, List, Ok, Err, Result}
use Rattle.message.specs.declared.refusal.Refusal.{Refusal}
use Rattle.beat.specs.declared.begun.Begun.{Begun}
use Rattle.beat.specs.declared.begun.Begun.TheVariants.{Whole, Half}

-- no beat of it is due
abbrev pub IsWhole : {H B : Type 0} → Begun H B → Type 0
IsWhole (Whole h) = Unit {0}
IsWhole (Half b) = ⊥

-- the call was carried out, and P holds of its result
abbrev pub CarriedOut : {A E : Type 0} → Result A E → (A → Type 0) → Type 0
CarriedOut (Ok a) P = P a
CarriedOut (Err e) P = ⊥

-- where a judgement refuses, so does the call, with what it hands back, and the buffer is as it was; else P
abbrev pub UnlessRefused : {A B E : Type 0} → (Refusal → E) → Result A Refusal → Result B E → List ℕ → List ℕ → (A → Type 0) → Type 0
UnlessRefused back (Err e) r xs ys P = (r ≡ Err (back e)) × (ys ≡ xs)
UnlessRefused back (Ok a) r xs ys P = P a
