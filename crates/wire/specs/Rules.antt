-- What joining has to know of a channel.
use Rattle.std.specs.Prelude.{◌≡◌, ℕ, zero, suc, ◌+◌, ◌<◌, ◌≤◌, List, [], ◌∷◌, ◌++◌, length, drop, Ok, Result}
use Rattle.std.specs.Simd.Lanes.{Each1}
use Rattle.std.specs.List.{AllByRecursion}
use Rattle.message.specs.declared.refusal.Refusal.{Refusal}
use Rattle.beat.specs.declared.width.Width.{Width}

-- of a channel with beats B, and messages M that have heads H and are of kinds K
pub record Rules (B H K M : Type 0) : Type 1 where
  -- the first refusal of a first beat that applies, or its message's kind; and the same of any beat, the first one given before it
  pub first : Width → B → ℕ → Result K Refusal
  pub next : Width → B → B → ℕ → Result K Refusal
  -- how many beats its message has, by a first beat
  pub due : Width → K → B → ℕ
  -- the head and the bytes that beats bring together, by the first of them
  pub joined_head : Width → K → B → List B → H
  pub joined_bytes : Width → K → B → List B → List ℕ
  -- the parts of a message, and its number of beats
  pub head : M → H
  pub bytes : M → List ℕ
  pub count : Width → K → M → ℕ
  -- a legal message; beats that are its own, but for what a reader ignores; and beat j as the cutter makes it
  pub Legal : K → M → Type 0
  pub Carries : Width → K → M → List B → Type 0
  pub cut : Width → K → M → ℕ → B

module _ {B H K M : Type 0} (ch : Rules B H K M) where
  -- beats are read, b the first of them: none is refused, none is too many, and their bytes stand at the front of the buffer
  pub record Read (w : Width) (k : K) (b : B) (bs : List B) (xs ys : List ℕ) : Type 0 where
    pub begun : ch.first w b (length xs) ≡ Ok k
    pub accepted : AllByRecursion (λ c. ch.next w b c (length xs) ≡ Ok k) bs
    pub few : length bs ≤ ch.due w k b
    pub buffer : ys ≡ ch.joined_bytes w k b bs ++ drop (length (ch.joined_bytes w k b bs)) xs

  -- a legal message of which beats are all
  pub record Source (w : Width) (k : K) (b : B) (bs : List B) : Type 0 where
    pub message : M
    pub legal : ch.Legal k message
    pub carries : ch.Carries w k message bs
    pub count_is : ch.due w k b ≡ ch.count w k message
    pub head_is : ch.joined_head w k b bs ≡ ch.head message
    pub bytes_are : ch.joined_bytes w k b bs ≡ ch.bytes message

  -- a first beat that is not refused is the first of at least one
  abbrev pub SomeDue : Type 0
  SomeDue = (w : Width) (k : K) (b : B) (room : ℕ) → ch.first w b room ≡ Ok k → 0 < ch.due w k b

  -- what beats bring, of which none is refused and none is missing, is a legal message
  abbrev pub Sound : Type 0
  Sound = (w : Width) (k : K) (b : B) (bs : List B) (xs ys : List ℕ) → Read w k b (b ∷ bs) xs ys → length (b ∷ bs) ≡ ch.due w k b → Source w k b (b ∷ bs)

  -- what a reader finds of the beats of a message: none is refused, and they bring the message
  pub record Accepted (w : Width) (k : K) (m : M) (room : ℕ) (b : B) (bs : List B) : Type 0 where
    pub begun : ch.first w b room ≡ Ok k
    pub accepted : AllByRecursion (λ c. ch.next w b c room ≡ Ok k) bs
    pub count_is : ch.due w k b ≡ ch.count w k m
    pub head_is : ch.joined_head w k b bs ≡ ch.head m
    pub bytes_are : ch.joined_bytes w k b bs ≡ ch.bytes m

  -- the beats of a legal message are accepted
  abbrev pub Complete : Type 0
  Complete = (w : Width) (k : K) (m : M) (room : ℕ) (b : B) (bs : List B) → ch.Legal k m → length (ch.bytes m) ≤ room → ch.Carries w k m (b ∷ bs) → Accepted w k m room b (b ∷ bs)

  -- a legal message has as many beats as it should, and at least one
  abbrev pub Counted : Type 0
  Counted = (w : Width) (k : K) (m : M) (bs : List B) → ch.Legal k m → ch.Carries w k m bs → (length bs ≡ ch.count w k m) × (0 < ch.count w k m)

  -- the beats that the cutter makes of a message, from beat j on
  abbrev pub cut_from : Width → K → M → ℕ → ℕ → List B
  cut_from w k m j zero = []
  cut_from w k m j (suc n) = ch.cut w k m j ∷ cut_from w k m (j + 1) n

  -- all of them
  abbrev pub cut_beats : Width → K → M → List B
  cut_beats w k m = cut_from w k m 0 (ch.count w k m)

  -- the cutter's beats of a legal message are its own
  abbrev pub Cuts : Type 0
  Cuts = (w : Width) (k : K) (m : M) → ch.Legal k m → Each1 (λ x. x < 256) (ch.bytes m) → ch.Carries w k m (cut_beats w k m)
