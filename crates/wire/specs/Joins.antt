-- Lists of beats, and the messages that they are.
use Rattle.std.specs.Prelude.{◌≡◌, ℕ, ◌<◌, ◌≤◌, List, [], ◌∷◌, ◌++◌, length, take, drop, Some, None, Ok, Err, Option, Result, slice_index_or}
use Rattle.std.specs.Simd.Lanes.{Each1}
use Rattle.message.specs.declared.refusal.Refusal.{Refusal}
use Rattle.beat.specs.declared.begun.Begun.{Begun}
use Rattle.beat.specs.declared.begun.Begun.TheVariants.{Whole, Half}
use Rattle.beat.specs.declared.width.Width.{Width}
use Rattle.beat.specs.Begun.{UnlessRefused}
use Rattle.beat.specs.Width.{width_of}
use Rattle.wire.specs.declared.joined.Joined.{Joined}
use Rattle.wire.specs.declared.joined.Unread.{Unread}
use Rattle.wire.specs.Rules.{Rules, Read, cut_beats}

-- the beat at which reading stopped
abbrev pub unread : ℕ → Refusal → Unread
unread i e = record { beat = i; refusal = e }

module _ {B H K M : Type 0} (ch : Rules B H K M) where
  -- how a list of beats, b the first of them, ends: as a whole message, with beats missing, or at a refused beat
  abbrev pub Ends : Width → K → B → List B → List ℕ → Result (Option (Joined H)) Unread → List ℕ → Type 0
  Ends w k b bs xs (Ok (Some m)) ys =
      (m.beats ≡ ch.due w k b)
      × (m.beats ≤ length bs)
      × Read ch w k b (take m.beats bs) xs ys
      × (m.head ≡ ch.joined_head w k b (take m.beats bs))
  Ends w k b bs xs (Ok None) ys = (length bs < ch.due w k b) × Read ch w k b bs xs ys
  Ends w k b bs xs (Err e) ys =
      (e.beat < length bs)
      × (e.beat < ch.due w k b)
      × Read ch w k b (take e.beat bs) xs ys
      × (ch.next w b (slice_index_or bs e.beat b) (length xs) ≡ Err e.refusal)

  -- the same of a list by itself: none at all are missing, and a first one may be refused
  abbrev pub EndsList : Width → List B → List ℕ → Result (Option (Joined H)) Unread → List ℕ → Type 0
  EndsList w [] xs r ys = (r ≡ Ok None) × (ys ≡ xs)
  EndsList w (b ∷ bs) xs r ys =
      UnlessRefused (unread 0) (ch.first w b (length xs)) r xs ys (λ k. Ends w k b (b ∷ bs) xs r ys)

  -- the answer to a list of beats
  abbrev pub Joins : ℕ → List B → List ℕ → Result (Option (Joined H)) Unread → List ℕ → Type 0
  Joins n bs xs r ys = UnlessRefused (unread 0) (width_of n) r xs ys (λ w. EndsList w bs xs r ys)

  -- a message is read whole from the front of a list, and its data stand at the front of the buffer
  pub record WholeRead (w : Width) (k : K) (m : M) (xs : List ℕ) (r : Result (Option (Joined H)) Unread) (ys : List ℕ) : Type 0 where
    pub answer : r ≡ Ok (Some (record { head = ch.head m; beats = ch.count w k m }))
    pub buffer : ys ≡ ch.bytes m ++ drop (length (ch.bytes m)) xs

  -- the legal message whose beats were joined
  pub record Found (n : ℕ) (bs : List B) (xs : List ℕ) (r : Result (Option (Joined H)) Unread) (ys : List ℕ) : Type 0 where
    pub width : Width
    pub kind : K
    pub message : M
    pub wide : width_of n ≡ Ok width
    pub legal : ch.Legal kind message
    pub carries : ch.Carries width kind message (take (ch.count width kind message) bs)
    pub read : WholeRead width kind message xs r ys

  -- what is joined is a legal message, from its beats
  abbrev pub OnlyLegal : ℕ → List B → List ℕ → Result (Option (Joined H)) Unread → List ℕ → Type 0
  OnlyLegal n bs xs r ys = (j : Joined H) → r ≡ Ok (Some j) → Found n bs xs r ys

  -- every legal message is joined from its beats, if the buffer has room for its data
  abbrev pub EveryLegal : ℕ → List B → List ℕ → Result (Option (Joined H)) Unread → List ℕ → Type 0
  EveryLegal n bs xs r ys =
      (w : Width) (k : K) (m : M) → width_of n ≡ Ok w → ch.Legal k m → ch.Carries w k m (take (ch.count w k m) bs) → length (ch.bytes m) ≤ length xs → WholeRead w k m xs r ys

  -- a legal message that was cut is joined again, in every field and byte
  abbrev pub Again : ℕ → List B → List ℕ → Result (Option (Joined H)) Unread → List ℕ → Type 0
  Again n bs xs r ys =
      (w : Width) (k : K) (m : M) → width_of n ≡ Ok w → ch.Legal k m → Each1 (λ x. x < 256) (ch.bytes m) → bs ≡ cut_beats ch w k m → length (ch.bytes m) ≤ length xs → WholeRead w k m xs r ys

  -- what a reader with bursts U keeps: what it means that a burst waits for its next beat, those before it being read
  abbrev pub Waits : Type 0 → Type 1
  Waits U = Width → K → B → List B → List ℕ → U → List ℕ → Type 0

  -- what is known once the beats bs are read: the message, or a burst that waits
  abbrev pub Reached : {U : Type 0} → Waits U → Width → K → B → List B → List ℕ → Begun H U → List ℕ → Type 0
  Reached waits w k b bs xs (Whole h) ys =
      (length bs ≡ ch.due w k b) × Read ch w k b bs xs ys × (h ≡ ch.joined_head w k b bs)
  Reached waits w k b bs xs (Half u) ys = waits w k b bs xs u ys

  -- how reading is begun
  abbrev pub Begins : {U : Type 0} → Waits U → ℕ → B → List ℕ → Result (Begun H U) Refusal → List ℕ → Type 0
  Begins waits n b xs r ys =
      (w : Width) → width_of n ≡ Ok w → UnlessRefused (λ e. e) (ch.first w b (length xs)) r xs ys (λ k. elim r [ Ok g ↦ Reached waits w k b (b ∷ []) xs g ys | Err e ↦ ⊥ ])

  -- how it goes on with a burst that waits
  abbrev pub Continues : {U : Type 0} → Waits U → U → B → List ℕ → Result (Begun H U) (Refusal × U) → List ℕ → Type 0
  Continues waits u c ys r zs =
      (w : Width) (k : K) (b : B) (bs : List B) (xs : List ℕ) → waits w k b bs xs u ys → elim r [ Ok g ↦ Reached waits w k b (bs ++ c ∷ []) xs g zs | Err e ↦ (ch.next w b c (length xs) ≡ Err e.0) × (zs ≡ ys) ]
