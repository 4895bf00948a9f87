-- Whole messages over a channel of the bus: which beats are theirs, and what beats bring together.
use Rattle.std.specs.Prelude.{◌≡◌, ℕ, ◌+◌, ◌*◌, ◌^◌, ◌<◌, ◌≤◌, true, false, cond, List, [], ◌∷◌, map, length, replicate, Some, None, Ok}
use Rattle.std.specs.List.{AllByRecursion}
use Rattle.message.specs.Kind.{Kinds, placed}
use Rattle.message.specs.Request.{whole}
use Rattle.beat.specs.declared.width.Width.{Width}
use Rattle.beat.specs.Channel.{Beats, Right, Part, part, lane_of, per, beats_in, heard, message_beat, judged}
use Rattle.beat.specs.Lanes.{beat_bits}
use Rattle.wire.specs.Beats.{payload, joined_mask, HoldBytes, HoldMask}
use Rattle.wire.specs.Rules.{Rules, Read}

-- a message: its head, and the bytes of its data in the order of their addresses
pub record Message (H : Type 0) : Type 0 where
  pub head : H
  pub bytes : List ℕ

abbrev pub message : {H : Type 0} → H → List ℕ → Message H
message h bytes = record { head = h; bytes = bytes }

-- what only this channel says of its messages: which are legal, and what a message's beat has beside header, mask and lanes
pub record Messages (K H B : Type 0) : Type 1 where
  pub Legal : K → Message H → Type 0
  pub Fits : K → H → B → Type 0

-- the first of a list, if there is one
abbrev pub Leads : {B : Type 0} → (B → Type 0) → List B → Type 0
Leads P [] = Unit {0}
Leads P (b ∷ bs) = P b

module _ {K H B : Type 0} (ks : Kinds K) (ch : Beats K H B) where
  -- how many beats a message has
  abbrev pub due : Width → K → H → ℕ
  due w k h = beats_in ks ch w (ks.carries k) h

  -- the bytes that beats bring; denied data are zeros
  abbrev pub bytes_of : Width → K → H → List B → List ℕ
  bytes_of w k h bs =
      cond (ks.carries k) (payload (lane_of ks ch w h) (per ks ch w h) (map (heard ks ch) bs)) []

  -- the mask bits that they bring
  abbrev pub mask_of : Width → H → List B → ℕ
  mask_of w h bs = joined_mask (lane_of ks ch w h) (per ks ch w h) (map ch.lane_mask bs)

  -- the head that they have together, h being the first one's: without data, the mask is whole
  abbrev pub head_of : Width → K → H → List B → H
  head_of w k h bs =
      ch.with_mask h (cond (ks.carries k) (mask_of w h bs) (whole (ch.header h).size))

  -- beats are those of a message, but for what a reader ignores: lanes that carry no byte or denied ones, and all that is
  -- beside them but with a denied message's first
  pub record Carries (ms : Messages K H B) (w : Width) (k : K) (m : Message H) (bs : List B) : Type 0 where
    pub count : length bs ≡ due w k m.head
    pub heads : AllByRecursion (λ b. ch.header (ch.start b) ≡ ch.header m.head) bs
    pub fits : AllByRecursion (ms.Fits k m.head) bs
    pub first : (ch.header m.head).denied ≡ true → Leads (λ b. ch.start b ≡ ch.with_mask m.head 0) bs
    pub masks : HoldMask (lane_of ks ch w m.head) (per ks ch w m.head) 0 (map ch.lane_mask bs) (ch.mask m.head)
    pub bytes : ks.carries k ≡ true → (ch.header m.head).denied ≡ false → HoldBytes (lane_of ks ch w m.head) (per ks ch w m.head) 0 (map ch.lanes bs) m.bytes

  -- what joining has to know of them
  abbrev pub rules_of : Messages K H B → Rules B H K (Message H)
  rules_of ms =
      record {
        first = λ w b room. judged ks ch None w b room;
        next = λ w b c room. judged ks ch (Some (ch.start b)) w c room;
        due = λ w k b. due w k (ch.start b);
        joined_head = λ w k b bs. head_of w k (ch.start b) bs;
        joined_bytes = λ w k b bs. bytes_of w k (ch.start b) bs;
        head = λ m. m.head;
        bytes = λ m. m.bytes;
        count = λ w k m. due w k m.head;
        Legal = ms.Legal;
        Carries = Carries ms;
        cut = λ w k m j. message_beat ks ch w k m.head m.bytes j;
      }

  -- a burst u, of which `at u` has come, waits for its next beat, those before it being read
  pub record HalfRead (ms : Messages K H B) {U : Type 0} (at : U → Part H) (w : Width) (k : K) (b : B) (bs : List B) (xs : List ℕ) (u : U) (ys : List ℕ) : Type 0 where
    pub read : Read (rules_of ms) w k b bs xs ys
    pub come : at u ≡ part (head_of w k (ch.start b) bs) w (length bs)
    pub mask : ch.mask (at u).head ≡ mask_of w (ch.start b) bs
    pub carries : ks.carries k ≡ true
    pub due : length bs < due w k (ch.start b)
    pub long : length ys ≡ length xs

  -- beats that none refuses, all of a message's: `count` lanes from `first` on in each
  pub record All (k : K) (h : H) (first count : ℕ) (bs : List B) : Type 0 where
    pub own : AllByRecursion (λ b. ch.own k first count b ≡ Ok tt) bs
    pub with_data : ks.carries k ≡ true → length bs * count ≡ 2 ^ (ch.header h).size
    pub without : ks.carries k ≡ false → (length bs ≡ 1) × (count ≤ 2 ^ (ch.header h).size)

  -- what a channel owes for its messages to be joined
  pub record Owes (ms : Messages K H B) : Type 0 where
    -- a legal message is placed right, has zeros for denied data, and the mask that its kind asks
    pub right : (k : K) (m : Message H) → ms.Legal k m → Right ks k (ch.header m.head) (length m.bytes)
    pub place : (k : K) (m : Message H) → ms.Legal k m → placed ks (ch.header m.head).opcode (ch.header m.head).param (ch.header m.head).size (ch.header m.head).address ≡ Ok k
    pub zeros : (k : K) (m : Message H) → ms.Legal k m → (ch.header m.head).denied ≡ true → m.bytes ≡ replicate (length m.bytes) 0
    pub below : (k : K) (m : Message H) → ms.Legal k m → ch.mask m.head < 2 ^ (2 ^ (ch.header m.head).size)
    pub masked : (k : K) (m : Message H) → ms.Legal k m → ch.with_mask m.head (cond (ks.carries k) (ch.mask m.head) (whole (ch.header m.head).size)) ≡ m.head
    -- one that is not denied has, but for the mask, the head of each beat; and its beats are not refused
    pub granted : (k : K) (m : Message H) → ms.Legal k m → (b : B) → ch.header (ch.start b) ≡ ch.header m.head → (ch.header m.head).denied ≡ false → ch.start b ≡ ch.with_mask m.head 0
    pub admitted : (k : K) (m : Message H) → ms.Legal k m → (b : B) (first count j : ℕ) → ch.header (ch.start b) ≡ ch.header m.head → ms.Fits k m.head b → ch.lane_mask b ≡ beat_bits count j (ch.mask m.head) * 2 ^ first → (j + 1) * count ≤ 2 ^ (ch.header m.head).size → ch.own k first count b ≡ Ok tt
    -- beats that are not refused fit the head, have the mask bits that they bring, and bring a legal message
    pub fitting : (k : K) (h : H) (b : B) (first count : ℕ) → ch.own k first count b ≡ Ok tt → ch.header (ch.start b) ≡ ch.header h → ms.Fits k h b
    pub held : (k : K) (h : H) (first count : ℕ) (bs : List B) → All k h first count bs → HoldMask first count 0 (map ch.lane_mask bs) (ch.mask (ch.with_mask h (cond (ks.carries k) (joined_mask first count (map ch.lane_mask bs)) (whole (ch.header h).size))))
    pub legal : (k : K) (b : B) (first count : ℕ) (bs : List B) (bytes : List ℕ) → All k (ch.start b) first count bs → placed ks (ch.header (ch.start b)).opcode (ch.header (ch.start b)).param (ch.header (ch.start b)).size (ch.header (ch.start b)).address ≡ Ok k → Right ks k (ch.header (ch.start b)) (length bytes) → ((ch.header (ch.start b)).denied ≡ true → bytes ≡ replicate (length bytes) 0) → ms.Legal k (message (ch.with_mask (ch.start b) (cond (ks.carries k) (joined_mask first count (map ch.lane_mask bs)) (whole (ch.header (ch.start b)).size))) bytes)
    -- the cutter's beats have the message's head
    pub cut : (k : K) (h : H) (mask lanes : ℕ) → (ch.header (ch.start (ch.beat k h mask lanes)) ≡ ch.header h) × ms.Fits k h (ch.beat k h mask lanes) × ((ch.header h).denied ≡ true → ch.start (ch.beat k h mask lanes) ≡ ch.with_mask h 0)
