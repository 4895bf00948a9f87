-- A channel of the bus: its messages in beats, how they are cut, which beats a reader takes, and what it makes of them.
use Rattle.std.specs.Prelude.{◌≡◌, ℕ, ◌+◌, ◌*◌, ◌/◌, ◌%◌, ◌^◌, ◌<◌, ◌≤◌, Bool, true, false, cond, not, ◌&&◌, List, length, replicate, Some, None, Ok, Err, Option, Result, ◌==◌, nat_le, nat_lt, slice_index}
use Rattle.message.specs.declared.refusal.Refusal.{Refusal}
use Rattle.message.specs.declared.refusal.Refusal.TheVariants as no
use Rattle.message.specs.Bits.{bit}
use Rattle.message.specs.Kind.{Kinds, length_of, placed}
use Rattle.message.specs.Refusal.{unless_refused}
use Rattle.message.specs.Request.{whole}
use Rattle.beat.specs.declared.begun.Begun.{Begun}
use Rattle.beat.specs.declared.begun.Begun.TheVariants.{Whole, Half}
use Rattle.beat.specs.declared.header.Header.{Header}
use Rattle.beat.specs.declared.width.Width.{Width}
use Rattle.beat.specs.Begun.{CarriedOut, UnlessRefused}
use Rattle.beat.specs.Lanes.{Sent, Received, lane_byte, per_beat, first_lane, beat_count, beat_bytes, beat_bits, in_lanes, buffer_after}
use Rattle.beat.specs.Width.{width_bytes, width_of}

-- what a channel has of its own: kinds K of messages, their heads H, their beats B
pub record Beats (K H B : Type 0) : Type 0 where
  -- of a head: what is alike in every beat of its message, and its mask; a channel without masks has 0, and ignores another
  pub header : H → Header
  pub mask : H → ℕ
  pub with_mask : H → ℕ → H
  -- of a beat: its message's head with no bit of the mask yet, its lanes and its lane mask
  pub start : B → H
  pub lanes : B → ℕ
  pub lane_mask : B → ℕ
  -- the judgement that only this channel makes of a beat, by the first and the number of its active lanes
  pub own : K → ℕ → ℕ → B → Result (Unit {0}) Refusal
  -- the judgement of a whole message; and a beat of one, of its lane mask and its lanes
  pub checked : H → List ℕ → Result K Refusal
  pub beat : K → H → ℕ → ℕ → B

-- two flags are equal
abbrev pub agree : Bool → Bool → Bool
agree true b = b
agree false b = not b

-- two beats belong to one message if all this is equal
abbrev pub same_header : Header → Header → Bool
same_header a b =
    (a.opcode == b.opcode)
    && (a.param == b.param
    && (a.size == b.size
    && (a.source == b.source
    && (a.address == b.address && agree a.denied b.denied))))

-- an accepted message covers at most 64 bytes from a multiple of them on, and its data are as long as its kind asks
pub record Right {K : Type 0} (ks : Kinds K) (k : K) (h : Header) (count : ℕ) : Type 0 where
  pub size : h.size ≤ 6
  pub aligned : h.address % 2 ^ h.size ≡ 0
  pub long : count ≡ length_of ks k h.size

-- a mask whose first n bits have come, with those of a lane mask behind them
abbrev pub more_mask : ℕ → ℕ → ℕ → ℕ → ℕ → ℕ
more_mask first count n lane_mask mask = lane_mask / 2 ^ first % 2 ^ count * 2 ^ n + mask

-- how far a message is read: its head so far, the width of the bus, and how many beats have come
pub record Part (H : Type 0) : Type 0 where
  pub head : H
  pub width : Width
  pub come : ℕ

abbrev pub part : {H : Type 0} → H → Width → ℕ → Part H
part h w j = record { head = h; width = w; come = j }

module _ {K H B : Type 0} (ks : Kinds K) (ch : Beats K H B) where
  -- the first active lane of a message's beats, how many there are, and how many beats
  abbrev pub lane_of : Width → H → ℕ
  lane_of w h = first_lane (width_bytes w) (ch.header h).address

  abbrev pub per : Width → H → ℕ
  per w h = per_beat (width_bytes w) (ch.header h).size

  abbrev pub beats_in : Width → Bool → H → ℕ
  beats_in w has_data h = beat_count has_data (width_bytes w) (ch.header h).size

  -- the bytes that go over the bus: zeros in the place of denied ones
  abbrev pub sent_bytes : H → List ℕ → List ℕ
  sent_bytes h bytes = cond (ch.header h).denied (replicate (length bytes) 0) bytes

  -- the lanes as a reader takes them: denied data are zeros
  abbrev pub heard : B → ℕ
  heard b = cond (ch.header (ch.start b)).denied 0 (ch.lanes b)

  -- beat j of a message: the head in every beat, and that beat's mask bits and bytes in their lanes
  abbrev pub message_beat : Width → K → H → List ℕ → ℕ → B
  message_beat w k h bytes j =
      ch.beat k h
      (beat_bits (per w h) j (ch.mask h) * 2 ^ lane_of w h)
      (in_lanes (lane_of w h) (beat_bytes (per w h) j (sent_bytes h bytes)))

  -- the cutter's answer: the first refusal that applies, or beat j, if the message has it
  abbrev pub cut_message : ℕ → H → List ℕ → ℕ → Result (Option B) Refusal
  cut_message n h bytes j =
      unless_refused (width_of n) (λ w.
      unless_refused (ch.checked h bytes) (λ k.
      Ok (cond (nat_lt j (beats_in w (ks.carries k) h)) (Some (message_beat w k h bytes j)) None)))

  -- the lane of each byte's address has its mask bit and the byte itself; other lanes, and a message without data, have 0
  abbrev pub LaidOut : ℕ → H → List ℕ → ℕ → Result (Option B) Refusal → Type 0
  LaidOut n h bytes j (Ok (Some b)) =
      Sent n (ch.header h).address (ch.header h).size j (bit (ch.mask h)) (bit (ch.lane_mask b))
      × Sent n (ch.header h).address (ch.header h).size j (λ i. slice_index (sent_bytes h bytes) i) (lane_byte (ch.lanes b))
  LaidOut n h bytes j (Ok None) = Unit {0}
  LaidOut n h bytes j (Err e) = Unit {0}

  -- a later beat has the header of those before it; the mask is not compared
  abbrev pub same_head : Option H → Header → Bool
  same_head None h = true
  same_head (Some first) h = same_header (ch.header first) h

  -- the refusals of a beat whose own header is right
  abbrev pub admitted : K → Option H → Width → B → ℕ → Result K Refusal
  admitted k first w b room =
      let h = ch.start b in
      cond (not (same_head first (ch.header h))) (Err no.HeadDiffers) (
      unless_refused (ch.own k (lane_of w h) (per w h) b) (λ fits.
      cond (not (nat_le (length_of ks k (ch.header h).size) room)) (Err no.BufferShort) (Ok k)))

  -- the first refusal of a beat that applies, or its kind: what its message refuses of opcode, param, size and address,
  -- that it differs from the beats before it, what the channel refuses, and the room for the data
  unfoldable pub judged : Option H → Width → B → ℕ → Result K Refusal
  judged first w b room =
      let h = ch.header (ch.start b) in
      unless_refused (placed ks h.opcode h.param h.size h.address) (λ k. admitted k first w b room)

  -- whether a head's opcode and param are those of messages with data
  abbrev pub brings_data : H → Bool
  brings_data h = elim (ks.of (ch.header h).opcode (ch.header h).param) [ Ok k ↦ ks.carries k | Err e ↦ false ]

  -- beat j of a message with data is due, the mask of the bytes before it being known
  pub record Due (w : Width) (h : H) (j : ℕ) : Type 0 where
    pub size : (ch.header h).size ≤ 6
    pub aligned : (ch.header h).address % 2 ^ (ch.header h).size ≡ 0
    pub carries : brings_data h ≡ true
    pub due : j < beats_in w true h
    pub low : ch.mask h < 2 ^ (j * per w h)

  -- a head with the mask bits of beat j behind those that came before
  abbrev pub head_after : Width → H → ℕ → B → H
  head_after w h j b =
      ch.with_mask h (more_mask (lane_of w h) (per w h) (j * per w h) (ch.lane_mask b) (ch.mask h))

  -- what stands once beat j is read: the message if it was the last, else a burst u, of which `at u` has come
  abbrev pub Stands : {U : Type 0} → (U → Part H) → Width → H → ℕ → B → Begun H U → Type 0
  Stands at w h j b (Whole g) = (j + 1 ≡ beats_in w true h) × (g ≡ head_after w h j b)
  Stands at w h j b (Half u) = (j + 1 < beats_in w true h) × (at u ≡ part (head_after w h j b) w (j + 1))

  -- a buffer after beat j
  abbrev pub buffer_with : Width → H → ℕ → B → List ℕ → List ℕ
  buffer_with w h j b xs =
      buffer_after (width_bytes w) (ch.header h).address (ch.header h).size j (heard b) xs

  -- beat j of a message with data is read: what stands, and every byte of the buffer
  pub record Taken {U : Type 0} (at : U → Part H) (w : Width) (h : H) (j : ℕ) (b : B) (xs : List ℕ) (g : Begun H U) (ys : List ℕ) : Type 0 where
    pub stands : Stands at w h j b g
    pub buffer : ys ≡ buffer_with w h j b xs

  -- the mask of what is read
  abbrev pub mask_read : {U : Type 0} → (U → Part H) → Begun H U → ℕ
  mask_read at (Whole h) = ch.mask h
  mask_read at (Half u) = ch.mask (at u).head

  -- each active lane has gone to the byte of its address, and its mask bit to that byte's; nothing else has changed
  pub record LanesRead {U : Type 0} (at : U → Part H) (n : ℕ) (h : H) (j : ℕ) (b : B) (xs : List ℕ) (g : Begun H U) (ys : List ℕ) : Type 0 where
    pub bytes : Received n (ch.header h).address (ch.header h).size j (lane_byte (heard b)) (λ i. slice_index xs i) (λ i. slice_index ys i)
    pub bits : Received n (ch.header h).address (ch.header h).size j (bit (ch.lane_mask b)) (bit (ch.mask h)) (bit (mask_read at g))

  -- a first beat is read: the message is whole if it has no data
  abbrev pub First : {U : Type 0} → (U → Part H) → K → Width → B → List ℕ → Begun H U → List ℕ → Type 0
  First at k w b xs g ys =
      let h = ch.start b in
      cond (ks.carries k)
      (Taken at w h 0 b xs g ys)
      ((g ≡ Whole (ch.with_mask h (whole (ch.header h).size))) × (ys ≡ xs))

  -- reading is begun: the first refusal, with the buffer as it was, or the first beat is read
  abbrev pub Began : {U : Type 0} → (U → Part H) → ℕ → B → List ℕ → Result (Begun H U) Refusal → List ℕ → Type 0
  Began at n b xs r ys =
      UnlessRefused (λ e. e) (width_of n) r xs ys (λ w.
      UnlessRefused (λ e. e) (judged None w b (length xs)) r xs ys (λ k.
      CarriedOut r (λ g. First at k w b xs g ys)))

  -- reading goes on: a refusal hands back the same burst and leaves the buffer, or the next beat is read
  abbrev pub Went : {U : Type 0} → (U → Part H) → U → B → List ℕ → Result (Begun H U) (Refusal × U) → List ℕ → Type 0
  Went at u b xs r ys =
      UnlessRefused (λ e. (e, u)) (judged (Some (at u).head) (at u).width b (length xs)) r xs ys (λ k.
      CarriedOut r (λ g. Taken at (at u).width (at u).head (at u).come b xs g ys))

-- what a channel owes: a mask changes no header and takes the last one's place, and a beat carries the lanes and the
-- mask bits that it is made of
pub record Laws {K H B : Type 0} (ch : Beats K H B) : Type 0 where
  pub again : (h : H) (m n : ℕ) → ch.with_mask (ch.with_mask h m) n ≡ ch.with_mask h n
  pub header_kept : (h : H) (m : ℕ) → ch.header (ch.with_mask h m) ≡ ch.header h
  pub unmasked : (b : B) → ch.mask (ch.start b) ≡ 0
  pub unset : (b : B) → ch.with_mask (ch.start b) 0 ≡ ch.start b
  pub masked : (h : H) (b : B) (first count n : ℕ) → ch.mask (ch.with_mask h (more_mask first count n (ch.lane_mask b) (ch.mask h))) ≡ more_mask first count n (ch.lane_mask b) (ch.mask h)
  pub cut_mask : (k : K) (h : H) (first count j x : ℕ) → ch.lane_mask (ch.beat k h (beat_bits count j (ch.mask h) * 2 ^ first) x) ≡ beat_bits count j (ch.mask h) * 2 ^ first
  pub cut_lanes : (k : K) (h : H) (m x : ℕ) → ch.lanes (ch.beat k h m x) ≡ x
