-- Which byte of a message goes in which lane of which beat.
use Rattle.std.specs.Prelude.{◌≡◌, ℕ, ◌+◌, ◌-◌, ◌*◌, ◌/◌, ◌%◌, ◌^◌, ◌<◌, ◌≤◌, min, max, Bool, cond, List, ◌++◌, take, drop, ◌≢◌}
use Rattle.std.specs.Simd.Lanes.{number_l, digits_l}

-- the byte at address a, one of the 2 ^ size from `address` on, goes in lane a mod w of beat a / w − address / w
pub record Goes (w address size a beat lane : ℕ) : Type 0 where
  pub from : address ≤ a
  pub to : a < address + 2 ^ size
  pub lane_is : lane ≡ a % w
  pub beat_is : beat ≡ a / w - address / w

-- what a writer does in one beat: what belongs to byte i of the message goes in that byte's lane, and 0 in every other lane
pub record Sent (w address size beat : ℕ) (message lanes : ℕ → ℕ) : Type 0 where
  pub carried : (a i : ℕ) → Goes w address size a beat i → lanes i ≡ message (a - address)
  pub idle : (i : ℕ) → ((a : ℕ) → Goes w address size a beat i → ⊥) → lanes i ≡ 0

-- what a reader does with one beat: each lane goes to its byte of the message, and nothing else changes
pub record Received (w address size beat : ℕ) (lanes before after : ℕ → ℕ) : Type 0 where
  pub carried : (a i : ℕ) → Goes w address size a beat i → after (a - address) ≡ lanes i
  pub kept : (p : ℕ) → ((a i : ℕ) → Goes w address size a beat i → p ≢ a - address) → after p ≡ before p

-- lane data is one number: lane i in bits 8i to 8i + 7
abbrev pub lane_byte : ℕ → ℕ → ℕ
lane_byte lanes i = lanes / 2 ^ (8 * i) % 256

-- how many bytes of a message go in one beat
abbrev pub per_beat : ℕ → ℕ → ℕ
per_beat w size = min w (2 ^ size)

-- the lane of the first of them
abbrev pub first_lane : ℕ → ℕ → ℕ
first_lane w address = address % w

-- how many beats a message has: one unless it carries data that fill more
abbrev pub beat_count : Bool → ℕ → ℕ → ℕ
beat_count has_data w size = cond has_data (max 1 (2 ^ size / w)) 1

-- the bytes of beat j
abbrev pub beat_bytes : ℕ → ℕ → List ℕ → List ℕ
beat_bytes count j bytes = take count (drop (j * count) bytes)

-- the bits of beat j in a mask of a bit for each byte
abbrev pub beat_bits : ℕ → ℕ → ℕ → ℕ
beat_bits count j mask = mask / 2 ^ (j * count) % 2 ^ count

-- bytes laid in the lanes from `first` on
abbrev pub in_lanes : ℕ → List ℕ → ℕ
in_lanes first bytes = number_l 256 bytes * 2 ^ (8 * first)

-- the bytes in `count` lanes from `first` on
abbrev pub lane_bytes : ℕ → ℕ → ℕ → List ℕ
lane_bytes first count lanes = digits_l 256 count (lanes / 2 ^ (8 * first))

-- the bytes xs of a message with those in its lanes put in their place as beat j
abbrev pub put : ℕ → ℕ → ℕ → ℕ → List ℕ → List ℕ
put first count j lanes xs = take (j * count) xs ++ (lane_bytes first count lanes ++ drop (j * count + count) xs)

-- a buffer after beat j of a message of 2 ^ size bytes from `address` on
abbrev pub buffer_after : ℕ → ℕ → ℕ → ℕ → ℕ → List ℕ → List ℕ
buffer_after w address size = put (first_lane w address) (per_beat w size)

-- the mask of `count` lanes from `first` on
abbrev pub active_lanes : ℕ → ℕ → ℕ
active_lanes first count = (2 ^ count - 1) * 2 ^ first
