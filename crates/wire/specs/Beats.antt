-- What the beats of a message bring together.
use Rattle.std.specs.Prelude.{◌≡◌, ℕ, ◌+◌, ◌*◌, ◌/◌, ◌%◌, ◌^◌, List, [], ◌∷◌, map}
use Rattle.std.specs.Simd.Lanes.{number_l}
use Rattle.std.specs.List.{flat_map}
use Rattle.beat.specs.Lanes.{lane_bytes, beat_bytes, beat_bits}

-- the bytes in the active lanes of beats, one beat after another
abbrev pub payload : ℕ → ℕ → List ℕ → List ℕ
payload first count lanes = flat_map (lane_bytes first count) lanes

-- the mask bits of active lanes, the first beat's lowest
abbrev pub joined_mask : ℕ → ℕ → List ℕ → ℕ
joined_mask first count masks = number_l (2 ^ count) (map (λ m. m / 2 ^ first % 2 ^ count) masks)

-- the active lanes of the beats from beat j on hold the bytes of a message; other lanes may hold anything
abbrev pub HoldBytes : ℕ → ℕ → ℕ → List ℕ → List ℕ → Type 0
HoldBytes first count j [] bytes = Unit {0}
HoldBytes first count j (l ∷ lanes) bytes =
    (lane_bytes first count l ≡ beat_bytes count j bytes) × HoldBytes first count (j + 1) lanes bytes

-- the lane masks of the beats from beat j on are those of a message
abbrev pub HoldMask : ℕ → ℕ → ℕ → List ℕ → ℕ → Type 0
HoldMask first count j [] mask = Unit {0}
HoldMask first count j (m ∷ masks) mask =
    (m ≡ beat_bits count j mask * 2 ^ first) × HoldMask first count (j + 1) masks mask
