-- Masks and bytes lie in the lanes of their addresses.
use Rattle.std.proofs.Common.{◌≡◌, ℕ, zero, suc, ◌+◌, ◌-◌, ◌*◌, ◌/◌, ◌%◌, ◌^◌, ◌<◌, ◌≤◌, true, List, [], ◌∷◌, ◌++◌, length, get_or, take, drop, replicate, sym, refl, ap, ◌∙◌, mul_assoc, add-mul, one-mul, zero-mul, div-one, arith, rules}
use native.Mathlib.Nat.{mul-mod_left, pow-zero, zero-div}
use lib.Lanes.{number_l, Each1}
use Rattle.std.proofs.lemmas.Nat.{pow-add, pow_pos, shl-shr, shr-shr, mod_below, mod_low, shr_high}
use Rattle.std.proofs.lemmas.List.{get_or_append_left, get_or-append_right, get_or-take, get_or-drop, get_or_past, length-take, length-take-le}
use Rattle.std.proofs.lemmas.Simd.{Each1-chunk, Each1-replicate}
use Rattle.message.specs.Bits.{bit}
use Rattle.message.proofs.Digits.{no_digit_above}
use Rattle.message.proofs.Sets.{low_digit}
use Rattle.beat.specs.Lanes.{Sent, Received, lane_byte, per_beat, first_lane, beat_count, beat_bytes, beat_bits, in_lanes, lane_bytes, put}
use Rattle.beat.proofs.Digits.{digit, shifted, getD_digits, length_digits, pow_bytes}
use Rattle.beat.proofs.Masks.{grown}
use Rattle.beat.proofs.Places.{sent_by, received_by}
use Rattle.beat.proofs.Widths.{Shape, beat_ends}

-- what stands from bit a on, and what below
shifted_up : (n a b : ℕ) → n * 2 ^ a / 2 ^ (a + b) ≡ n / 2 ^ b
shifted_up n a b = rw (← shr-shr (n * 2 ^ a) a b, shl-shr n a) refl

nothing_below : (n a b c : ℕ) → b + c ≤ a → n * 2 ^ a / 2 ^ b % 2 ^ c ≡ 0
nothing_below n a b c le =
    let rest = a - (b + c) in
    let parts : 2 ^ a ≡ 2 ^ rest * 2 ^ c * 2 ^ b = ap (λ m. 2 ^ m) {x = a} {y = rest + c + b} (omega arith) ∙ pow-add 2 (rest + c) b ∙ ap (λ m. m * 2 ^ b) (pow-add 2 rest c) in
    let is : n * 2 ^ a ≡ n * 2 ^ rest * 2 ^ c * 2 ^ b =
    ap (λ m. n * m) parts ∙ sym (mul_assoc n (2 ^ rest * 2 ^ c) (2 ^ b)) ∙ ap (λ m. m * 2 ^ b) (sym (mul_assoc n (2 ^ rest) (2 ^ c))) in
    ap (λ m. m % 2 ^ c) (ap (λ m. m / 2 ^ b) is ∙ shl-shr (n * 2 ^ rest * 2 ^ c) b) ∙ mul-mod_left (n * 2 ^ rest) (2 ^ c)

-- the digits of a number that bytes spell
getD_number : (xs : List ℕ) (t : ℕ) → Each1 (λ x. x < 256) xs → number_l 256 xs / 256 ^ t % 256 ≡ get_or xs t 0
getD_number [] t h = ap (λ n. n % 256) (zero-div (256 ^ t))
getD_number (x ∷ xs) zero h = ap (λ n. n % 256) (ap (λ n. (x + 256 * number_l 256 xs) / n) (pow-zero 256) ∙ div-one (x + 256 * number_l 256 xs)) ∙ (digit 256 x (number_l 256 xs) h.0).0
getD_number (x ∷ xs) (suc t) h =
    ap (λ n. n % 256) (shifted 256 (x + 256 * number_l 256 xs) t ∙ ap (λ n. n / 256 ^ t) (digit 256 x (number_l 256 xs) h.0).1) ∙ getD_number xs t h.1

lane_up : (n f t : ℕ) → n * 2 ^ (8 * f) / 2 ^ (8 * (f + t)) ≡ n / 256 ^ t
lane_up n f t =
    ap (λ m. n * 2 ^ (8 * f) / 2 ^ m) {x = 8 * (f + t)} {y = 8 * f + 8 * t} (omega arith) ∙ shifted_up n (8 * f) (8 * t) ∙ ap (λ m. n / m) (pow_bytes t)

short : (k : ℕ) (xs : List ℕ) → length (take k xs) ≤ k
short k xs = search (rules, length-take)

-- zeros in the lanes
number_zeros : (xs : List ℕ) → Each1 (λ x. x ≡ 0) xs → number_l 256 xs ≡ 0
number_zeros [] h = refl
number_zeros (x ∷ xs) h = omega (arith, h.0, number_zeros xs h.1)

pub zero_lanes : (f k j n : ℕ) → in_lanes f (beat_bytes k j (replicate n 0)) ≡ 0
zero_lanes f k j n =
    ap (λ m. m * 2 ^ (8 * f)) (number_zeros (beat_bytes k j (replicate n 0)) (Each1-chunk (λ x. x ≡ 0) (j * k) k (replicate n 0) (Each1-replicate (λ x. x ≡ 0) n 0 refl))) ∙ zero-mul (2 ^ (8 * f))

module _ (w size address : ℕ) (s : Shape w size address) (j : ℕ) (lt : j < beat_count true w size) where
  -- the writer's bytes
  pub bytes_sent : (xs : List ℕ) → Each1 (λ x. x < 256) xs → Sent w address size j (λ i. get_or xs i 0) (lane_byte (in_lanes (first_lane w address) (beat_bytes (per_beat w size) j xs)))
  bytes_sent xs bytes =
      let f = first_lane w address in
      let k = per_beat w size in
      let ys = beat_bytes k j xs in
      let lane : (t : ℕ) → lane_byte (in_lanes f ys) (f + t) ≡ get_or ys t 0 = λ t. ap (λ m. m % 256) (lane_up (number_l 256 ys) f t) ∙ getD_number ys t (Each1-chunk (λ x. x < 256) (j * k) k xs bytes) in
      sent_by w size address s j (λ i. get_or xs i 0) (lane_byte (in_lanes f ys)) lt
      (λ t few. lane t ∙ get_or-take k (drop (j * k) xs) t 0 few ∙ get_or-drop (j * k) xs t 0)
      (λ i below. nothing_below (number_l 256 ys) (8 * f) (8 * i) 8 (omega arith))
      (λ t past. lane t ∙ get_or_past ys t 0 (omega (arith, short k (drop (j * k) xs))))

  -- the writer's mask
  pub bits_sent : (mask : ℕ) → Sent w address size j (bit mask) (bit (beat_bits (per_beat w size) j mask * 2 ^ first_lane w address))
  bits_sent mask =
      let f = first_lane w address in
      let k = per_beat w size in
      let x = mask / 2 ^ (j * k) in
      let up : (t : ℕ) → bit (x % 2 ^ k * 2 ^ f) (f + t) ≡ bit (x % 2 ^ k) t = λ t. ap (λ m. m % 2) (shifted_up (x % 2 ^ k) f t) in
      sent_by w size address s j (bit mask) (bit (x % 2 ^ k * 2 ^ f)) lt
      (λ t few. up t ∙ low_digit x k t few ∙ ap (λ m. m % 2) (shr-shr mask (j * k) t))
      (λ i below. nothing_below (x % 2 ^ k) f i 1 (omega arith))
      (λ t past. up t ∙ no_digit_above (x % 2 ^ k) k t (mod_below x (2 ^ k) (pow_pos k)) past)

  -- the reader's bytes
  pub bytes_received : (lanes : ℕ) (xs : List ℕ) → 2 ^ size ≤ length xs → Received w address size j (lane_byte lanes) (λ i. get_or xs i 0) (λ i. get_or (put (first_lane w address) (per_beat w size) j lanes xs) i 0)
  bytes_received lanes xs room =
      let f = first_lane w address in
      let k = per_beat w size in
      let at = j * k in
      let part = lane_bytes f k lanes in
      let rest = drop (at + k) xs in
      let ends : at + k ≤ length xs = omega (arith, beat_ends s j k lt refl) in
      let front : length (take at xs) ≡ at = length-take-le at xs (omega arith) in
      let long : length part ≡ k = length_digits 256 k (lanes / 2 ^ (8 * f)) in
      let behind : (p : ℕ) → at ≤ p → get_or (put f k j lanes xs) p 0 ≡ get_or (part ++ rest) (p - at) 0 = λ p le. get_or-append_right (take at xs) (part ++ rest) at p 0 front le in
      let lane : (t : ℕ) → lanes / 2 ^ (8 * f) / 256 ^ t ≡ lanes / 2 ^ (8 * (f + t)) =
      λ t. ap (λ m. lanes / 2 ^ (8 * f) / m) (sym (pow_bytes t)) ∙ shr-shr lanes (8 * f) (8 * t) ∙ ap (λ m. lanes / 2 ^ m) (omega arith) in
      received_by w size address s j (lane_byte lanes) (λ i. get_or xs i 0) (λ i. get_or (put f k j lanes xs) i 0) lt
      (λ t few.
      behind (at + t) (omega arith)
      ∙ ap (λ i. get_or (part ++ rest) i 0) {x = at + t - at} {y = t} (omega arith)
      ∙ get_or_append_left part rest 0 t (omega arith)
      ∙ getD_digits 256 k (lanes / 2 ^ (8 * f)) t few
      ∙ ap (λ m. m % 256) (lane t))
      (λ p below. get_or_append_left (take at xs) (part ++ rest) 0 p (omega arith) ∙ get_or-take at xs p 0 below)
      (λ p above.
      behind p (omega arith)
      ∙ get_or-append_right part rest k (p - at) 0 long (omega arith)
      ∙ get_or-drop (at + k) xs (p - at - k) 0
      ∙ ap (λ i. get_or xs i 0) (omega arith))

  -- the reader's mask
  pub bits_received : (lane_mask m : ℕ) → m < 2 ^ (j * per_beat w size) → Received w address size j (bit lane_mask) (bit m) (bit (lane_mask / 2 ^ first_lane w address % 2 ^ per_beat w size * 2 ^ (j * per_beat w size) + m))
  bits_received lane_mask m low =
      let f = first_lane w address in
      let k = per_beat w size in
      let at = j * k in
      let x = lane_mask / 2 ^ f in
      let all = x % 2 ^ k * 2 ^ at + m in
      let end : all < 2 ^ ((j + 1) * k) = grown x k k j m all refl low refl in
      received_by w size address s j (bit lane_mask) (bit m) (bit all) lt
      (λ t few.
      ap (λ n. n % 2) (sym (shr-shr all at t) ∙ ap (λ n. n / 2 ^ t) (shr_high (x % 2 ^ k) at m low))
      ∙ low_digit x k t few
      ∙ ap (λ n. n % 2) (shr-shr lane_mask f t))
      (λ p below. sym (low_digit all at p below) ∙ ap (λ n. bit n p) (mod_low (x % 2 ^ k) at m low))
      (λ p above.
      no_digit_above all ((j + 1) * k) p end (omega (arith, add-mul j 1 k, one-mul k))
      ∙ sym (no_digit_above m at p low (omega arith)))
