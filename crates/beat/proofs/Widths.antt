-- How a message lies on a bus whose width is a power of two.
use Rattle.std.proofs.Common.{◌≡◌, ℕ, ◌+◌, ◌-◌, ◌*◌, ◌/◌, ◌%◌, ◌^◌, ◌<◌, ◌≤◌, min, max, Bool, true, false, Ok, sym, ap, ◌∙◌, ⊎_elim, mul_assoc, add-mul, one-mul, arith, pow_mono}
use native.Mathlib.Nat.{mul-mod_left, div-eq_of_lt}
use Rattle.std.proofs.lemmas.Nat.{pow-add, pow_pos, pow_below, shl-shr, div-add-mod', mod_below, mul-le, mod-mul-add}
use Rattle.std.proofs.lemmas.Bool.{cases_lt}
use Rattle.beat.specs.declared.width.Width.{Width}
use Rattle.beat.specs.declared.width.Width.TheVariants.{One, Two, Four, Eight}
use Rattle.beat.specs.Width.{width_bytes, width_of}
use Rattle.beat.specs.Lanes.{per_beat, first_lane, beat_count}

pub record Shape (w size address : ℕ) : Type 0 where
  -- its lanes are lanes of the bus
  pub within : first_lane w address + per_beat w size ≤ w
  pub wide : w ≤ 8
  pub some : 0 < per_beat w size
  -- its beats make it up
  pub whole : beat_count true w size * per_beat w size ≡ 2 ^ size
  pub beats : 0 < beat_count true w size
  pub few : beat_count true w size ≤ 64
  pub bytes : 2 ^ size ≤ 64

split_power : (e s : ℕ) → e ≤ s → 2 ^ s ≡ 2 ^ (s - e) * 2 ^ e
split_power e s le = ap (λ n. 2 ^ n) {x = s} {y = s - e + e} (omega arith) ∙ pow-add 2 (s - e) e

-- several beats, or one whole one
broad : (e s address : ℕ) → e ≤ 3 → s ≤ 6 → e ≤ s → address % 2 ^ s ≡ 0 → Shape (2 ^ e) s address
broad e s address small size le multiple =
    let parts = split_power e s le in
    let count : 2 ^ s / 2 ^ e ≡ 2 ^ (s - e) = ap (λ n. n / 2 ^ e) parts ∙ shl-shr (2 ^ (s - e)) e in
    let top : 2 ^ s ≤ 64 = pow_mono {i = s} {j = 6} size in
    let room : 2 ^ e ≤ 8 = pow_mono {i = e} {j = 3} small in
    let less : 2 ^ e ≤ 2 ^ s = pow_mono {i = e} {j = s} le in
    let most : 2 ^ (s - e) ≤ 64 = pow_mono {i = s - e} {j = 6} (omega arith) in
    let k : min (2 ^ e) (2 ^ s) ≡ 2 ^ e = omega arith in
    let n : max 1 (2 ^ s / 2 ^ e) ≡ 2 ^ (s - e) = omega (arith, count, pow_pos (s - e)) in
    let c = address / 2 ^ s in
    let is : address ≡ c * 2 ^ (s - e) * 2 ^ e = omega (arith, div-add-mod' address (2 ^ s), ap (λ m. c * m) parts, mul_assoc c (2 ^ (s - e)) (2 ^ e)) in
    let first : address % 2 ^ e ≡ 0 = ap (λ m. m % 2 ^ e) is ∙ mul-mod_left (c * 2 ^ (s - e)) (2 ^ e) in
    record {
      within = omega (arith, k, first);
      wide = room;
      some = omega (arith, k, pow_pos e);
      whole = (λ i. n i * k i) ∙ sym parts;
      beats = omega (arith, n, pow_pos (s - e));
      few = omega (arith, n, most);
      bytes = top;
    }

-- a message narrower than the bus: one beat, in some of its lanes
narrow : (e s address : ℕ) → e ≤ 3 → s < e → address % 2 ^ s ≡ 0 → Shape (2 ^ e) s address
narrow e s address small lt multiple =
    let parts = split_power s e (omega arith) in
    let room : 2 ^ e ≤ 8 = pow_mono {i = e} {j = 3} small in
    let less : 2 ^ s < 2 ^ e = pow_below s e lt in
    let k : min (2 ^ e) (2 ^ s) ≡ 2 ^ s = omega arith in
    let none : 2 ^ s / 2 ^ e ≡ 0 = div-eq_of_lt less in
    let n : max 1 (2 ^ s / 2 ^ e) ≡ 1 = omega arith in
    let c = address / 2 ^ s in
    let d = c % 2 ^ (e - s) in
    let is : address ≡ c * 2 ^ s = omega (arith, div-add-mod' address (2 ^ s)) in
    let q = c / 2 ^ (e - s) in
    let fits : (d + 1) * 2 ^ s ≤ 2 ^ (e - s) * 2 ^ s = mul-le (d + 1) (2 ^ s) (2 ^ (e - s)) (2 ^ s) (omega (arith, mod_below c (2 ^ (e - s)) (pow_pos (e - s)))) (omega arith) in
    let ends : d * 2 ^ s < 2 ^ (e - s) * 2 ^ s = omega (arith, fits, add-mul d 1 (2 ^ s), one-mul (2 ^ s), pow_pos s) in
    let up : c * 2 ^ s ≡ q * (2 ^ (e - s) * 2 ^ s) + d * 2 ^ s =
    ap (λ n. n * 2 ^ s) (sym (div-add-mod' c (2 ^ (e - s)))) ∙ add-mul (q * 2 ^ (e - s)) d (2 ^ s) ∙ ap (λ n. n + d * 2 ^ s) (mul_assoc q (2 ^ (e - s)) (2 ^ s)) in
    let first : address % 2 ^ e ≡ d * 2 ^ s = (λ i. (is ∙ up) i % parts i) ∙ mod-mul-add q (2 ^ (e - s) * 2 ^ s) (d * 2 ^ s) ends in
    record {
      within = omega (arith, k, first, fits, parts, add-mul d 1 (2 ^ s), one-mul (2 ^ s));
      wide = room;
      some = omega (arith, k, pow_pos s);
      whole = (λ i. n i * k i) ∙ one-mul (2 ^ s);
      beats = omega arith;
      few = omega arith;
      bytes = omega arith;
    }

power : (e s address : ℕ) → e ≤ 3 → s ≤ 6 → address % 2 ^ s ≡ 0 → Shape (2 ^ e) s address
power e s address small size multiple =
    ⊎_elim (λ lt. narrow e s address small lt multiple) (λ le. broad e s address small size le multiple) (cases_lt s e)

pub shape : (w : Width) (size address : ℕ) → size ≤ 6 → address % 2 ^ size ≡ 0 → Shape (width_bytes w) size address
shape One size address = power 0 size address (omega arith)
shape Two size address = power 1 size address (omega arith)
shape Four size address = power 2 size address (omega arith)
shape Eight size address = power 3 size address (omega arith)

-- the width of a number that is one
pub width_is : (n : ℕ) (w : Width) → width_of n ≡ Ok w → n ≡ width_bytes w
width_is n w e = grind (arith, e)

-- beat j of a message lies within it
pub beat_room : (j n k : ℕ) → j < n → j * k + k ≤ n * k
beat_room j n k h = omega (arith, mul-le (j + 1) k n k (omega arith) (omega arith), add-mul j 1 k, one-mul k)

pub beat_ends : {w size address : ℕ} → Shape w size address → (j k : ℕ) → j < beat_count true w size → k ≡ per_beat w size → j * k + k ≤ 2 ^ size
beat_ends {w} {size} s j k lt e = grind (arith, beat_room j (beat_count true w size) k lt, e, s.whole)

-- a message has no more beats than its data would fill
pub count_most : {w size address : ℕ} → Shape w size address → (b : Bool) (j : ℕ) → j < beat_count b w size → j < beat_count true w size
count_most s true j lt = lt
count_most s false j lt = omega (arith, lt, s.beats)

-- where beat j of an accepted message lies
pub record Within (w size address : ℕ) (j k : ℕ) : Type 0 where
  pub lies : Shape w size address
  pub due : j < beat_count true w size
  pub low : j * k < 64
  pub ends : j * k + k ≤ 2 ^ size

pub within : (w : Width) (size address : ℕ) → size ≤ 6 → address % 2 ^ size ≡ 0 → (d : Bool) (j k n : ℕ) → j < n → n ≡ beat_count d (width_bytes w) size → k ≡ per_beat (width_bytes w) size → Within (width_bytes w) size address j k
within w size address small aligned d j k n lt count per =
    let s = shape w size address small aligned in
    let due = count_most s d j (omega (arith, lt, count)) in
    let ends = beat_ends s j k due per in
    record { lies = s; due = due; low = omega (arith, ends, s.bytes, s.some, per); ends = ends }
