-- Numbers by their binary digits.
use Rattle.std.proofs.Common.{◌≡◌, ℕ, zero, suc, ◌+◌, ◌-◌, ◌*◌, ◌/◌, ◌%◌, ◌^◌, ◌<◌, ◌≤◌, min, max, ◌⊎◌, sym, ap, ◌∙◌, inl, inr, ⊎_elim, mul_comm, pow-suc, div-one, arith, pow_pos, pow_mono}
use native.Mathlib.Nat.{pow-zero, div-div-eq-div-mul, div-eq_of_lt}
use lib.Bits.{bit_and, bit_or, bit_xor, differ, and_step, or_step, xor_step, and_shr, or_shr, xor_shr}
use Rattle.std.proofs.lemmas.Nat.{shr-shr, div-add-mod', mod_below}
use Rattle.std.proofs.lemmas.Bool.{cases_lt}
use Rattle.message.specs.Bits.{bit}

-- the digits of a number are its lowest one and those of its half
pub bit_first : (n : ℕ) → bit n 0 ≡ n % 2
bit_first n = ap (λ m. m % 2) (div-one n)

pub bit_next : (n i : ℕ) → bit n (suc i) ≡ bit (n / 2) i
bit_next n i =
    ap (λ m. m % 2) (ap (λ m. n / m) (pow-suc 2 i ∙ mul_comm (2 ^ i) 2) ∙ sym (div-div-eq-div-mul n 2 (2 ^ i)))

-- a number below a power of two has no digit from there on
pub no_digit_above : (n k i : ℕ) → n < 2 ^ k → k ≤ i → bit n i ≡ 0
no_digit_above n k i lt le =
    let z : n / 2 ^ i ≡ 0 = div-eq_of_lt (omega (arith, pow_mono {i = k} {j = i} le)) in ap (λ m. m % 2) z

below_power : (n : ℕ) → n < 2 ^ n
below_power zero = omega arith
below_power (suc n) = omega (arith, below_power n, pow-suc 2 n)

no_digit : (w n : ℕ) → n < 2 ^ w → ((i : ℕ) → bit n i ≡ 0) → n ≡ 0
no_digit zero n lt h = omega arith
no_digit (suc w) n lt h =
    let low : n % 2 ≡ 0 = sym (bit_first n) ∙ h 0 in
    let high : n / 2 ≡ 0 = no_digit w (n / 2) (omega (arith, pow-suc 2 w)) (λ i. sym (bit_next n i) ∙ h (suc i)) in
    omega arith

-- a number with no digit from k on is below 2 ^ k
pub below_from_digits : (n k : ℕ) → ((i : ℕ) → k ≤ i → bit n i ≡ 0) → n < 2 ^ k
below_from_digits n k h =
    let each : (i : ℕ) → bit (n / 2 ^ k) i ≡ 0 = λ i. ap (λ m. m % 2) (shr-shr n k i) ∙ h (k + i) (omega arith) in
    let z : n / 2 ^ k ≡ 0 = no_digit (n / 2 ^ k) (n / 2 ^ k) (below_power (n / 2 ^ k)) each in
    omega (arith, ap (λ m. m * 2 ^ k) z, div-add-mod' n (2 ^ k), mod_below n (2 ^ k) (pow_pos k))

-- 2 ^ k - 1 has every digit below k
pub every_digit : (k i : ℕ) → i < k → bit (2 ^ k - 1) i ≡ 1
every_digit zero i lt = absurd (omega arith)
every_digit (suc k) zero lt = bit_first (2 ^ suc k - 1) ∙ omega (arith, pow-suc 2 k, pow_pos k)
every_digit (suc k) (suc i) lt =
    let half : (2 ^ suc k - 1) / 2 ≡ 2 ^ k - 1 = omega (arith, pow-suc 2 k, pow_pos k) in
    bit_next (2 ^ suc k - 1) i ∙ ap (λ m. bit m i) half ∙ every_digit k i (omega arith)

pub full_from_digits : (k n : ℕ) → n < 2 ^ k → ((i : ℕ) → i < k → bit n i ≡ 1) → n ≡ 2 ^ k - 1
full_from_digits zero n lt h = omega (arith, pow-zero 2)
full_from_digits (suc k) n lt h =
    let low : n % 2 ≡ 1 = sym (bit_first n) ∙ h 0 (omega arith) in
    let high : n / 2 ≡ 2 ^ k - 1 = full_from_digits k (n / 2) (omega (arith, pow-suc 2 k)) (λ i le. sym (bit_next n i) ∙ h (suc i) (omega arith)) in
    omega (arith, low, high, pow-suc 2 k, pow_pos k)

pub zero_or_one : (n : ℕ) → (n % 2 ≡ 0) ⊎ (n % 2 ≡ 1)
zero_or_one n = ⊎_elim (λ lt. inl (omega arith)) (λ le. inr (omega (arith, mod_below n 2 (omega arith)))) (cases_lt (n % 2) 1)

-- a number without digits is 0
pub zero_from_digits : (n : ℕ) → ((i : ℕ) → bit n i ≡ 0) → n ≡ 0
zero_from_digits n = no_digit n n (below_power n)

pub digit_of_zero : (i : ℕ) → bit 0 i ≡ 0
digit_of_zero i = no_digit_above 0 0 i (omega arith) (omega arith)

-- the digits of a conjunction, a disjunction, a difference and a complement
last_digit : (x d : ℕ) → d < 2 → (x * 2 + d) % 2 ≡ d
last_digit x d lt = omega arith

pub and_digit : (a b i : ℕ) → bit (bit_and a b) i ≡ min (bit a i) (bit b i)
and_digit a b i =
    let p : bit a i < 2 = mod_below (a / 2 ^ i) 2 (omega arith) in
    ap (λ n. n % 2) (and_shr a b i ∙ and_step (a / 2 ^ i) (b / 2 ^ i)) ∙ last_digit (bit_and (a / 2 ^ i / 2) (b / 2 ^ i / 2)) (min (bit a i) (bit b i)) (omega arith)

pub or_digit : (a b i : ℕ) → bit (bit_or a b) i ≡ max (bit a i) (bit b i)
or_digit a b i =
    let p : bit a i < 2 = mod_below (a / 2 ^ i) 2 (omega arith) in
    let q : bit b i < 2 = mod_below (b / 2 ^ i) 2 (omega arith) in
    ap (λ n. n % 2) (or_shr a b i ∙ or_step (a / 2 ^ i) (b / 2 ^ i)) ∙ last_digit (bit_or (a / 2 ^ i / 2) (b / 2 ^ i / 2)) (max (bit a i) (bit b i)) (omega arith)

differ_below : (a b : ℕ) → a < 2 → b < 2 → differ a b < 2
differ_below zero b p q = q
differ_below (suc a) zero p q = p
differ_below (suc a) (suc b) p q = differ_below a b (omega arith) (omega arith)

pub xor_digit : (a b i : ℕ) → bit (bit_xor a b) i ≡ differ (bit a i) (bit b i)
xor_digit a b i =
    let p : bit a i < 2 = mod_below (a / 2 ^ i) 2 (omega arith) in
    let q : bit b i < 2 = mod_below (b / 2 ^ i) 2 (omega arith) in
    ap (λ n. n % 2) (xor_shr a b i ∙ xor_step (a / 2 ^ i) (b / 2 ^ i)) ∙ last_digit (bit_xor (a / 2 ^ i / 2) (b / 2 ^ i / 2)) (differ (bit a i) (bit b i)) (differ_below (bit a i) (bit b i) p q)

pub half_turned : (w n : ℕ) → n < 2 ^ suc w → (2 ^ suc w - 1 - n) / 2 ≡ 2 ^ w - 1 - n / 2
half_turned w n lt = omega (arith, pow-suc 2 w)

pub not_digit : (w n i : ℕ) → n < 2 ^ w → i < w → bit (2 ^ w - 1 - n) i ≡ 1 - bit n i
not_digit zero n i below lt = absurd (omega arith)
not_digit (suc w) n zero below lt = bit_first (2 ^ suc w - 1 - n) ∙ omega (arith, pow-suc 2 w, bit_first n)
not_digit (suc w) n (suc i) below lt =
    bit_next (2 ^ suc w - 1 - n) i ∙ ap (λ m. bit m i) (half_turned w n below)
    ∙ not_digit w (n / 2) i (omega (arith, pow-suc 2 w)) (omega arith) ∙ ap (λ d. 1 - d) (sym (bit_next n i))
