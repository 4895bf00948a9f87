-- The mask bits of beats, one after another.
use Rattle.std.specs.Prelude.{◌≡◌, ℕ, zero, suc, ◌+◌, ◌-◌, ◌*◌, ◌/◌, ◌%◌, ◌^◌, ◌<◌, ◌≤◌, List, [], ◌∷◌, ◌++◌, map, length}
use Rattle.std.proofs.Common.{sym, ap, subst, ◌∙◌, add-mul, mul-add, one-mul, mul-one, mul-le-mul_left, zero-mul, mul_comm, pow-suc, mod-eq_of_lt, arith}
use Rattle.std.proofs.Math.Nat.{mod-one, pow-zero}
use Rattle.std.specs.Simd.Lanes.{number_l}
use Rattle.std.proofs.Math.Pow.{ones_split, ones_lt, high, low}
use Rattle.std.specs.List.{AllByRecursion}
use Rattle.std.proofs.lemmas.Nat.{pow-add, pow_pos, shr-shr, shl-shr, mod_below, mod-pow-add}
use Rattle.std.proofs.lemmas.List.{map_push, length-map}
use Rattle.beat.specs.Lanes.{beat_bits, active_lanes}
use Rattle.beat.proofs.Digits.{digit, number_push}
use Rattle.beat.proofs.Masks.{part_again}
use Rattle.wire.specs.Beats.{joined_mask, HoldMask}
use Rattle.wire.specs.Payloads.{one_more}

powers : (k n : ℕ) → (2 ^ k) ^ n ≡ 2 ^ (n * k)
powers k zero = pow-zero (2 ^ k) ∙ ap (λ m. 2 ^ m) (sym (zero-mul k))
powers k (suc n) =
    pow-suc (2 ^ k) n ∙ ap (λ m. m * 2 ^ k) (powers k n) ∙ sym (pow-add 2 (n * k) k) ∙ ap (λ m. 2 ^ m) (omega (arith, one_more n k))

-- one beat more
pub mask_push : (f k : ℕ) (ms : List ℕ) (m : ℕ) → joined_mask f k (ms ++ m ∷ []) ≡ m / 2 ^ f % 2 ^ k * 2 ^ (length ms * k) + joined_mask f k ms
mask_push f k ms m =
    let bits : ℕ → ℕ = λ x. x / 2 ^ f % 2 ^ k in
    ap (number_l (2 ^ k)) (map_push bits ms m) ∙ number_push (2 ^ k) (map bits ms) (bits m)
    ∙ ap (λ n. bits m * n + joined_mask f k ms) (ap (λ n. (2 ^ k) ^ n) (length-map ms bits) ∙ powers k (length ms))

next_bits : (m j k : ℕ) → m / 2 ^ ((j + 1) * k) ≡ m / 2 ^ (j * k) / 2 ^ k
next_bits m j k = ap (λ n. m / 2 ^ n) (omega (arith, add-mul j 1 k, one-mul k)) ∙ sym (shr-shr m (j * k) k)

-- lane masks of a message's mask bring it
pub brought_mask : (f k j : ℕ) (ms : List ℕ) (mask : ℕ) → HoldMask f k j ms mask → joined_mask f k ms ≡ mask / 2 ^ (j * k) % 2 ^ (length ms * k)
brought_mask f k j [] mask h =
    sym (ap (λ n. mask / 2 ^ (j * k) % 2 ^ n) (zero-mul k) ∙ mod-one (mask / 2 ^ (j * k)))
brought_mask f k j (m ∷ ms) mask h =
    let x = mask / 2 ^ (j * k) in
    let first : m / 2 ^ f % 2 ^ k ≡ x % 2 ^ k = ap (λ n. n / 2 ^ f % 2 ^ k) h.0 ∙ part_again x k f in
    let rest : joined_mask f k ms ≡ x / 2 ^ k % 2 ^ (length ms * k) = brought_mask f k (j + 1) ms mask h.1 ∙ ap (λ n. n % 2 ^ (length ms * k)) (next_bits mask j k) in
    let all : length ms * k + k ≡ suc (length ms) * k = omega (arith, one_more (length ms) k) in
    let sum : x % 2 ^ k + 2 ^ k * (x / 2 ^ k % 2 ^ (length ms * k)) ≡ x % 2 ^ (length ms * k + k) = omega (arith, mul_comm (2 ^ k) (x / 2 ^ k % 2 ^ (length ms * k)), mod-pow-add x (length ms * k) k) in
    (λ i. first i + 2 ^ k * rest i) ∙ sum ∙ ap (λ n. x % 2 ^ n) all

-- and lane masks with no bit outside their lanes are those of the mask that they bring
pub held_mask : (f k j : ℕ) (ms : List ℕ) (mask : ℕ) → mask / 2 ^ (j * k) ≡ joined_mask f k ms → AllByRecursion (λ m. m / 2 ^ f % 2 ^ k * 2 ^ f ≡ m) ms → HoldMask f k j ms mask
held_mask f k j [] mask e h = tt
held_mask f k j (m ∷ ms) mask e h =
    let d = m / 2 ^ f % 2 ^ k in
    let split = digit (2 ^ k) d (joined_mask f k ms) (mod_below (m / 2 ^ f) (2 ^ k) (pow_pos k)) in (
      sym (ap (λ n. n % 2 ^ k * 2 ^ f) e ∙ ap (λ n. n * 2 ^ f) split.0 ∙ h.0),
      held_mask f k (j + 1) ms mask (next_bits mask j k ∙ ap (λ n. n / 2 ^ k) e ∙ split.1) h.1,
    )

-- the mask has no bit past its beats
pub mask_below : (f k : ℕ) (ms : List ℕ) → joined_mask f k ms < 2 ^ (length ms * k)
mask_below f k [] = pow_pos (0 * k)
mask_below f k (m ∷ ms) =
    let d = m / 2 ^ f % 2 ^ k in
    let low : d < 2 ^ k = mod_below (m / 2 ^ f) (2 ^ k) (pow_pos k) in
    let rest : joined_mask f k ms + 1 ≤ 2 ^ (length ms * k) = omega (arith, mask_below f k ms) in
    let high : d + 2 ^ k * joined_mask f k ms < 2 ^ k * 2 ^ (length ms * k) =
    omega (arith, low, mul-le-mul_left (2 ^ k) rest, mul-add (2 ^ k) (joined_mask f k ms) 1, mul-one (2 ^ k)) in
    subst (λ n. d + 2 ^ k * joined_mask f k ms < n) (sym (pow-add 2 k (length ms * k)) ∙ ap (λ n. 2 ^ n) (sym (one_more (length ms) k))) high

-- whole lane masks bring a whole mask
pub mask_full : (f k : ℕ) (ms : List ℕ) → AllByRecursion (λ m. m ≡ active_lanes f k) ms → joined_mask f k ms ≡ 2 ^ (length ms * k) - 1
mask_full f k [] h = sym (ap (λ n. 2 ^ n - 1) (zero-mul k))
mask_full f k (m ∷ ms) h =
    let d : m / 2 ^ f % 2 ^ k ≡ 2 ^ k - 1 = ap (λ n. n / 2 ^ f % 2 ^ k) h.0 ∙ ap (λ n. n % 2 ^ k) (shl-shr (2 ^ k - 1) f) ∙ mod-eq_of_lt (ones_lt k) in
    let all : length ms * k + k ≡ suc (length ms) * k = omega (arith, one_more (length ms) k) in
    let sum : 2 ^ k - 1 + 2 ^ k * (2 ^ (length ms * k) - 1) ≡ 2 ^ (length ms * k + k) - 1 = omega (arith, mul_comm (2 ^ k) (2 ^ (length ms * k) - 1), ones_split (length ms * k) k) in
    (λ i. d i + 2 ^ k * mask_full f k ms h.1 i) ∙ sum ∙ ap (λ n. 2 ^ n - 1) all

-- a part of a whole mask is whole
ones_part : (n a k : ℕ) → a + k ≤ n → (2 ^ n - 1) / 2 ^ a % 2 ^ k ≡ 2 ^ k - 1
ones_part n a k le =
    let m = n - a - k in
    let up : n ≡ m + k + a = omega arith in
    ap (λ x. x % 2 ^ k) (ap (λ x. (2 ^ x - 1) / 2 ^ a) up ∙ ap (λ x. x / 2 ^ a) (ones_split (m + k) a) ∙ high (2 ^ (m + k) - 1) a (ones_lt a) ∙ ones_split m k)
    ∙ low (2 ^ m - 1) k (ones_lt k)

pub whole_bits : (n j k : ℕ) → (j + 1) * k ≤ n → beat_bits k j (2 ^ n - 1) ≡ 2 ^ k - 1
whole_bits n j k le = ones_part n (j * k) k (omega (arith, add-mul j 1 k, one-mul k))

pub held_whole : (f k n j : ℕ) (ms : List ℕ) → (j + length ms) * k ≤ n → AllByRecursion (λ m. m ≡ active_lanes f k) ms → HoldMask f k j ms (2 ^ n - 1)
held_whole f k n j [] le h = tt
held_whole f k n j (m ∷ ms) le h =
    let next : j + suc (length ms) ≡ j + 1 + length ms = omega arith in
    let all : (j + 1 + length ms) * k ≤ n = subst (λ i. i * k ≤ n) next le in
    let room : (j + 1) * k ≤ n = omega (arith, all, add-mul (j + 1) (length ms) k) in
    (h.0 ∙ ap (λ d. d * 2 ^ f) (sym (whole_bits n j k room)), held_whole f k n (j + 1) ms all h.1)
