-- A mask as a number, and the k bits of it from bit `at` on.
use Rattle.std.proofs.Common.{◌≡◌, ℕ, ◌+◌, ◌-◌, ◌*◌, ◌/◌, ◌%◌, ◌^◌, ◌<◌, ◌≤◌, sym, ap, ◌∙◌, mod-eq_of_lt, add-mul, one-mul, div-one, arith, pow_mono, w8, Fits}
use lib.Bits.{bit_and}
use lib.Arith.{digits_lt}
use Rattle.std.proofs.lemmas.Nat.{and_mask, shl_whole, shl_below, mod_below, pow_pos, shl-shr, pow-add}

-- x's lowest k bits, moved up by o
pub masked : (x k o r : ℕ) → r ≡ 2 ^ k - 1 → k + o ≤ 64 → bit_and x r * 2 ^ o % 2 ^ 64 ≡ x % 2 ^ k * 2 ^ o
masked x k o r e le =
    ap (λ m. m * 2 ^ o % 2 ^ 64) (ap (bit_and x) e ∙ and_mask x k) ∙ shl_whole (x % 2 ^ k) k o 64 (mod_below x (2 ^ k) (pow_pos k)) le

pub masked_fits : (x k o r : ℕ) → r ≡ 2 ^ k - 1 → k + o ≤ 8 → Fits w8 (bit_and x r * 2 ^ o % 2 ^ 64)
masked_fits x k o r e le =
    let top : x % 2 ^ k * 2 ^ o < 2 ^ 8 = omega (arith, shl_below (x % 2 ^ k) k o (mod_below x (2 ^ k) (pow_pos k)), pow_mono {i = k + o} {j = 8} le) in
    record { fits = omega (arith, masked x k o r e (omega arith), top) }

-- a mask of k ones
pub all_ones : (k o r : ℕ) → r ≡ 2 ^ k - 1 → r / 2 ^ 0 % 2 ^ k * 2 ^ o ≡ (2 ^ k - 1) * 2 ^ o
all_ones k o r e = grind (arith, e, div-one, mod-eq_of_lt, pow_pos)

-- what a lane mask gives back
pub part_again : (x k o : ℕ) → (x % 2 ^ k * 2 ^ o) / 2 ^ o % 2 ^ k ≡ x % 2 ^ k
part_again x k o = grind (arith, shl-shr, mod-eq_of_lt, mod_below, pow_pos)

-- the mask of the bytes so far stays below its end
pub grown : (x k k' j m r : ℕ) → k ≡ k' → m < 2 ^ (j * k') → r ≡ x % 2 ^ k * 2 ^ (j * k) + m → r < 2 ^ ((j + 1) * k')
grown x k k' j m r e h is =
    let all : x % 2 ^ k' * 2 ^ (j * k') + m < 2 ^ k' * 2 ^ (j * k') = digits_lt (mod_below x (2 ^ k') (pow_pos k')) h in
    let up : 2 ^ k' * 2 ^ (j * k') ≡ 2 ^ ((j + 1) * k') = sym (pow-add 2 k' (j * k')) ∙ ap (λ n. 2 ^ n) (omega (arith, add-mul j 1 k', one-mul k')) in
    omega (arith, all, up, is ∙ ap (λ n. x % 2 ^ n * 2 ^ (j * n) + m) e)
