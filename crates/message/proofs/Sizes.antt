-- The seven sizes, and the mask of a whole message.
use Rattle.std.proofs.Common.{◌≡◌, ℕ, zero, suc, ◌-◌, ◌*◌, ◌/◌, ◌%◌, ◌^◌, ◌≤◌, refl, arith}

pub by_size : (P : ℕ → Type 0) → P 0 → P 1 → P 2 → P 3 → P 4 → P 5 → P 6 → (s : ℕ) → s ≤ 6 → P s
by_size P a b c d e f g zero h = a
by_size P a b c d e f g (suc zero) h = b
by_size P a b c d e f g (suc (suc zero)) h = c
by_size P a b c d e f g (suc (suc (suc zero))) h = d
by_size P a b c d e f g (suc (suc (suc (suc zero)))) h = e
by_size P a b c d e f g (suc (suc (suc (suc (suc zero))))) h = f
by_size P a b c d e f g (suc (suc (suc (suc (suc (suc zero)))))) h = g
by_size P a b c d e f g (suc (suc (suc (suc (suc (suc (suc s))))))) h = absurd (omega arith)

pub span_fits : (s : ℕ) → s ≤ 6 → 1 * 2 ^ s % 2 ^ 32 ≤ 64
span_fits =
    by_size (λ s. 1 * 2 ^ s % 2 ^ 32 ≤ 64) (omega arith) (omega arith) (omega arith) (omega arith) (omega arith) (omega arith) (omega arith)

pub whole_mask_is : (s : ℕ) → s ≤ 6 → (2 ^ 64 - 1) / 2 ^ (64 - 1 * 2 ^ s % 2 ^ 32) ≡ 2 ^ (2 ^ s) - 1
whole_mask_is =
    by_size (λ s. (2 ^ 64 - 1) / 2 ^ (64 - 1 * 2 ^ s % 2 ^ 32) ≡ 2 ^ (2 ^ s) - 1) refl refl refl refl refl refl refl
