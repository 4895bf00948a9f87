-- Address sets, digit by digit and address by address.
use Rattle.std.proofs.Common.{◌≡◌, ℕ, zero, suc, ◌+◌, ◌-◌, ◌*◌, ◌/◌, ◌%◌, ◌^◌, ◌<◌, ◌≤◌, min, max, true, eqb, leb, Decides, sym, refl, ap, ◌∙◌, subst, ⊎_elim, pow-suc, add-one, arith, pow_pos, pow_mono}
use native.Mathlib.Nat.{pow-zero, add-div_right}
use lib.Bits.{bit_and, bit_or, bit_xor, differ, or_lt}
use lib.Count.{count_trailing_zeros}
use Rattle.std.proofs.lemmas.Nat.{shr-shr, div-add-mod', mod_below, shl-shr, pow_below, div-mul-add, mod-pow-add, or_comm}
use Rattle.std.proofs.lemmas.Bool.{eqb-true, eq-eqb, leb-true, le-leb, and_parts, and_from, cases_lt}
use Rattle.std.proofs.lemmas.Bool.Decides.{same_from_decides}
use Rattle.message.specs.declared.request.RequestHead.{RequestHead}
use Rattle.message.specs.Bits.{bit}
use Rattle.message.specs.AddressSet.{inverted, contains, overlap, lies_in, Meet, EveryByte, SameDigits}
use Rattle.message.proofs.Digits.{zero_or_one, zero_from_digits, digit_of_zero, and_digit, or_digit, xor_digit, not_digit, no_digit_above, below_from_digits, every_digit, full_from_digits, bit_first, bit_next, half_turned}

-- two digits that do not differ are equal
differ_none : (a b : ℕ) → a < 2 → b < 2 → differ a b ≡ 0 → a ≡ b
differ_none zero b p q e = sym e
differ_none (suc a) zero p q e = e
differ_none (suc a) (suc b) p q e = omega arith

differ_same : (a : ℕ) → a < 2 → differ a a ≡ 0
differ_same zero p = refl
differ_same (suc zero) p = refl
differ_same (suc (suc a)) p = absurd (omega arith)

-- x and y have no difference outside the mask exactly where their digits there are the same
outside_digits : (x y mask : ℕ) → mask < 2 ^ 32 → eqb (bit_and (bit_xor x y) (inverted mask)) 0 ≡ true → SameDigits mask x y
outside_digits x y mask below h i lt none =
    let z : bit_and (bit_xor x y) (inverted mask) ≡ 0 = eqb-true (bit_and (bit_xor x y) (inverted mask)) 0 h in
    let e : min (bit (bit_xor x y) i) (bit (inverted mask) i) ≡ 0 = sym (and_digit (bit_xor x y) (inverted mask) i) ∙ ap (λ n. bit n i) z ∙ digit_of_zero i in
    let free : bit (inverted mask) i ≡ 1 = not_digit 32 mask i below lt ∙ ap (λ d. 1 - d) none in
    let d : differ (bit x i) (bit y i) ≡ 0 = sym (xor_digit x y i) ∙ omega arith in
    differ_none (bit x i) (bit y i) (mod_below (x / 2 ^ i) 2 (omega arith)) (mod_below (y / 2 ^ i) 2 (omega arith)) d

outside_digit : (x y mask : ℕ) → mask < 2 ^ 32 → SameDigits mask x y → (i : ℕ) → bit (bit_and (bit_xor x y) (inverted mask)) i ≡ 0
outside_digit x y mask below h i =
    and_digit (bit_xor x y) (inverted mask) i
    ∙ ⊎_elim
    (λ lt. ⊎_elim
    (λ none. let d : bit (bit_xor x y) i ≡ 0 = xor_digit x y i ∙ ap (λ n. differ n (bit y i)) (h i lt none) ∙ differ_same (bit y i) (mod_below (y / 2 ^ i) 2 (omega arith)) in omega arith)
    (λ set. let d : bit (inverted mask) i ≡ 0 = not_digit 32 mask i below lt ∙ ap (λ n. 1 - n) set in omega arith)
    (zero_or_one (mask / 2 ^ i)))
    (λ le. let d : bit (inverted mask) i ≡ 0 = no_digit_above (inverted mask) 32 i (omega arith) le in omega arith)
    (cases_lt i 32)

pub same_outside : (x y mask : ℕ) → mask < 2 ^ 32 → Decides (eqb (bit_and (bit_xor x y) (inverted mask)) 0) (SameDigits mask x y)
same_outside x y mask below =
    (outside_digits x y mask below, λ h. eq-eqb (bit_and (bit_xor x y) (inverted mask)) 0 (zero_from_digits (bit_and (bit_xor x y) (inverted mask)) (outside_digit x y mask below h)))

-- a set's base has no digit where its mask has one
apart_digit : (base mask i : ℕ) → bit_and base mask ≡ 0 → bit mask i ≡ 1 → bit base i ≡ 0
apart_digit base mask i apart set =
    let e : min (bit base i) (bit mask i) ≡ 0 = sym (and_digit base mask i) ∙ ap (λ n. bit n i) apart ∙ digit_of_zero i in omega arith

-- where the bases agree outside both masks, their disjunction lies in either set
joined_digits : (base₁ mask₁ base₂ mask₂ : ℕ) → bit_and base₂ mask₂ ≡ 0 → SameDigits (bit_or mask₁ mask₂) base₁ base₂ → SameDigits mask₁ (bit_or base₁ base₂) base₁
joined_digits base₁ mask₁ base₂ mask₂ apart h i lt none =
    or_digit base₁ base₂ i
    ∙ ⊎_elim
    (λ free. let e : bit base₁ i ≡ bit base₂ i = h i lt (or_digit mask₁ mask₂ i ∙ omega arith) in omega arith)
    (λ set. let e : bit base₂ i ≡ 0 = apart_digit base₂ mask₂ i apart set in omega arith)
    (zero_or_one (mask₂ / 2 ^ i))

same_or : (mask₁ mask₂ a b : ℕ) → SameDigits (bit_or mask₁ mask₂) a b → SameDigits (bit_or mask₂ mask₁) b a
same_or mask₁ mask₂ a b h i lt none =
    sym (h i lt (ap (λ n. bit n i) (or_comm mask₁ mask₂) ∙ none))

module _ (base₁ mask₁ base₂ mask₂ : ℕ) (b₁ : base₁ < 2 ^ 32) (m₁ : mask₁ < 2 ^ 32) (b₂ : base₂ < 2 ^ 32) (m₂ : mask₂ < 2 ^ 32) where
  met : bit_and base₁ mask₁ ≡ 0 → bit_and base₂ mask₂ ≡ 0 → overlap base₁ mask₁ base₂ mask₂ ≡ true → Meet base₁ mask₁ base₂ mask₂
  met apart₁ apart₂ h =
      let same : SameDigits (bit_or mask₁ mask₂) base₁ base₂ = (same_outside base₁ base₂ (bit_or mask₁ mask₂) (or_lt 32 mask₁ mask₂ m₁ m₂)).0 h in
      let below : bit_or base₁ base₂ < 2 ^ 32 = or_lt 32 base₁ base₂ b₁ b₂ in
      let left : contains base₁ mask₁ (bit_or base₁ base₂) ≡ true = (same_outside (bit_or base₁ base₂) base₁ mask₁ m₁).1 (joined_digits base₁ mask₁ base₂ mask₂ apart₂ same) in
      let back : SameDigits mask₂ (bit_or base₂ base₁) base₂ = joined_digits base₂ mask₂ base₁ mask₁ apart₁ (same_or mask₁ mask₂ base₁ base₂ same) in
      let right : contains base₂ mask₂ (bit_or base₁ base₂) ≡ true = (same_outside (bit_or base₁ base₂) base₂ mask₂ m₂).1 (subst (λ n. SameDigits mask₂ n base₂) (or_comm base₂ base₁) back) in
      (bit_or base₁ base₂, (below, left), (below, right))

  shared : Meet base₁ mask₁ base₂ mask₂ → overlap base₁ mask₁ base₂ mask₂ ≡ true
  shared (a, p, q) =
      let left : SameDigits mask₁ a base₁ = (same_outside a base₁ mask₁ m₁).0 p.1 in
      let right : SameDigits mask₂ a base₂ = (same_outside a base₂ mask₂ m₂).0 q.1 in
      (same_outside base₁ base₂ (bit_or mask₁ mask₂) (or_lt 32 mask₁ mask₂ m₁ m₂)).1
      (λ i lt none. let e : max (bit mask₁ i) (bit mask₂ i) ≡ 0 = sym (or_digit mask₁ mask₂ i) ∙ none in sym (left i lt (omega arith)) ∙ right i lt (omega arith))

  pub overlap_meets : bit_and base₁ mask₁ ≡ 0 → bit_and base₂ mask₂ ≡ 0 → Decides (overlap base₁ mask₁ base₂ mask₂) (Meet base₁ mask₁ base₂ mask₂)
  overlap_meets apart₁ apart₂ = (met apart₁ apart₂, shared)

split_last : (n k : ℕ) → n % 2 ^ suc k ≡ n / 2 % 2 ^ k * 2 + n % 2
split_last n k = ap (λ m. n % 2 ^ m) (sym (add-one k)) ∙ mod-pow-add n k 1

-- the k lowest digits are set
abbrev LowDigits : ℕ → ℕ → Type 0
LowDigits n k = (i : ℕ) → i < k → bit n i ≡ 1

pub low_digit : (n k i : ℕ) → i < k → bit (n % 2 ^ k) i ≡ bit n i
low_digit n zero i lt = absurd (omega arith)
low_digit n (suc k) zero lt = bit_first (n % 2 ^ suc k) ∙ omega (arith, split_last n k) ∙ sym (bit_first n)
low_digit n (suc k) (suc i) lt =
    let half : n % 2 ^ suc k / 2 ≡ n / 2 % 2 ^ k = omega (arith, split_last n k) in
    bit_next (n % 2 ^ suc k) i ∙ ap (λ m. bit m i) half ∙ low_digit (n / 2) k i (omega arith) ∙ sym (bit_next n i)

pub low_digits_set : (n k : ℕ) → Decides (eqb (n % 2 ^ k) (2 ^ k - 1)) (LowDigits n k)
low_digits_set n k = (
  (λ h i lt. sym (low_digit n k i lt) ∙ ap (λ m. bit m i) (eqb-true (n % 2 ^ k) (2 ^ k - 1) h) ∙ every_digit k i lt),
  (λ h. eq-eqb (n % 2 ^ k) (2 ^ k - 1) (full_from_digits k (n % 2 ^ k) (mod_below n (2 ^ k) (pow_pos k)) (λ i lt. low_digit n k i lt ∙ h i lt))),
)

never_set : (n k : ℕ) → n % 2 ≡ 0 → LowDigits n (suc k) → ⊥
never_set n k even h = omega (arith, bit_first n, h 0 (omega arith))

next_digits : (n k : ℕ) → n % 2 ≡ 1 → LowDigits (n / 2) k → LowDigits n (suc k)
next_digits n k odd h zero lt = bit_first n ∙ odd
next_digits n k odd h (suc i) lt = bit_next n i ∙ h i (omega arith)

one_more : (n k t : ℕ) → n % 2 ≡ 1 → Decides (leb k t) (LowDigits (n / 2) k) → Decides (leb (suc k) (suc t)) (LowDigits n (suc k))
one_more n k t odd rest = (
  (λ h. next_digits n k odd (rest.0 (le-leb k t (omega (arith, leb-true (suc k) (suc t) h))))),
  (λ h. le-leb (suc k) (suc t) (omega (arith, leb-true k t (rest.1 (λ i lt. sym (bit_next n i) ∙ h (suc i) (omega arith)))))),
)

-- `trailing_ones` counts the lowest digits that are set
trailing_ones : (w n k : ℕ) → n < 2 ^ w → Decides (leb k (count_trailing_zeros w (2 ^ w - 1 - n))) (LowDigits n k)
unfolding count_trailing_zeros
trailing_ones w n zero below = ((λ h i lt. absurd (omega arith)), (λ h. le-leb 0 (count_trailing_zeros w (2 ^ w - 1 - n)) (omega arith)))
trailing_ones zero n (suc k) below = ((λ h. absurd (omega (arith, leb-true (suc k) 0 h))), (λ h. absurd (never_set n k (omega (arith, pow-zero 2)) h)))
trailing_ones (suc w) n (suc k) below =
    let half : (2 ^ suc w - 1 - n) / 2 ≡ 2 ^ w - 1 - n / 2 = half_turned w n below in
    let rest = trailing_ones w (n / 2) k (omega (arith, pow-suc 2 w)) in
    ⊎_elim
    (λ even.
    let last : (2 ^ suc w - 1 - n) % 2 ≡ 1 = omega (arith, pow-suc 2 w) in
    rw last ((λ h. absurd (omega (arith, leb-true (suc k) 0 h))), (λ h. absurd (never_set n k even h))))
    (λ odd.
    let last : (2 ^ suc w - 1 - n) % 2 ≡ 0 = omega (arith, pow-suc 2 w) in
    rw (last, half) (one_more n k (count_trailing_zeros w (2 ^ w - 1 - n / 2)) odd rest))
    (zero_or_one n)

pub low_ones : (mask size : ℕ) → mask < 2 ^ 32 → leb size (count_trailing_zeros 32 (inverted mask)) ≡ eqb (mask % 2 ^ size) (2 ^ size - 1)
low_ones mask size below =
    same_from_decides (leb size (count_trailing_zeros 32 (inverted mask))) (eqb (mask % 2 ^ size) (2 ^ size - 1)) (trailing_ones 32 mask size below) (low_digits_set mask size)

-- the bytes of an aligned message differ only in their lowest digits
high_digit : (k s a i : ℕ) → k * 2 ^ s ≤ a → a < k * 2 ^ s + 2 ^ s → s ≤ i → bit a i ≡ bit (k * 2 ^ s) i
high_digit k s a i low high le =
    let part : (n : ℕ) → n / 2 ^ i ≡ n / 2 ^ s / 2 ^ (i - s) = λ n. sym (shr-shr n s (i - s) ∙ ap (λ m. n / 2 ^ m) (omega arith)) in
    let split : a ≡ k * 2 ^ s + (a - k * 2 ^ s) = omega arith in
    let d : a / 2 ^ s ≡ k = ap (λ n. n / 2 ^ s) split ∙ div-mul-add k (2 ^ s) (a - k * 2 ^ s) (omega arith) in
    ap (λ n. n % 2) (part a ∙ ap (λ n. n / 2 ^ (i - s)) (d ∙ sym (shl-shr k s)) ∙ sym (part (k * 2 ^ s)))

module _ (base mask : ℕ) (b : base < 2 ^ 32) (m : mask < 2 ^ 32) (q : RequestHead) where
  inside : q.address < 2 ^ 32 → q.address % 2 ^ q.size ≡ 0 → lies_in base mask q ≡ true → EveryByte base mask q
  inside below whole h a low high =
      let s = q.size in
      let k = q.address / 2 ^ s in
      let e : k * 2 ^ s ≡ q.address = omega (arith, div-add-mod' q.address (2 ^ s)) in
      let parts = and_parts (contains base mask q.address) (eqb (mask % 2 ^ s) (2 ^ s - 1)) h in
      let same : SameDigits mask q.address base = (same_outside q.address base mask m).0 parts.0 in
      let set : LowDigits mask s = (low_digits_set mask s).0 parts.1 in
      let high_same : (i : ℕ) → s ≤ i → bit a i ≡ bit q.address i = λ i le. high_digit k s a i (omega arith) (omega arith) le ∙ ap (λ n. bit n i) e in
      let none : (i : ℕ) → 32 ≤ i → bit a i ≡ 0 = λ i le.
      ⊎_elim (λ lt. absurd (omega (arith, set i lt, no_digit_above mask 32 i m le))) (λ ge. high_same i ge ∙ no_digit_above q.address 32 i below le) (cases_lt i s) in (
        below_from_digits a 32 none,
        (same_outside a base mask m).1 (λ i lt free. ⊎_elim (λ l. absurd (omega (arith, set i l))) (λ ge. high_same i ge ∙ same i lt free) (cases_lt i s)),
      )

  whole_inside : EveryByte base mask q → lies_in base mask q ≡ true
  whole_inside h =
      let s = q.size in
      let first = h q.address (omega arith) (omega (arith, pow_pos s)) in
      let same : SameDigits mask q.address base = (same_outside q.address base mask m).0 first.1 in
      let set : LowDigits mask s = λ i lt.
      let byte = h (q.address + 2 ^ i) (omega arith) (omega (arith, pow_below i s lt)) in
      let small : i < 32 = ⊎_elim (λ l. l) (λ ge. absurd (omega (arith, byte.0, pow_mono {i = 32} {j = i} ge))) (cases_lt i 32) in
      ⊎_elim
      (λ free.
      let d : bit (q.address + 2 ^ i) i ≡ bit q.address i = (same_outside (q.address + 2 ^ i) base mask m).0 byte.1 i small free ∙ sym (same i small free) in
      absurd (omega (arith, add-div_right q.address {k = 2 ^ i} (pow_pos i))))
      (λ one. one)
      (zero_or_one (mask / 2 ^ i)) in
      and_from (contains base mask q.address) (eqb (mask % 2 ^ s) (2 ^ s - 1)) first.1 ((low_digits_set mask s).1 set)

  pub lies_whole : q.address < 2 ^ 32 → q.address % 2 ^ q.size ≡ 0 → Decides (lies_in base mask q) (EveryByte base mask q)
  lies_whole below whole = (inside below whole, whole_inside)
