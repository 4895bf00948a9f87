-- A request is legal exactly where no judgement refuses it.
use Rattle.std.proofs.Common.{◌≡◌, ℕ, ◌-◌, ◌^◌, ◌<◌, ◌≤◌, min, Bool, true, false, cond, ◌||◌, eqb, ltb, leb, ◌⊎◌, length, Ok, Result, sym, refl, ap, ◌∙◌, subst, inl, inr, ⊎_elim, arith, pow_pos}
use Rattle.std.proofs.lemmas.Bool.{eqb-true, ltb-true, eq-eqb, lt-ltb, le-leb, or_cases, or_left, or_right, cond-true, cond-false}
use Rattle.message.specs.declared.refusal.Refusal.{Refusal}
use Rattle.message.specs.declared.refusal.Refusal.TheVariants as no
use Rattle.message.specs.declared.operation.Operation.{Operation}
use Rattle.message.specs.Kind.{placed, measured}
use Rattle.message.specs.Operation.{has_data}
use Rattle.message.specs.Request.{Request, Legal, whole, atomic, partial, mask_fits, operation_kinds, data_length, filled, checked, TellsLegal}
use Rattle.message.specs.Sizes.{size_small}
use Rattle.message.proofs.Placed.{accepted_before, accepted_by, multiple, no_rest, placed_parts, placed_from, measured_parts, measured_from}
use Rattle.message.proofs.Digits.{no_digit_above, below_from_digits, every_digit, full_from_digits}

-- sizes
size_atomic : (t : Bool) (size : ℕ) → cond t (eqb size 2 || eqb size 3) (leb size 6) ≡ true → t ≡ true → (size ≡ 2) ⊎ (size ≡ 3)
size_atomic true size h e = ⊎_elim (λ a. inl (eqb-true size 2 a)) (λ a. inr (eqb-true size 3 a)) (or_cases (eqb size 2) (eqb size 3) h)
size_atomic false size h e = let z : ◌≡◌ {A = ℕ} 0 1 = cc in absurd (omega arith)

size_from : (t : Bool) (size : ℕ) → size ≤ 6 → (t ≡ true → (size ≡ 2) ⊎ (size ≡ 3)) → cond t (eqb size 2 || eqb size 3) (leb size 6) ≡ true
size_from true size le h =
    ⊎_elim (λ e. or_left (eqb size 2) (eqb size 3) (eq-eqb size 2 e)) (λ e. or_right (eqb size 2) (eqb size 3) (eq-eqb size 3 e)) (h refl)
size_from false size le h = le-leb size 6 le

-- an accepted place has a legal size
pub placed_size : (opcode param size address : ℕ) (o : Operation) → Ok o ≡ placed operation_kinds opcode param size address → size ≤ 6
placed_size opcode param size address o h = size_small o size (placed_parts operation_kinds opcode param size address o (sym h)).fits

pub placed_min : (opcode param size address : ℕ) (o : Operation) → Ok o ≡ placed operation_kinds opcode param size address → min size 6 ≡ size
placed_min opcode param size address o h = let le = placed_size opcode param size address o h in omega arith

-- masks, with n for the number of bytes
mask_below : (t : Bool) (n mask : ℕ) → cond t (ltb mask (2 ^ n)) (eqb mask (2 ^ n - 1)) ≡ true → mask < 2 ^ n
mask_below true n mask h = ltb-true mask (2 ^ n) h
mask_below false n mask h = omega (arith, eqb-true mask (2 ^ n - 1) h, pow_pos n)

mask_full : (t : Bool) (n mask : ℕ) → cond t (ltb mask (2 ^ n)) (eqb mask (2 ^ n - 1)) ≡ true → t ≡ false → mask ≡ 2 ^ n - 1
mask_full true n mask h e = let z : ◌≡◌ {A = ℕ} 0 1 = cc in absurd (omega arith)
mask_full false n mask h e = eqb-true mask (2 ^ n - 1) h

mask_from : (t : Bool) (n mask : ℕ) → mask < 2 ^ n → (t ≡ false → mask ≡ 2 ^ n - 1) → cond t (ltb mask (2 ^ n)) (eqb mask (2 ^ n - 1)) ≡ true
mask_from true n mask lt h = lt-ltb mask (2 ^ n) lt
mask_from false n mask lt h = eq-eqb mask (2 ^ n - 1) (h refl)

count_from : (t : Bool) (count n : ℕ) → (t ≡ true → count ≡ n) → (t ≡ false → count ≡ 0) → count ≡ cond t n 0
count_from true count n a b = a refl
count_from false count n a b = b refl

-- a request that is not refused is legal
accepted_legal : (q : Request) (o : Operation) → checked q ≡ Ok o → Legal o q
unfolding checked
accepted_legal q o h =
    let s = q.head.size in
    let a = accepted_before (placed operation_kinds q.head.opcode q.head.param s q.head.address) (λ p. filled p s q.head.mask (length q.bytes)) o h in
    let m = accepted_by (mask_fits a.0 s q.head.mask) no.Mask (measured operation_kinds a.0 s (length q.bytes)) o a.2 in
    let d = measured_parts operation_kinds a.0 o s (length q.bytes) m.1 in
    let place = placed_parts operation_kinds q.head.opcode q.head.param s q.head.address o (a.1 ∙ ap Ok d.1) in
    let masks : mask_fits o s q.head.mask ≡ true = subst (λ p. mask_fits p s q.head.mask ≡ true) d.1 m.0 in
    let count : length q.bytes ≡ data_length o s = d.0 ∙ ap (λ p. data_length p s) d.1 in
    record {
      operation = place.of;
      size = size_small o s place.fits;
      atomic_size = size_atomic (atomic o) s place.fits;
      multiple = multiple q.head.address s place.aligned;
      no_bit_above = λ i le. no_digit_above q.head.mask (2 ^ s) i (mask_below (partial o) (2 ^ s) q.head.mask masks) le;
      all_bits_below =
          λ e i lt. rw (mask_full (partial o) (2 ^ s) q.head.mask masks e) (every_digit (2 ^ s) i lt);
      whole_data = λ e. count ∙ cond-true (has_data o) (2 ^ s) 0 e;
      no_data = λ e. count ∙ cond-false (has_data o) (2 ^ s) 0 e;
    }

-- what a legal request says of its place and of its mask
pub legal_placed : (q : Request) (o : Operation) → Legal o q → placed operation_kinds q.head.opcode q.head.param q.head.size q.head.address ≡ Ok o
legal_placed q o l =
    let s = q.head.size in
    placed_from operation_kinds q.head.opcode q.head.param s q.head.address o
    (record { of = l.operation; fits = size_from (atomic o) s l.size l.atomic_size; aligned = no_rest q.head.address s l.multiple })

pub legal_below : (q : Request) (o : Operation) → Legal o q → q.head.mask < 2 ^ (2 ^ q.head.size)
legal_below q o l = below_from_digits q.head.mask (2 ^ q.head.size) l.no_bit_above

pub legal_full : (q : Request) (o : Operation) → Legal o q → partial o ≡ false → q.head.mask ≡ whole q.head.size
legal_full q o l e = full_from_digits (2 ^ q.head.size) q.head.mask (legal_below q o l) (l.all_bits_below e)

-- a request whose place, mask and data are right is not refused
right_accepted : (q : Request) (o : Operation) → placed operation_kinds q.head.opcode q.head.param q.head.size q.head.address ≡ Ok o → q.head.mask < 2 ^ (2 ^ q.head.size) → (partial o ≡ false → q.head.mask ≡ whole q.head.size) → length q.bytes ≡ data_length o q.head.size → checked q ≡ Ok o
unfolding checked
right_accepted q o place below full count =
    let s = q.head.size in
    let masks : mask_fits o s q.head.mask ≡ true = mask_from (partial o) (2 ^ s) q.head.mask below full in
    let counts = measured_from operation_kinds o s (length q.bytes) count in
    rw (place, masks, counts)

pub legal_long : (q : Request) (o : Operation) → Legal o q → length q.bytes ≡ data_length o q.head.size
legal_long q o l = count_from (has_data o) (length q.bytes) (2 ^ q.head.size) l.whole_data l.no_data

legal_accepted : (q : Request) (o : Operation) → Legal o q → checked q ≡ Ok o
legal_accepted q o l = right_accepted q o (legal_placed q o l) (legal_below q o l) (legal_full q o l) (legal_long q o l)

pub legality : (q : Request) (r : Result Operation Refusal) → r ≡ checked q → TellsLegal q r
legality q r e o = ((λ h. accepted_legal q o (sym e ∙ h)), (λ l. e ∙ legal_accepted q o l))

-- a request whose place, mask and data are right is legal
pub legal_from : (q : Request) (o : Operation) → placed operation_kinds q.head.opcode q.head.param q.head.size q.head.address ≡ Ok o → q.head.mask < 2 ^ (2 ^ q.head.size) → (partial o ≡ false → q.head.mask ≡ whole q.head.size) → length q.bytes ≡ data_length o q.head.size → Legal o q
legal_from q o place below full count = accepted_legal q o (right_accepted q o place below full count)
