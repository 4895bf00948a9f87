-- The bytes of beats, one after another.
use Rattle.std.specs.Prelude.{◌≡◌, ℕ, suc, ◌+◌, ◌*◌, ◌/◌, ◌^◌, List, [], ◌∷◌, ◌++◌, length, take, drop}
use Rattle.std.proofs.Common.{sym, ap, ◌∙◌, append_assoc, add-mul, one-mul, zero-mul, add-one, arith}
use Rattle.std.proofs.lemmas.List.{flat_map_more, length-append, take_at, drop_at, drop-drop, take-take, drop-take, take-append-drop}
use Rattle.beat.specs.Lanes.{lane_bytes, put}
use Rattle.beat.proofs.Digits.{length_digits}
use Rattle.wire.specs.Beats.{payload, HoldBytes}

-- one beat more
pub payload_push : (f k : ℕ) (ls : List ℕ) (l : ℕ) → payload f k ls ++ lane_bytes f k l ≡ payload f k (ls ++ l ∷ [])
payload_push f k ls l = flat_map_more (lane_bytes f k) [] ls l

pub one_more : (n k : ℕ) → suc n * k ≡ k + n * k
one_more n k = ap (λ m. m * k) (sym (add-one n)) ∙ omega (arith, add-mul n 1 k, one-mul k)

pub payload_length : (f k : ℕ) (ls : List ℕ) → length (payload f k ls) ≡ length ls * k
payload_length f k [] = sym (zero-mul k)
payload_length f k (l ∷ ls) =
    length-append (lane_bytes f k l) (payload f k ls)
    ∙ (λ i. length_digits 256 k (l / 2 ^ (8 * f)) i + payload_length f k ls i)
    ∙ sym (one_more (length ls) k)

-- the buffer with one beat more
pub put_payload : (f k l : ℕ) (ls xs ys : List ℕ) → ys ≡ payload f k ls ++ drop (length (payload f k ls)) xs → put f k (length ls) l ys ≡ payload f k (ls ++ l ∷ []) ++ drop (length (payload f k (ls ++ l ∷ []))) xs
put_payload f k l ls xs ys e =
    let at = length ls * k in
    let p = payload f k ls in
    let part = lane_bytes f k l in
    let long = payload_length f k ls in
    let front : take at ys ≡ p = ap (take at) e ∙ take_at p (drop (length p) xs) at long in
    let rest : drop (at + k) ys ≡ drop (length (p ++ part)) xs =
    sym (drop-drop k at ys) ∙ ap (drop k) (ap (drop at) e ∙ drop_at p (drop (length p) xs) at long) ∙ drop-drop k (length p) xs
    ∙ ap (λ n. drop n xs) (omega (arith, length-append p part, length_digits 256 k (l / 2 ^ (8 * f)))) in
    (λ i. front i ++ (part ++ rest i))
    ∙ sym (append_assoc p part (drop (length (p ++ part)) xs))
    ∙ ap (λ zs. zs ++ drop (length zs) xs) (payload_push f k ls l)

take_part : (at k : ℕ) (d : List ℕ) → take at d ++ take k (drop at d) ≡ take (at + k) d
take_part at k d =
    (λ i. sym (take-take at (at + k) d (omega arith)) i ++ sym (drop-take at k d) i) ∙ take-append-drop at (take (at + k) d)

next_drop : (j k : ℕ) (xs : List ℕ) → drop ((j + 1) * k) xs ≡ drop k (drop (j * k) xs)
next_drop j k xs = ap (λ n. drop n xs) (omega (arith, add-mul j 1 k, one-mul k)) ∙ sym (drop-drop k (j * k) xs)

-- lanes that hold the bytes of a message bring them
pub brought : (f k j : ℕ) (ls xs : List ℕ) → HoldBytes f k j ls xs → payload f k ls ≡ take (length ls * k) (drop (j * k) xs)
brought f k j [] xs h = ap (λ n. take n (drop (j * k) xs)) (sym (zero-mul k))
brought f k j (l ∷ ls) xs h =
    (λ i. h.0 i ++ (brought f k (j + 1) ls xs h.1 ∙ ap (take (length ls * k)) (next_drop j k xs)) i)
    ∙ take_part k (length ls * k) (drop (j * k) xs)
    ∙ ap (λ n. take n (drop (j * k) xs)) (sym (one_more (length ls) k))

-- and lanes hold the bytes that they bring
pub held : (f k j : ℕ) (ls xs : List ℕ) → drop (j * k) xs ≡ payload f k ls → HoldBytes f k j ls xs
held f k j [] xs e = tt
held f k j (l ∷ ls) xs e =
    let part = lane_bytes f k l in
    let long = length_digits 256 k (l / 2 ^ (8 * f)) in (
      sym (ap (take k) e ∙ take_at part (payload f k ls) k long),
      held f k (j + 1) ls xs (next_drop j k xs ∙ ap (drop k) e ∙ drop_at part (payload f k ls) k long),
    )
